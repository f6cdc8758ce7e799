-- The texts of classes are short, and give the classes again.
use Rattle.std.proofs.Common.{◌≡◌, ◌<◌, ◌≤◌, length, Some, refl, arith, codes}
use Rattle.dnw_base.specs.declared.dns_class.DNSClass.{DNSClass}
use Rattle.dnw_base.specs.declared.dns_class.DNSClass.TheVariants.{OPT, Unknown}
use Rattle.dnw_base.specs.DnsClasses.{class_code, class_name, class_of_code, class_text, class_of_text}
use Rattle.dnw_base.proofs.Digits.{numbered_back}

pub names_fit : (class : DNSClass) → length (class_name class) ≤ 10
names_fit (OPT size) = omega arith
names_fit (Unknown code) = omega arith
names_fit class = omega arith

pub classes_come_back : (class : DNSClass) → class_code class < 65536 → class_of_text (class_text class) ≡ Some (class_of_code (class_code class))
unfolding class_of_text class_of_code
classes_come_back (OPT size) small = rw (numbered_back (codes "CLASS") (class_code (OPT size)) small) refl
classes_come_back (Unknown code) small = rw (numbered_back (codes "CLASS") code small) refl
classes_come_back class small = refl
