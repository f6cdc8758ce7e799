-- Words that are no times to live, and no types.
use Rattle.std.proofs.Common.{◌≡◌, ℕ, List, Bor, Result, Ok, Err, IfOk, IfErr, inr, refl, sym, subst}
use Rattle.dnw_base.specs.declared.dns_class.DNSClass.{DNSClass}
use Rattle.dnw_zone_record.specs.declared.record_line.LineHead.{LineHead}
use Rattle.dnw_zone_record.specs.declared.record_line.RecordLineError.{RecordLineError}
use Rattle.dnw_zone_record.specs.declared.record_line.RecordLineError.TheVariants.{NoType}
use Rattle.dnw_zone_data.specs.TypeLists.{IsTypeWord}
use Rattle.dnw_zone_record.specs.RecordLines.{FailsHead, HasTtlAndClass, IsClassWord, IsHead, LacksTtlAfterClass, LacksTtlWord, LacksTypeWord, after_next_word, next_offset, next_word}

-- a class, and no time to live after it
pub lacks_after : (left first rest : List ℕ) (class : DNSClass) → first ≡ next_word left → rest ≡ after_next_word left → IsClassWord first class → LacksTtlWord rest
    → LacksTtlAfterClass left
lacks_after left first rest class begins goes is none = inr (class, subst (λ x. IsClassWord x class) begins is, subst LacksTtlWord goes none)

-- no type is after the time to live and the class
pub type_missing : {A : Type 0} (len : ℕ) (text left : List ℕ) (ttl : ℕ) (class : DNSClass) (r : Result A RecordLineError) → HasTtlAndClass text ttl class left
    → IfErr r (λ e. (e ≡ NoType (next_offset len left)) × LacksTypeWord left) → IfErr r (FailsHead len text)
type_missing len text left ttl class (Ok x) has h = tt
type_missing len text left ttl class (Err e) has h = inr (next_offset len left, (ttl, class, left, has, h.1, refl), h.0)

-- a time to live, a class, and a type after them
pub head_there : (text left : List ℕ) (ttl : ℕ) (class : DNSClass) (r : Result (LineHead × Bor (List ℕ)) RecordLineError) → HasTtlAndClass text ttl class left
    → IfOk r (λ x. (x.0.ttl ≡ ttl) × (x.0.class ≡ class) × IsTypeWord (next_word left) x.0.record_type × (x.1.now ≡ after_next_word left))
    → IfOk r (λ x. IsHead text x.0 x.1.now)
head_there text left ttl class (Err e) has h = h
head_there text left ttl class (Ok x) has (t, k, is, rest) = (
  left,
  subst (λ (n : ℕ). HasTtlAndClass text n x.0.class left) (sym t) (subst (λ (d : DNSClass). HasTtlAndClass text ttl d left) (sym k) has),
  is,
  rest,
)
