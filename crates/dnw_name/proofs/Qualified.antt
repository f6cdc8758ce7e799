-- A fully qualified name is its labels.
use Rattle.std.proofs.Common.{◌≡◌, true, ap, sym}
use Rattle.dnw_base.specs.Names.{NameValue}

pub by_labels : (x : NameValue) → x.is_fqdn ≡ true → record { is_fqdn = true; labels = x.labels } ≡ x
by_labels x fqdn = sym (ap (λ b. record { is_fqdn = b; labels = x.labels }) fqdn)
