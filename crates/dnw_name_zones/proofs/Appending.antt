-- A label that fits is appended without an error.
use Rattle.std.proofs.Common.{◌≡◌, ℕ, ◌+◌, ◌≤◌, List, [], ◌∷◌, ◌++◌, length, Result, Ok, Err, refl, ap, arith}
use Rattle.std.proofs.lemmas.Bool.{le-ltb, ne_eqb}
use Rattle.dnw_base.specs.Fault.{FailsOr, Follows}
use Rattle.dnw_base.specs.declared.error.ProtoError.{ProtoError}
use Rattle.dnw_base.specs.declared.error.ProtoError.TheVariants.{Memory}
use Rattle.dnw_base.specs.Labels.{IsLabel}
use Rattle.dnw_base.specs.Names.{NameValue, encoded_size}
use Rattle.dnw_name_form.specs.LabelText.{label_from_bytes}
use Rattle.dnw_name_form.specs.Edits.{append_label}
use Rattle.dnw_name_form.proofs.EditLemmas.{with_label_fits}

never_fails : {A : Type 0} (x : A) (e : ProtoError) → FailsOr (Ok x) ⊥ e → ⊥
never_fails x Memory h = h
never_fails x e h = h

always_ok : {A : Type 0} (r : Result A ProtoError) (x : A) → Follows (Ok x) ⊥ r → r ≡ Ok x
always_ok (Ok y) x h = let same : y ≡ x = cc in ap Ok same
always_ok (Err e) x h = absurd (never_fails x e h)

label_fits : (n : NameValue) (l : List ℕ) → IsLabel l → encoded_size n.labels + 1 + length l ≤ 255
    → append_label n (label_from_bytes l) ≡ Ok (record { is_fqdn = n.is_fqdn; labels = n.labels ++ l ∷ [] })
label_fits n l is room =
    let some : length l ≡ 0 → ⊥ = λ none. let some = is.not_empty in omega arith in
    rw (ne_eqb (length l) 0 some, le-ltb 63 (length l) is.not_long, with_label_fits n.labels l room) refl

pub appended : (n : NameValue) (l : List ℕ) (r : Result NameValue ProtoError) → IsLabel l → encoded_size n.labels + 1 + length l ≤ 255
    → Follows (append_label n (label_from_bytes l)) ⊥ r → r ≡ Ok (record { is_fqdn = n.is_fqdn; labels = n.labels ++ l ∷ [] })
appended n l r is room follows = always_ok r (record { is_fqdn = n.is_fqdn; labels = n.labels ++ l ∷ [] }) (rw (label_fits n l is room) at follows)
