-- The text of a name whose octets stand for themselves begins with no quote, and ends with a dot.
use Rattle.std.proofs.Common.{◌≡◌, ℕ, ◌-◌, true, false, List, [], ◌∷◌, ◌++◌, length, sym, ap, ◌∙◌, append_assoc, append-nil, length-append, arith}
use Rattle.std.specs.Prelude.{Some, slice_get}
use Rattle.std.proofs.lemmas.Bool.{and_parts, false≢true}
use Rattle.std.proofs.lemmas.Option.{same_Some}
use Rattle.dnw_base.specs.Names.{AreLabels}
use Rattle.dnw_name_form.specs.LabelText.{dot}
use Rattle.dnw_name_read.proofs.Back.{slice_get_seam}
use Rattle.dnw_name_text.specs.NameTexts.{full_name_text}
use Rattle.dnw_name_text.specs.PlainNames.{is_own_octet, is_plain_label, is_plain_name}
use Rattle.dnw_name_text.specs.Inside.Plain.{plain_text}
use Rattle.dnw_name_text.proofs.PlainNames.{plain_each, plain_name}
use Rattle.dnw_zone_data.specs.Words.{begins_with_quote}

no_quote : (o : ℕ) (os : List ℕ) → is_own_octet o ≡ true → begins_with_quote (o ∷ os) ≡ false
unfolding is_own_octet
no_quote o os is = grind arith

pub begins_plain : (text : List ℕ) (labels : List (List ℕ)) → AreLabels labels → is_plain_name labels ≡ true → text ≡ full_name_text labels
    → begins_with_quote text ≡ false
begins_plain text [] are plain is = absurd (false≢true plain)
begins_plain text ([] ∷ labels) are plain is = absurd (omega (arith, are.each.0.not_empty))
begins_plain text ((o ∷ os) ∷ labels) are plain is =
    let label = (and_parts (is_plain_label (o ∷ os)) _ (plain_each ((o ∷ os) ∷ labels) plain)).0 in
    let own = (and_parts (is_own_octet o) _ label).0 in
    ap begins_with_quote (is ∙ plain_name ((o ∷ os) ∷ labels) plain) ∙ no_quote o (os ++ dot ∷ [] ++ plain_text labels) own

ends : (label : List ℕ) (labels : List (List ℕ)) → (front : List ℕ) × (plain_text (label ∷ labels) ≡ front ++ dot ∷ [])
ends label [] = (label, append-nil (label ++ dot ∷ []))
ends label (next ∷ labels) =
    let (front, is) = ends next labels in
    ((label ++ dot ∷ []) ++ front, ap (λ (xs : List ℕ). (label ++ dot ∷ []) ++ xs) is ∙ sym (append_assoc (label ++ dot ∷ []) front (dot ∷ [])))

pub ends_plain : (text : List ℕ) (labels : List (List ℕ)) (c : ℕ) → is_plain_name labels ≡ true → text ≡ full_name_text labels
    → Some c ≡ slice_get text (length text - 1) → c ≡ dot
ends_plain text [] c plain is last = absurd (false≢true plain)
ends_plain text (label ∷ labels) c plain is last =
    let (front, whole) = ends label labels in
    let all : text ≡ front ++ dot ∷ [] = is ∙ plain_name (label ∷ labels) plain ∙ whole in
    let size : length (front ++ dot ∷ []) - 1 ≡ length front = omega (arith, length-append front (dot ∷ [])) in
    same_Some c dot (rw all at last ∙ slice_get_seam front [] dot (length (front ++ dot ∷ []) - 1) size)
