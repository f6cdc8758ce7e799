-- The texts of labels with dots between them.
use Rattle.std.proofs.Common.{◌≡◌, ℕ, List, [], ◌∷◌, ◌++◌, length, map, sym, ap, ◌∙◌}
use Rattle.std.specs.List.{flat_map, join_with_byte}
use Rattle.std.proofs.lemmas.List.{append-nil, append_assoc}
use Rattle.dnw_name_form.specs.LabelText.{dot}
use Rattle.dnw_base.specs.Names.{wire}
use Rattle.dnw_name_text.specs.NameTexts.{label_octets, labels_text, full_name_text}

-- a label after a dot
abbrev pub dotted : List ℕ → List ℕ
dotted l = dot ∷ label_octets l

-- the first label's text, and then the others, each after a dot
pub joined_cons : (l : List ℕ) (ls : List (List ℕ)) → join_with_byte dot (map label_octets (l ∷ ls)) ≡ label_octets l ++ flat_map dotted ls
joined_cons l [] = sym (append-nil (label_octets l))
joined_cons l (m ∷ ls) = ap (λ (rest : List ℕ). label_octets l ++ dot ∷ rest) (joined_cons m ls)

-- with a dot at the end, there is one after each
pub dot_after_each : (l : List ℕ) (ls : List (List ℕ)) → join_with_byte dot (map label_octets (l ∷ ls)) ++ dot ∷ [] ≡ labels_text (l ∷ ls)
dot_after_each l [] = sym (append-nil (label_octets l ++ dot ∷ []))
dot_after_each l (m ∷ ls) =
    append_assoc (label_octets l) (dot ∷ join_with_byte dot (map label_octets (m ∷ ls))) (dot ∷ [])
    ∙ ap (λ (rest : List ℕ). label_octets l ++ dot ∷ rest) (dot_after_each m ls)
    ∙ sym (append_assoc (label_octets l) (dot ∷ []) (labels_text (m ∷ ls)))

-- a name of which the wire form is more than the closing zero has a label
pub full_text : (ls : List (List ℕ)) (form : List ℕ) → form ≡ wire ls → (length form ≡ 1 → ⊥) → join_with_byte dot (map label_octets ls) ++ dot ∷ [] ≡ full_name_text ls
full_text [] form is some = absurd (some (ap length is))
full_text (l ∷ ls) form is some = dot_after_each l ls
