-- The texts of labels with dots between them.
use Rattle.std.proofs.Common.{◌≡◌, ℕ, List, [], ◌∷◌, ◌++◌, map, sym, ap}
use Rattle.std.specs.List.{flat_map, join_with_byte}
use Rattle.std.proofs.lemmas.List.{append-nil}
use Rattle.dnw_name_form.specs.LabelText.{dot, label_text}

-- a label after a dot
abbrev pub dotted : List ℕ → List ℕ
dotted l = dot ∷ label_text l

-- the first label's text, and then the others, each after a dot
pub joined_cons : (l : List ℕ) (ls : List (List ℕ)) → join_with_byte dot (map label_text (l ∷ ls)) ≡ label_text l ++ flat_map dotted ls
joined_cons l [] = sym (append-nil (label_text l))
joined_cons l (m ∷ ls) = ap (λ (rest : List ℕ). label_text l ++ dot ∷ rest) (joined_cons m ls)
