-- Texts as they are printed, octet by octet.
use Rattle.std.proofs.Common.{◌≡◌, ℕ, List, [], ◌∷◌, ◌++◌, sym, ap, ◌∙◌, append_assoc, append-nil}
use Rattle.dnw_commands.specs.Plain.{escaped_octet, escaped_text}

-- one octet more is printed
pub one_octet : (all shown new left : List ℕ) (o : ℕ) → shown ++ escaped_text (o ∷ left) ≡ all → new ≡ shown ++ escaped_octet o → new ++ escaped_text left ≡ all
one_octet all shown new left o is grown =
    ap (λ (xs : List ℕ). xs ++ escaped_text left) grown ∙ append_assoc shown (escaped_octet o) (escaped_text left) ∙ is

-- no octet is left
pub no_octet : (all shown : List ℕ) → shown ++ escaped_text [] ≡ all → shown ≡ all
no_octet all shown is = sym (append-nil shown) ∙ is
