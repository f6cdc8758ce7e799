-- The number that octets make, eight at a time.
use Rattle.std.proofs.Common.{◌≡◌, ℕ, ◌+◌, ◌-◌, ◌≤◌, List, [], ◌∷◌, length, take, drop, get_or, ap, arith}
use Rattle.std.proofs.lemmas.List.{take_all}
use Rattle.dnw_name_form.specs.Inside.Fours.{four}
use Rattle.dnw_write_suffixes.specs.Inside.Links.{mix, stir}

-- four octets from the i-th on
abbrev pub four_at : List ℕ → ℕ → ℕ
four_at xs i = four (get_or xs i 0) (get_or xs (i + 1) 0) (get_or xs (i + 2) 0) (get_or xs (i + 3) 0)

pub mix_eight : (m n : ℕ) (xs : List ℕ) → 8 ≤ length xs → n ≡ length xs - 8
    → mix (stir m (four_at xs 0) (four_at xs 4)) (take n (drop 8 xs)) ≡ mix m xs
mix_eight m n [] some size = absurd (omega arith)
mix_eight m n (a ∷ []) some size = absurd (omega arith)
mix_eight m n (a ∷ b ∷ []) some size = absurd (omega arith)
mix_eight m n (a ∷ b ∷ c ∷ []) some size = absurd (omega arith)
mix_eight m n (a ∷ b ∷ c ∷ d ∷ []) some size = absurd (omega arith)
mix_eight m n (a ∷ b ∷ c ∷ d ∷ e ∷ []) some size = absurd (omega arith)
mix_eight m n (a ∷ b ∷ c ∷ d ∷ e ∷ f ∷ []) some size = absurd (omega arith)
mix_eight m n (a ∷ b ∷ c ∷ d ∷ e ∷ f ∷ g ∷ []) some size = absurd (omega arith)
mix_eight m n (a ∷ b ∷ c ∷ d ∷ e ∷ f ∷ g ∷ h ∷ xs) some size =
    ap (mix (stir m (four a b c d) (four e f g h))) (take_all n xs (omega arith))
