-- Letters and digits.
use Rattle.std.proofs.Common.{◌≡◌, ℕ, suc, ◌<◌, true, List, [], ◌∷◌, arith}
use Rattle.std.specs.List.{AllPass}
use Rattle.std.specs.Char.{is_ascii_alphanumeric}
use Rattle.std.specs.Str.{IsUtf8, IsAscii}
use Rattle.std.proofs.lemmas.Str.{IsUtf8-from_ascii}
use Rattle.std.proofs.lemmas.Str.Ascii.{IsAscii-nil, IsAscii-cons}

below : (c : ℕ) → is_ascii_alphanumeric c ≡ true → c < 128
below c h = grind arith

ascii : (tag : List ℕ) → AllPass is_ascii_alphanumeric tag → IsAscii tag
ascii [] h = IsAscii-nil
ascii (c ∷ tag) h = IsAscii-cons c tag (below c (h 0 0 (omega arith))) (ascii tag (λ i d within. h (suc i) d (omega arith)))

pub utf8 : (tag : List ℕ) → AllPass is_ascii_alphanumeric tag → IsUtf8 tag
utf8 tag h = IsUtf8-from_ascii tag (ascii tag h)
