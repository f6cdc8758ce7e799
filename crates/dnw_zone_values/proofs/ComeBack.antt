-- What is printed spells its value, and nothing else.
use Rattle.std.proofs.Common.{◌≡◌, ℕ, ◌≤◌, List, Ok, Err, decimal, refl, sym, ap, ◌∙◌, arith, [], ◌∷◌, length, inl, inr}
use Rattle.std.proofs.lemmas.Fmt.{decimal_is_IsNumeral}
use Rattle.hex.proofs.HexLemmas.{decode_of-encode_upper, length-encode_with}
use Rattle.hex.specs.Hex.{upper_digits}
use Rattle.base64.specs.GeneralPurpose.{decode_of as decode_base64}
use Rattle.base64.specs.declared.decode.DecodeError.{DecodeError}
use Rattle.base64.specs.Engines.{standard}
use Rattle.base64.proofs.EngineFacts.{decode_of-encode_of}
use Rattle.dnw_zone_values.specs.Spelling.{ComesBack}
use Rattle.dnw_zone_values.specs.Numbers.{max_u48, IsNumberText}
use Rattle.dnw_zone_values.specs.Octets.{IsOctets, IsSalt, hex_text, base64_text, salt_text, IsHexText, IsBase64Text, IsSaltText}

pub numbers : (max : ℕ) → max ≤ max_u48 → ComesBack (λ (n : ℕ). n ≤ max) decimal (IsNumberText max)
numbers max fits n within =
    let numeral = decimal_is_IsNumeral n (omega arith) in
    ((numeral.0, numeral.1, within), λ other own. sym own.1 ∙ numeral.1)

pub hexadecimal : ComesBack IsOctets hex_text IsHexText
hexadecimal own octets =
    let spells = decode_of-encode_upper own octets in
    (spells, λ other also. let e : Ok other ≡ Ok own = sym also ∙ spells in cc)

pub base64 : ComesBack IsOctets base64_text IsBase64Text
base64 own octets =
    let decodes = λ (bytes : List ℕ) (b : IsOctets bytes). decode_of-encode_of standard bytes refl b in (
      (octets, refl),
      λ other also. let e : Ok other ≡ Ok own = sym (decodes other also.0) ∙ ap (decode_base64 standard) (sym also.1) ∙ decodes own octets in cc,
    )

-- a text that does not decode is no base 64
pub base64_none : (text : List ℕ) (e : DecodeError) → decode_base64 standard text ≡ Err e → (octets : List ℕ) → ¬ (IsBase64Text text octets)
base64_none text e fails octets own =
    let no : Ok octets ≡ Err e = sym (decode_of-encode_of standard octets refl own.0) ∙ ap (decode_base64 standard) (sym own.1) ∙ fails in cc

pub salt : ComesBack IsSalt salt_text IsSaltText
salt [] own = (
  inl (refl, refl),
  λ other also. elim also [
    | inl none ↦ none.1
    | inr some ↦ cc some.0
  ],
)
salt (o ∷ octets) own =
    let back = hexadecimal (o ∷ octets) own.0 in (
      inr (back.0, omega arith, own.1),
      λ other also. elim also [
        | inl none ↦ absurd (let size = ap length none.0 in omega (arith, size, length-encode_with upper_digits (o ∷ octets)))
        | inr some ↦ back.1 other some.0
      ],
    )
