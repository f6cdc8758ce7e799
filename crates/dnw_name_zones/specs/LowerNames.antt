-- Names in lower case: what they are, how they are read and parsed, and how they are hashed (RFC 4343).
use Rattle.std.proofs.Common.{◌≡◌, ℕ, List, ◌∷◌, refl, Result, Ok}
use Rattle.std.specs.Bool.{IsTrue}
use Rattle.std.specs.Hash as fed
use Rattle.dnw_base.specs.Fault.{Fault, ◌>>=◌}
use Rattle.dnw_base.specs.Decoder.{Decoder}
use Rattle.dnw_base.specs.Names.{NameValue, lower, wire}
use Rattle.dnw_name_text.specs.AsciiText.{name_from_text}
use Rattle.dnw_name_order.specs.Order.{name_eq_case}
use Rattle.dnw_name_order.specs.OrderLaws.{name_eq_case_parts}
use Rattle.dnw_name.specs.Decodable.{TakesNameValue}

-- no label has a capital ASCII letter
abbrev pub IsLower : List (List ℕ) → Type 0
IsLower ls = lower ls ≡ ls

abbrev pub lowered : NameValue → NameValue
lowered n = record { is_fqdn = n.is_fqdn; labels = lower n.labels }

-- what the text gives, in lower case
abbrev pub lower_name_from_text : List ℕ → Result NameValue Fault
lower_name_from_text text = do
  n ← name_from_text text
  Ok (lowered n)

-- the name at the decoder's cursor, in lower case
abbrev pub TakesLowerName : Decoder → NameValue → Decoder → Type 0
TakesLowerName before name after = (read : NameValue) × TakesNameValue before read after × (name ≡ lowered read)

-- A name in lower case is fed to a hasher as its wire form, and whether it is fully qualified.
abbrev pub lower_name_hash_input : NameValue → List (List ℕ)
lower_name_hash_input n = wire n.labels ∷ fed.bool n.is_fqdn

pub lower_name_hash_alike : (x y : NameValue) → IsTrue (name_eq_case x y) → lower_name_hash_input x ≡ lower_name_hash_input y
lower_name_hash_alike x y e = let (flag, labels) = name_eq_case_parts x y e in rw (flag, labels) refl
