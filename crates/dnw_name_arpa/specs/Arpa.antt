-- Reverse names: the names below `in-addr.arpa` and `ip6.arpa` under which PTR queries find the domain names of an address
-- (RFC 1035, section 3.5; RFC 3596, section 2.5). An address is written from its last octet, or from its last
-- nibble of four bits, to its first, so the first labels from the end are the net.
use Rattle.std.specs.Prelude.{⊤, ◌≡◌, ℕ, zero, suc, ◌/◌, ◌%◌, ◌^◌, ◌<◌, ◌≤◌, ◌&&◌, ◌==◌, Bool, true, nat_lt, if◌then◌else◌, List, [], ◌∷◌, ◌++◌, length, take, map, reverse, slice_index, codes, decimal, Result, Ok, Err}
use Rattle.std.specs.Char.{digit_char, digit_value, is_digit}
use Rattle.std.specs.List.{AllByRecursion, list_all}
use Rattle.std.specs.Net.Addr.{ipv4_octets, ipv6_segments}
use Rattle.std.specs.Str.{is_utf8}
use Rattle.std.specs.Str.Parse.{digits_value, without_leading_plus}
use Rattle.std.specs.declared.net.ip_addr.IpAddr.{IpAddr}
use Rattle.std.specs.declared.net.ip_addr.IpAddr.TheVariants.{V4, V6}
use Rattle.dnw_base.specs.Fault.{IsMessage}
use Rattle.dnw_base.specs.declared.error.ProtoError.{ProtoError}
use Rattle.dnw_base.specs.declared.error.ProtoError.TheVariants as Error
use Rattle.dnw_base.specs.Names.{NameValue}
use Rattle.dnw_name_form.specs.LabelOrder.{label_eq}
use Rattle.dnw_name_arpa.specs.declared.reading.Family.{Family}
use Rattle.dnw_name_arpa.specs.declared.reading.Family.TheVariants.{Ipv4, Ipv6}

-- The first octets of an IPv4 address, or the first nibbles of an IPv6 address.
pub record ArpaPrefix : Type 0 where
  pub family : Family
  pub values : List ℕ

-- a number of four bits
abbrev pub IsNibble : ℕ → Type 0
IsNibble v = v < 16

-- the first n numbers, with zeros in the place of those that there are not
abbrev pub padded : ℕ → List ℕ → List ℕ
padded zero vs = []
padded (suc n) [] = 0 ∷ padded n []
padded (suc n) (v ∷ vs) = v ∷ padded n vs

-- The four nibbles of each segment of 16 bits, the highest first.
abbrev pub nibbles : List ℕ → List ℕ
nibbles [] = []
nibbles (s ∷ segments) = (s / 4096) ∷ (s / 256 % 16) ∷ (s / 16 % 16) ∷ (s % 16) ∷ nibbles segments

-- how many octets or nibbles an address has
abbrev pub most_values : Family → ℕ
most_values Ipv4 = 4
most_values Ipv6 = 32

-- the bits of one of them
abbrev pub value_bits : Family → ℕ
value_bits Ipv4 = 8
value_bits Ipv6 = 4

-- no more octets or nibbles than an address has, and each has its bits
pub record IsArpaPrefix (p : ArpaPrefix) : Type 0 where
  pub few : length p.values ≤ most_values p.family
  pub fit : AllByRecursion (λ v. v < 2 ^ value_bits p.family) p.values

-- the label after them
abbrev pub family_label : Family → List ℕ
family_label Ipv4 = codes "in-addr"
family_label Ipv6 = codes "ip6"

abbrev pub arpa : List ℕ
arpa = codes "arpa"

-- an octet in decimal without leading zeros, a nibble as one hexadecimal digit, small if it is a letter
abbrev pub value_label : Family → ℕ → List ℕ
value_label Ipv4 v = decimal v
value_label Ipv6 v = digit_char v ∷ []

-- The labels of a prefix: its octets or nibbles from the last to the first, and those of its family.
abbrev pub arpa_labels : ArpaPrefix → List (List ℕ)
arpa_labels p = map (value_label p.family) (reverse p.values) ++ family_label p.family ∷ arpa ∷ []

abbrev pub arpa_name : ArpaPrefix → NameValue
arpa_name p = record { is_fqdn = true; labels = arpa_labels p }

-- all of an address
abbrev pub ip_prefix : IpAddr → ArpaPrefix
ip_prefix (V4 a) = record { family = Ipv4; values = ipv4_octets a }
ip_prefix (V6 a) = record { family = Ipv6; values = nibbles (ipv6_segments a) }

-- the reverse name of an address
abbrev pub reverse_name : IpAddr → NameValue
reverse_name ip = arpa_name (ip_prefix ip)

-- Why a name is no reverse name.
pub data ArpaFault : Type 0 where
  Relative : ArpaFault
  NotArpa : ArpaFault
  NoFamily : ArpaFault
  UnknownFamily : ArpaFault
  NotUtf8 : ArpaFault
  NotANumber : ArpaFault
  NotOneDigit : ArpaFault
  TooManyLabels : (family : Family) → ArpaFault

infixl 10 ◌>>=◌
abbrev pub ◌>>=◌ : {A B : Type 0} → Result A ArpaFault → (A → Result B ArpaFault) → Result B ArpaFault
(Ok x) >>= f = f x
(Err fault) >>= f = Err fault

-- the label is UTF-8
abbrev pub as_text : List ℕ → Result (List ℕ) ArpaFault
as_text l = if is_utf8 l then Ok l else Err NotUtf8

-- one decimal digit or more, of a value of at most 255
abbrev pub is_octet_text : List ℕ → Bool
is_octet_text ds = nat_lt 0 (length ds) && list_all (λ c. is_digit c 10) ds && nat_lt (digits_value 10 ds) 256

-- An octet is a decimal number, which a plus may precede.
abbrev pub octet_of : List ℕ → Result ℕ ArpaFault
octet_of l = do
  text ← as_text l
  if is_octet_text (without_leading_plus text) then Ok (digits_value 10 (without_leading_plus text)) else Err NotANumber

-- A nibble is one hexadecimal digit in either case.
abbrev pub nibble_of : List ℕ → Result ℕ ArpaFault
nibble_of l =
    if length l == 1 then as_text l >>= (λ text. if is_digit (slice_index text 0) 16 then Ok (digit_value (slice_index text 0)) else Err NotANumber)
    else Err NotOneDigit

abbrev pub value_of : Family → List ℕ → Result ℕ ArpaFault
value_of Ipv4 l = octet_of l
value_of Ipv6 l = nibble_of l

-- the value of each label, up to the first fault
abbrev pub values_of : Family → List (List ℕ) → Result (List ℕ) ArpaFault
values_of family [] = Ok []
values_of family (l ∷ ls) = do
  v ← value_of family l
  vs ← values_of family ls
  Ok (v ∷ vs)

-- The labels before those of a family, the last one first. That there are too many is reported after the faults of those
-- that an address may have.
abbrev pub prefix_of : Family → List (List ℕ) → Result ArpaPrefix ArpaFault
prefix_of family ls = do
  vs ← values_of family (take (most_values family) ls)
  if nat_lt (most_values family) (length ls) then Err (TooManyLabels family)
      else Ok (record { family = family; values = vs })

-- The labels before `arpa`, the last one first.
abbrev pub prefix_below : List (List ℕ) → Result ArpaPrefix ArpaFault
prefix_below [] = Err NoFamily
prefix_below (l ∷ ls) = do
  text ← as_text l
  if label_eq text (family_label Ipv4) then prefix_of Ipv4 ls
      else if label_eq text (family_label Ipv6) then prefix_of Ipv6 ls
      else Err UnknownFamily

-- The labels of a name, the last one first.
abbrev pub prefix_from_end : List (List ℕ) → Result ArpaPrefix ArpaFault
prefix_from_end [] = Err NotArpa
prefix_from_end (l ∷ ls) = do
  text ← as_text l
  if label_eq text arpa then prefix_below ls else Err NotArpa

-- The prefix that a name gives, as `GivesPrefix` says, or the first rule that the name breaks.
abbrev pub arpa_prefix : NameValue → Result ArpaPrefix ArpaFault
arpa_prefix n = if n.is_fqdn then prefix_from_end (reverse n.labels) else Err Relative

-- Each label gives the octet or nibble beside it.
abbrev pub GiveValues : Family → List (List ℕ) → List ℕ → Type 0
GiveValues family [] [] = ⊤
GiveValues family (l ∷ ls) (v ∷ vs) = (value_of family l ≡ Ok v) × GiveValues family ls vs
GiveValues family ls vs = ⊥

-- The name gives the prefix: it is fully qualified, and its labels are, from the last one, `arpa` and that of the family,
-- ignoring ASCII case, and then one for each octet or nibble, no more than an address has.
pub record GivesPrefix (n : NameValue) (p : ArpaPrefix) : Type 0 where
  pub fqdn : n.is_fqdn ≡ true
  pub last : List ℕ
  pub second : List ℕ
  pub others : List (List ℕ)
  pub order : reverse n.labels ≡ last ∷ second ∷ others
  pub below_arpa : label_eq last arpa ≡ true
  pub of_family : label_eq second (family_label p.family) ≡ true
  pub few : length others ≤ most_values p.family
  pub each : GiveValues p.family others p.values

-- the error reports the fault
abbrev pub ReportsArpa : ArpaFault → ProtoError → Type 0
ReportsArpa Relative e = IsMessage (codes "PQDN cannot be valid arpa name") e
ReportsArpa NotArpa e = IsMessage (codes "not an arpa address") e
ReportsArpa NoFamily e = IsMessage (codes "invalid arpa address") e
ReportsArpa UnknownFamily e = IsMessage (codes "unrecognized arpa address") e
ReportsArpa NotUtf8 e = e ≡ Error.Utf8
ReportsArpa NotANumber e = e ≡ Error.ParseInt
ReportsArpa NotOneDigit e = IsMessage (codes "invalid label length for ip6.arpa") e
ReportsArpa (TooManyLabels Ipv4) e = IsMessage (codes "unrecognized in-addr.arpa.") e
ReportsArpa (TooManyLabels Ipv6) e = IsMessage (codes "unrecognized ip6.arpa.") e

-- the definition fails, and the error reports the fault
abbrev pub FailsArpa : {A : Type 0} → Result A ArpaFault → ProtoError → Type 0
FailsArpa definition e = (fault : ArpaFault) × (definition ≡ Err fault) × ReportsArpa fault e

-- A call returns what the definition says, or fails with the error that reports the fault.
abbrev pub FollowsArpa : {A : Type 0} → Result A ArpaFault → Result A ProtoError → Type 0
FollowsArpa definition (Ok x) = definition ≡ Ok x
FollowsArpa definition (Err e) = FailsArpa definition e
