-- How the numbers in data of each type are written: in decimal, and those of some fields also in another form; and which octets may be
-- left out.
use Rattle.std.specs.Prelude.{◌≡◌, ◌≤◌, ℕ, ◌==◌, ◌||◌, ◌-◌, Bool, not, true, false, length, slice_index, if◌then◌else◌, List, [], ◌∷◌, Some}
use Rattle.std.specs.Char.{is_ascii_digit}
use Rattle.std.specs.List.{list_all, list_any}
use Rattle.dnw_zone_lexer.specs.Times.{max_ttl, time_seconds}
use Rattle.dnw_zone_values.specs.Mnemonics.{IsNumberOrName, algorithm_named, certificate_type_named, protocol_named, scheme_named}
use Rattle.dnw_zone_values.specs.Numbers.{IsNumberText}
use Rattle.dnw_zone_data.specs.declared.number_form.NumberForm.{NumberForm}
use Rattle.dnw_zone_data.specs.declared.number_form.NumberForm.TheVariants.{Decimal, Period, Algorithm, CertificateType, Scheme, Protocol, Optional}

-- types whose second field is the number of an algorithm: SIG, DS, RRSIG, CDS, TA and DLV
abbrev pub with_algorithm_second : List ℕ
with_algorithm_second = 24 ∷ 43 ∷ 46 ∷ 59 ∷ 32768 ∷ 32769 ∷ []

-- types whose third field is: KEY, DNSKEY, RKEY and CDNSKEY
abbrev pub with_algorithm_third : List ℕ
with_algorithm_third = 25 ∷ 48 ∷ 57 ∷ 60 ∷ []

abbrev pub is_one_of : List ℕ → ℕ → Bool
is_one_of codes code = list_any (λ known. known == code) codes

-- The forms of the first fields of data of a type. The times of SOA (RFC 1035, section 3.3.13) take units; CERT has a type of
-- certificates and an algorithm (RFC 4398, section 2), DSYNC a scheme (RFC 9859, section 2.1), and WKS a protocol (RFC 1035, section
-- 3.4.2). Numbers of other fields are in decimal. The key of IPSECKEY may be left out (RFC 4025, section 3.1).
unfoldable pub number_forms : ℕ → List NumberForm
number_forms code =
    if code == 6 then Decimal ∷ Decimal ∷ Decimal ∷ Period ∷ Period ∷ Period ∷ Period ∷ []
    else if code == 11 then Decimal ∷ Protocol ∷ []
    else if code == 37 then CertificateType ∷ Decimal ∷ Algorithm ∷ []
    else if code == 45 then Decimal ∷ Decimal ∷ Optional ∷ []
    else if code == 66 then Decimal ∷ Scheme ∷ []
    else if is_one_of with_algorithm_second code then Decimal ∷ Algorithm ∷ []
    else if is_one_of with_algorithm_third code then Decimal ∷ Decimal ∷ Algorithm ∷ []
    else []

-- the form of the next field, and those of the fields after it
abbrev pub first_form : List NumberForm → NumberForm
first_form [] = Decimal
first_form (form ∷ forms) = form

abbrev pub other_forms : List NumberForm → List NumberForm
other_forms [] = []
other_forms (form ∷ forms) = forms

-- ---- what a number is in a form

abbrev pub ends_with_digit : List ℕ → Bool
ends_with_digit text = is_ascii_digit (slice_index text (length text - 1))

-- seconds alone, or groups each of which has a unit: `1d1` is neither
abbrev pub is_whole : List ℕ → Bool
is_whole text = list_all is_ascii_digit text || not (ends_with_digit text)

-- a period of at most 2^32 - 1 seconds
abbrev pub IsPeriod : List ℕ → ℕ → Type 0
IsPeriod text n = (time_seconds text ≡ Some n) × (n ≤ max_ttl) × (is_whole text ≡ true)

-- the greatest number whose digits but the last are at most 429,496,728
abbrev pub most_short : ℕ
most_short = 4294967289

-- the text is this number in a form, which is no greater than the first
abbrev pub IsNumberIn : NumberForm → ℕ → List ℕ → ℕ → Type 0
IsNumberIn Decimal max text n = IsNumberText max text n
IsNumberIn Period max text n = IsPeriod text n × (n ≤ max)
IsNumberIn Algorithm max text n = IsNumberOrName algorithm_named max text n
IsNumberIn CertificateType max text n = IsNumberOrName certificate_type_named max text n
IsNumberIn Scheme max text n = IsNumberOrName scheme_named max text n
IsNumberIn Protocol max text n = IsNumberOrName protocol_named max text n
IsNumberIn Optional max text n = IsNumberText max text n

-- ---- octets that may be left out

abbrev pub has_octets : List ℕ → Bool
has_octets [] = false
has_octets (o ∷ own) = true

abbrev pub may_be_left_out : NumberForm → Bool
may_be_left_out Optional = true
may_be_left_out way = false

-- there are octets, or there may be none
abbrev pub is_given : NumberForm → List ℕ → Bool
is_given way own = has_octets own || may_be_left_out way
