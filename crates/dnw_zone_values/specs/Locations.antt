-- Locations as text (RFC 1876, section 3): two angles, an altitude, and up to three sizes.
use Rattle.std.specs.Prelude.{◌≡◌, ◌≤◌, ◌<◌, ℕ, ◌+◌, ◌-◌, ◌*◌, ◌/◌, ◌%◌, ◌^◌, ◌⊎◌, Bool, true, false, ◌&&◌, ◌||◌, ◌==◌, nat_le, nat_lt, if◌then◌else◌, List, [], ◌∷◌, ◌++◌, length, take, flat_map, slice_index, slice_range, codes, decimal}
use Rattle.std.specs.Int.{w32, from_be_bytes, to_be_bytes}
use Rattle.std.specs.List.{before_first, after_first}
use Rattle.std.specs.Str.Parse.{AllDigits, digits_value, starts_with_minus, without_leading_sign}
use Rattle.dnw_zone_values.specs.declared.location.Axis.{Axis}
use Rattle.dnw_zone_values.specs.declared.location.Axis.TheVariants.{Latitude, Longitude}
use Rattle.dnw_zone_values.specs.declared.location.Location.{Location}
use Rattle.dnw_zone_values.specs.Numbers.{max_u32, IsNumberText}

-- ---- numbers with a point

abbrev pub is_point : ℕ → Bool
is_point c = c == 46

abbrev pub before_point : List ℕ → List ℕ
before_point text = before_first is_point text

abbrev pub after_point : List ℕ → List ℕ
after_point text = after_first is_point text

-- Digits before a point and at most so many after it write this number of the parts that the last of so many digits counts.
abbrev pub IsScaled : ℕ → List ℕ → List ℕ → ℕ → Type 0
IsScaled places whole part n =
    AllDigits 10 whole × AllDigits 10 part × (length part ≤ places)
    × (n ≡ digits_value 10 whole * 10 ^ places + digits_value 10 part * 10 ^ (places - length part))

-- ---- angles: in thousandths of a second of arc from the equator or the prime meridian

-- the degrees between the equator and a pole, and those between the prime meridian and the antimeridian
abbrev pub max_degrees : Axis → ℕ
max_degrees Latitude = 90
max_degrees Longitude = 180

-- `N` and `E`, or `S` and `W`
abbrev pub positive_letter : Axis → ℕ
positive_letter Latitude = 78
positive_letter Longitude = 69

abbrev pub negative_letter : Axis → ℕ
negative_letter Latitude = 83
negative_letter Longitude = 87

-- a degree, and a minute
abbrev pub degree : ℕ
degree = 3600000

abbrev pub minute : ℕ
minute = 60000

-- the number that stands for the equator and the prime meridian; north and east are above it (RFC 1876, section 2)
abbrev pub origin : ℕ
origin = 2147483648

-- seconds with up to three digits after a point
abbrev pub IsSeconds : List ℕ → ℕ → Type 0
IsSeconds text n = IsScaled 3 (before_point text) (after_point text) n × (1 ≤ length (before_point text)) × (n < minute)

-- the letter says on which side of the origin the arc is
abbrev pub IsOnSide : Axis → List ℕ → ℕ → ℕ → Type 0
IsOnSide axis letter arc n =
    ((letter ≡ positive_letter axis ∷ []) × (n ≡ origin + arc)) ⊎ ((letter ≡ negative_letter axis ∷ []) × (n ≡ origin - arc))

-- the words of an angle; there are no more than 90 or 180 degrees, with minutes and seconds
abbrev pub IsAngle : Axis → List ℕ → List ℕ → List ℕ → List ℕ → ℕ → Type 0
IsAngle axis degrees minutes seconds letter n =
    (d : ℕ) × (m : ℕ) × (s : ℕ) × IsNumberText (max_degrees axis) degrees d × IsNumberText 59 minutes m × IsSeconds seconds s
    × (d * degree + m * minute + s ≤ max_degrees axis * degree) × IsOnSide axis letter (d * degree + m * minute + s) n

abbrev pub is_letter : Axis → List ℕ → Bool
is_letter axis (c ∷ []) = c == positive_letter axis || c == negative_letter axis
is_letter axis word = false

-- minutes and seconds that are left out before the letter are zero
abbrev pub with_seconds : Axis → List ℕ → List ℕ → List (List ℕ) → List (List ℕ)
with_seconds axis degrees minutes [] = degrees ∷ minutes ∷ []
with_seconds axis degrees minutes (w ∷ words) =
    if is_letter axis w then degrees ∷ minutes ∷ codes "0" ∷ w ∷ words else degrees ∷ minutes ∷ w ∷ words

abbrev pub with_minutes : Axis → List (List ℕ) → List (List ℕ)
with_minutes axis (degrees ∷ w ∷ words) =
    if is_letter axis w then degrees ∷ codes "0" ∷ codes "0" ∷ w ∷ words else with_seconds axis degrees w words
with_minutes axis words = words

-- words begin with an angle, and these are after it
abbrev pub IsAngleFirst : Axis → List (List ℕ) → ℕ → List (List ℕ) → Type 0
IsAngleFirst axis (degrees ∷ minutes ∷ seconds ∷ letter ∷ words) n rest = IsAngle axis degrees minutes seconds letter n × (rest ≡ words)
IsAngleFirst axis words n rest = ⊥

abbrev pub BeginWithAngle : Axis → List (List ℕ) → ℕ → List (List ℕ) → Type 0
BeginWithAngle axis words n rest = IsAngleFirst axis (with_minutes axis words) n rest

-- ---- metres

-- metres may end with `m`
abbrev pub without_unit : List ℕ → List ℕ
without_unit text = if slice_index text (length text - 1) == 109 then take (length text - 1) text else text

-- digits with up to two after a point: one or more in all
abbrev pub IsCentimetres : List ℕ → ℕ → Type 0
IsCentimetres text n =
    IsScaled 2 (before_point text) (after_point text) n × (1 ≤ length (before_point text) + length (after_point text))

-- metres after a sign
abbrev pub IsMetres : List ℕ → ℕ → Type 0
IsMetres text n = IsCentimetres (without_unit (without_leading_sign text)) n

-- the centimetres of the lowest altitude below the ellipsoid (RFC 1876, section 2)
abbrev pub depth : ℕ
depth = 10000000

-- an altitude in centimetres above the lowest one
abbrev pub IsAltitude : List ℕ → ℕ → Type 0
IsAltitude text n =
    (c : ℕ) × IsMetres text c × (n ≤ max_u32)
    × (((starts_with_minus text ≡ true) × (n + c ≡ depth)) ⊎ ((starts_with_minus text ≡ false) × (n ≡ depth + c)))

-- the centimetres of the greatest size
abbrev pub max_size : ℕ
max_size = 9000000000

-- the first digit of a number, and the number of digits after it, in four bits each; the other digits are lost (RFC 1876, section 2)
abbrev pub precision : ℕ → ℕ
precision n = 16 * (slice_index (decimal n) 0 - 48) + (length (decimal n) - 1)

-- a size, or a precision; only zero may have a minus
abbrev pub IsSizeText : List ℕ → ℕ → Type 0
IsSizeText text octet =
    (c : ℕ) × IsMetres text c × (starts_with_minus text ≡ true → c ≡ 0) × (c ≤ max_size) × (octet ≡ precision c)

-- a size that is left out is one metre, a horizontal precision 10,000 metres, a vertical one 10 metres
abbrev pub with_sizes : List (List ℕ) → List (List ℕ)
with_sizes (altitude ∷ []) = altitude ∷ codes "1m" ∷ codes "10000m" ∷ codes "10m" ∷ []
with_sizes (altitude ∷ size ∷ []) = altitude ∷ size ∷ codes "10000m" ∷ codes "10m" ∷ []
with_sizes (altitude ∷ size ∷ horizontal ∷ []) = altitude ∷ size ∷ horizontal ∷ codes "10m" ∷ []
with_sizes words = words

abbrev pub AreSizes : List (List ℕ) → Location → Type 0
AreSizes (altitude ∷ size ∷ horizontal ∷ vertical ∷ []) l =
    IsAltitude altitude l.altitude × IsSizeText size l.size × IsSizeText horizontal l.horizontal × IsSizeText vertical l.vertical
AreSizes words l = ⊥

-- ---- locations

-- the words are a location
abbrev pub AreLocationWords : List (List ℕ) → Location → Type 0
AreLocationWords words l =
    (others : List (List ℕ)) × (sizes : List (List ℕ)) × BeginWithAngle Latitude words l.latitude others
    × BeginWithAngle Longitude others l.longitude sizes × AreSizes (with_sizes sizes) l

-- its octets, of version 0 (RFC 1876, section 2)
abbrev pub location_wire : Location → List ℕ
location_wire l =
    0 ∷ l.size ∷ l.horizontal ∷ l.vertical ∷ (to_be_bytes w32 l.latitude ++ to_be_bytes w32 l.longitude ++ to_be_bytes w32 l.altitude)

-- ---- printing

abbrev pub part_at : List ℕ → ℕ → ℕ
part_at own start = from_be_bytes w32 (slice_range own start (start + 4))

-- the location of 16 octets
abbrev pub location_at : List ℕ → Location
location_at own =
    record {
      size = slice_index own 1;
      horizontal = slice_index own 2;
      vertical = slice_index own 3;
      latitude = part_at own 4;
      longitude = part_at own 8;
      altitude = part_at own 12;
    }

-- a number on either side of the origin: the arc between them, and the letter of the side
abbrev pub arc : ℕ → ℕ
arc n = if nat_lt n origin then origin - n else n - origin

abbrev pub letter : Axis → ℕ → ℕ
letter axis n = if nat_lt n origin then negative_letter axis else positive_letter axis

-- two digits after a point, and three
abbrev pub hundredths_text : ℕ → List ℕ
hundredths_text n = decimal (n / 100) ++ 46 ∷ (decimal (n / 10 % 10) ++ decimal (n % 10))

abbrev pub thousandths_text : ℕ → List ℕ
thousandths_text n = decimal (n / 1000) ++ 46 ∷ (decimal (n / 100 % 10) ++ decimal (n / 10 % 10) ++ decimal (n % 10))

abbrev pub angle_words : Axis → ℕ → List (List ℕ)
angle_words axis n =
    decimal (arc n / degree) ∷ decimal (arc n / minute % 60) ∷ thousandths_text (arc n % minute) ∷ (letter axis n ∷ []) ∷ []

abbrev pub altitude_text : ℕ → List ℕ
altitude_text n = (if nat_lt n depth then 45 ∷ hundredths_text (depth - n) else hundredths_text (n - depth)) ++ codes "m"

-- the centimetres that an octet stands for, and whole metres from one metre on
abbrev pub size_of : ℕ → ℕ
size_of octet = octet / 16 * 10 ^ (octet % 16)

abbrev pub size_text : ℕ → List ℕ
size_text octet = (if nat_lt (size_of octet) 100 then hundredths_text (size_of octet) else decimal (size_of octet / 100)) ++ codes "m"

abbrev pub location_words : Location → List (List ℕ)
location_words l =
    angle_words Latitude l.latitude ++ angle_words Longitude l.longitude
    ++ altitude_text l.altitude ∷ size_text l.size ∷ size_text l.horizontal ∷ size_text l.vertical ∷ []

-- words, each after a space
abbrev pub words_text : List (List ℕ) → List ℕ
words_text words = flat_map (λ w. 32 ∷ w) words

abbrev pub location_text : Location → List ℕ
location_text l = words_text (location_words l)

-- an octet that a size is written as: a digit, and how many zeros are after it; after no digit but zero there are none
abbrev pub is_precision : ℕ → Bool
is_precision octet = nat_lt octet 160 && nat_lt (octet % 16) 10 && (nat_le 16 octet || octet == 0)

abbrev pub is_angle : Axis → ℕ → Bool
is_angle axis n = nat_le (arc n) (max_degrees axis * degree)

-- a location with a text
abbrev pub is_location : Location → Bool
is_location l =
    is_angle Latitude l.latitude && is_angle Longitude l.longitude && is_precision l.size && is_precision l.horizontal && is_precision l.vertical

-- the octets are 16, of version 0
abbrev pub has_version : List ℕ → Bool
has_version own = length own == 16 && slice_index own 0 == 0

-- the text is that of the octets
abbrev pub PrintsLocation : List ℕ → List ℕ → Type 0
PrintsLocation own text = (has_version own ≡ true) × (is_location (location_at own) ≡ true) × (text ≡ location_text (location_at own))
