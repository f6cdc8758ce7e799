-- Words are one location at most.
use Rattle.std.proofs.Common.{◌≡◌, ◌≤◌, ℕ, ◌+◌, ◌*◌, true, false, List, [], ◌∷◌, sym, ap, ◌∙◌, subst, arith, inl, inr, slice_index}
use Rattle.std.specs.Prelude.{Option, Some, None, MatchOption}
use Rattle.dnw_zone_values.specs.declared.location.Axis.{Axis}
use Rattle.dnw_zone_values.specs.declared.location.Axis.TheVariants.{Latitude, Longitude}
use Rattle.dnw_zone_values.specs.declared.location.Location.{Location}
use Rattle.dnw_zone_values.specs.Numbers.{IsNumberText}
use Rattle.dnw_zone_values.specs.Locations.{positive_letter, negative_letter, max_degrees, degree, minute, with_minutes, with_sizes, precision, AreLocationWords, AreSizes, BeginWithAngle, IsAltitude, IsAngle, IsAngleFirst, IsMetres, IsOnSide, IsSeconds, IsSizeText}

-- ---- angles

two_sides : (axis : Axis) (letter : List ℕ) → letter ≡ positive_letter axis ∷ [] → letter ≡ negative_letter axis ∷ [] → ⊥
two_sides Latitude letter x y = let no : 78 ≡ 83 = ap (λ (xs : List ℕ). slice_index xs 0) (sym x ∙ y) in omega (arith, no)
two_sides Longitude letter x y = let no : 69 ≡ 87 = ap (λ (xs : List ℕ). slice_index xs 0) (sym x ∙ y) in omega (arith, no)

one_side : (axis : Axis) (letter : List ℕ) (arc a b : ℕ) → IsOnSide axis letter arc a → IsOnSide axis letter arc b → a ≡ b
one_side axis letter arc a b (inl x) (inl y) = x.1 ∙ sym y.1
one_side axis letter arc a b (inl x) (inr y) = absurd (two_sides axis letter x.0 y.0)
one_side axis letter arc a b (inr x) (inl y) = absurd (two_sides axis letter y.0 x.0)
one_side axis letter arc a b (inr x) (inr y) = x.1 ∙ sym y.1

-- the numbers of an angle are one arc
one_arc : (degrees minutes seconds : List ℕ) (max d m s x y z : ℕ) → IsNumberText max degrees d → IsNumberText 59 minutes m → IsSeconds seconds s
    → IsNumberText max degrees x → IsNumberText 59 minutes y → IsSeconds seconds z → d * degree + m * minute + s ≡ x * degree + y * minute + z
one_arc degrees minutes seconds max d m s x y z a b c e f g =
    let first : d ≡ x = sym a.1 ∙ e.1 in
    let second : m ≡ y = sym b.1 ∙ f.1 in
    let third : s ≡ z = c.0.3 ∙ sym g.0.3 in
    omega arith

one_angle : (axis : Axis) (degrees minutes seconds letter : List ℕ) (a b : ℕ) → IsAngle axis degrees minutes seconds letter a → IsAngle axis degrees minutes seconds letter b → a ≡ b
one_angle axis degrees minutes seconds letter a b (d, m, s, dd, mm, ss, few, side) (x, y, z, xx, yy, zz, less, other) =
    let arcs = one_arc degrees minutes seconds (max_degrees axis) x y z d m s xx yy zz dd mm ss in
    one_side axis letter (d * degree + m * minute + s) a b side (subst (λ (arc : ℕ). IsOnSide axis letter arc b) arcs other)

-- an arc on neither side, or too great, is no angle
pub no_angle : (axis : Axis) (degrees minutes seconds letter : List ℕ) (d m s : ℕ) → IsNumberText (max_degrees axis) degrees d → IsNumberText 59 minutes m → IsSeconds seconds s
    → ((n : ℕ) → ¬ (IsOnSide axis letter (d * degree + m * minute + s) n)) → (n : ℕ) → ¬ (IsAngle axis degrees minutes seconds letter n)
no_angle axis degrees minutes seconds letter d m s dd mm ss none n (x, y, z, xx, yy, zz, less, side) =
    let arcs = one_arc degrees minutes seconds (max_degrees axis) x y z d m s xx yy zz dd mm ss in
    none n (subst (λ (arc : ℕ). IsOnSide axis letter arc n) arcs side)

one_first : (axis : Axis) (words : List (List ℕ)) (a b : ℕ) (r s : List (List ℕ)) → IsAngleFirst axis words a r → IsAngleFirst axis words b s → (a ≡ b) × (r ≡ s)
one_first axis [] a b r s x y = absurd x
one_first axis (d ∷ []) a b r s x y = absurd x
one_first axis (d ∷ m ∷ []) a b r s x y = absurd x
one_first axis (d ∷ m ∷ t ∷ []) a b r s x y = absurd x
one_first axis (d ∷ m ∷ t ∷ letter ∷ words) a b r s x y = (one_angle axis d m t letter a b x.0 y.0, x.1 ∙ sym y.1)

pub one_begins : (axis : Axis) (words : List (List ℕ)) (a b : ℕ) (r s : List (List ℕ)) → BeginWithAngle axis words a r → BeginWithAngle axis words b s → (a ≡ b) × (r ≡ s)
one_begins axis words a b r s x y = one_first axis (with_minutes axis words) a b r s x y

-- ---- metres

one_metres : (text : List ℕ) (a b : ℕ) → IsMetres text a → IsMetres text b → a ≡ b
one_metres text a b x y = x.0.3 ∙ sym y.0.3

one_altitude : (text : List ℕ) (a b : ℕ) → IsAltitude text a → IsAltitude text b → a ≡ b
one_altitude text a b (c, metres, few, inl x) (d, also, less, inl y) = let e = one_metres text c d metres also in omega (arith, e, x.1, y.1)
one_altitude text a b (c, metres, few, inl x) (d, also, less, inr y) = let no : true ≡ false = sym x.0 ∙ y.0 in cc
one_altitude text a b (c, metres, few, inr x) (d, also, less, inl y) = let no : true ≡ false = sym y.0 ∙ x.0 in cc
one_altitude text a b (c, metres, few, inr x) (d, also, less, inr y) = let e = one_metres text c d metres also in omega (arith, e, x.1, y.1)

one_size : (text : List ℕ) (a b : ℕ) → IsSizeText text a → IsSizeText text b → a ≡ b
one_size text a b (c, metres, zero, few, x) (d, also, none, less, y) = x ∙ ap precision (one_metres text c d metres also) ∙ sym y

same_location : (a b : Location) → a.size ≡ b.size → a.horizontal ≡ b.horizontal → a.vertical ≡ b.vertical → a.latitude ≡ b.latitude → a.longitude ≡ b.longitude → a.altitude ≡ b.altitude → a ≡ b
same_location a b e f g h i j = λ k. record { size = e k; horizontal = f k; vertical = g k; latitude = h k; longitude = i k; altitude = j k }

one_sizes : (words : List (List ℕ)) (a b : Location) → AreSizes words a → AreSizes words b → a.latitude ≡ b.latitude → a.longitude ≡ b.longitude → a ≡ b
one_sizes [] a b x y e f = absurd x
one_sizes (p ∷ []) a b x y e f = absurd x
one_sizes (p ∷ q ∷ []) a b x y e f = absurd x
one_sizes (p ∷ q ∷ r ∷ []) a b x y e f = absurd x
one_sizes (p ∷ q ∷ r ∷ s ∷ []) a b x y e f =
    same_location a b (one_size q a.size b.size x.1 y.1) (one_size r a.horizontal b.horizontal x.2 y.2) (one_size s a.vertical b.vertical x.3 y.3) e f (one_altitude p a.altitude b.altitude x.0 y.0)
one_sizes (p ∷ q ∷ r ∷ s ∷ t ∷ words) a b x y e f = absurd x

-- ---- locations

-- after an angle that words begin with there is one, or there are sizes
pub after_first : (words : List (List ℕ)) (l : Location) (n : ℕ) (others : List (List ℕ)) → BeginWithAngle Latitude words n others → AreLocationWords words l
    → (sizes : List (List ℕ)) × BeginWithAngle Longitude others l.longitude sizes × AreSizes (with_sizes sizes) l
after_first words l n others begins (rest, sizes, first, second, are) =
    let same : rest ≡ others = (one_begins Latitude words l.latitude n rest others first begins).1 in
    (sizes, subst (λ (ws : List (List ℕ)). BeginWithAngle Longitude ws l.longitude sizes) same second, are)

pub after_second : (words : List (List ℕ)) (l : Location) (m n : ℕ) (others sizes : List (List ℕ)) → BeginWithAngle Latitude words m others → BeginWithAngle Longitude others n sizes
    → AreLocationWords words l → AreSizes (with_sizes sizes) l
after_second words l m n others sizes begins goes is =
    let (rest, second, are) = after_first words l m others begins is in
    let same : rest ≡ sizes = (one_begins Longitude others l.longitude n rest sizes second goes).1 in
    subst (λ (ws : List (List ℕ)). AreSizes (with_sizes ws) l) same are

pub one_location : (words : List (List ℕ)) (a b : Location) → AreLocationWords words a → AreLocationWords words b → a ≡ b
one_location words a b (rest, sizes, first, second, are) is =
    let (others, also, more) = after_first words b a.latitude rest first is in
    let angle : a.longitude ≡ b.longitude = (one_begins Longitude rest a.longitude b.longitude sizes others second also).0 in
    let same : others ≡ sizes = sym (one_begins Longitude rest a.longitude b.longitude sizes others second also).1 in
    let latitude : a.latitude ≡ b.latitude = (one_begins Latitude words a.latitude b.latitude rest is.0 first is.2).0 in
    one_sizes (with_sizes sizes) a b are (subst (λ (ws : List (List ℕ)). AreSizes (with_sizes ws) b) same more) latitude angle

-- what is found of the sizes is found of the location
pub located : (words others sizes : List (List ℕ)) (m n : ℕ) (r : Option Location) → BeginWithAngle Latitude words m others → BeginWithAngle Longitude others n sizes
    → MatchOption r ((l : Location) → ¬ (AreSizes (with_sizes sizes) l)) (λ (l : Location). AreSizes (with_sizes sizes) l × (l.latitude ≡ m) × (l.longitude ≡ n))
    → MatchOption r ((l : Location) → ¬ (AreLocationWords words l)) (λ (l : Location). AreLocationWords words l)
located words others sizes m n None begins goes none = λ l is. none l (after_second words l m n others sizes begins goes is)
located words others sizes m n (Some l) begins goes (are, first, second) = (
  others,
  sizes,
  subst (λ (x : ℕ). BeginWithAngle Latitude words x others) (sym first) begins,
  subst (λ (x : ℕ). BeginWithAngle Longitude others x sizes) (sym second) goes,
  are,
)

-- and what is found of the side of an angle is found of the angle
pub angled : (axis : Axis) (degrees minutes seconds letter : List ℕ) (d m s : ℕ) (r : Option ℕ) → IsNumberText (max_degrees axis) degrees d → IsNumberText 59 minutes m
    → IsSeconds seconds s → d * degree + m * minute + s ≤ max_degrees axis * degree
    → MatchOption r ((n : ℕ) → ¬ (IsOnSide axis letter (d * degree + m * minute + s) n)) (λ (n : ℕ). IsOnSide axis letter (d * degree + m * minute + s) n)
    → MatchOption r ((n : ℕ) → ¬ (IsAngle axis degrees minutes seconds letter n)) (λ (n : ℕ). IsAngle axis degrees minutes seconds letter n)
angled axis degrees minutes seconds letter d m s None dd mm ss few none = no_angle axis degrees minutes seconds letter d m s dd mm ss none
angled axis degrees minutes seconds letter d m s (Some n) dd mm ss few side = (d, m, s, dd, mm, ss, few, side)
