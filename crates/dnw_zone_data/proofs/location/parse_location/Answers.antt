use Rattle.std.proofs.Common.{ℕ, List, Bor, map, ap, refl, subst}
use Rattle.dnw_data.specs.declared.kind.Shape.TheVariants as shapes
use Rattle.dnw_data.specs.Values.{shaped}
use Rattle.dnw_zone_values.specs.declared.location.Location.{Location}
use Rattle.dnw_zone_values.specs.Locations.{location_wire, AreLocationWords}
use Rattle.dnw_zone_data.proofs.LocationWords.{other_words, too_many}
use Rattle.dnw_zone_data.proofs.location.parse_location.Goals as goal

abbrev texts : List (Bor (List ℕ)) → List (List ℕ)
texts words = map (λ w. w.now) words

pub returns-in_default : goal.returns-in_default
returns-in_default c = λ value. too_many c.args.left.now value c.in_default.ensures

pub returns-in_default-location_of : goal.returns-in_default-location_of
returns-in_default-location_of c = λ value.
    let same = ap texts c.as_slice.ensures.value in
    let none = subst (λ (words : List (List ℕ)). (l : Location) → ¬ (AreLocationWords words l)) same c.in_default-location_of.ensures in
    other_words c.args.left.now (texts c.in-Some.words.items) value c.in-Some.ensures none

pub returns : goal.returns
returns c =
    let l = c.in-Some-location_of.location in
    let same = ap texts c.as_slice.ensures.value in
    let is = subst (λ (words : List (List ℕ)). AreLocationWords words l) same c.in-Some-location_of.ensures in (
      shaped (record { shape = shapes.Location; octets = location_wire l }),
      (texts c.in-Some.words.items, l, c.in-Some.ensures, is, refl),
      c.in_ok-push_location.ensures,
    )
