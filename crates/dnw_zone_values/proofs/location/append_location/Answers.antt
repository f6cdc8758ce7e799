use Rattle.std.proofs.Common.{◌≡◌, ◌++◌, ◌∙◌, true, ap, sym, refl}
use Rattle.std.specs.Prelude.{string_bytes}
use Rattle.dnw_zone_values.specs.declared.location.Axis.TheVariants.{Latitude, Longitude}
use Rattle.dnw_zone_values.specs.declared.location.Location.{Location}
use Rattle.dnw_zone_values.specs.Locations.{altitude_text, angle_words, is_location, location_at, location_text, size_text}
use Rattle.dnw_zone_values.proofs.LocationWords.{one_after_another}
use Rattle.dnw_zone_values.proofs.location.append_location.Goals as goal

pub returns-clause-yes : goal.returns-clause-yes
returns-clause-yes c = λ _.
    let l = c.in-Some.location in
    let same : l ≡ location_at c.args.octets.now = c.in-Some.ensures.1 in
    let has : is_location (location_at c.args.octets.now) ≡ true = ap is_location (sym same) ∙ sym c.if-not-is_location.ensures.is in
    let text = one_after_another (string_bytes c.args.out.now) (string_bytes c.write_angle.new.out) (string_bytes c.write_angle-2.new.out) (string_bytes c.write_altitude.new.out)
    (string_bytes c.write_size.new.out) (string_bytes c.write_size-2.new.out) (string_bytes c.write_size-3.new.out) (angle_words Latitude l.latitude) (angle_words Longitude l.longitude)
    (altitude_text l.altitude) (size_text l.size) (size_text l.horizontal) (size_text l.vertical) c.in_ok-write_angle.ensures c.in_ok-write_angle-2.ensures
    c.in_ok-write_altitude.ensures c.in_ok-write_size.ensures c.in_ok-write_size-2.ensures c.in_ok-write_size-3.ensures in
    ((c.in-Some.ensures.0, has, refl), text ∙ ap (λ (own : Location). string_bytes c.args.out.now ++ location_text own) same)
