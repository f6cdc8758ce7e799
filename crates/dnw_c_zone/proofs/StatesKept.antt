-- An entry that is stored and a state that is changed in their places.
use Rattle.std.proofs.Common.{◌≡◌, ℕ, refl, ap, ◌∙◌}
use Rattle.std.specs.Prelude.{Result, Ok, Err, IfErr}
use Rattle.dnw_c_base.specs.Results.{IsStored}
use Rattle.dnw_c_base.specs.declared.failure.Failure.{Failure}
use Rattle.dnw_c_zone.specs.Inside.StateResults.{with_entry, with_state}
use Rattle.dnw_c_zone.specs.declared.zone_entry.ZoneEntry.{ZoneEntry}
use Rattle.dnw_c_zone.specs.declared.zone_state.ZoneState.{ZoneState}

pub stored_both : (r : Result (Unit {0}) Failure) (old new : ZoneEntry) (before after : ZoneState) (code : ℕ) → IsStored r tt tt code
    → IfErr r (λ _. (new ≡ old) × (after ≡ before)) → IsStored (with_state (with_entry r new) after) (old, before) (new, after) code
stored_both (Ok done) old new before after code is same = record { value = (is.value.0, refl); failure = tt; zero = is.zero }
stored_both (Err why) old new before after code is same = record {
  value = tt;
  failure = (is.failure.0, ap (λ (x : ZoneEntry). (x, after)) same.0 ∙ ap (λ (x : ZoneState). (old, x)) same.1);
  zero = is.zero;
}
