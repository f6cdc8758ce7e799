-- A result beside a state that is changed in its place.
use Rattle.std.specs.Prelude.{Result, Ok, Err}
use Rattle.dnw_c_base.specs.declared.failure.Failure.{Failure}
use Rattle.dnw_c_zone.specs.declared.zone_entry.ZoneEntry.{ZoneEntry}
use Rattle.dnw_c_zone.specs.declared.zone_state.ZoneState.{ZoneState}

-- an entry that is stored in its place, or the failure
abbrev pub with_entry : Result (Unit {0}) Failure → ZoneEntry → Result ZoneEntry Failure
with_entry (Ok done) entry = Ok entry
with_entry (Err failure) entry = Err failure

-- an entry with the state after it, or the failure
abbrev pub with_state : Result ZoneEntry Failure → ZoneState → Result (ZoneEntry × ZoneState) Failure
with_state (Ok entry) zone = Ok (entry, zone)
with_state (Err failure) zone = Err failure
