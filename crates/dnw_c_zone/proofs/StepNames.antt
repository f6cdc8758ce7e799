-- What an entry leaves as it was of the names that are known.
use Rattle.std.proofs.Common.{◌≡◌, ℕ, Bool, true, false, List, Option, Some, None, refl, ap, inl, inr}
use Rattle.std.specs.Prelude.{Result, Ok, Err}
use Rattle.dnw_zone_record.specs.declared.scan.Ending.{Ending}
use Rattle.dnw_zone_record.specs.declared.scan.Ending.TheVariants.{Line, Text, Cut, Wrong as WrongWords}
use Rattle.dnw_c_zone.specs.Inside.StateNames.{KeepsNames, changes_origin, changes_owner}
use Rattle.dnw_zone_file.specs.Entries.{IsDirectiveEntry, IsEntryBy, IsOwned}
use Rattle.dnw_zone_file.specs.Steps.{IsEntryFound, IsStep, IsStepAt}
use Rattle.dnw_zone_file.specs.declared.context.Context.{Context}
use Rattle.dnw_zone_file.specs.declared.entry.Entry.{Entry}
use Rattle.dnw_zone_file.specs.declared.entry.Entry.TheVariants.{Nothing, Record as RecordEntry, Include as IncludeEntry}
use Rattle.dnw_zone_file.specs.declared.entry.LineKind.{LineKind}
use Rattle.dnw_zone_file.specs.declared.entry.LineKind.TheVariants.{Blank, OwnerBefore, Dollar, OwnerFirst}
use Rattle.dnw_zone_file.specs.declared.error.ZoneError.{ZoneError}
use Rattle.dnw_zone_file.specs.declared.step.Found.{Found}
use Rattle.dnw_zone_file.specs.declared.step.Found.TheVariants.{Entry as IsOne, End, More}
use Rattle.dnw_zone_file.specs.declared.step.Step.{Step}

-- no entry changes both
pub not_both : (found : Result Found ZoneError) → changes_origin found ≡ true → changes_owner found ≡ false
not_both (Ok (IsOne Nothing)) is = refl
not_both (Ok (IsOne (RecordEntry r))) is = absurd cc
not_both (Ok (IsOne (IncludeEntry include))) is = refl
not_both (Ok End) is = refl
not_both (Ok More) is = refl
not_both (Err error) is = refl

-- both names, if nothing is changed
unchanged : (found : Result Found ZoneError) (before after : Context) → after ≡ before → KeepsNames found before after
unchanged found before after same = record { origin = λ _. ap (λ (c : Context). c.origin) same; owner = λ _. ap (λ (c : Context). c.owner) same }

-- the origin, by a record
by_record : (owner : Option (List (List ℕ))) (before : Context) (left : List ℕ) (entry : Entry) (after : Context)
    → IsOwned owner before left entry after → KeepsNames (Ok (IsOne entry)) before after
by_record (Some owner) before left entry after (head, r, _, is, so) =
    rw is (record { origin = λ _. ap (λ (c : Context). c.origin) so; owner = λ other. absurd cc })
by_record None before left entry after is = absurd is

-- the owner, by `$ORIGIN` and `$TTL`
by_directive : (before : Context) (first line rest : List ℕ) (entry : Entry) (after : Context)
    → IsDirectiveEntry before first line rest entry after → KeepsNames (Ok (IsOne entry)) before after
by_directive before first line rest entry after is = elim is [
  | inl origin ↦ let (_, is_nothing, _, _, so) = origin in
      rw is_nothing (record { origin = λ other. absurd cc; owner = λ _. ap (λ (c : Context). c.owner) so })
  | inr (inl ttl) ↦ let (_, is_nothing, _, _, so) = ttl in
      rw is_nothing (record { origin = λ other. absurd cc; owner = λ _. ap (λ (c : Context). c.owner) so })
  | inr (inr include) ↦ let (_, _, _, _, so) = include in unchanged (Ok (IsOne entry)) before after so
]

by_kind : (kind : LineKind) (before : Context) (line first rest : List ℕ) (entry : Entry) (after : Context)
    → IsEntryBy kind before line first rest entry after → KeepsNames (Ok (IsOne entry)) before after
by_kind Blank before line first rest entry after is = unchanged (Ok (IsOne entry)) before after is.1
by_kind OwnerBefore before line first rest entry after (owner, _, owned) = by_record owner before line entry after owned
by_kind Dollar before line first rest entry after is = by_directive before first line rest entry after is
by_kind OwnerFirst before line first rest entry after (owner, _, owned) = by_record owner before rest entry after owned

by_entry : (before : Context) (indented : Bool) (line : List ℕ) (used : ℕ) (step : Step) (after : Context)
    → IsEntryFound before indented line used step after → KeepsNames step.found before after
by_entry before indented line used step after is = elim is [
  | inl (entry, (kind, first, rest, _, _, _, by), so) ↦ rw so (by_kind kind before line first rest entry after by)
  | inr (error, _, _, same) ↦ unchanged step.found before after same
]

by_ending : (before : Context) (text : List ℕ) (more : Bool) (line : List ℕ) (ending : Ending) (step : Step) (after : Context)
    → IsStepAt before text more line ending step after → KeepsNames step.found before after
by_ending before text more line Line step after is = by_entry before _ line _ step after is
by_ending before text false line Text step after is = by_entry before _ line _ step after is
by_ending before text true line Text step after is = unchanged step.found before after is.1
by_ending before text more line (Cut rule) step after is = unchanged step.found before after is.1
by_ending before text more line (WrongWords rule) step after is = unchanged step.found before after is.1

pub step_keeps : (before : Context) (text : List ℕ) (more : Bool) (step : Step) (after : Context) → IsStep before text more step after
    → KeepsNames step.found before after
step_keeps before text more step after is = elim is [
  | inl (_, _, same) ↦ unchanged step.found before after same
  | inr (inl (_, line, ending, _, at)) ↦ by_ending before text more line ending step after at
  | inr (inr (_, same)) ↦ unchanged step.found before after same
]
