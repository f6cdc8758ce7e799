-- What an entry with a row is, and what is known after an entry without one.
use Rattle.std.proofs.Common.{◌≡◌, ℕ, Bool, true, false, List, Option, Some, None, inl, inr}
use Rattle.std.specs.Prelude.{Ok}
use Rattle.dnw_zone_record.specs.declared.scan.Ending.{Ending}
use Rattle.dnw_zone_record.specs.declared.scan.Ending.TheVariants.{Line, Text, Cut, Wrong as WrongWords}
use Rattle.dnw_zone_record.specs.declared.word_error.WordRule.{WordRule}
use Rattle.dnw_c_zone.specs.Inside.RowSteps.{IsRowStep}
use Rattle.dnw_zone_file.specs.Entries.{IsDirectiveEntry, IsEntryBy, IsOwned}
use Rattle.dnw_zone_file.specs.Steps.{IsEntryFound, IsStep, IsStepAt, wrong_step}
use Rattle.dnw_zone_file.specs.declared.context.Context.{Context}
use Rattle.dnw_zone_file.specs.declared.entry.Entry.{Entry}
use Rattle.dnw_zone_file.specs.declared.entry.LineKind.{LineKind}
use Rattle.dnw_zone_file.specs.declared.entry.LineKind.TheVariants.{Blank, OwnerBefore, Dollar, OwnerFirst}
use Rattle.dnw_zone_file.specs.declared.step.Found.TheVariants.{Entry as IsOne}
use Rattle.dnw_zone_file.specs.declared.step.Step.{Step}

by_owner : (owner : Option (List (List ℕ))) (before : Context) (left : List ℕ) (entry : Entry) (after : Context)
    → IsOwned owner before left entry after → IsRowStep (Ok (IsOne entry)) before after
by_owner (Some owner) before left entry after (head, r, (text, _, _, _, _, own), is, so) = rw is (record { fits = own.1; stays = λ no. absurd no })
by_owner None before left entry after is = absurd is

by_dollar : (before : Context) (first line rest : List ℕ) (entry : Entry) (after : Context)
    → IsDirectiveEntry before first line rest entry after → IsRowStep (Ok (IsOne entry)) before after
by_dollar before first line rest entry after is = elim is [
  | inl (_, nothing, _, _, so) ↦ rw nothing (record { fits = tt; stays = λ no. absurd no })
  | inr (inl (_, nothing, _, _, so)) ↦ rw nothing (record { fits = tt; stays = λ no. absurd no })
  | inr (inr (_, include, _, is_one, so)) ↦ rw is_one (record { fits = tt; stays = λ _. so })
]

by_line : (kind : LineKind) (before : Context) (line first rest : List ℕ) (entry : Entry) (after : Context)
    → IsEntryBy kind before line first rest entry after → IsRowStep (Ok (IsOne entry)) before after
by_line Blank before line first rest entry after is = rw is.0 (record { fits = tt; stays = λ no. absurd no })
by_line OwnerBefore before line first rest entry after (owner, _, owned) = by_owner owner before line entry after owned
by_line Dollar before line first rest entry after is = by_dollar before first line rest entry after is
by_line OwnerFirst before line first rest entry after (owner, _, owned) = by_owner owner before rest entry after owned

by_found : (before : Context) (indented : Bool) (line : List ℕ) (used : ℕ) (step : Step) (after : Context)
    → IsEntryFound before indented line used step after → IsRowStep step.found before after
by_found before indented line used step after is = elim is [
  | inl (entry, (kind, first, rest, _, _, _, by), so) ↦ rw so (by_line kind before line first rest entry after by)
  | inr (error, _, so, same) ↦ rw so (record { fits = tt; stays = λ _. same })
]

by_rule : (more : Bool) (text : List ℕ) (offset : ℕ) (rule : WordRule) (next : Option ℕ) (before after : Context) → after ≡ before
    → IsRowStep (wrong_step more text offset rule next).found before after
by_rule more text offset rule (Some len) before after same = record { fits = tt; stays = λ _. same }
by_rule true text offset rule None before after same = record { fits = tt; stays = λ _. same }
by_rule false text offset rule None before after same = record { fits = tt; stays = λ _. same }

by_end : (before : Context) (text : List ℕ) (more : Bool) (line : List ℕ) (ending : Ending) (step : Step) (after : Context)
    → IsStepAt before text more line ending step after → IsRowStep step.found before after
by_end before text more line Line step after is = by_found before _ line _ step after is
by_end before text false line Text step after is = by_found before _ line _ step after is
by_end before text true line Text step after (so, same) = rw so (record { fits = tt; stays = λ _. same })
by_end before text true line (Cut rule) step after (so, same) = rw so (record { fits = tt; stays = λ _. same })
by_end before text false line (Cut rule) step after (so, same) = rw so (record { fits = tt; stays = λ _. same })
by_end before text more line (WrongWords rule) step after (so, same) = rw so (by_rule more text _ rule _ before after same)

pub step_rows : (before : Context) (text : List ℕ) (more : Bool) (step : Step) (after : Context) → IsStep before text more step after
    → IsRowStep step.found before after
step_rows before text true step after (inl (_, so, same)) = rw so (record { fits = tt; stays = λ _. same })
step_rows before text false step after (inl (_, so, same)) = rw so (record { fits = tt; stays = λ _. same })
step_rows before text more step after (inr (inl (_, line, ending, _, at))) = by_end before text more line ending step after at
step_rows before text more step after (inr (inr (so, same))) = rw so (record { fits = tt; stays = λ _. same })
