-- A whole text that is not empty begins with an entry, or with an error.
use Rattle.std.proofs.Common.{◌≡◌, ◌≢◌, ℕ, Bool, false, List, [], refl, sym, subst, inl, inr}
use Rattle.std.specs.Prelude.{⊤, Option, Some, None, Result, Ok, Err}
use Rattle.dnw_zone_record.specs.declared.word_error.WordRule.{WordRule}
use Rattle.dnw_zone_record.specs.declared.scan.Ending.{Ending}
use Rattle.dnw_zone_record.specs.declared.scan.Ending.TheVariants.{Line, Text, Cut, Wrong as WrongWords}
use Rattle.dnw_zone_file.specs.declared.context.Context.{Context}
use Rattle.dnw_zone_file.specs.declared.entry.Entry.{Entry}
use Rattle.dnw_zone_file.specs.declared.error.ZoneError.{ZoneError}
use Rattle.dnw_zone_file.specs.declared.error.ZoneError.TheVariants.{Memory}
use Rattle.dnw_zone_file.specs.declared.step.Found.{Found}
use Rattle.dnw_zone_file.specs.declared.step.Found.TheVariants.{Entry as IsOne}
use Rattle.dnw_zone_file.specs.declared.step.Step.{Step}
use Rattle.dnw_zone_file.specs.Steps.{IsEntryFound, IsStep, IsStepAt, wrong_step}
use Rattle.dnw_zone_file.specs.declared.zone_text.ZoneTextError.{ZoneTextError}
use Rattle.dnw_zone_file.specs.Inside.Adding.{FailsToAddEntry}
use Rattle.dnw_zone_file.specs.ZoneTexts.{FailsNextEntry, LacksEntry, TakesEntry}

abbrev pub IsDecided : Result Found ZoneError → Type 0
IsDecided (Ok (IsOne entry)) = ⊤
IsDecided (Ok other) = ⊥
IsDecided (Err error) = ⊤

by_step : (step found : Step) → step ≡ found → IsDecided found.found → IsDecided step.found
by_step step found e h = subst (λ (s : Step). IsDecided s.found) (sym e) h

wrong_decided : (text : List ℕ) (end : ℕ) (rule : WordRule) (len : Option ℕ) → IsDecided (wrong_step false text end rule len).found
wrong_decided text end rule None = tt
wrong_decided text end rule (Some len) = tt

found_decided : (before after : Context) (indented : Bool) (line : List ℕ) (used : ℕ) (step : Step) → IsEntryFound before indented line used step after → IsDecided step.found
found_decided before after indented line used step (inl (entry, is, e)) = by_step step _ e tt
found_decided before after indented line used step (inr (error, fails, e, same)) = by_step step _ e tt

at_decided : (before after : Context) (text line : List ℕ) (ending : Ending) (step : Step) → IsStepAt before text false line ending step after → IsDecided step.found
at_decided before after text line Line step is = found_decided before after _ line _ step is
at_decided before after text line Text step is = found_decided before after _ line _ step is
at_decided before after text line (Cut rule) step (e, same) = by_step step _ e tt
at_decided before after text line (WrongWords rule) step (e, same) = by_step step _ e (wrong_decided text _ rule _)

pub decided : (before after : Context) (text : List ℕ) (step : Step) → text ≢ [] → IsStep before text false step after → IsDecided step.found
decided before after text step some (inl (none, e, same)) = absurd (some none)
decided before after text step some (inr (inl (also, line, ending, is, at))) = at_decided before after text line ending step at
decided before after text step some (inr (inr (e, same))) = by_step step _ e tt

pub takes : (before after : Context) (text : List ℕ) (step : Step) (entry : Entry) → IsStep before text false step after → step.found ≡ Ok (IsOne entry)
    → TakesEntry before text entry step.used after
unfolding TakesEntry
takes before after text step entry is e =
    subst (λ (f : Result Found ZoneError). IsStep before text false (record { used = step.used; found = f }) after) e is

pub lacks : (before after : Context) (text : List ℕ) (step : Step) (error : ZoneError) → IsStep before text false step after → step.found ≡ Err error
    → LacksEntry before text error
unfolding LacksEntry
lacks before after text step error is e =
    (step.used, after, subst (λ (f : Result Found ZoneError). IsStep before text false (record { used = step.used; found = f }) after) e is)

-- memory may run out at any entry
pub no_memory : (before : Context) (text : List ℕ) → LacksEntry before text Memory
unfolding LacksEntry
no_memory before text = (0, before, inr (inr (refl, refl)))

pub add_fails : (before after : Context) (text : List ℕ) (entry : Entry) (used offset : ℕ) (error : ZoneTextError) → TakesEntry before text entry used after
    → FailsToAddEntry entry offset error → FailsNextEntry before text offset error
add_fails before after text entry used offset error takes (inl e) = subst (FailsNextEntry before text offset) (sym e) (refl, no_memory before text)
add_fails before after text entry used offset error takes (inr (include, is, e)) =
    subst (FailsNextEntry before text offset) (sym e) (refl, include, used, after, subst (λ (x : Entry). TakesEntry before text x used after) is takes)
