-- Why an entry adds no record to a list.
use Rattle.std.specs.Prelude.{◌≡◌, ◌⊎◌, ℕ}
use Rattle.dnw_zone_file.specs.declared.entry.Entry.{Entry}
use Rattle.dnw_zone_file.specs.declared.entry.Entry.TheVariants.{Include as IncludeEntry}
use Rattle.dnw_zone_file.specs.declared.entry.Include.{Include}
use Rattle.dnw_zone_file.specs.declared.error.ZoneError.TheVariants.{Memory}
use Rattle.dnw_zone_file.specs.declared.zone_text.ZoneTextError.{ZoneTextError}
use Rattle.dnw_zone_file.specs.declared.zone_text.ZoneTextError.TheVariants.{NoEntry, HasInclude}

-- The entry is of another file, or memory ran out.
abbrev pub FailsToAddEntry : Entry → ℕ → ZoneTextError → Type 0
FailsToAddEntry entry offset error =
    (error ≡ NoEntry offset Memory) ⊎ ((include : Include) × (entry ≡ IncludeEntry include) × (error ≡ HasInclude offset))
