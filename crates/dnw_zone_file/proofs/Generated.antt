-- What templates make is what the record of a `$GENERATE` is of, and why there is none.
use Rattle.std.proofs.Common.{◌≡◌, ℕ, ◌+◌, false, List, [], ◌++◌, length, Option, Some, None, refl, ap, sym, subst, inl, inr}
use Rattle.std.specs.Prelude.{IfErr, IfOk, Result, Ok, Err}
use Rattle.dnw_zone_file.specs.Entries.{FailsZoneRecord, IsOwned, IsZoneRecord}
use Rattle.dnw_zone_file.specs.Generates.{FailsGeneratedLine, IsGeneratedEntry, made_data}
use Rattle.dnw_zone_file.specs.Inside.Making.{FailsOrMemory, IsMade}
use Rattle.dnw_zone_file.specs.Templates.{made_text}
use Rattle.dnw_zone_file.specs.Entries.{owner_at}
use Rattle.dnw_zone_file.specs.declared.context.Context.{Context}
use Rattle.dnw_zone_file.specs.declared.entry.Entry.{Entry}
use Rattle.dnw_zone_file.specs.declared.error.ZoneError.{ZoneError}
use Rattle.dnw_zone_file.specs.declared.generate.Generate.{Generate}

-- what is appended to nothing
pub made_is : (made : Option (List ℕ)) (old new : List ℕ) → old ≡ [] → IsMade made old new → made ≡ Some new
made_is None old new none is = absurd is
made_is (Some text) old new none is = ap Some (sym (rw none at is))

pub entry_is : (r : Result Entry ZoneError) (before : Context) (g : Generate) (n : ℕ) (owner own : List ℕ) (after : Context)
    → made_text n false g.owner.now ≡ Some owner → made_data n g.data.now ≡ Some own
    → IfOk r (λ entry. IsOwned (owner_at before.origin owner) before (g.between.now ++ own) entry after)
    → IfOk r (λ entry. IsGeneratedEntry before g n entry after)
entry_is (Ok entry) before g n owner own after named made is = (owner, own, named, made, is)
entry_is (Err error) before g n owner own after named made is = tt

pub owned_is : (r : Result Entry ZoneError) (found : Option (List (List ℕ))) (owner : List (List ℕ)) (before : Context) (line left : List ℕ) (after : Context)
    → found ≡ Some owner → line ≡ left → IfOk r (λ entry. IsZoneRecord before owner line entry after)
    → IfOk r (λ entry. IsOwned found before left entry after)
owned_is (Ok entry) found owner before line left after named same is =
    rw named (subst (λ (text : List ℕ). IsZoneRecord before owner text entry after) same is)
owned_is (Err error) found owner before line left after named same is = tt

pub line_fails : (r : Result Entry ZoneError) (before : Context) (g : Generate) (owner own line : List ℕ) (len : ℕ) (after : Context)
    → line ≡ g.between.now ++ own → len ≡ g.data_at + length own
    → IfErr r (λ e. FailsZoneRecord before len line e × (after ≡ before))
    → IfErr r (λ e. FailsOrMemory (FailsGeneratedLine before g owner own) e × (after ≡ before))
line_fails (Ok entry) before g owner own line len after same size fails = tt
line_fails (Err error) before g owner own line len after same size fails =
    let here : FailsZoneRecord before (g.data_at + length own) (g.between.now ++ own) error =
    subst (λ (n : ℕ). FailsZoneRecord before n (g.between.now ++ own) error) size
    (subst (λ (text : List ℕ). FailsZoneRecord before len text error) same fails.0) in
    (inl (inr here), fails.1)
