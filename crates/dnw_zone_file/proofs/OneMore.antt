-- An entry after the first ones of a text is one more.
use Rattle.std.proofs.Common.{◌≡◌, ℕ, zero, suc, List, [], ◌++◌, drop, refl, sym, ap, ◌∙◌, subst, append_assoc, append-nil}
use Rattle.dnw_zone_file.specs.declared.context.Context.{Context}
use Rattle.dnw_zone_file.specs.declared.entry.Entry.{Entry}
use Rattle.dnw_zone_file.specs.declared.zone_text.OwnedRecord.{OwnedRecord}
use Rattle.dnw_zone_file.specs.ZoneTexts.{BeginsWithRecords, IsOfText, TakesEntry, records_of_entry}

pub one_more : (n : ℕ) (first before after : Context) (text left : List ℕ) (records : List OwnedRecord) (entry : Entry) (used : ℕ)
    → BeginsWithRecords n first text records left before → TakesEntry before left entry used after → IsOfText entry
    → BeginsWithRecords (suc n) first text (records ++ records_of_entry entry after.owner) (drop used left) after
one_more zero first before after text left records entry used (none, whole, same) takes is =
    let at : TakesEntry first text entry used after =
    subst (λ (c : Context). TakesEntry c text entry used after) same (subst (λ (t : List ℕ). TakesEntry before t entry used after) whole takes) in
    (entry, used, after, [], at, is, (refl, ap (drop used) whole, refl), ap (λ rs. rs ++ records_of_entry entry after.owner) none ∙ sym (append-nil (records_of_entry entry after.owner)))
one_more (suc n) first before after text left records entry used (one, size, between, others, takes_one, is_one, more, e) takes is =
    let on = one_more n between before after (drop size text) left others entry used more takes is in (
      one,
      size,
      between,
      others ++ records_of_entry entry after.owner,
      takes_one,
      is_one,
      on,
      ap (λ rs. rs ++ records_of_entry entry after.owner) e ∙ append_assoc (records_of_entry one between.owner) others (records_of_entry entry after.owner),
    )

pub next_records : (n : ℕ) (first before after : Context) (text left rest : List ℕ) (records more : List OwnedRecord) (entry : Entry) (used : ℕ)
    → BeginsWithRecords n first text records left before → TakesEntry before left entry used after → IsOfText entry
    → more ≡ records ++ records_of_entry entry after.owner → rest ≡ drop used left → BeginsWithRecords (suc n) first text more rest after
next_records n first before after text left rest records more entry used so_far takes is e left_is =
    subst (λ (rs : List OwnedRecord). BeginsWithRecords (suc n) first text rs rest after) (sym e)
    (subst (λ (t : List ℕ). BeginsWithRecords (suc n) first text (records ++ records_of_entry entry after.owner) t after) (sym left_is)
    (one_more n first before after text left records entry used so_far takes is))
