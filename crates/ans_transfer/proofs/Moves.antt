-- Where records lead, one by one and in turn.
use Rattle.std.proofs.Common.{arith, ◌≡◌, ◌≢◌, ◌==◌, ◌&&◌, ◌++◌, ◌⊎◌, inl, inr, ℕ, Bool, true, false, not, if◌then◌else◌, cond, Option, Some, None, Result, Ok, Err, List, [], ◌∷◌, map, refl, sym, ap, ◌∙◌, true≢false}
use Rattle.std.proofs.lemmas.Grind.{common_steps}
use Rattle.std.specs.List.{AllByRecursion}
use Rattle.dns_names_wire.specs.Words.{MessageValue, RecordValue, class_code, is_in, is_same, soa_code, type_code}
use Rattle.ans_transfer.specs.Laws.{all_answers}
use Rattle.ans_transfer.specs.Places.{all_taken, at_other, at_soa, begun, by_place, change_at, changes_from, has_begun, is_over, message_fault, next_place, passed, passed_one, taken}
use Rattle.ans_transfer.specs.Transfers.{AreOthers, IsOther, IsStart, RequestValue, serial_of}
use Rattle.ans_transfer.specs.declared.changes.Change.TheVariants as change
use Rattle.ans_transfer.specs.declared.changes.Changed.{Changed}
use Rattle.ans_transfer.specs.declared.error.TransferError.{TransferError}
use Rattle.ans_transfer.specs.declared.error.TransferError.TheVariants as error
use Rattle.ans_transfer.specs.declared.place.Place.{Place}
use Rattle.ans_transfer.specs.declared.place.Place.TheVariants as place
use Rattle.ans_transfer.specs.declared.request.Kind.{Kind}

-- ---- numbers

pub same_number : (m n : ℕ) → (m == n) ≡ true → m ≡ n
same_number m n h = grind (arith, common_steps)

pub other_number : (m n : ℕ) → (m == n) ≡ false → m ≢ n
other_number m n h = grind (arith, common_steps)

pub number_same : (m n : ℕ) → m ≡ n → (m == n) ≡ true
number_same m n h = by (m == n) refl
  where
    by : (b : Bool) → (m == n) ≡ b → (m == n) ≡ true
    by true e = e
    by false e = absurd (other_number m n e h)

pub number_other : (m n : ℕ) → m ≢ n → (m == n) ≡ false
number_other m n h = by (m == n) refl
  where
    by : (b : Bool) → (m == n) ≡ b → (m == n) ≡ false
    by true e = absurd (h (same_number m n e))
    by false e = e

-- ---- one record

-- A record that leads somewhere is the zone's SOA record, or another one of the zone.
pub data Passes (asked : RequestValue) (p next : Place) (r : RecordValue) : Type 0 where
  start : (serial : ℕ) → IsStart asked serial r → at_soa asked.kind p serial ≡ Ok next → Passes asked p next r
  other : IsOther asked r → at_other p ≡ Ok next → Passes asked p next r

module _ (asked : RequestValue) (p : Place) (r : RecordValue) where
  pub passes : (next : Place) → passed_one asked p r ≡ Ok next → Passes asked p next r
  unfolding passed_one
  passes next h =
      by (class_code r.class == asked.class) (is_in asked.zone r.owner) (type_code r.record_type == soa_code) (is_same r.owner asked.zone) (serial_of r) refl refl refl refl refl
    where
      by : (c i t o : Bool) (s : Option ℕ) → (class_code r.class == asked.class) ≡ c → is_in asked.zone r.owner ≡ i
          → (type_code r.record_type == soa_code) ≡ t → is_same r.owner asked.zone ≡ o → serial_of r ≡ s → Passes asked p next r
      by false i t o s ec ei et eo es = let bad : Err error.OtherClass ≡ Ok next = simp ec at h in absurd cc
      by true false t o s ec ei et eo es = let bad : Err error.OutOfZone ≡ Ok next = simp (ec, ei) at h in absurd cc
      by true true false o s ec ei et eo es =
          other (record { of_class = same_number _ _ ec; in_zone = ei; of_type = other_number _ _ et }) (simp (ec, ei, et) at h)
      by true true true false s ec ei et eo es = let bad : Err error.SoaBelow ≡ Ok next = simp (ec, ei, et, eo) at h in absurd cc
      by true true true true None ec ei et eo es = let bad : Err error.ShortSoa ≡ Ok next = simp (ec, ei, et, eo, es) at h in absurd cc
      by true true true true (Some serial) ec ei et eo es =
          start serial (record { of_class = same_number _ _ ec; in_zone = ei; of_type = same_number _ _ et; at_apex = eo; has_serial = es })
          (simp (ec, ei, et, eo, es) at h)

  pub start_passes : (serial : ℕ) → IsStart asked serial r → passed_one asked p r ≡ at_soa asked.kind p serial
  unfolding passed_one
  start_passes serial is =
      let ec : (class_code r.class == asked.class) ≡ true = number_same _ _ is.of_class in
      let et : (type_code r.record_type == soa_code) ≡ true = number_same _ _ is.of_type in
      simp (ec, is.in_zone, et, is.at_apex, is.has_serial)

  pub other_passes : IsOther asked r → passed_one asked p r ≡ at_other p
  unfolding passed_one
  other_passes is =
      let ec : (class_code r.class == asked.class) ≡ true = number_same _ _ is.of_class in
      let et : (type_code r.record_type == soa_code) ≡ false = number_other _ _ is.of_type in
      simp (ec, is.in_zone, et)

  -- where it leads, and what it does

  pub start_moves : (serial : ℕ) (next : Place) → IsStart asked serial r → at_soa asked.kind p serial ≡ Ok next → next_place asked p r ≡ next
  unfolding next_place
  start_moves serial next is leads =
      let e : passed_one asked p r ≡ Ok next = start_passes serial is ∙ leads in
      rw e refl

  pub other_moves : (next : Place) → IsOther asked r → at_other p ≡ Ok next → next_place asked p r ≡ next
  unfolding next_place
  other_moves next is leads =
      let e : passed_one asked p r ≡ Ok next = other_passes is ∙ leads in
      rw e refl

  pub start_does : (serial : ℕ) → IsStart asked serial r → change_at p r ≡ change.Soa
  unfolding change_at
  start_does serial is = let et : (type_code r.record_type == soa_code) ≡ true = number_same _ _ is.of_type in rw et refl

  pub other_does : IsOther asked r → change_at p r ≡ by_place p
  unfolding change_at
  other_does is = let et : (type_code r.record_type == soa_code) ≡ false = number_other _ _ is.of_type in rw et refl

-- ---- the end

-- A place is where something led.
abbrev pub Leads : Place → Place → Type 0
Leads p q = ◌≡◌ {A = Result Place TransferError} (Ok p) (Ok q)

pub no_end : (p q : Place) → Leads p q → is_over p ≡ false → is_over q ≡ true → ⊥
no_end p q h before after = cc

no_soa_after : (kind : Kind) (p next : Place) (serial : ℕ) → is_over p ≡ true → at_soa kind p serial ≡ Ok next → ⊥
unfolding at_soa
no_soa_after kind place.Start next serial o h = cc
no_soa_after kind (place.Begun new) next serial o h = cc
no_soa_after kind (place.InZone new) next serial o h = cc
no_soa_after kind (place.InDeleted new) next serial o h = cc
no_soa_after kind (place.InAdded new to) next serial o h = cc
no_soa_after kind (place.EndOfZone new) next serial o h = cc
no_soa_after kind (place.EndOfChanges new) next serial o h = cc
no_soa_after kind place.UpToDate next serial o h = cc

no_other_after : (p next : Place) → is_over p ≡ true → at_other p ≡ Ok next → ⊥
unfolding at_other
no_other_after place.Start next o h = cc
no_other_after (place.Begun new) next o h = cc
no_other_after (place.InZone new) next o h = cc
no_other_after (place.InDeleted new) next o h = cc
no_other_after (place.InAdded new to) next o h = cc
no_other_after (place.EndOfZone new) next o h = cc
no_other_after (place.EndOfChanges new) next o h = cc
no_other_after place.UpToDate next o h = cc

none_passes : (asked : RequestValue) (p next : Place) (r : RecordValue) → is_over p ≡ true → Passes asked p next r → ⊥
none_passes asked p next r o (start serial is leads) = no_soa_after asked.kind p next serial o leads
none_passes asked p next r o (other is leads) = no_other_after p next o leads

-- What is over has no more records.
pub none_after : (asked : RequestValue) (p q : Place) (records : List RecordValue) → is_over p ≡ true → passed asked p records ≡ Ok q → records ≡ []
none_after asked p q [] o h = refl
none_after asked p q (r ∷ records) o h = by (passed_one asked p r) refl
  where
    by : (x : Result Place TransferError) → passed_one asked p r ≡ x → r ∷ records ≡ []
    by (Err why) e = let bad : Err why ≡ Ok q = rw (e, passed) at h in absurd cc
    by (Ok next) e = absurd (none_passes asked p next r o (passes asked p r next e))

-- Where it was over, it is.
pub same_after : (asked : RequestValue) (p q : Place) (records : List RecordValue) → is_over p ≡ true → passed asked p records ≡ Ok q → q ≡ p
same_after asked p q records o h = let e : records ≡ [] = none_after asked p q records o h in let ended : Leads p q = rw e at h in cc

-- ---- records in turn

module _ (asked : RequestValue) where
  pub passed_then : (p q : Place) (a b : List RecordValue) → passed asked p a ≡ Ok q → passed asked p (a ++ b) ≡ passed asked q b
  passed_then p q [] b h = cc
  passed_then p q (r ∷ a) b h = by (passed_one asked p r) refl (λ next g. passed_then next q a b g)
    where
      by : (x : Result Place TransferError) → passed_one asked p r ≡ x
          → ((next : Place) → passed asked next a ≡ Ok q → passed asked next (a ++ b) ≡ passed asked q b)
          → passed asked p (r ∷ (a ++ b)) ≡ passed asked q b
      by (Err why) e more = let bad : Err why ≡ Ok q = rw (e, passed) at h in absurd cc
      by (Ok next) e more = rw (e, passed) (more next (rw (e, passed) at h))

  pub all_items : (p : Place) (records : List RecordValue) → map (λ (c : Changed). c.item) (changes_from asked p records) ≡ records
  all_items p [] = refl
  all_items p (r ∷ records) = ap (λ (rs : List RecordValue). r ∷ rs) (all_items (next_place asked p r) records)

  -- ---- messages

  begun_is : (x : Result Place TransferError) (q : Place) → begun x ≡ Ok q → x ≡ Ok q
  begun_is (Err why) q h = h
  begun_is (Ok p) q h = by (has_begun p) refl
    where
      by : (b : Bool) → has_begun p ≡ b → Leads p q
      by true e = rw e at h
      by false e = let bad : Err error.NoSoa ≡ Ok q = rw e at h in absurd cc

  pub taken_passes : (p q : Place) (m : MessageValue) → taken asked p m ≡ Ok q → passed asked p m.answers ≡ Ok q
  unfolding taken
  taken_passes p q m h = by (message_fault asked p m) refl
    where
      by : (x : Option TransferError) → message_fault asked p m ≡ x → passed asked p m.answers ≡ Ok q
      by (Some why) e = let bad : Err why ≡ Ok q = rw e at h in absurd cc
      by None e = begun_is (passed asked p m.answers) q (rw e at h)

  pub splits_dont_matter : (p q : Place) (messages : List MessageValue) → all_taken asked p messages ≡ Ok q → passed asked p (all_answers messages) ≡ Ok q
  splits_dont_matter p q [] h = h
  splits_dont_matter p q (m ∷ messages) h = by (taken asked p m) refl (λ next g. splits_dont_matter next q messages g)
    where
      by : (x : Result Place TransferError) → taken asked p m ≡ x
          → ((next : Place) → all_taken asked next messages ≡ Ok q → passed asked next (all_answers messages) ≡ Ok q)
          → passed asked p (m.answers ++ all_answers messages) ≡ Ok q
      by (Err why) e more = let bad : Err why ≡ Ok q = rw (e, all_taken) at h in absurd cc
      by (Ok next) e more = passed_then p next m.answers (all_answers messages) (taken_passes p next m e) ∙ more next (rw (e, all_taken) at h)
