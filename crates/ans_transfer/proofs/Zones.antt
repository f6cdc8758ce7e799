-- Transfers of whole zones.
use Rattle.std.proofs.Common.{◌≡◌, ◌==◌, ◌++◌, ◌⊎◌, inl, inr, ℕ, Bool, true, false, Result, Ok, Err, List, [], ◌∷◌, refl, sym, ap, ◌∙◌, subst}
use Rattle.dns_names_wire.specs.Words.{RecordValue}
use Rattle.ans_transfer.specs.Places.{after_first, after_second, at_other, at_soa, is_over, passed, passed_one}
use Rattle.ans_transfer.specs.Transfers.{AreOthers, IsOther, IsStart, IsWholeZone, RequestValue}
use Rattle.ans_transfer.specs.declared.error.TransferError.{TransferError}
use Rattle.ans_transfer.specs.declared.error.TransferError.TheVariants as error
use Rattle.ans_transfer.specs.declared.place.Place.{Place}
use Rattle.ans_transfer.specs.declared.place.Place.TheVariants as place
use Rattle.ans_transfer.specs.declared.request.Kind.{Kind}
use Rattle.ans_transfer.specs.declared.request.Kind.TheVariants.{Axfr, Ixfr}
use Rattle.ans_transfer.proofs.Moves.{Leads, Passes, no_end, none_after, number_same, other, other_passes, passes, same_after, same_number, start, start_passes}

module _ (asked : RequestValue) where
  -- ---- what came is a whole zone

  -- The rest of a whole zone, after which the transfer is over.
  pub record ZoneRest (n : ℕ) (q : Place) (records : List RecordValue) : Type 0 where
    pub others : List RecordValue
    pub last : RecordValue
    pub zone : AreOthers asked others
    pub ends : IsStart asked n last
    pub are : records ≡ others ++ last ∷ []
    pub is : q ≡ place.EndOfZone n

  in_zone_next : (n : ℕ) (next : Place) (r : RecordValue) → Passes asked (place.InZone n) next r
      → ((next ≡ place.EndOfZone n) × IsStart asked n r) ⊎ ((next ≡ place.InZone n) × IsOther asked r)
  unfolding at_soa at_other
  in_zone_next n next r (start serial is leads) = by (serial == n) refl
    where
      by : (b : Bool) → (serial == n) ≡ b → ((next ≡ place.EndOfZone n) × IsStart asked n r) ⊎ ((next ≡ place.InZone n) × IsOther asked r)
      by true e =
          let to : Leads (place.EndOfZone n) next = rw e at leads in
          let same : serial ≡ n = same_number serial n e in
          inl ((cc), subst (λ (s : ℕ). IsStart asked s r) same is)
      by false e = let bad : Err error.OtherSerial ≡ Ok next = rw e at leads in absurd cc
  in_zone_next n next r (other is leads) = inr ((cc), is)

  pub zone_ends : (n : ℕ) (q : Place) (r : RecordValue) (records : List RecordValue) → IsStart asked n r
      → passed asked (place.EndOfZone n) records ≡ Ok q → ZoneRest n q (r ∷ records)
  zone_ends n q r records is h = record {
    others = [];
    last = r;
    zone = tt;
    ends = is;
    are = ap (λ (rs : List RecordValue). r ∷ rs) (none_after asked (place.EndOfZone n) q records refl h);
    is = same_after asked (place.EndOfZone n) q records refl h;
  }

  pub zone_goes_on : (n : ℕ) (q : Place) (r : RecordValue) (records : List RecordValue) → IsOther asked r → ZoneRest n q records → ZoneRest n q (r ∷ records)
  zone_goes_on n q r records is rest = record {
    others = r ∷ rest.others;
    last = rest.last;
    zone = (is, rest.zone);
    ends = rest.ends;
    are = ap (λ (rs : List RecordValue). r ∷ rs) rest.are;
    is = rest.is;
  }

  pub zone_rest : (n : ℕ) (q : Place) (records : List RecordValue) → is_over q ≡ true → passed asked (place.InZone n) records ≡ Ok q → ZoneRest n q records
  zone_rest n q [] o h = absurd (no_end (place.InZone n) q h refl o)
  zone_rest n q (r ∷ records) o h = by (passed_one asked (place.InZone n) r) refl (λ g. zone_rest n q records o g)
    where
      on : (next : Place) → passed asked next records ≡ Ok q → (passed asked (place.InZone n) records ≡ Ok q → ZoneRest n q records)
          → ((next ≡ place.EndOfZone n) × IsStart asked n r) ⊎ ((next ≡ place.InZone n) × IsOther asked r) → ZoneRest n q (r ∷ records)
      on next g more (inl (same, is)) = zone_ends n q r records is (rw same at g)
      on next g more (inr (same, is)) = zone_goes_on n q r records is (more (rw same at g))

      by : (x : Result Place TransferError) → passed_one asked (place.InZone n) r ≡ x
          → (passed asked (place.InZone n) records ≡ Ok q → ZoneRest n q records) → ZoneRest n q (r ∷ records)
      by (Err why) e more = let bad : Err why ≡ Ok q = rw (e, passed) at h in absurd cc
      by (Ok next) e more = on next (rw (e, passed) at h) more (in_zone_next n next r (passes asked (place.InZone n) r next e))

  -- ---- a whole zone comes

  pub others_pass : (p : Place) (others records : List RecordValue) → at_other p ≡ Ok p → AreOthers asked others → passed asked p (others ++ records) ≡ passed asked p records
  others_pass p [] records stays are = refl
  others_pass p (r ∷ others) records stays (is, are) =
      let e : passed_one asked p r ≡ Ok p = other_passes asked p r is ∙ stays in
      rw (e, passed) (others_pass p others records stays are)

  pub start_leads : (p next : Place) (serial : ℕ) (r : RecordValue) (records : List RecordValue) → IsStart asked serial r
      → at_soa asked.kind p serial ≡ Ok next → passed asked p (r ∷ records) ≡ passed asked next records
  start_leads p next serial r records is leads =
      let e : passed_one asked p r ≡ Ok next = start_passes asked p r serial is ∙ leads in
      rw (e, passed) refl

  pub zone_leads : (n : ℕ) → at_soa asked.kind (place.InZone n) n ≡ Ok (place.EndOfZone n)
  unfolding at_soa
  zone_leads n = let e : (n == n) ≡ true = number_same n n refl in rw e refl

  pub second_leads : (kind : Kind) (n : ℕ) → after_second kind n n ≡ Ok (place.EndOfZone n)
  unfolding after_second
  second_leads Axfr n = let e : (n == n) ≡ true = number_same n n refl in rw e refl
  second_leads (Ixfr own) n = let e : (n == n) ≡ true = number_same n n refl in rw e refl

  pub begun_leads : (n : ℕ) → at_soa asked.kind (place.Begun n) n ≡ Ok (place.EndOfZone n)
  unfolding at_soa
  begun_leads n = second_leads asked.kind n

  pub begun_other : (n : ℕ) → at_other (place.Begun n) ≡ Ok (place.InZone n)
  unfolding at_other
  begun_other n = refl

  other_begins : (n : ℕ) (r : RecordValue) (records : List RecordValue) → IsOther asked r → passed asked (place.Begun n) (r ∷ records) ≡ passed asked (place.InZone n) records
  other_begins n r records is =
      let e : passed_one asked (place.Begun n) r ≡ Ok (place.InZone n) = other_passes asked (place.Begun n) r is ∙ begun_other n in
      rw (e, passed) refl

  pub other_stays : (n : ℕ) → at_other (place.InZone n) ≡ Ok (place.InZone n)
  unfolding at_other
  other_stays n = refl

  rest_comes : (n : ℕ) (others : List RecordValue) (last : RecordValue) → AreOthers asked others → IsStart asked n last
      → passed asked (place.Begun n) (others ++ last ∷ []) ≡ Ok (place.EndOfZone n)
  rest_comes n [] last are ends = start_leads (place.Begun n) (place.EndOfZone n) n last [] ends (begun_leads n)
  rest_comes n (r ∷ others) last (is, are) ends =
      other_begins n r (others ++ last ∷ []) is
      ∙ (others_pass (place.InZone n) others (last ∷ []) (other_stays n) are
      ∙ start_leads (place.InZone n) (place.EndOfZone n) n last [] ends (zone_leads n))

  pub first_leads : (n : ℕ) → after_first asked.kind n ≡ place.Begun n → at_soa asked.kind place.Start n ≡ Ok (place.Begun n)
  unfolding at_soa
  first_leads n h = rw h refl

  pub zones_end : (n : ℕ) (records : List RecordValue) → after_first asked.kind n ≡ place.Begun n → IsWholeZone asked n records
      → passed asked place.Start records ≡ Ok (place.EndOfZone n)
  zones_end n records begins is =
      ap (passed asked place.Start) is.are
      ∙ (start_leads place.Start (place.Begun n) n is.first (is.others ++ is.last ∷ []) is.starts (first_leads n begins)
      ∙ rest_comes n is.others is.last is.zone is.ends)
