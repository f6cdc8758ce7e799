-- Records that are enough for a name prove what the zone says of it.
use borrow.Author.Tests.{eqb-true}
use Rattle.std.proofs.Common.{◌≡◌, ◌==◌, ◌&&◌, ◌||◌, ℕ, Bool, true, false, true≢false, not, if◌then◌else◌, ◌⊎◌, nat_le, unwrap_or, List, [], ◌∷◌, length, Option, None, Some, refl, sym, ap, ◌∙◌, subst, inl, inr}
use Rattle.std.proofs.lemmas.Bool.{and_from, and_right, cases_Bool, cond_both, false_from_ne_true}
use Rattle.std.specs.List.{AllByRecursion, list_any}
use Rattle.std.specs.Option.{option_or}
use Rattle.dns_names_wire.specs.Words.{KeysCompare, RecordValue, ZonesBegin, any_code, cname_code, dname_code, ds_code, is_in, is_same, nsec_code, rrsig_code, soa_code, wildcard}
use Rattle.ans_store.proofs.Names.{lower_if_same}
use Rattle.ans_store.specs.Zones.{IsZone, ZoneValue, have_type, name_exists, owned_by}
use Rattle.ans_answer.proofs.Asked.{asked_by_type}
use Rattle.ans_answer.proofs.Down.{if_not_false, itself_sent}
use Rattle.ans_answer.specs.Outcomes.{ZoneOutcome, Exact, Outside, Redirect, Referral, Synthesised, by_wildcard, encloser, is_delegation, is_sent, is_wanted, itself, kind, outcome, sent_above, sent_at, source}
use Rattle.ans_answer.specs.Outcomes.{NoName as NoSuchName}
use Rattle.ans_answer.specs.declared.kind.Kind.{Kind}
use Rattle.ans_answer.specs.declared.kind.Kind.TheVariants.{Alias, Records}
use Rattle.ans_answer.specs.declared.kind.Kind.TheVariants.{NoData as NoRecords}
use Rattle.ans_denial.specs.Chains.{IsChain, IsOfChain, is_due, is_type_listed}
use Rattle.ans_denial.specs.Completeness.{AreEnough, ChainsAreEnough, DenialsAreComplete, DeniesWhatIsSaid, IsDeniable, IsSaidHere, speaks_of}
use Rattle.ans_denial.specs.Denials.{concluded, denied_by, denied_by_types, denied_by_wildcard, denies, is_present}
use Rattle.ans_denial.specs.Nsecs.{Empty, Existence, Missing, NsecValue, Owns, Unknown, closest, covered, covers, existence, is_of_delegation, lists, said_by, sends_below}
use Rattle.ans_denial.specs.declared.denial.Denial.{Denial}
use Rattle.ans_denial.specs.declared.denial.Denial.TheVariants.{Insecure, NoData, NoName, NoWildcardData}
use Rattle.ans_denial.proofs.Covering.{AreTypesOf, due_elsewhere, of_delegation, soa_not_due}
use Rattle.ans_denial.proofs.Holding.{Holds, IsMissing, IsOwner, due_alike, existence_holds}
use Rattle.ans_denial.proofs.Sending.{not_delegation}
use Rattle.ans_denial.proofs.Sound.{is_cut, kept, missing_is, no_wild, outcome_is, there_is, wild_is}
use Rattle.ans_denial.proofs.Speaking.{chain_enough, speaks, wild_free}

-- ---- what is said of a name of which a record speaks

-- These types are listed, and no others.
abbrev pub ListsTypesOf : ZoneValue → List (List ℕ) → List ℕ → Type 0
ListsTypesOf zone name types = (code : ℕ) → lists types code ≡ is_type_listed zone name code

abbrev pub IsKnown : ZoneValue → List (List ℕ) → Existence → Type 0
IsKnown zone name (Unknown reason) = ⊥
IsKnown zone name (Owns types) = ListsTypesOf zone name types
IsKnown zone name Empty = Unit {0}
IsKnown zone name (Missing above) = Unit {0}

types_listed : (zone : ZoneValue) (nsec : NsecValue) (name : List (List ℕ)) → IsOfChain zone nsec → is_same nsec.owner name ≡ true
    → ListsTypesOf zone name nsec.types
unfolding is_type_listed
types_listed zone nsec name link same code =
    link.types code ∙ ap (λ b. b || (code == nsec_code || code == rrsig_code)) (due_alike zone nsec.owner name code (lower_if_same nsec.owner name same))

later : (a b c : Bool) → ((a || b) || c) ≡ true → a ≡ false → b ≡ false → c ≡ true
later a b c h first second = rw (first, second) at h

module _ (compare : KeysCompare) (begin : ZonesBegin) (zone : ZoneValue) (ok : IsZone zone) where
  covered_known : (nsec : NsecValue) (name : List (List ℕ)) → IsOfChain zone nsec → covers nsec name ≡ true → sent_above zone name ≡ None
      → IsKnown zone name (covered nsec name)
  unfolding covered
  covered_known nsec name link cov free =
      rw (speaks compare begin zone ok nsec name link cov free)
      (cond_both (is_in name nsec.next) Empty (Missing (closest nsec name)) (IsKnown zone name) (λ _. tt) (λ _. tt))

  known : (nsecs : List NsecValue) (name : List (List ℕ)) → AllByRecursion (IsOfChain zone) nsecs → sent_above zone name ≡ None
      → list_any (speaks_of name) nsecs ≡ true → IsKnown zone name (existence nsecs name)
  unfolding existence said_by speaks_of
  known [] name all free h = absurd (true≢false (sym h))
  known (nsec ∷ nsecs) name (link, all) free h = elim (cases_Bool (is_same nsec.owner name)) [
    | inl same ↦ rw same (types_listed zone nsec name link same)
    | inr other ↦ elim (cases_Bool (covers nsec name)) [
      | inl cov ↦ rw (other, cov) (covered_known nsec name link cov free)
      | inr none ↦ rw (other, none) (known nsecs name all free (later (is_same nsec.owner name) (covers nsec name) _ h other none))
    ]
  ]

-- ---- types that are not there

parts_of : (a b : Bool) → (if a then Records else if b then Alias else NoRecords) ≡ NoRecords → (a ≡ false) × (b ≡ false)
parts_of true b h = cc
parts_of false true h = cc
parts_of false false h = (refl, refl)

kind_parts : (records : List RecordValue) (code : ℕ) → kind records code ≡ NoRecords
    → (list_any (is_wanted code) records ≡ false) × (have_type cname_code records ≡ false)
unfolding kind
kind_parts records code h = parts_of (list_any (is_wanted code) records) (have_type cname_code records) h

module _ (zone : ZoneValue) (name : List (List ℕ)) (types : List ℕ) (listed : ListsTypesOf zone name types) where
  module _ (code : ℕ) (may : IsDeniable zone name code) (none : kind (owned_by name zone.records) code ≡ NoRecords) where
    type_gone : have_type code (owned_by name zone.records) ≡ false
    type_gone = asked_by_type code (owned_by name zone.records) may.not_any ∙ (kind_parts (owned_by name zone.records) code none).0

    alias_gone : have_type cname_code (owned_by name zone.records) ≡ false
    alias_gone = (kind_parts (owned_by name zone.records) code none).1

    not_due : (other : ℕ) → have_type other (owned_by name zone.records) ≡ false → is_due zone name other ≡ false
    unfolding is_due
    not_due other gone = rw gone refl

    not_listed : (other : ℕ) → have_type other (owned_by name zone.records) ≡ false → (other == nsec_code || other == rrsig_code) ≡ false → lists types other ≡ false
    unfolding is_type_listed
    not_listed other gone own = listed other ∙ rw (not_due other gone, own) refl

    not_present : is_present types code ≡ false
    unfolding is_present
    not_present = rw (may.not_any, not_listed code type_gone may.not_own, not_listed cname_code alias_gone refl) refl

  not_of_cut : IsZone zone → AreTypesOf zone name types → is_delegation zone name ≡ false → is_of_delegation types ≡ false
  not_of_cut ok are other = false_from_ne_true (is_of_delegation types) (λ cut. true≢false (sym (is_cut zone name types ok are cut) ∙ other))

  -- SOA is listed if it is there.
  soa_listed : is_delegation zone name ≡ false → lists types soa_code ≡ have_type soa_code (owned_by name zone.records)
  unfolding is_type_listed
  soa_listed other = listed soa_code ∙ (no_more (is_due zone name soa_code) ∙ due_elsewhere zone name soa_code other)
    where
      no_more : (b : Bool) → (b || false) ≡ b
      no_more true = refl
      no_more false = refl

  denied_here : (code : ℕ) → IsZone zone → AreTypesOf zone name types → is_delegation zone name ≡ false → IsDeniable zone name code
      → kind (owned_by name zone.records) code ≡ NoRecords → denied_by_types types code ≡ NoData
  unfolding denied_by_types
  denied_here code ok are other may none =
      let cut = not_of_cut ok are other in
      rw (cut, ap (λ b. b && code == ds_code) (soa_listed other) ∙ may.not_apex, not_present code may none) refl

  denied_at_cut : (code : ℕ) → AreTypesOf zone name types → is_delegation zone name ≡ true → is_sent zone name code ≡ false → IsDeniable zone name code
      → kind (owned_by name zone.records) code ≡ NoRecords → denied_by_types types code ≡ Insecure
  unfolding denied_by_types is_sent
  denied_at_cut code are cut stays may none =
      let soa : lists types soa_code ≡ false = are.only_soa ∙ soa_not_due zone name cut in
      let asked : not (code == ds_code) ≡ false = sym (ap (λ b. b && not (code == ds_code)) cut) ∙ stays in
      rw (of_delegation zone name types are cut, asked, soa, not_present code may none) refl

-- ---- what is proved

module _ (zone : ZoneValue) (ok : IsZone zone) (look : List (List ℕ) → Existence) (name : List (List ℕ)) (code : ℕ) (inside : is_in zone.apex name ≡ true) where
  owner_denied : (types : List ℕ) → IsOwner zone name types → ListsTypesOf zone name types → IsDeniable zone name code
      → DeniesWhatIsSaid zone name code (outcome zone name code) (denied_by_types types code)
  owner_denied types owner listed may = elim (cases_Bool (is_sent zone name code)) [
    | inl sent ↦
        let away = outcome_is zone name code inside owner.not_sent ∙ sym (itself_sent zone name code (owned_by name zone.records) sent refl) in
        subst (λ o. DeniesWhatIsSaid zone name code o (denied_by_types types code)) (sym away) tt
    | inr stays ↦
        subst (λ o. DeniesWhatIsSaid zone name code o (denied_by_types types code)) (sym (there_is zone name code inside owner.not_sent stays owner.there))
        (λ none. elim (cases_Bool (is_delegation zone name)) [
          | inl cut ↦ rw cut (denied_at_cut zone name types listed code owner.are cut stays may none)
          | inr other ↦ rw other (denied_here zone name types listed code ok owner.are other may none)
        ])
  ]

  wild_denied : (wild : List (List ℕ)) (e : Existence) → wild ≡ source zone name → outcome zone name code ≡ by_wildcard zone wild → Holds zone wild e
      → IsKnown zone wild e → IsDeniable zone wild code → DeniesWhatIsSaid zone name code (outcome zone name code) (denied_by_wildcard e code)
  unfolding denied_by_wildcard
  wild_denied wild (Unknown reason) is by holds e may = absurd e
  wild_denied wild Empty is by holds sure may =
      subst (λ o. DeniesWhatIsSaid zone name code o NoWildcardData) (sym (wild_is zone name wild code by holds.there)) (λ _ _. refl)
  wild_denied wild (Missing above) is by holds sure may =
      subst (λ o. DeniesWhatIsSaid zone name code o NoName) (sym (no_wild zone name wild code by holds.gone)) refl
  wild_denied wild (Owns types) is by holds sure may =
      subst (λ o. DeniesWhatIsSaid zone name code o (denied_by_wildcard (Owns types) code)) (sym (wild_is zone name wild code by holds.there))
      (λ none apart.
      let other : is_delegation zone wild ≡ false = ap (is_delegation zone) is ∙ apart in
      rw (not_of_cut zone wild types sure ok holds.are other, not_present zone wild types sure code may none) refl)

  denied : (e : Existence) → Holds zone name e → IsKnown zone name e → IsDeniable zone name code → IsDeniable zone (source zone name) code
      → ((above : List (List ℕ)) → IsMissing zone name above → (wildcard ∷ above ≡ source zone name) × Holds zone (wildcard ∷ above) (look (wildcard ∷ above))
      × IsKnown zone (wildcard ∷ above) (look (wildcard ∷ above)))
      → DeniesWhatIsSaid zone name code (outcome zone name code) (concluded look e code)
  unfolding concluded
  denied (Unknown reason) holds known may wild_may wild = absurd known
  denied (Owns types) holds known may wild_may wild = owner_denied types holds known may
  denied Empty holds known may wild_may wild =
      let other = not_delegation zone name holds.owned in
      subst (λ o. DeniesWhatIsSaid zone name code o NoData) (sym (there_is zone name code inside holds.not_sent (kept zone name code other) holds.there))
      (λ none. rw other refl)
  denied (Missing above) holds known may wild_may wild =
      let (is, wild_holds, wild_known) = wild above holds in
      wild_denied (wildcard ∷ above) (look (wildcard ∷ above)) is (missing_is zone name above code inside holds) wild_holds wild_known
      (subst (λ (n : List (List ℕ)). IsDeniable zone n code) (sym is) wild_may)

  pub denied_all : Holds zone name (look name) → IsKnown zone name (look name) → IsDeniable zone name code → IsDeniable zone (source zone name) code
      → ((above : List (List ℕ)) → IsMissing zone name above → (wildcard ∷ above ≡ source zone name) × Holds zone (wildcard ∷ above) (look (wildcard ∷ above))
      × IsKnown zone (wildcard ∷ above) (look (wildcard ∷ above)))
      → DeniesWhatIsSaid zone name code (outcome zone name code) (denied_by look name code zone.apex)
  unfolding denied_by
  denied_all holds known may wild_may wild = rw inside (denied (look name) holds known may wild_may wild)

source_of : (zone : ZoneValue) (name above : List (List ℕ)) → encloser zone name ≡ above → wildcard ∷ above ≡ source zone name
unfolding source
source_of zone name above is = ap (λ (n : List (List ℕ)). wildcard ∷ n) (sym is)

-- ---- what the zone itself says

given : (b : Bool) (z : Option ZoneOutcome) (o : ZoneOutcome) → (if b then z else None) ≡ Some o → z ≡ Some o
given true z o h = h
given false z o h = cc

either : (x y : Option ZoneOutcome) (o : ZoneOutcome) → option_or x y ≡ Some o → (x ≡ Some o) ⊎ (y ≡ Some o)
either (Some p) y o h = inl h
either None y o h = inr h

module _ (zone : ZoneValue) (P : ZoneOutcome → Type 0) (at_cut : (rs : List RecordValue) → P (Referral rs)) (at_dname : (rs : List RecordValue) → P (Redirect rs)) where
  at_one : (a b : Bool) (rs : List RecordValue) (o : ZoneOutcome) → (if a then Some (Referral rs) else if b then Some (Redirect rs) else None) ≡ Some o → P o
  at_one true b rs o h = let same : Referral rs ≡ o = cc in subst P same (at_cut rs)
  at_one false true rs o h = let same : Redirect rs ≡ o = cc in subst P same (at_dname rs)
  at_one false false rs o h = cc

  -- A name is sent away by a delegation or a DNAME record.
  by_sender : (name : List (List ℕ)) (o : ZoneOutcome) → sent_above zone name ≡ Some o → P o
  unfolding sent_above sent_at
  by_sender [] o h = cc
  by_sender (label ∷ above) o h = elim (either (sent_above zone above) (sent_at zone above) o (given (nat_le (length zone.apex) (length above)) _ o h)) [
    | inl higher ↦ by_sender above o higher
    | inr there ↦ at_one (is_delegation zone above) (have_type dname_code (owned_by above zone.records)) (owned_by above zone.records) o there
  ]

  -- What the zone says of a name, if it is not in the zone, is sent away, or neither.
  by_place : (name : List (List ℕ)) (code : ℕ) → P Outside
      → (is_in zone.apex name ≡ true → sent_above zone name ≡ None → P (outcome zone name code)) → P (outcome zone name code)
  unfolding outcome
  by_place name code outside here = elim (cases_Bool (is_in zone.apex name)) [
    | inr apart ↦ rw apart outside
    | inl inside ↦ sent (sent_above zone name) refl inside
  ]
    where
      sent : (s : Option ZoneOutcome) → sent_above zone name ≡ s → is_in zone.apex name ≡ true
          → P (if is_in zone.apex name then unwrap_or (sent_above zone name) (itself zone name code) else Outside)
      sent None is inside = here inside is
      sent (Some o) is inside = rw (inside, is) (by_sender name o is)

pub chains_enough : KeysCompare → ZonesBegin → ChainsAreEnough
chains_enough compare begin zone nsecs name code ok chain here =
    by_place zone (λ o. IsSaidHere o → AreEnough zone nsecs name) (λ _ none. absurd none) (λ _ none. absurd none) name code (λ none. absurd none)
    (λ inside free _. chain_enough compare begin zone nsecs name ok chain inside free) here

module _ (compare : KeysCompare) (begin : ZonesBegin) (zone : ZoneValue) (nsecs : List NsecValue) (name : List (List ℕ)) (code : ℕ) (ok : IsZone zone)
    (enough : AreEnough zone nsecs name) (may : IsDeniable zone name code) (wild_may : IsDeniable zone (source zone name) code) where
  wild_known : sent_above zone name ≡ None → (above : List (List ℕ)) → IsMissing zone name above → wildcard ∷ above ≡ source zone name
      → IsKnown zone (wildcard ∷ above) (existence nsecs (wildcard ∷ above))
  wild_known free above missing is =
      known compare begin zone ok nsecs (wildcard ∷ above) enough.each
      (subst (λ (n : List (List ℕ)). sent_above zone (wildcard ∷ n) ≡ None) missing.above (wild_free compare begin zone ok name free missing.gone))
      (subst (λ (n : List (List ℕ)). list_any (speaks_of n) nsecs ≡ true) (sym is) (enough.wild missing.gone))

  denied_within : is_in zone.apex name ≡ true → sent_above zone name ≡ None
      → DeniesWhatIsSaid zone name code (outcome zone name code) (denies nsecs name code zone.apex)
  denied_within inside free =
      denied_all zone ok (existence nsecs) name code inside (existence_holds compare begin zone ok nsecs name enough.each)
      (known compare begin zone ok nsecs name enough.each free enough.own) may wild_may
      (λ (above : List (List ℕ)) (missing : IsMissing zone name above).
      let is = source_of zone name above missing.above in
      (is, existence_holds compare begin zone ok nsecs (wildcard ∷ above) enough.each, wild_known free above missing is))

pub denials_complete : KeysCompare → ZonesBegin → DenialsAreComplete
denials_complete compare begin zone nsecs name code ok enough may wild_may =
    by_place zone (λ o. DeniesWhatIsSaid zone name code o (denies nsecs name code zone.apex)) (λ _. tt) (λ _. tt) name code tt
    (denied_within compare begin zone nsecs name code ok enough may wild_may)
