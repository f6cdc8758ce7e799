-- What follows from the definition of meanings.
use Rattle.std.specs.Prelude.{if◌then◌else◌, option_and_then}
use Rattle.std.proofs.Common.{◌≡◌, min, ◌<◌, ◌-◌, arith, ◌==◌, ◌&&◌, ℕ, zero, suc, Bool, true, false, not, List, [], ◌∷◌, Option, Some, None, Result, Ok, Err, find, refl, sym, ap, ◌∙◌, subst, inl, inr, true≢false}
use Rattle.dns_names_wire.specs.Words.{MessageValue, RecordValue, is_in, is_same, class_code, ns_code, soa_code}
use Rattle.ans_response.specs.Counted.{AskedValue, Seen, Targets, counted_records, counts, record_seen}
use Rattle.ans_response.specs.Laws.{DataAreThere, MissingNamesHaveNoData, NoDataAreThere, OthersChangeNothing, ReferralsLeadDown, ZonesDenyTheirNames}
use Rattle.ans_response.specs.Meanings.{Alias, Data, Heard, Lame, Means, Meant, NegativeValue, NoAnswer, NoData, NoName, On, Referral, NameStep, at_last_name, by_alias, by_checked, by_class, by_delegation, by_negative, by_next, asked_by, class_asked, whole_code, failed, first, has_data, heard_of, is_strictly_below, is_error_code, is_query, is_sought_at, meaning, meant_by, negative, negative_of, next_name, on_or_out, step, unsaid, without_soa}
use Rattle.ans_response.specs.declared.reason.Reason.{Reason}
use Rattle.ans_response.specs.declared.reason.Reason.TheVariants as reason
use Rattle.ans_response.specs.declared.sought.Sought.TheVariants as sought

-- A zone that says that there is nothing is in the one that was asked, and the name is in it.
abbrev IsOfZone : AskedValue → List (List ℕ) → Option NegativeValue → Type 0
IsOfZone asked name None = Unit {0}
IsOfZone asked name (Some said) = (is_in asked.zone said.zone ≡ true) × (is_in said.zone name ≡ true)

-- What is said of a name agrees with its data, and a referral leads down.
abbrev IsFair : AskedValue → Heard → Meant → Type 0
IsFair asked heard (NoAnswer why) = Unit {0}
IsFair asked heard (Data name) = has_data asked heard.answers name ≡ true
IsFair asked heard (NoData name said) = (has_data asked heard.answers name ≡ false) × IsOfZone asked name said
IsFair asked heard (NoName name said) = (has_data asked heard.answers name ≡ false) × IsOfZone asked name said
IsFair asked heard (Referral cut) = is_strictly_below asked.zone cut ≡ true
IsFair asked heard (Alias name) = Unit {0}
IsFair asked heard Lame = Unit {0}

abbrev IsFairStep : AskedValue → Heard → NameStep → Type 0
IsFairStep asked heard (Means meant) = IsFair asked heard meant
IsFairStep asked heard (On name) = Unit {0}

first_true : (a b : Bool) → (a && b) ≡ true → a ≡ true
first_true true b h = refl
first_true false b h = h

second_true : (a b : Bool) → (a && b) ≡ true → b ≡ true
second_true true b h = h
second_true false b h = absurd (true≢false (sym h))

found_is : (p : Seen → Bool) (xs : List Seen) (s : Seen) → find p xs ≡ Some s → p s ≡ true
found_is p [] s h = cc
found_is p (x ∷ xs) s h = by (p x) refl (λ g. found_is p xs s g)
  where
    by : (b : Bool) → p x ≡ b → (find p xs ≡ Some s → p s ≡ true) → p s ≡ true
    by true met more = let same : x ≡ s = cc (rw met at h) in subst (λ (y : Seen). p y ≡ true) same met
    by false unmet more = more (rw unmet at h)

-- What is found among the records that count is in the zone.
counted_in : (target : Targets) (asked : AskedValue) (records : List RecordValue) (p : Seen → Bool) (s : Seen)
    → find p (counted_records target asked records) ≡ Some s → is_in asked.zone s.owner ≡ true
unfolding counted_records
counted_in target asked [] p s h = cc
counted_in target asked (r ∷ records) p s h = by (counts asked r) refl (λ g. counted_in target asked records p s g)
  where
    by : (b : Bool) → counts asked r ≡ b → (find p (counted_records target asked records) ≡ Some s → is_in asked.zone s.owner ≡ true) → is_in asked.zone s.owner ≡ true
    by true met more = first (p (record_seen target r)) refl (rw met at h)
      where
        first : (b : Bool) → p (record_seen target r) ≡ b → find p (record_seen target r ∷ counted_records target asked records) ≡ Some s → is_in asked.zone s.owner ≡ true
        first true fits g =
            let same : record_seen target r ≡ s = cc (rw fits at g) in
            subst (λ (x : Seen). is_in asked.zone x.owner ≡ true) same (first_true (is_in asked.zone r.owner) (class_code r.class == asked.class) met)
        first false misses g = more (rw misses at g)
    by false unmet more = more (rw unmet at h)

negative_in : (asked : AskedValue) (records : List Seen) (name : List (List ℕ)) → ((p : Seen → Bool) (s : Seen) → find p records ≡ Some s → is_in asked.zone s.owner ≡ true)
    → IsOfZone asked name (negative asked records name)
unfolding negative first is_sought_at
negative_in asked records name all = by (first asked name sought.Start records) refl
  where
    by : (x : Option Seen) → first asked name sought.Start records ≡ x → IsOfZone asked name (option_and_then (λ soa. negative_of soa soa.minimum) x)
    by None h = tt
    by (Some soa) h = at soa.minimum
      where
        at : (minimum : Option ℕ) → IsOfZone asked name (negative_of soa minimum)
        at None = tt
        at (Some least) = (
          all (λ s. is_sought_at asked name sought.Start s.owner s.code) soa h,
          second_true (soa.code == soa_code) (is_in soa.owner name) (found_is (λ s. is_sought_at asked name sought.Start s.owner s.code) records soa h),
        )

module _ (asked : AskedValue) (heard : Heard) (all : (p : Seen → Bool) (s : Seen) → find p heard.authorities ≡ Some s → is_in asked.zone s.owner ≡ true) where
  cut_below : (name : List (List ℕ)) (ns : Seen) → first asked name sought.Delegation heard.authorities ≡ Some ns → is_strictly_below asked.zone ns.owner ≡ true
  unfolding first is_sought_at
  cut_below name ns h =
      first_true (is_strictly_below asked.zone ns.owner) (is_in ns.owner name)
      (second_true (ns.code == ns_code) (is_strictly_below asked.zone ns.owner && is_in ns.owner name)
      (found_is (λ s. is_sought_at asked name sought.Delegation s.owner s.code) heard.authorities ns h))

  fair_unsaid : (a b : Bool) (name : List (List ℕ)) → has_data asked heard.answers name ≡ false → IsFair asked heard (unsaid a b name)
  fair_unsaid true b name h = tt
  fair_unsaid false true name h = (h, tt)
  fair_unsaid false false name h = tt

  fair_cut : (a b : Bool) (name : List (List ℕ)) (ns : Seen) → has_data asked heard.answers name ≡ false → is_strictly_below asked.zone ns.owner ≡ true
      → IsFair asked heard (by_delegation a b name (Some ns))
  fair_cut true b name ns h below = below
  fair_cut false true name ns h below = (h, tt)
  fair_cut false false name ns h below = below

  fair_without : (name : List (List ℕ)) → has_data asked heard.answers name ≡ false → IsFair asked heard (without_soa asked heard name)
  unfolding without_soa
  fair_without name h = by (first asked name sought.Delegation heard.authorities) refl
    where
      by : (x : Option Seen) → first asked name sought.Delegation heard.authorities ≡ x
          → IsFair asked heard (by_delegation (not (is_same name asked.name)) heard.authoritative name x)
      by None is = fair_unsaid (not (is_same name asked.name)) heard.authoritative name h
      by (Some ns) is = fair_cut (not (is_same name asked.name)) heard.authoritative name ns h (cut_below name ns is)

  fair_negative : (name : List (List ℕ)) (said : Option NegativeValue) → has_data asked heard.answers name ≡ false → IsOfZone asked name said
      → IsFair asked heard (by_negative asked heard name said)
  fair_negative name None h zone = fair_without name h
  fair_negative name (Some said) h zone = (h, zone)

  fair_end : (name : List (List ℕ)) → has_data asked heard.answers name ≡ false → IsFair asked heard (at_last_name asked heard name)
  unfolding at_last_name
  fair_end name h = by heard.no_name
    where
      by : (b : Bool) → IsFair asked heard (if b then NoName name (negative asked heard.authorities name) else by_negative asked heard name (negative asked heard.authorities name))
      by true = (h, negative_in asked heard.authorities name all)
      by false = fair_negative name (negative asked heard.authorities name) h (negative_in asked heard.authorities name all)

  fair_out : (next : List (List ℕ)) → IsFairStep asked heard (on_or_out asked next)
  fair_out next = by (is_in asked.zone next)
    where
      by : (b : Bool) → IsFairStep asked heard (if b then On next else Means (Alias next))
      by true = tt
      by false = tt

  fair_next : (name : List (List ℕ)) (next : Option (List (List ℕ))) → has_data asked heard.answers name ≡ false
      → IsFairStep asked heard (by_next asked heard name next)
  fair_next name None h = fair_end name h
  fair_next name (Some next) h = fair_out next

  fair_alias : (name : List (List ℕ)) (next : Result (Option (List (List ℕ))) Reason) → IsFairStep asked heard (by_alias asked heard name next)
  fair_alias name (Err why) = tt
  fair_alias name (Ok next) = by (has_data asked heard.answers name) refl
    where
      by : (b : Bool) → has_data asked heard.answers name ≡ b → IsFairStep asked heard (if b then Means (Data name) else by_next asked heard name next)
      by true h = h
      by false h = fair_next name next h

  fair_step : (name : List (List ℕ)) → IsFairStep asked heard (step asked heard name)
  unfolding step
  fair_step name = fair_alias name (next_name asked heard.answers name)

  fair_by : (left : ℕ) (name : List (List ℕ)) → IsFair asked heard (meant_by left asked heard name)
  unfolding meant_by
  fair_by zero name = tt
  fair_by (suc left) name = by (step asked heard name) (fair_step name) (λ next. fair_by left next)
    where
      by : (s : NameStep) → IsFairStep asked heard s → ((next : List (List ℕ)) → IsFair asked heard (meant_by left asked heard next))
          → IsFair asked heard (elim s as (λ _. Meant) [ Means meant ↦ meant | On next ↦ meant_by left asked heard next ])
      by (Means meant) h more = h
      by (On next) h more = more next

-- ---- a response to a question

module _ (target : Targets) (m : MessageValue) (name : List (List ℕ)) (code : ℕ) (zone : List (List ℕ)) where
  fair : (asked : AskedValue) (meant : Meant) → asked_by m name code zone ≡ Ok asked → meaning target m name code zone ≡ meant
      → IsFair asked (heard_of target asked m) meant
  unfolding meaning heard_of
  fair asked meant ok is =
      let same : meant_by 17 asked (heard_of target asked m) asked.name ≡ meant = ap (by_checked target m) (sym ok) ∙ is in
      subst (IsFair asked (heard_of target asked m)) same (fair_by asked (heard_of target asked m) (counted_in target asked m.authorities) 17 asked.name)

  class_zone : (class : Result ℕ Reason) (asked : AskedValue) → by_class (whole_code m) m.header.metadata.truncation name code zone class ≡ Ok asked → asked.zone ≡ zone
  class_zone (Err why) asked h = cc
  class_zone (Ok class) asked h = by (is_error_code (whole_code m)) m.header.metadata.truncation (is_in zone name) h
    where
      by : (a b c : Bool) → (if a then Err (failed (whole_code m)) else if b then Err reason.Truncated
          else if c then Ok (record { name = name; code = code; class = class; zone = zone }) else Err reason.OtherZone) ≡ Ok asked → asked.zone ≡ zone
      by true b c g = cc
      by false true c g = cc
      by false false true g = let same : record { name = name; code = code; class = class; zone = zone } ≡ asked = cc in sym (ap (λ (a : AskedValue). a.zone) same)
      by false false false g = cc

  pub checked_zone : (asked : AskedValue) → asked_by m name code zone ≡ Ok asked → asked.zone ≡ zone
  unfolding asked_by
  checked_zone asked h = by (is_query m.header.metadata.message_type) h
    where
      by : (b : Bool) → (if b then Err reason.NotAResponse else by_class (whole_code m) m.header.metadata.truncation name code zone (class_asked (whole_code m) name code m.queries)) ≡ Ok asked → asked.zone ≡ zone
      by true g = cc
      by false g = class_zone (class_asked (whole_code m) name code m.queries) asked g

pub data_are_there : DataAreThere
unfolding heard_of
data_are_there target m name code zone last asked ok is = fair target m name code zone asked (Data last) ok is

pub no_data_are_there : NoDataAreThere
unfolding heard_of
no_data_are_there target m name code zone last said asked ok is = (fair target m name code zone asked (NoData last said) ok is).0

pub missing_names_have_no_data : MissingNamesHaveNoData
unfolding heard_of
missing_names_have_no_data target m name code zone last said asked ok is = (fair target m name code zone asked (NoName last said) ok is).0

no_referral : (target : Targets) (m : MessageValue) (name : List (List ℕ)) (code : ℕ) (zone cut : List (List ℕ)) (why : Reason)
    → asked_by m name code zone ≡ Err why → meaning target m name code zone ≡ Referral cut → ⊥
unfolding meaning
no_referral target m name code zone cut why bad is = let no : NoAnswer why ≡ Referral cut = ap (by_checked target m) (sym bad) ∙ is in cc

pub referrals_lead_down : ReferralsLeadDown
referrals_lead_down target m name code zone cut is = by (asked_by m name code zone) refl
  where
    by : (x : Result AskedValue Reason) → asked_by m name code zone ≡ x → is_strictly_below zone cut ≡ true
    by (Err why) bad = absurd (no_referral target m name code zone cut why bad is)
    by (Ok asked) ok =
        subst (λ (z : List (List ℕ)). is_strictly_below z cut ≡ true) (checked_zone target m name code zone asked ok) (fair target m name code zone asked (Referral cut) ok is)

no_answer_is : (target : Targets) (m : MessageValue) (name : List (List ℕ)) (code : ℕ) (zone : List (List ℕ)) (why : Reason)
    → asked_by m name code zone ≡ Err why → meaning target m name code zone ≡ NoAnswer why
unfolding meaning
no_answer_is target m name code zone why bad = ap (by_checked target m) bad

pub zones_deny_their_names : ZonesDenyTheirNames
zones_deny_their_names target m name code zone last said either = by (asked_by m name code zone) refl
  where
    by : (x : Result AskedValue Reason) → asked_by m name code zone ≡ x → (is_in zone said.zone ≡ true) × (is_in said.zone last ≡ true)
    by (Err why) bad =
        let none = no_answer_is target m name code zone why bad in
        elim either [ inl is ↦ absurd (cc (none, is)) | inr is ↦ absurd (cc (none, is)) ]
    by (Ok asked) ok =
        let P : List (List ℕ) → Type 0 = λ z. (is_in z said.zone ≡ true) × (is_in said.zone last ≡ true) in
        subst P (checked_zone target m name code zone asked ok)
        (elim either [
          | inl is ↦ (fair target m name code zone asked (NoData last (Some said)) ok is).1
          | inr is ↦ (fair target m name code zone asked (NoName last (Some said)) ok is).1
        ])

-- ---- two messages

checked_same : (m other : MessageValue) (name : List (List ℕ)) (code : ℕ) (zone : List (List ℕ)) → m.header.metadata ≡ other.header.metadata
    → m.queries ≡ other.queries → whole_code m ≡ whole_code other → asked_by m name code zone ≡ asked_by other name code zone
unfolding asked_by
checked_same m other name code zone head queries codes = rw (codes, queries, head) refl

heard_same : (target : Targets) (m other : MessageValue) (asked : AskedValue) → m.header.metadata ≡ other.header.metadata → whole_code m ≡ whole_code other
    → counted_records target asked m.answers ≡ counted_records target asked other.answers → counted_records target asked m.authorities ≡ counted_records target asked other.authorities
    → heard_of target asked m ≡ heard_of target asked other
unfolding heard_of
heard_same target m other asked head codes answers authorities = rw (answers, authorities, codes, head) refl

meant_same : (target : Targets) (m other : MessageValue) (name : List (List ℕ)) (code : ℕ) (zone : List (List ℕ)) → asked_by m name code zone ≡ asked_by other name code zone
    → by_checked target m (asked_by m name code zone) ≡ by_checked target other (asked_by m name code zone)
    → meaning target m name code zone ≡ meaning target other name code zone
unfolding meaning
meant_same target m other name code zone same meant = meant ∙ ap (by_checked target other) same

pub others_change_nothing : OthersChangeNothing
others_change_nothing target m other name code zone head queries codes answers authorities =
    meant_same target m other name code zone (checked_same m other name code zone head queries codes) (by (asked_by m name code zone) refl)
  where
    by : (x : Result AskedValue Reason) → asked_by m name code zone ≡ x → by_checked target m x ≡ by_checked target other x
    by (Err why) bad = refl
    by (Ok asked) ok =
        let zone_is = checked_zone target m name code zone asked ok in
        ap (λ heard. meant_by 17 asked heard asked.name) (heard_same target m other asked head codes (answers asked zone_is) (authorities asked zone_is))

-- ---- from name to name

module _ (asked : AskedValue) (heard : Heard) (name : List (List ℕ)) where
  pub meant_now : (left : ℕ) (meant : Meant) → 0 < left → Means meant ≡ step asked heard name → meant ≡ meant_by left asked heard name
  unfolding meant_by
  meant_now zero meant some is = absurd (omega arith)
  meant_now (suc left) meant some is =
      subst (λ (s : NameStep). meant ≡ elim s as (λ _. Meant) [ Means m ↦ m | On next ↦ meant_by left asked heard next ]) is refl

  pub meant_later : (left : ℕ) (next : List (List ℕ)) → 0 < left → On next ≡ step asked heard name
      → meant_by (left - 1) asked heard next ≡ meant_by left asked heard name
  unfolding meant_by
  meant_later zero next some is = absurd (omega arith)
  meant_later (suc left) next some is =
      let one : suc left - 1 ≡ left = omega arith in
      ap (λ n. meant_by n asked heard next) one
      ∙ subst (λ (s : NameStep). meant_by left asked heard next ≡ elim s as (λ _. Meant) [ Means m ↦ m | On n ↦ meant_by left asked heard n ]) is refl

  pub meant_never : NoAnswer reason.TooManyAliases ≡ meant_by 0 asked heard name
  unfolding meant_by
  meant_never = refl

-- ---- the end of the aliases

module _ (asked : AskedValue) (name : List (List ℕ)) (target : Targets) (records others : List RecordValue) (same : others ≡ records) where
  pub negative_none : None ≡ first asked name sought.Start (counted_records target asked others) → None ≡ negative asked (counted_records target asked records) name
  unfolding negative
  negative_none h =
      subst (λ (rs : List RecordValue). None ≡ option_and_then (λ soa. negative_of soa soa.minimum) (first asked name sought.Start (counted_records target asked rs))) same
      (subst (λ (x : Option Seen). None ≡ option_and_then (λ soa. negative_of soa soa.minimum) x) h refl)

  pub negative_some : (soa : Seen) (said : Option NegativeValue) → Some soa ≡ first asked name sought.Start (counted_records target asked others)
      → said ≡ negative_of soa soa.minimum → said ≡ negative asked (counted_records target asked records) name
  unfolding negative
  negative_some soa said h is =
      subst (λ (rs : List RecordValue). said ≡ option_and_then (λ soa. negative_of soa soa.minimum) (first asked name sought.Start (counted_records target asked rs))) same
      (subst (λ (x : Option Seen). said ≡ option_and_then (λ soa. negative_of soa soa.minimum) x) h is)

-- the negative time of an SOA record with this minimum
pub negative_is : (soa : Seen) (minimum smaller : ℕ) → smaller ≡ min soa.ttl minimum → Some minimum ≡ soa.minimum
    → Some (record { zone = soa.owner; ttl = smaller }) ≡ negative_of soa soa.minimum
negative_is soa minimum smaller least said =
    ap (λ n. let it : NegativeValue = record { zone = soa.owner; ttl = n } in Some it) least ∙ ap (negative_of soa) said
