-- What is proved by what holds in a zone is what the zone says.
use borrow.Author.Tests.{eqb-true}
use Rattle.std.proofs.Common.{◌≡◌, ◌==◌, ◌&&◌, ◌||◌, ℕ, Bool, true, false, true≢false, not, List, [], ◌∷◌, Some, None, refl, sym, ap, ◌∙◌, subst}
use Rattle.std.proofs.lemmas.Bool.{and_left, and_parts, cond_both, false_from_ne_true, or_parts}
use Rattle.dns_names_wire.specs.Words.{KeysCompare, ZonesBegin, any_code, cname_code, ds_code, is_in, is_same, ns_code, soa_code, wildcard}
use Rattle.ans_store.proofs.Names.{lower_if_same}
use Rattle.ans_store.specs.Zones.{IsZone, ZoneValue, have_type, name_exists, owned_by}
use Rattle.ans_answer.proofs.Asked.{asked_by_type}
use Rattle.ans_answer.proofs.Down.{if_not_false, if_not_true, itself_sent, itself_there, nothing_owned}
use Rattle.ans_answer.specs.Outcomes.{Exact, Synthesised, by_wildcard, encloser, is_delegation, is_sent, itself, kind, outcome, sent_above, source}
use Rattle.ans_answer.specs.Outcomes.{NoName as NoSuchName}
use Rattle.ans_answer.specs.declared.kind.Kind.TheVariants.{NoData as NoRecords}
use Rattle.ans_denial.specs.Chains.{is_due}
use Rattle.ans_denial.specs.Denials.{concluded, denied_by, denied_by_types, denied_by_wildcard, encloser_by, is_present, missing_below}
use Rattle.ans_denial.specs.Nsecs.{Empty, Existence, Missing, Owns, Unknown, existence, is_of_delegation, lists}
use Rattle.ans_denial.specs.Soundness.{DenialsAreSound, EnclosersAreSound, ZoneSays}
use Rattle.ans_denial.specs.declared.denial.Denial.TheVariants.{Insecure, NoData, NoWildcardData}
use Rattle.ans_denial.proofs.Covering.{AreTypesOf, no_delegation, not_listed}
use Rattle.ans_denial.proofs.Holding.{Holds, IsMissing, IsOwner, existence_holds}
use Rattle.ans_denial.proofs.Sending.{not_delegation, owned_alike}

-- ---- types

-- A type that is not present at a name, which is no delegation, is not there.
pub kind_none : (zone : ZoneValue) (name : List (List ℕ)) (types : List ℕ) (code : ℕ) → AreTypesOf zone name types → is_of_delegation types ≡ false
    → is_present types code ≡ false → kind (owned_by name zone.records) code ≡ NoRecords
unfolding kind is_present
kind_none zone name types code are other h =
    let (first, alias) = or_parts (code == any_code || lists types code) (lists types cname_code) h in
    let (any, listed) = or_parts (code == any_code) (lists types code) first in
    let here = no_delegation zone name types are other in
    rw (
      sym (asked_by_type code (owned_by name zone.records) any) ∙ not_listed zone name types are code here listed,
      not_listed zone name types are cname_code here alias,
    ) refl

kind_empty : (code : ℕ) → kind [] code ≡ NoRecords
unfolding kind
kind_empty code = refl

pub owned_kind : (zone : ZoneValue) (name : List (List ℕ)) (code : ℕ) → owned_by name zone.records ≡ [] → kind (owned_by name zone.records) code ≡ NoRecords
owned_kind zone name code none = rw none (kind_empty code)

-- ---- what the zone says of a name that nothing sends away

pub outcome_is : (zone : ZoneValue) (name : List (List ℕ)) (code : ℕ) → is_in zone.apex name ≡ true → sent_above zone name ≡ None
    → outcome zone name code ≡ itself zone name code
unfolding outcome
outcome_is zone name code inside free = rw (inside, free) refl

pub kept : (zone : ZoneValue) (name : List (List ℕ)) (code : ℕ) → is_delegation zone name ≡ false → is_sent zone name code ≡ false
unfolding is_sent
kept zone name code other = and_left (is_delegation zone name) (not (code == ds_code)) other

pub there_is : (zone : ZoneValue) (name : List (List ℕ)) (code : ℕ) → is_in zone.apex name ≡ true → sent_above zone name ≡ None → is_sent zone name code ≡ false
    → name_exists name zone.records ≡ true → outcome zone name code ≡ Exact (owned_by name zone.records)
there_is zone name code inside free stays there =
    outcome_is zone name code inside free ∙ sym (itself_there zone name code (owned_by name zone.records) stays there refl)

itself_gone : (zone : ZoneValue) (name : List (List ℕ)) (code : ℕ) → is_sent zone name code ≡ false → name_exists name zone.records ≡ false
    → itself zone name code ≡ by_wildcard zone (wildcard ∷ encloser zone name)
unfolding itself source
itself_gone zone name code stays gone = rw (stays, gone) refl

pub missing_is : (zone : ZoneValue) (name closest : List (List ℕ)) (code : ℕ) → is_in zone.apex name ≡ true → IsMissing zone name closest
    → outcome zone name code ≡ by_wildcard zone (wildcard ∷ closest)
missing_is zone name closest code inside missing =
    let none = not_delegation zone name (nothing_owned zone.records name missing.gone) in
    outcome_is zone name code inside missing.not_sent
    ∙ (itself_gone zone name code (kept zone name code none) missing.gone ∙ ap (λ (n : List (List ℕ)). by_wildcard zone (wildcard ∷ n)) missing.above)

-- ---- what is proved of a name that exists

pub apex_due : (zone : ZoneValue) (name : List (List ℕ)) → IsZone zone → is_same name zone.apex ≡ true → is_due zone name soa_code ≡ true
unfolding is_due is_delegation
apex_due zone name ok same = rw (same, owned_alike name zone.apex zone.records (lower_if_same name zone.apex same), ok.has_soa) refl

pub not_of_apex : (zone : ZoneValue) (name : List (List ℕ)) (types : List ℕ) → IsZone zone → AreTypesOf zone name types → lists types soa_code ≡ false
    → is_same name zone.apex ≡ false
not_of_apex zone name types ok are none =
    false_from_ne_true (is_same name zone.apex) (λ same. true≢false (sym (apex_due zone name ok same) ∙ (sym are.only_soa ∙ none)))

ns_if_due : (zone : ZoneValue) (name : List (List ℕ)) → is_due zone name ns_code ≡ true → have_type ns_code (owned_by name zone.records) ≡ true
unfolding is_due
ns_if_due zone name due = (and_parts (have_type ns_code (owned_by name zone.records)) _ due).0

pub cut_if : (zone : ZoneValue) (name : List (List ℕ)) → is_same name zone.apex ≡ false → have_type ns_code (owned_by name zone.records) ≡ true
    → is_delegation zone name ≡ true
unfolding is_delegation
cut_if zone name apart ns = rw (apart, ns) refl

pub is_cut : (zone : ZoneValue) (name : List (List ℕ)) (types : List ℕ) → IsZone zone → AreTypesOf zone name types → is_of_delegation types ≡ true
    → is_delegation zone name ≡ true
unfolding is_of_delegation
is_cut zone name types ok are h =
    let (ns, soa) = and_parts (lists types ns_code) (not (lists types soa_code)) h in
    cut_if zone name (not_of_apex zone name types ok are (if_not_true (lists types soa_code) soa)) (ns_if_due zone name (sym are.only_ns ∙ ns))

ds_due : (zone : ZoneValue) (name : List (List ℕ)) → is_delegation zone name ≡ true → have_type ds_code (owned_by name zone.records) ≡ true
    → is_due zone name ds_code ≡ true
unfolding is_due
ds_due zone name cut there = rw (there, cut) refl

cut_listed : (zone : ZoneValue) (name : List (List ℕ)) (types : List ℕ) → AreTypesOf zone name types → is_delegation zone name ≡ true
    → lists types ds_code ≡ false → have_type ds_code (owned_by name zone.records) ≡ false
cut_listed zone name types are cut none =
    false_from_ne_true (have_type ds_code (owned_by name zone.records)) (λ there. true≢false (sym (are.all ds_code (ds_due zone name cut there)) ∙ none))

pub leaves : (zone : ZoneValue) (name : List (List ℕ)) → is_delegation zone name ≡ true → is_sent zone name ns_code ≡ true
unfolding is_sent
leaves zone name cut = rw cut refl

insecure_is : (zone : ZoneValue) (name : List (List ℕ)) (types : List ℕ) → IsZone zone → is_in zone.apex name ≡ true → IsOwner zone name types
    → is_of_delegation types ≡ true → lists types ds_code ≡ false → (code : ℕ) → ZoneSays zone name code Insecure
insecure_is zone name types ok inside owner h none code =
    let cut = is_cut zone name types ok owner.are h in (
      outcome_is zone name ns_code inside owner.not_sent ∙ sym (itself_sent zone name ns_code (owned_by name zone.records) (leaves zone name cut) refl),
      cut_listed zone name types owner.are cut none,
    )

-- only DS was asked there
ds_not_listed : (types : List ℕ) (code : ℕ) → is_of_delegation types ≡ true → (is_of_delegation types && not (code == ds_code)) ≡ false
    → is_present types code ≡ false → lists types ds_code ≡ false
unfolding is_present
ds_not_listed types code cut ds none =
    let asked : not (code == ds_code) ≡ false = sym (ap (λ b. b && not (code == ds_code)) cut) ∙ ds in
    let same : code ≡ ds_code = eqb-true code ds_code (if_not_false (code == ds_code) asked) in
    let (first, _) = or_parts (code == any_code || lists types code) (lists types cname_code) none in
    subst (λ n. lists types n ≡ false) same (or_parts (code == any_code) (lists types code) first).1

owner_is : (zone : ZoneValue) (name : List (List ℕ)) (types : List ℕ) (code : ℕ) → IsZone zone → is_in zone.apex name ≡ true → IsOwner zone name types
    → ZoneSays zone name code (denied_by_types types code)
unfolding denied_by_types
owner_is zone name types code ok inside owner =
    cond_both (is_of_delegation types && not (code == ds_code)) _ _ (ZoneSays zone name code) (λ _. tt)
    (λ ds. cond_both (lists types soa_code && code == ds_code) _ _ (ZoneSays zone name code) (λ _. tt)
    (λ _. cond_both (is_present types code) _ _ (ZoneSays zone name code) (λ _. tt)
    (λ none. cond_both (is_of_delegation types) Insecure NoData (ZoneSays zone name code)
    (λ cut. insecure_is zone name types ok inside owner cut (ds_not_listed types code cut ds none) code)
    (λ other. let here = no_delegation zone name types owner.are other in (
      there_is zone name code inside owner.not_sent (kept zone name code here) owner.there,
      kind_none zone name types code owner.are other none,
    )))))

-- ---- what is proved of a name that does not exist

pub wild_is : (zone : ZoneValue) (name wild : List (List ℕ)) (code : ℕ) → outcome zone name code ≡ by_wildcard zone wild → name_exists wild zone.records ≡ true
    → outcome zone name code ≡ Synthesised (owned_by wild zone.records)
unfolding by_wildcard
wild_is zone name wild code is there = is ∙ rw there refl

pub no_wild : (zone : ZoneValue) (name wild : List (List ℕ)) (code : ℕ) → outcome zone name code ≡ by_wildcard zone wild → name_exists wild zone.records ≡ false
    → outcome zone name code ≡ NoSuchName
unfolding by_wildcard
no_wild zone name wild code is gone = is ∙ rw gone refl

by_wild : (zone : ZoneValue) (name wild : List (List ℕ)) (code : ℕ) (e : Existence) → outcome zone name code ≡ by_wildcard zone wild → Holds zone wild e
    → ZoneSays zone name code (denied_by_wildcard e code)
unfolding denied_by_wildcard
by_wild zone name wild code (Unknown reason) is holds = tt
by_wild zone name wild code (Owns types) is holds =
    cond_both (is_of_delegation types) _ _ (ZoneSays zone name code) (λ _. tt)
    (λ other. cond_both (is_present types code) _ NoWildcardData (ZoneSays zone name code) (λ _. tt)
    (λ none. (wild, wild_is zone name wild code is holds.there, kind_none zone wild types code holds.are other none)))
by_wild zone name wild code Empty is holds = (wild, wild_is zone name wild code is holds.there, owned_kind zone wild code holds.owned)
by_wild zone name wild code (Missing closest) is holds = no_wild zone name wild code is holds.gone

-- ---- the whole

module _ (zone : ZoneValue) (ok : IsZone zone) (look : List (List ℕ) → Existence) (name : List (List ℕ)) (code : ℕ) where
  concluded_is : (e : Existence) → is_in zone.apex name ≡ true → Holds zone name e
      → ((closest : List (List ℕ)) → IsMissing zone name closest → Holds zone (wildcard ∷ closest) (look (wildcard ∷ closest)))
      → ZoneSays zone name code (concluded look e code)
  unfolding concluded
  concluded_is (Unknown reason) inside holds wild = holds
  concluded_is (Owns types) inside holds wild = owner_is zone name types code ok inside holds
  concluded_is Empty inside holds wild = (
    there_is zone name code inside holds.not_sent (kept zone name code (not_delegation zone name holds.owned)) holds.there,
    owned_kind zone name code holds.owned,
  )
  concluded_is (Missing closest) inside holds wild =
      by_wild zone name (wildcard ∷ closest) code (look (wildcard ∷ closest)) (missing_is zone name closest code inside holds) (wild closest holds)

  -- What is looked up holds of the name, and of the wildcard if it does not exist: then what is proved is so.
  pub denial_is : Holds zone name (look name)
      → ((closest : List (List ℕ)) → IsMissing zone name closest → Holds zone (wildcard ∷ closest) (look (wildcard ∷ closest)))
      → ZoneSays zone name code (denied_by look name code zone.apex)
  unfolding denied_by
  denial_is holds wild =
      cond_both (is_in zone.apex name) (concluded look (look name) code) _ (ZoneSays zone name code)
      (λ inside. concluded_is (look name) inside holds wild) (λ _. tt)

  encloser_of : (closest : List (List ℕ)) (e : Existence) → Holds zone name e → missing_below e ≡ Some closest → IsMissing zone name closest
  unfolding missing_below
  encloser_of closest (Unknown reason) holds is = cc
  encloser_of closest (Owns types) holds is = cc
  encloser_of closest Empty holds is = cc
  encloser_of closest (Missing other) holds is = let same : other ≡ closest = cc in subst (IsMissing zone name) same holds

  within : (closest : List (List ℕ)) (b : Bool) → is_in zone.apex name ≡ b → encloser_by look name zone.apex ≡ Some closest
      → (is_in zone.apex name ≡ true) × (missing_below (look name) ≡ Some closest)
  unfolding encloser_by
  within closest true inside is = (inside, rw inside at is)
  within closest false outside is = let none : None ≡ Some closest = rw outside at is in cc

  pub closest_is : (closest : List (List ℕ)) → Holds zone name (look name) → encloser_by look name zone.apex ≡ Some closest
      → outcome zone name code ≡ by_wildcard zone (wildcard ∷ closest)
  closest_is closest holds is =
      let (inside, found) = within closest (is_in zone.apex name) refl is in
      missing_is zone name closest code inside (encloser_of closest (look name) holds found)

pub denials_sound : KeysCompare → ZonesBegin → DenialsAreSound
denials_sound compare begin zone nsecs name code ok all =
    denial_is zone ok (existence nsecs) name code (existence_holds compare begin zone ok nsecs name all)
    (λ (closest : List (List ℕ)) _. existence_holds compare begin zone ok nsecs (wildcard ∷ closest) all)

pub enclosers_sound : KeysCompare → ZonesBegin → EnclosersAreSound
enclosers_sound compare begin zone nsecs name closest code ok all is =
    closest_is zone ok (existence nsecs) name code closest (existence_holds compare begin zone ok nsecs name all) is
