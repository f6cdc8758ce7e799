-- What the records of a chain say of the names that they cover.
use Rattle.std.proofs.Common.{◌≡◌, ◌≤◌, ◌&&◌, ◌||◌, ℕ, Bool, true, false, true≢false, not, List, [], ◌∷◌, ◌++◌, length, Option, Some, None, refl, sym, ap, ◌∙◌, subst, inl, inr}
use Rattle.std.proofs.lemmas.Bool.{and_from, and_parts, and_right, cases_Bool, cond_both, false_from_ne_true, or_cases, or_left, or_parts, or_right, true_from_ne_false}
use Rattle.std.proofs.lemmas.List.{append_assoc}
use Rattle.std.specs.Cmp.{both_ways}
use Rattle.std.specs.List.{AllByRecursion, list_any}
use Rattle.std.specs.Ordering.{is_lt}
use Rattle.dns_names_wire.specs.Words.{KeysCompare, RecordValue, ZonesBegin, dname_code, is_in, is_same, labels_cmp, lower, ns_code, soa_code}
use Rattle.ans_store.proofs.Names.{in_between, in_if_same, lower_if_same, names_rank, not_before_zone}
use Rattle.ans_store.specs.Zones.{IsZone, ZoneValue, have_type, name_exists, owned_by}
use Rattle.ans_answer.specs.Outcomes.{ZoneOutcome, encloser, is_delegation, sent_above, sent_at}
use Rattle.ans_denial.specs.Chains.{HasNsec, IsOfChain, is_due, is_type_listed}
use Rattle.ans_denial.specs.Nsecs.{NsecValue, closest, covers, is_above_ends, is_of_delegation, lists, sends_below}
use Rattle.ans_denial.proofs.Covers.{after_owner, before_next, covered_if}
use Rattle.ans_denial.proofs.Names.{any_more, in_alike, in_last, in_trans, same_back}
use Rattle.ans_denial.proofs.Sending.{nsec_below, not_under, owns_if_sent, sent_at_alike, sent_step}

-- ---- types

-- What the types that are listed say of a name: those that are due are listed, and of NS and SOA no others.
pub record AreTypesOf (zone : ZoneValue) (name : List (List ℕ)) (types : List ℕ) : Type 0 where
  pub all : (code : ℕ) → is_due zone name code ≡ true → lists types code ≡ true
  pub only_ns : lists types ns_code ≡ is_due zone name ns_code
  pub only_soa : lists types soa_code ≡ is_due zone name soa_code

module _ (zone : ZoneValue) (name : List (List ℕ)) where
  pub due_elsewhere : (code : ℕ) → is_delegation zone name ≡ false → is_due zone name code ≡ have_type code (owned_by name zone.records)
  unfolding is_due
  due_elsewhere code other = rw other (always (have_type code (owned_by name zone.records)))
    where
      always : (b : Bool) → (b && true) ≡ b
      always true = refl
      always false = refl

  pub ns_there : is_delegation zone name ≡ true → have_type ns_code (owned_by name zone.records) ≡ true
  unfolding is_delegation
  ns_there cut = (and_parts (not (is_same name zone.apex)) (have_type ns_code (owned_by name zone.records)) cut).1

  ns_due : is_delegation zone name ≡ true → is_due zone name ns_code ≡ true
  unfolding is_due
  ns_due cut = rw (ns_there cut, cut) refl

  pub soa_not_due : is_delegation zone name ≡ true → is_due zone name soa_code ≡ false
  unfolding is_due
  soa_not_due cut = rw cut (and_right (have_type soa_code (owned_by name zone.records)) false refl)

  module _ (types : List ℕ) (are : AreTypesOf zone name types) where
    pub of_delegation : is_delegation zone name ≡ true → is_of_delegation types ≡ true
    unfolding is_of_delegation
    of_delegation cut = rw (are.only_ns ∙ ns_due cut, are.only_soa ∙ soa_not_due cut) refl

    pub no_delegation : is_of_delegation types ≡ false → is_delegation zone name ≡ false
    no_delegation other = false_from_ne_true (is_delegation zone name) (λ cut. true≢false (sym (of_delegation cut) ∙ other))

    -- A type that is not listed is not there, but maybe at a delegation.
    pub not_listed : (code : ℕ) → is_delegation zone name ≡ false → lists types code ≡ false → have_type code (owned_by name zone.records) ≡ false
    not_listed code other none =
        false_from_ne_true (have_type code (owned_by name zone.records)) (λ there. true≢false (sym (are.all code (due_elsewhere code other ∙ there)) ∙ none))

    pub sends_none : sends_below types ≡ false → sent_at zone name ≡ None
    unfolding sends_below sent_at
    sends_none h =
        let (cut, dname) = or_parts (is_of_delegation types) (lists types dname_code) h in
        rw (no_delegation cut, not_listed dname_code (no_delegation cut) dname) refl

    pub sends_if : (o : ZoneOutcome) → sent_at zone name ≡ Some o → sends_below types ≡ true
    sends_if o sent = true_from_ne_false (sends_below types) (λ no. let none : sent_at zone name ≡ None = sends_none no in cc)

-- ---- a record of a chain

no_others : (b : Bool) → (b || false) ≡ b
no_others true = refl
no_others false = refl

pub chain_types : (zone : ZoneValue) (nsec : NsecValue) → IsOfChain zone nsec → AreTypesOf zone nsec.owner nsec.types
unfolding is_type_listed
chain_types zone nsec link = record {
  all = λ code due. link.types code ∙ or_left (is_due zone nsec.owner code) _ due;
  only_ns = link.types ns_code ∙ no_others (is_due zone nsec.owner ns_code);
  only_soa = link.types soa_code ∙ no_others (is_due zone nsec.owner soa_code);
}

pub in_zone : (zone name : List (List ℕ)) (zs : List RecordValue) → AllByRecursion (λ r. is_in zone r.owner ≡ true) zs → list_any (λ r. is_same r.owner name) zs ≡ true
    → is_in zone name ≡ true
in_zone zone name [] all h = absurd (true≢false (sym h))
in_zone zone name (z ∷ zs) (one, all) h = elim (or_cases (is_same z.owner name) (list_any (λ r. is_same r.owner name) zs) h) [
  | inl same ↦ in_trans zone z.owner name one (in_if_same z.owner name (same_back z.owner name same))
  | inr later ↦ in_zone zone name zs all later
]

-- A name that owns records exists, and so do those above it.
pub owner_exists : (above name : List (List ℕ)) (zs : List RecordValue) → is_in above name ≡ true → list_any (λ r. is_same r.owner name) zs ≡ true
    → name_exists above zs ≡ true
unfolding name_exists
owner_exists above name zs inside owns =
    any_more (λ r. is_in above r.owner) (λ r. is_same r.owner name) zs (λ z same. in_trans above name z.owner inside (in_if_same name z.owner same)) owns

pub encloser_self : (zone : ZoneValue) (name : List (List ℕ)) → name_exists name zone.records ≡ true → encloser zone name ≡ name
unfolding encloser
encloser_self zone [] h = refl
encloser_self zone (label ∷ above) h = rw h refl

module _ (compare : KeysCompare) (begin : ZonesBegin) (zone : ZoneValue) (ok : IsZone zone) (nsec : NsecValue) (link : IsOfChain zone nsec) where
  -- Each name of the zone is in the next name, if that is the apex.
  in_next : (name : List (List ℕ)) → HasNsec zone name → is_lt (labels_cmp nsec.owner nsec.next) ≡ false → is_in nsec.next name ≡ true
  in_next name has last =
      in_alike nsec.next zone.apex name (lower_if_same nsec.next zone.apex (link.last last)) ∙ in_zone zone.apex name zone.records ok.in_zone has.owns

  module _ (name : List (List ℕ)) (cov : covers nsec name ≡ true) where
    not_before_owner : is_lt (labels_cmp name nsec.owner) ≡ false
    not_before_owner = names_rank.one_way nsec.owner name (after_owner nsec name cov)

    -- A name that has a record, and is not after the one that is covered, is not after the owner.
    not_after_owner : (other : List (List ℕ)) → HasNsec zone other → is_lt (labels_cmp name other) ≡ false → is_lt (labels_cmp nsec.owner other) ≡ false
    not_after_owner other has low =
        false_from_ne_true (is_lt (labels_cmp nsec.owner other)) (λ past. true≢false
        (sym (covered_if nsec other past
        (λ less. true_from_ne_false (is_lt (labels_cmp other nsec.next))
        (λ no. true≢false (sym (before_next nsec name cov less) ∙ names_rank.chain name other nsec.next low no)))
        (in_next other has)) ∙ link.nearest other has))

    -- So one above the name that is covered is the owner or above it.
    above_owner : (above : List (List ℕ)) → HasNsec zone above → is_in above name ≡ true → is_in above nsec.owner ≡ true
    above_owner above has inside =
        in_between compare begin above name nsec.owner inside (not_after_owner above has (not_before_zone compare begin above name inside)) not_before_owner

    -- A name above the one that is covered, and above another that has a record, is above an end.
    above_ends : (above other : List (List ℕ)) → HasNsec zone other → is_in above other ≡ true → is_in above name ≡ true → is_above_ends nsec above ≡ true
    unfolding is_above_ends
    above_ends above other has below inside = elim (cases_Bool (is_lt (labels_cmp nsec.owner other))) [
      | inr low ↦ or_left (is_in above nsec.owner) (is_in above nsec.next)
          (in_between compare begin above name nsec.owner inside
          (names_rank.chain nsec.owner other above low (not_before_zone compare begin above other below)) not_before_owner)
      | inl past ↦ elim (cases_Bool (is_lt (labels_cmp nsec.owner nsec.next))) [
        | inl less ↦
            let high : is_lt (labels_cmp other nsec.next) ≡ false =
            false_from_ne_true (is_lt (labels_cmp other nsec.next)) (λ yes. true≢false
            (sym (covered_if nsec other past (λ _. yes) (in_next other has)) ∙ link.nearest other has)) in
            or_right (is_in above nsec.owner) (is_in above nsec.next)
            (in_between compare begin above other nsec.next below
            (names_rank.chain nsec.next name above (names_rank.one_way name nsec.next (before_next nsec name cov less))
            (not_before_zone compare begin above name inside)) high)
        | inr last ↦ absurd (true≢false
            (sym (covered_if nsec other past (λ less. absurd (true≢false (sym less ∙ last))) (in_next other has)) ∙ link.nearest other has))
      ]
    ]

    module _ (speaks : (is_in nsec.owner name && sends_below nsec.types) ≡ false) where
      -- A name above the one that is covered does not send it away: it would be the owner.
      sends_not : (up : List (List ℕ)) (o : Option ZoneOutcome) → sent_at zone up ≡ o → is_in up name ≡ true → length zone.apex ≤ length up
          → sent_above zone up ≡ None → sent_at zone up ≡ None
      sends_not up None is inside long free = is
      sends_not up (Some o) is inside long free =
          let up_owner = above_owner up (record { owns = owns_if_sent zone up o is; not_sent = free }) inside in
          let same : lower nsec.owner ≡ lower up = not_under zone up nsec.owner o long free is link.owner.not_sent up_owner in
          let sends : sends_below nsec.types ≡ true =
          sends_if zone nsec.owner nsec.types (chain_types zone nsec link) o (sent_at_alike zone nsec.owner up same ∙ is) in
          absurd (true≢false (sym (and_from (is_in nsec.owner name) (sends_below nsec.types) (in_alike nsec.owner up name same ∙ inside) sends) ∙ speaks))

      pub free_above : (above front : List (List ℕ)) → name ≡ front ++ above → sent_above zone above ≡ None
      unfolding sent_above
      free_above [] front is = refl
      free_above (label ∷ up) front is =
          let split : name ≡ (front ++ (label ∷ [])) ++ up = is ∙ sym (append_assoc front (label ∷ []) up) in
          let free : sent_above zone up ≡ None = free_above up (front ++ (label ∷ [])) split in
          let inside : is_in up name ≡ true = subst (λ (n : List (List ℕ)). is_in up n ≡ true) (sym split) (in_last (front ++ (label ∷ [])) up) in
          sent_step zone label up free (λ long. sends_not up (sent_at zone up) refl inside long free)

      pub free : sent_above zone name ≡ None
      free = free_above name [] refl

      -- A name at or above the one that is covered exists exactly if it is above an end.
      exists_by : (above front : List (List ℕ)) → name ≡ front ++ above → name_exists above zone.records ≡ is_above_ends nsec above
      unfolding is_above_ends
      exists_by above front is =
          let inside : is_in above name ≡ true = subst (λ (n : List (List ℕ)). is_in above n ≡ true) (sym is) (in_last front above) in
          both_ways (name_exists above zone.records) (is_in above nsec.owner || is_in above nsec.next)
          (λ there. let (other, has, below) = nsec_below zone above (free_above above front is) there in above_ends above other has below inside)
          (λ ends. elim (or_cases (is_in above nsec.owner) (is_in above nsec.next) ends) [
            | inl a ↦ owner_exists above nsec.owner zone.records a link.owner.owns
            | inr b ↦ owner_exists above nsec.next zone.records b link.next.owns
          ])

      pub exists_below : name_exists name zone.records ≡ is_in name nsec.next
      unfolding is_above_ends
      exists_below =
          let before : is_in name nsec.owner ≡ false =
          false_from_ne_true (is_in name nsec.owner) (λ yes. true≢false
          (sym (after_owner nsec name cov) ∙ not_before_zone compare begin name nsec.owner yes)) in
          exists_by name [] refl ∙ ap (λ b. b || is_in name nsec.next) before

      pub owns_nothing : list_any (λ r. is_same r.owner name) zone.records ≡ false
      owns_nothing =
          false_from_ne_true (list_any (λ r. is_same r.owner name) zone.records)
          (λ owns. true≢false (sym cov ∙ link.nearest name (record { owns = owns; not_sent = free })))

      closest_above : (above front : List (List ℕ)) → name ≡ front ++ above → name_exists above zone.records ≡ false → encloser zone above ≡ closest nsec above
      unfolding encloser closest
      closest_above [] front is gone = refl
      closest_above (label ∷ up) front is gone =
          let split : name ≡ (front ++ (label ∷ [])) ++ up = is ∙ sym (append_assoc front (label ∷ []) up) in
          let same = exists_by up (front ++ (label ∷ [])) split in
          rw gone (cond_both (is_above_ends nsec up) up (closest nsec up) (λ (n : List (List ℕ)). encloser zone up ≡ n)
          (λ yes. encloser_self zone up (same ∙ yes))
          (λ no. closest_above up (front ++ (label ∷ [])) split (same ∙ no)))

      pub encloser_is : name_exists name zone.records ≡ false → encloser zone name ≡ closest nsec name
      encloser_is gone = closest_above name [] refl gone
