-- Which records of a chain speak of a name, and that one of a whole chain does.
use Rattle.std.proofs.Common.{◌≡◌, ◌≤◌, ◌&&◌, ◌||◌, ℕ, ◌+◌, Bool, true, false, true≢false, cond, not, List, [], ◌∷◌, ◌++◌, length, drop, Option, None, Some, refl, sym, ap, ◌∙◌, subst, inl, inr, arith}
use Rattle.std.proofs.lemmas.Bool.{and_parts, cases_Bool, cases_lt, false_from_ne_true, or_cases, or_left, or_parts, or_right, true_from_ne_false}
use Rattle.std.proofs.lemmas.List.{length-append}
use Rattle.std.specs.List.{AllByRecursion, list_any}
use Rattle.std.specs.Ordering.{is_eq, is_lt, ordering_reverse}
use Rattle.std.specs.declared.cmp.Ordering.{Ordering}
use Rattle.std.specs.declared.cmp.Ordering.TheVariants.{Less, Equal, Greater}
use Rattle.dns_names_wire.specs.Words.{IsZoneOf, KeysCompare, RecordValue, ZonesBegin, dname_code, is_in, is_same, labels_cmp, lower, soa_code, wildcard}
use Rattle.ans_store.proofs.Names.{in_if_same, in_if_zone, labels_total, lower_if_same, names_rank, not_before_zone, zone_if_in}
use Rattle.ans_store.specs.Zones.{IsZone, ZoneValue, have_type, name_exists, owned_by}
use Rattle.ans_answer.proofs.Down.{all_below, none_above}
use Rattle.ans_answer.proofs.Down.{nothing_owned as nothing_there}
use Rattle.ans_answer.specs.Outcomes.{ZoneOutcome, Redirect, Referral, encloser, is_delegation, sent_above, sent_at, source}
use Rattle.ans_denial.specs.Chains.{HasNsec, IsChain, IsOfChain, is_due, is_type_listed}
use Rattle.ans_denial.specs.Completeness.{AreEnough, speaks_of}
use Rattle.ans_denial.specs.Nsecs.{NsecValue, covers, is_of_delegation, lists, sends_below}
use Rattle.ans_denial.proofs.Covering.{chain_types, encloser_self, in_zone, owner_exists}
use Rattle.ans_denial.proofs.Covers.{after_owner, covered_if}
use Rattle.ans_denial.proofs.Names.{in_alike, in_last, in_trans, length_alike, right_alike, same_back}
use Rattle.ans_denial.proofs.Sending.{not_sent_at, not_under, nothing_owned, sent_step}
use Rattle.ans_denial.proofs.Sound.{is_cut}

-- ---- lists

any_of : {T : Type 0} (p q : T → Bool) (xs : List T) → ((x : T) → q x ≡ true → p x ≡ true) → list_any q xs ≡ true → list_any p xs ≡ true
any_of p q [] all h = h
any_of p q (x ∷ xs) all h = elim (or_cases (q x) (list_any q xs) h) [
  | inl passes ↦ or_left (p x) (list_any p xs) (all x passes)
  | inr later ↦ or_right (p x) (list_any p xs) (any_of p q xs all later)
]

-- One that passes is among them.
one_of : {T : Type 0} (p : T → Bool) (P : T → Type 0) (xs : List T) → AllByRecursion P xs → list_any p xs ≡ true → (x : T) × (p x ≡ true) × P x
one_of p P [] all h = absurd (true≢false (sym h))
one_of p P (x ∷ xs) (one, all) h = elim (or_cases (p x) (list_any p xs) h) [
  | inl passes ↦ (x, passes, one)
  | inr later ↦ one_of p P xs all later
]

all_if_none : {T : Type 0} (p : T → Bool) (P : T → Type 0) (xs : List T) → ((x : T) → p x ≡ false → P x) → list_any p xs ≡ false → AllByRecursion P xs
all_if_none p P [] from h = tt
all_if_none p P (x ∷ xs) from h = let (first, others) = or_parts (p x) (list_any p xs) h in (from x first, all_if_none p P xs from others)

all_more : {T : Type 0} (P Q : T → Type 0) (xs : List T) → ((x : T) → P x → Q x) → AllByRecursion P xs → AllByRecursion Q xs
all_more P Q [] from all = tt
all_more P Q (x ∷ xs) from (one, all) = (from x one, all_more P Q xs from all)

-- ---- names in order

level : (r : Ordering) → is_lt r ≡ false → is_lt (ordering_reverse r) ≡ false → is_eq r ≡ true
level Less h g = absurd (true≢false h)
level Equal h g = refl
level Greater h g = absurd (true≢false g)

-- Two names of which neither is before the other are the same.
same_if_level : (x y : List (List ℕ)) → is_lt (labels_cmp x y) ≡ false → is_lt (labels_cmp y x) ≡ false → is_same x y ≡ true
unfolding is_same
same_if_level x y h g = level (labels_cmp x y) h (ap is_lt (sym (labels_total.antisymm y x)) ∙ g)

not_before_itself : (x : List (List ℕ)) → is_lt (labels_cmp x x) ≡ false
not_before_itself x = false_from_ne_true (is_lt (labels_cmp x x)) (λ h. true≢false (sym h ∙ names_rank.one_way x x h))

in_itself : (x : List (List ℕ)) → is_in x x ≡ true
in_itself x = in_last [] x

module _ (compare : KeysCompare) (begin : ZonesBegin) where
  not_before_same : (x y : List (List ℕ)) → is_same x y ≡ true → is_lt (labels_cmp x y) ≡ false
  not_before_same x y same = not_before_zone compare begin y x (in_if_same y x same)

  -- A name that is the same as one before another is before that one.
  before_alike : (x y z : List (List ℕ)) → is_same x y ≡ true → is_lt (labels_cmp y z) ≡ true → is_lt (labels_cmp x z) ≡ true
  before_alike x y z same h =
      true_from_ne_false (is_lt (labels_cmp x z)) (λ no. true≢false
      (sym h ∙ names_rank.chain y x z (not_before_same y x (same_back x y same)) no))

  -- ---- what speaks of a name that nothing sends away

  module _ (zone : ZoneValue) (ok : IsZone zone) where
    at_least : (name : List (List ℕ)) → is_in zone.apex name ≡ true → length zone.apex ≤ length name
    at_least name inside =
        let (front, rest, is, same) = zone_if_in zone.apex name inside in
        omega (arith, ap length is ∙ length-append front rest, length_alike rest zone.apex same)

    apex_owns : list_any (λ r. is_same r.owner zone.apex) zone.records ≡ true
    apex_owns =
        true_from_ne_false (list_any (λ r. is_same r.owner zone.apex) zone.records) (λ none. true≢false
        (sym ok.has_soa ∙ ap (have_type soa_code) (nothing_owned zone.apex zone.records none)))

    apex_has : HasNsec zone zone.apex
    apex_has = record { owns = apex_owns; not_sent = none_above zone zone.apex (omega arith) }

    -- An NSEC record that says so is of a name that sends those below it away.
    sends : (nsec : NsecValue) → IsOfChain zone nsec → sends_below nsec.types ≡ true → (o : ZoneOutcome) × (sent_at zone nsec.owner ≡ Some o)
    unfolding sends_below sent_at is_type_listed is_due
    sends nsec link h = elim (or_cases (is_of_delegation nsec.types) (lists nsec.types dname_code) h) [
      | inl cut ↦ (Referral (owned_by nsec.owner zone.records), rw (is_cut zone nsec.owner nsec.types ok (chain_types zone nsec link) cut) refl)
      | inr dname ↦ elim (cases_Bool (is_delegation zone nsec.owner)) [
        | inl cut ↦ (Referral (owned_by nsec.owner zone.records), rw cut refl)
        | inr other ↦ (Redirect (owned_by nsec.owner zone.records), rw (other, dname_there nsec link dname) refl)
      ]
    ]
      where
        or_left_of : (b : Bool) → (b || false) ≡ true → b ≡ true
        or_left_of true h = refl
        or_left_of false h = h

        dname_there : (it : NsecValue) → IsOfChain zone it → lists it.types dname_code ≡ true → have_type dname_code (owned_by it.owner zone.records) ≡ true
        dname_there it own listed =
            let due : is_due zone it.owner dname_code ≡ true = or_left_of (is_due zone it.owner dname_code) (sym (own.types dname_code) ∙ listed) in
            (and_parts (have_type dname_code (owned_by it.owner zone.records)) _ due).0

    pub speaks : (nsec : NsecValue) (name : List (List ℕ)) → IsOfChain zone nsec → covers nsec name ≡ true → sent_above zone name ≡ None
        → (is_in nsec.owner name && sends_below nsec.types) ≡ false
    speaks nsec name link cov free =
        false_from_ne_true (is_in nsec.owner name && sends_below nsec.types) (λ h.
        let (inside, below) = and_parts (is_in nsec.owner name) (sends_below nsec.types) h in
        let (o, sent) = sends nsec link below in
        let long = at_least nsec.owner (in_zone zone.apex nsec.owner zone.records ok.in_zone link.owner.owns) in
        let same = not_under zone nsec.owner name o long link.owner.not_sent sent free inside in
        true≢false (sym (after_owner nsec name cov) ∙ not_before_zone compare begin name nsec.owner (in_alike name nsec.owner nsec.owner same ∙ in_itself nsec.owner)))

    -- ---- the last record before a name

    module _ (name : List (List ℕ)) where
      -- Before the name, none of these records is after the one with this owner.
      abbrev IsNearest : List (List ℕ) → NsecValue → Type 0
      IsNearest from nsec = is_lt (labels_cmp nsec.owner name) ≡ true → is_lt (labels_cmp from nsec.owner) ≡ false

      record IsLast (nsecs : List NsecValue) : Type 0 where
        nsec : NsecValue
        link : IsOfChain zone nsec
        before : is_lt (labels_cmp nsec.owner name) ≡ true
        among : (p : NsecValue → Bool) → p nsec ≡ true → list_any p nsecs ≡ true
        nearest : AllByRecursion (IsNearest nsec.owner) nsecs

      last_of : (nsecs : List NsecValue) → AllByRecursion (IsOfChain zone) nsecs → list_any (λ n. is_lt (labels_cmp n.owner name)) nsecs ≡ true → IsLast nsecs
      last_of [] all h = absurd (true≢false (sym h))
      last_of (n ∷ ns) (link, all) h = elim (cases_Bool (list_any (λ m. is_lt (labels_cmp m.owner name)) ns)) [
        | inr none ↦ alone n ns link (or_first (is_lt (labels_cmp n.owner name)) _ h none) none
        | inl some ↦ later n ns link (last_of ns all some)
      ]
        where
          or_first : (a b : Bool) → (a || b) ≡ true → b ≡ false → a ≡ true
          or_first true b h none = refl
          or_first false b h none = absurd (true≢false (sym h ∙ none))

          alone : (m : NsecValue) (ms : List NsecValue) → IsOfChain zone m → is_lt (labels_cmp m.owner name) ≡ true
              → list_any (λ x. is_lt (labels_cmp x.owner name)) ms ≡ false → IsLast (m ∷ ms)
          alone m ms own before none = record {
            nsec = m;
            link = own;
            before = before;
            among = λ p passes. or_left (p m) (list_any p ms) passes;
            nearest = (
              λ _. not_before_itself m.owner,
              all_if_none (λ x. is_lt (labels_cmp x.owner name)) (IsNearest m.owner) ms (λ x no yes. absurd (true≢false (sym yes ∙ no))) none,
            );
          }

          stays : (m : NsecValue) (ms : List NsecValue) (last : IsLast ms) → IsNearest last.nsec.owner m → IsLast (m ∷ ms)
          stays m ms last near = record {
            nsec = last.nsec;
            link = last.link;
            before = last.before;
            among = λ p passes. or_right (p m) (list_any p ms) (last.among p passes);
            nearest = (near, last.nearest);
          }

          later : (m : NsecValue) (ms : List NsecValue) → IsOfChain zone m → IsLast ms → IsLast (m ∷ ms)
          later m ms own last = elim (cases_Bool (is_lt (labels_cmp m.owner name))) [
            | inr after ↦ stays m ms last (λ yes. absurd (true≢false (sym yes ∙ after)))
            | inl before ↦ elim (cases_Bool (is_lt (labels_cmp last.nsec.owner m.owner))) [
              | inr not_past ↦ stays m ms last (λ _. not_past)
              | inl past ↦ record {
                nsec = m;
                link = own;
                before = before;
                among = λ p passes. or_left (p m) (list_any p ms) passes;
                nearest = (
                  λ _. not_before_itself m.owner,
                  all_more (IsNearest last.nsec.owner) (IsNearest m.owner) ms
                      (λ x near yes. names_rank.chain m.owner last.nsec.owner x.owner (names_rank.one_way last.nsec.owner m.owner past) (near yes)) last.nearest,
                );
              }
            ]
          ]

    module _ (nsecs : List NsecValue) (chain : IsChain zone nsecs) (name : List (List ℕ)) (inside : is_in zone.apex name ≡ true) where
      module _ (none : list_any (λ r. is_same r.owner name) zone.records ≡ false) where
        -- A name that owns records is not this one.
        apart : (other : List (List ℕ)) → list_any (λ r. is_same r.owner other) zone.records ≡ true → is_same other name ≡ false
        apart other owns =
            false_from_ne_true (is_same other name) (λ same. true≢false
            (sym (any_of (λ r. is_same r.owner name) (λ r. is_same r.owner other) zone.records
            (λ r h. sym (right_alike other name r.owner (lower_if_same other name same)) ∙ h) owns) ∙ none))

        -- Such a name is before this one, or after it.
        before_if : (other : List (List ℕ)) → list_any (λ r. is_same r.owner other) zone.records ≡ true → is_lt (labels_cmp name other) ≡ false
            → is_lt (labels_cmp other name) ≡ true
        before_if other owns h =
            true_from_ne_false (is_lt (labels_cmp other name)) (λ no. true≢false (sym (same_if_level other name no h) ∙ apart other owns))

        -- Its record is among those before this one.
        some_before : (other : List (List ℕ)) → HasNsec zone other → is_lt (labels_cmp name other) ≡ false
            → list_any (λ n. is_lt (labels_cmp n.owner name)) nsecs ≡ true
        some_before other has h =
            any_of (λ n. is_lt (labels_cmp n.owner name)) (λ n. is_same n.owner other) nsecs
            (λ n same. before_alike n.owner other name same (before_if other has.owns h)) (chain.every other has)

        last : IsLast name nsecs
        last = last_of name nsecs chain.each (some_before zone.apex apex_has (not_before_zone compare begin zone.apex name inside))

        -- The next name of the last record before this one is not before it.
        not_past_next : is_lt (labels_cmp last.nsec.owner last.nsec.next) ≡ true → is_lt (labels_cmp name last.nsec.next) ≡ true
        not_past_next less =
            true_from_ne_false (is_lt (labels_cmp name last.nsec.next)) (λ no.
            let (m, same, near) = one_of (λ n. is_same n.owner last.nsec.next) (IsNearest name last.nsec.owner) nsecs last.nearest (chain.every last.nsec.next last.link.next) in
            let early = before_alike m.owner last.nsec.next name same (before_if last.nsec.next last.link.next.owns no) in
            true≢false (sym less ∙ names_rank.chain last.nsec.owner m.owner last.nsec.next (near early) (not_before_same m.owner last.nsec.next same)))

        in_next_name : is_lt (labels_cmp last.nsec.owner last.nsec.next) ≡ false → is_in last.nsec.next name ≡ true
        in_next_name more = in_alike last.nsec.next zone.apex name (lower_if_same last.nsec.next zone.apex (last.link.last more)) ∙ inside

        last_covers : covers last.nsec name ≡ true
        last_covers = covered_if last.nsec name last.before not_past_next in_next_name

      -- One of the whole chain speaks of the name.
      pub one_speaks : sent_above zone name ≡ None → list_any (speaks_of name) nsecs ≡ true
      unfolding speaks_of
      one_speaks free = elim (cases_Bool (list_any (λ r. is_same r.owner name) zone.records)) [
        | inl owns ↦ any_of (speaks_of name) (λ n. is_same n.owner name) nsecs (λ n same. or_left (is_same n.owner name) (covers n name) same)
            (chain.every name (record { owns = owns; not_sent = free }))
        | inr none ↦ (last none).among (speaks_of name) (or_right (is_same (last none).nsec.owner name) (covers (last none).nsec name) (last_covers none))
      ]

    -- ---- the wildcard of a name that does not exist

    free_up : (label : List ℕ) (above : List (List ℕ)) → sent_above zone (label ∷ above) ≡ None → sent_above zone above ≡ None
    free_up label above free = elim (cases_lt (length above) (length zone.apex)) [
      | inl short ↦ none_above zone above (omega (short, arith))
      | inr long ↦ by (sent_above zone above) refl long
    ]
      where
        by : (o : Option ZoneOutcome) → sent_above zone above ≡ o → length zone.apex ≤ length above → sent_above zone above ≡ None
        by None is long = is
        by (Some o) is long = let way : sent_above zone (label ∷ above) ≡ Some o = all_below zone (label ∷ []) above o long is in cc

    -- What is above a name alone decides whether it is sent away.
    free_beside : (label other : List ℕ) (above : List (List ℕ)) → sent_above zone (label ∷ above) ≡ None → sent_above zone (other ∷ above) ≡ None
    unfolding sent_above
    free_beside label other above free = free

    pub wild_free : (name : List (List ℕ)) → sent_above zone name ≡ None → name_exists name zone.records ≡ false → sent_above zone (wildcard ∷ encloser zone name) ≡ None
    unfolding encloser
    wild_free [] free gone = sent_step zone wildcard [] free (λ _. not_sent_at zone [] (nothing_there zone.records [] gone))
    wild_free (label ∷ above) free gone = elim (cases_Bool (name_exists above zone.records)) [
      | inl there ↦ rw (gone, encloser_self zone above there) (free_beside label wildcard above free)
      | inr none ↦ rw gone (wild_free above (free_up label above free) none)
    ]

    apex_there : name_exists zone.apex zone.records ≡ true
    apex_there = owner_exists zone.apex zone.apex zone.records (in_itself zone.apex) apex_owns

    exists_alike : (x y : List (List ℕ)) → lower x ≡ lower y → name_exists x zone.records ≡ true → name_exists y zone.records ≡ true
    unfolding name_exists
    exists_alike x y same there =
        any_of (λ r. is_in y r.owner) (λ r. is_in x r.owner) zone.records (λ r h. sym (in_alike x y r.owner same) ∙ h) there

    in_above : (label : List ℕ) (above : List (List ℕ)) → is_in zone.apex (label ∷ above) ≡ true → name_exists (label ∷ above) zone.records ≡ false
        → is_in zone.apex above ≡ true
    in_above label above inside gone = by (zone_if_in zone.apex (label ∷ above) inside)
      where
        by : IsZoneOf zone.apex (label ∷ above) → is_in zone.apex above ≡ true
        by ([], rest, is, same) =
            absurd (true≢false (sym (exists_alike zone.apex (label ∷ above) (sym (ap lower is ∙ same)) apex_there) ∙ gone))
        by ((first ∷ front), rest, is, same) = in_if_zone zone.apex above (front, rest, ap (drop 1) is, same)

    in_encloser : (name : List (List ℕ)) → is_in zone.apex name ≡ true → is_in zone.apex (encloser zone name) ≡ true
    unfolding encloser
    in_encloser [] inside = inside
    in_encloser (label ∷ above) inside = elim (cases_Bool (name_exists (label ∷ above) zone.records)) [
      | inl there ↦ rw there inside
      | inr gone ↦ rw gone (in_encloser above (in_above label above inside gone))
    ]

    in_wild : (name : List (List ℕ)) → is_in zone.apex name ≡ true → is_in zone.apex (wildcard ∷ encloser zone name) ≡ true
    in_wild name inside =
        in_trans zone.apex (encloser zone name) (wildcard ∷ encloser zone name) (in_encloser name inside) (in_last (wildcard ∷ []) (encloser zone name))

  pub chain_enough : (zone : ZoneValue) (nsecs : List NsecValue) (name : List (List ℕ)) → IsZone zone → IsChain zone nsecs → is_in zone.apex name ≡ true
      → sent_above zone name ≡ None → AreEnough zone nsecs name
  unfolding source
  chain_enough zone nsecs name ok chain inside free = record {
    each = chain.each;
    own = one_speaks zone ok nsecs chain name inside free;
    wild = λ gone. one_speaks zone ok nsecs chain (wildcard ∷ encloser zone name) (in_wild zone ok name inside) (wild_free zone ok name free gone);
  }
