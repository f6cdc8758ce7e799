-- Records that are added one by one, each set once.
use Rattle.std.proofs.Common.{◌≡◌, ℕ, ◌+◌, ◌-◌, ◌<◌, ◌≤◌, Bool, true, false, List, [], ◌∷◌, ◌++◌, length, map, get_or, take, drop, slice_get, Option, Some, None, refl, sym, ap, ◌∙◌}
use Rattle.std.proofs.lemmas.Grind.{flat_map-append}
use Rattle.std.proofs.lemmas.List.{append-nil, map-append}
use Rattle.std.proofs.lemmas.List.Concat.{flat_map-cons}
use Rattle.std.specs.List.{flat_map}
use Rattle.std.specs.Option.{option_map, option_to_list}
use Rattle.dns_names_wire.specs.Words.{NameValue, RecordValue}
use Rattle.ans_store.specs.Zones.{ZoneValue}
use Rattle.ans_answer.specs.Answers.{SectionPart, records_of_type}
use Rattle.ans_answer.specs.Outcomes.{is_wanted}
use Rattle.ans_answer.specs.Seen.{all_labels, part_seen, parts_seen}
use Rattle.ans_answer.specs.declared.answer.Part.{Part}
use Rattle.ans_reply.specs.Inside.Roles.{sent, with_wanted}
use Rattle.ans_reply.specs.Sections.{ReplyRecord, address_parts, each_once, part_records, section_of, with_once}
use Rattle.ans_reply.specs.declared.section.Role.{Role}
use Rattle.ans_reply.proofs.Ranges.{drop_next, range_next, range_none}

pub once_append : (before xs ys : List ReplyRecord) → each_once before (xs ++ ys) ≡ each_once (each_once before xs) ys
unfolding each_once
once_append before [] ys = refl
once_append before (x ∷ xs) ys = once_append (with_once before x) xs ys

-- ---- the records of a type

-- what is sent of the records from one number up to another
abbrev pub wanted_from : List RecordValue → Role → ℕ → ℕ → ℕ → List ReplyRecord
wanted_from zs role code k e = map (sent role) (records_of_type code (take (e - k) (drop k zs)))

wanted_first : (before : List ReplyRecord) (role : Role) (code : ℕ) (r : RecordValue) (rs : List RecordValue)
    → each_once (with_wanted code role before r) (map (sent role) (records_of_type code rs)) ≡ each_once before (map (sent role) (records_of_type code (r ∷ rs)))
unfolding each_once records_of_type
wanted_first before role code r rs = by (is_wanted code r) refl
  where
    by : (b : Bool) → b ≡ is_wanted code r
        → each_once (with_wanted code role before r) (map (sent role) (records_of_type code rs)) ≡ each_once before (map (sent role) (records_of_type code (r ∷ rs)))
    by true is = rw (sym is) refl
    by false is = rw (sym is) refl

pub set_step : (before now : List ReplyRecord) (zs : List RecordValue) (role : Role) (code k e : ℕ) (r : RecordValue) → k < e → e ≤ length zs
    → r ≡ get_or zs k r → now ≡ with_wanted code role before r
    → each_once now (wanted_from zs role code (k + 1) e) ≡ each_once before (wanted_from zs role code k e)
set_step before now zs role code k e r h within is is_now =
    ap (λ (xs : List ReplyRecord). each_once xs (wanted_from zs role code (k + 1) e)) is_now
    ∙ (wanted_first before role code r (take (e - (k + 1)) (drop (k + 1) zs))
    ∙ ap (λ (rs : List RecordValue). each_once before (map (sent role) (records_of_type code rs))) (sym (range_next zs k e r h within is)))

pub set_end : (before : List ReplyRecord) (zs : List RecordValue) (role : Role) (code k e : ℕ) → e ≤ k → each_once before (wanted_from zs role code k e) ≡ before
unfolding each_once records_of_type
set_end before zs role code k e h =
    ap (λ (rs : List RecordValue). each_once before (map (sent role) (records_of_type code rs))) (range_none zs k e h)

-- ---- the first record of a type

first_wanted : (code : ℕ) (r : RecordValue) (rs : List RecordValue) → is_wanted code r ≡ true → slice_get (records_of_type code (r ∷ rs)) 0 ≡ Some r
unfolding records_of_type
first_wanted code r rs passes = rw passes refl

first_other : (code : ℕ) (r : RecordValue) (rs : List RecordValue) → is_wanted code r ≡ false
    → slice_get (records_of_type code (r ∷ rs)) 0 ≡ slice_get (records_of_type code rs) 0
unfolding records_of_type
first_other code r rs fails = rw fails refl

-- the first one that is asked for of the records from one number up to another
abbrev pub first_from : List RecordValue → ℕ → ℕ → ℕ → Option RecordValue
first_from zs code k e = slice_get (records_of_type code (take (e - k) (drop k zs))) 0

module _ (zs : List RecordValue) (code k e : ℕ) (r : RecordValue) (h : k < e) (within : e ≤ length zs) (is : r ≡ get_or zs k r) where
  pub first_is : is_wanted code r ≡ true → first_from zs code k e ≡ Some r
  first_is passes =
      ap (λ (rs : List RecordValue). slice_get (records_of_type code rs) 0) (range_next zs k e r h within is)
      ∙ first_wanted code r (take (e - (k + 1)) (drop (k + 1) zs)) passes

  pub first_later : is_wanted code r ≡ false → first_from zs code (k + 1) e ≡ first_from zs code k e
  first_later fails =
      sym (first_other code r (take (e - (k + 1)) (drop (k + 1) zs)) fails)
      ∙ ap (λ (rs : List RecordValue). slice_get (records_of_type code rs) 0) (sym (range_next zs k e r h within is))

pub first_none : (zs : List RecordValue) (code k e : ℕ) → e ≤ k → first_from zs code k e ≡ None
unfolding records_of_type
first_none zs code k e h = ap (λ (rs : List RecordValue). slice_get (records_of_type code rs) 0) (range_none zs k e h)

-- ---- the records of parts

pub parts_step : (zs : List RecordValue) (names : List (List (List ℕ))) (before now : List ReplyRecord) (ps : List Part) (i : ℕ) (p : Part)
    → i < length ps → p ≡ get_or ps i p → now ≡ each_once before (part_records (part_seen zs names p))
    → each_once now (flat_map part_records (parts_seen zs names (drop (i + 1) ps))) ≡ each_once before (flat_map part_records (parts_seen zs names (drop i ps)))
parts_step zs names before now ps i p h is is_now =
    let rest = flat_map part_records (parts_seen zs names (drop (i + 1) ps)) in
    ap (λ (xs : List ReplyRecord). each_once xs rest) is_now
    ∙ (sym (once_append before (part_records (part_seen zs names p)) rest)
    ∙ (ap (each_once before) (sym (flat_map-cons part_records (part_seen zs names p) (parts_seen zs names (drop (i + 1) ps))))
    ∙ ap (λ (qs : List Part). each_once before (flat_map part_records (parts_seen zs names qs))) (sym (drop_next ps i p h is))))

pub no_parts : (zs : List RecordValue) (names : List (List (List ℕ))) (before : List ReplyRecord) (ps : List Part) (i : ℕ) → drop i ps ≡ []
    → each_once before (flat_map part_records (parts_seen zs names (drop i ps))) ≡ before
unfolding each_once
no_parts zs names before ps i none = ap (λ (qs : List Part). each_once before (flat_map part_records (parts_seen zs names qs))) none

pub one_part : (zs : List RecordValue) (names : List (List (List ℕ))) (before : List ReplyRecord) (p : Part)
    → each_once before (part_records (part_seen zs names p)) ≡ each_once before (flat_map part_records (parts_seen zs names (option_to_list (Some p))))
one_part zs names before p = ap (each_once before) (sym (append-nil (part_records (part_seen zs names p))))

pub answers_are : (zs : List RecordValue) (names : List (List (List ℕ))) (ps : List Part) (p : Option Part)
    → each_once (each_once [] (flat_map part_records (parts_seen zs names ps))) (flat_map part_records (parts_seen zs names (option_to_list p)))
    ≡ section_of (parts_seen zs names (ps ++ option_to_list p))
unfolding section_of
answers_are zs names ps p =
    let first = parts_seen zs names ps in
    let second = parts_seen zs names (option_to_list p) in
    sym (once_append [] (flat_map part_records first) (flat_map part_records second))
    ∙ ap (each_once []) (sym (flat_map-append part_records first second) ∙ ap (flat_map part_records) (sym (map-append (part_seen zs names) ps (option_to_list p))))

pub option_seen : (zs : List RecordValue) (names : List (List (List ℕ))) (p : Option Part)
    → parts_seen zs names (option_to_list p) ≡ option_to_list (option_map (part_seen zs names) p)
option_seen zs names None = refl
option_seen zs names (Some p) = refl

pub authorities_are : (zs : List RecordValue) (names : List (List (List ℕ))) (p : Option Part)
    → each_once [] (flat_map part_records (parts_seen zs names (option_to_list p))) ≡ section_of (option_to_list (option_map (part_seen zs names) p))
unfolding section_of
authorities_are zs names p = ap (λ (ps : List SectionPart). each_once [] (flat_map part_records ps)) (option_seen zs names p)

module _ (zs : List RecordValue) (asked : List (List ℕ)) (ns ms : List NameValue) (is_ns : ns ≡ ms) where
  abbrev sent_parts : List Part → List ReplyRecord
  sent_parts ps = flat_map part_records (parts_seen zs (asked ∷ all_labels ns) ps)

  pub answers_made : (ps qs : List Part) (p : Option Part) (start middle now : List ReplyRecord) → ps ≡ qs → start ≡ []
      → middle ≡ each_once start (sent_parts ps) → now ≡ each_once middle (sent_parts (option_to_list p))
      → now ≡ section_of (parts_seen zs (asked ∷ all_labels ms) (qs ++ option_to_list p))
  answers_made ps qs p start middle now is_ps none first second =
      second
      ∙ (ap (λ (xs : List ReplyRecord). each_once xs (sent_parts (option_to_list p))) (first ∙ ap (λ (xs : List ReplyRecord). each_once xs (sent_parts ps)) none)
      ∙ (answers_are zs (asked ∷ all_labels ns) ps p
      ∙ (ap (λ (ks : List NameValue). section_of (parts_seen zs (asked ∷ all_labels ks) (ps ++ option_to_list p))) is_ns
      ∙ ap (λ (os : List Part). section_of (parts_seen zs (asked ∷ all_labels ms) (os ++ option_to_list p))) is_ps)))

  pub authorities_made : (p : Option Part) (start now : List ReplyRecord) → start ≡ [] → now ≡ each_once start (sent_parts (option_to_list p))
      → now ≡ section_of (option_to_list (option_map (part_seen zs (asked ∷ all_labels ms)) p))
  authorities_made p start now none first =
      first
      ∙ (ap (λ (xs : List ReplyRecord). each_once xs (sent_parts (option_to_list p))) none
      ∙ (authorities_are zs (asked ∷ all_labels ns) p
      ∙ ap (λ (ks : List NameValue). section_of (option_to_list (option_map (part_seen zs (asked ∷ all_labels ks)) p))) is_ns))

-- ---- the addresses of servers

pub two_parts : (before middle now : List ReplyRecord) (p q : SectionPart) → middle ≡ each_once before (part_records p) → now ≡ each_once middle (part_records q)
    → now ≡ each_once before (flat_map part_records (p ∷ q ∷ []))
two_parts before middle now p q first second =
    second
    ∙ (ap (λ (xs : List ReplyRecord). each_once xs (part_records q)) first
    ∙ (sym (once_append before (part_records p) (part_records q))
    ∙ ap (λ (xs : List ReplyRecord). each_once before (part_records p ++ xs)) (sym (append-nil (part_records q)))))

-- what is sent of the addresses of servers
abbrev pub addresses_from : ZoneValue → Bool → List NameValue → List ReplyRecord
addresses_from zone referral names = flat_map part_records (flat_map (address_parts zone referral) (all_labels names))

pub addresses_step : (zone : ZoneValue) (referral : Bool) (before now : List ReplyRecord) (names : List NameValue) (i : ℕ) (name : NameValue)
    → i < length names → name ≡ get_or names i name → now ≡ each_once before (flat_map part_records (address_parts zone referral name.labels))
    → each_once now (addresses_from zone referral (drop (i + 1) names)) ≡ each_once before (addresses_from zone referral (drop i names))
addresses_step zone referral before now names i name h is is_now =
    let rest = addresses_from zone referral (drop (i + 1) names) in
    ap (λ (xs : List ReplyRecord). each_once xs rest) is_now
    ∙ (sym (once_append before (flat_map part_records (address_parts zone referral name.labels)) rest)
    ∙ (ap (each_once before) (sym (flat_map-append part_records (address_parts zone referral name.labels) (flat_map (address_parts zone referral) (all_labels (drop (i + 1) names)))))
    ∙ ap (λ (ns : List NameValue). each_once before (addresses_from zone referral ns)) (sym (drop_next names i name h is))))

pub no_addresses : (zone : ZoneValue) (referral : Bool) (before : List ReplyRecord) (names : List NameValue) (i : ℕ) → drop i names ≡ []
    → each_once before (addresses_from zone referral (drop i names)) ≡ before
unfolding each_once
no_addresses zone referral before names i none = ap (λ (ns : List NameValue). each_once before (addresses_from zone referral ns)) none
