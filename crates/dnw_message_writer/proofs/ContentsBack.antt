-- What a message holds after an item was added.
use Rattle.std.proofs.Common.{◌≡◌, ◌⊎◌, ℕ, ◌+◌, ◌<◌, ◌≤◌, ◌^◌, List, [], ◌∷◌, ◌++◌, length, take, drop, get_or, sym, ap, ◌∙◌, subst, inl, inr, refl, arith, length-append}
use Rattle.std.specs.Int.{w16, from_be_bytes, to_be_bytes}
use Rattle.std.proofs.lemmas.List.{length-take-le}
use Rattle.std.proofs.lemmas.Nat.{from_be_bytes-to_be_bytes_2}
use Rattle.dnw_message_writer.specs.CompressedNames.{put_at}
use Rattle.dnw_message_writer.specs.ContentLaws.{QuestionsAreAdded, RecordsAreAdded}
use Rattle.dnw_message_writer.specs.Contents.{AddedItems, AddedQuestion, AddedRecord, HoldsItems, KeepsItems, ReadsAsQuestion, ReadsAsRecord, StayInTurn, StaysRead, items_of_section, with_question, with_records}
use Rattle.dnw_message_writer.specs.Items.{ItemForm, question_form, record_form}
use Rattle.dnw_message_writer.specs.NameLaws.{KeepsSettled}
use Rattle.dnw_message_writer.specs.Sections.{offset_of_count, rank}
use Rattle.dnw_message_writer.specs.States.{AddsItem, count_in_header, with_one_more}
use Rattle.dnw_message_writer.specs.declared.section.Section.{Section}
use Rattle.dnw_message_writer.specs.declared.section.Section.TheVariants.{Queries, Answers, Authorities, Additionals}
use Rattle.dnw_message_writer.specs.declared.state.WriterState.{WriterState}
use Rattle.dnw_message_writer.proofs.Counting.{count_kept, count_small}
use Rattle.dnw_message_writer.proofs.Going.{take_before}
use Rattle.dnw_message_writer.proofs.ItemsBack.{index_after, index_before, index_put, put_later, question_read, record_read}
use Rattle.dnw_message_writer.proofs.Puts.{length_put_at}

-- ---- items in turn

module _ {A : Type 0} (stands : List ℕ → A → ℕ → ℕ → Type 0) where
  pub turn_order : (m : List ℕ) (xs : List A) (p e : ℕ) → StayInTurn stands m xs p e → p ≤ e
  turn_order m [] p e h = omega (arith, h)
  turn_order m (x ∷ xs) p e (q, before, one, more) = omega (arith, before, turn_order m xs q e more)

  -- a message that is later than a later one
  later_on : (end : ℕ) (m n later : List ℕ) → ((i : ℕ) → 12 ≤ i → i < end → get_or n i 0 ≡ get_or m i 0) → KeepsItems end n later → KeepsItems end m later
  later_on end m n later same keeps =
      record { longer = keeps.longer; same = λ i after small. keeps.same i after small ∙ same i after small }

  pub turn_later : (m n : List ℕ) (xs : List A) (p e : ℕ) → ((i : ℕ) → 12 ≤ i → i < e → get_or n i 0 ≡ get_or m i 0)
      → StayInTurn stands m xs p e → StayInTurn stands n xs p e
  turn_later m n [] p e same h = h
  turn_later m n (x ∷ xs) p e same (q, before, one, more) =
      let order = turn_order m xs q e more in (
        q,
        before,
        λ later keeps. one later (later_on q m n later (λ i after small. same i after (omega (arith, small, order))) keeps),
        turn_later m n xs q e same more,
      )

  pub turn_more : (m : List ℕ) (xs : List A) (x : A) (p q e : ℕ) → q ≤ e → StayInTurn stands m xs p q → StaysRead stands m x q e
      → StayInTurn stands m (xs ++ x ∷ []) p e
  turn_more m [] x p q e order h one = (e, omega (arith, order, h), subst (λ i. StaysRead stands m x i e) (sym h) one, refl)
  turn_more m (y ∷ xs) x p q e order (o, before, first, more) one = (o, before, first, turn_more m xs x o q e order more one)

  turn_none : (m : List ℕ) (xs : List A) (p e : ℕ) → length xs ≡ 0 → StayInTurn stands m xs p e → p ≡ e
  turn_none m [] p e none h = h
  turn_none m (x ∷ xs) p e none h = absurd (omega (arith, none))

  none_turn : (m : List ℕ) (xs : List A) (e : ℕ) → length xs ≡ 0 → StayInTurn stands m xs e e
  none_turn m [] e none = refl
  none_turn m (x ∷ xs) e none = absurd (omega (arith, none))

-- ---- counts

module _ (s : Section) (m : List ℕ) (long : 12 ≤ length m) where
  pub count_one_more : count_in_header s m + 1 < 2 ^ 16 → count_in_header s (with_one_more s m) ≡ count_in_header s m + 1
  count_one_more small =
      let n = count_in_header s m + 1 in
      let off = offset_of_count s in
      let within : off ≤ length m = omega (arith, long, count_small s) in
      let zeroth : off + 0 ≡ off = omega arith in
      let first : get_or (with_one_more s m) off 0 ≡ get_or (to_be_bytes w16 n) 0 0 =
      ap (λ i. get_or (with_one_more s m) i 0) (sym zeroth) ∙ index_put m (to_be_bytes w16 n) off 0 within (omega arith) in
      let second : get_or (with_one_more s m) (off + 1) 0 ≡ get_or (to_be_bytes w16 n) 1 0 = index_put m (to_be_bytes w16 n) off 1 within (omega arith) in
      ap (λ x. from_be_bytes w16 (x ∷ get_or (with_one_more s m) (off + 1) 0 ∷ [])) first
      ∙ (ap (λ x. from_be_bytes w16 (get_or (to_be_bytes w16 n) 0 0 ∷ x ∷ [])) second ∙ from_be_bytes-to_be_bytes_2 n small)

  -- an octet that is not of the count
  pub other_octet : (i : ℕ) → (i < offset_of_count s) ⊎ (offset_of_count s + 2 ≤ i) → get_or (with_one_more s m) i 0 ≡ get_or m i 0
  other_octet i (inl less) =
      index_before m (to_be_bytes w16 (count_in_header s m + 1)) (offset_of_count s) i (omega (arith, long, count_small s)) less
  other_octet i (inr more) =
      index_after m (to_be_bytes w16 (count_in_header s m + 1)) (offset_of_count s) i (omega (arith, long, count_small s)) more

  pub other_count : (t : Section) → (rank t < rank s) ⊎ (rank s < rank t) → count_in_header t (with_one_more s m) ≡ count_in_header t m
  other_count t apart =
      let first = other_octet (offset_of_count t) (elim apart [ inl less ↦ inl (omega (arith, less)) | inr more ↦ inr (omega (arith, more)) ]) in
      let second = other_octet (offset_of_count t + 1) (elim apart [ inl less ↦ inl (omega (arith, less)) | inr more ↦ inr (omega (arith, more)) ]) in
      ap (λ x. from_be_bytes w16 (x ∷ get_or (with_one_more s m) (offset_of_count t + 1) 0 ∷ [])) first
      ∙ ap (λ x. from_be_bytes w16 (get_or m (offset_of_count t) 0 ∷ x ∷ [])) second

-- ---- an item is added

-- What is known of the message after an item of the section was added, which ends there.
pub record Grown (s : Section) (old new : List ℕ) (at : ℕ) (octets : List ℕ) : Type 0 where
  pub header : 12 ≤ at
  pub room : at + length octets ≤ length old
  pub longer : length new ≡ length old
  pub here : (i : ℕ) → 12 ≤ i → i < at + length octets → get_or new i 0 ≡ get_or (put_at old at octets) i 0
  pub kept : (i : ℕ) → 12 ≤ i → i < at → get_or new i 0 ≡ get_or old i 0
  pub head : (i : ℕ) → i < 4 → get_or new i 0 ≡ get_or old i 0
  pub one_more : count_in_header s new ≡ count_in_header s old + 1
  pub small : count_in_header s old < 65535
  pub others : (t : Section) → (rank t < rank s) ⊎ (rank s < rank t) → count_in_header t new ≡ count_in_header t old

pub grown : (s : Section) (form : ItemForm) (w v : WriterState) (old new : List ℕ) (h : AddsItem s form w old v new) → Grown s old new w.end h.0
grown s form w v old new (octets, hints, is, limit, fits, new_is, after_is) =
    let at = w.end in
    let header : 12 ≤ at = limit.message.whole in
    let few : count_in_header s old < 65535 = limit.message.few in
    let room : at + length octets ≤ length old = omega (arith, fits) in
    let m = put_at old at octets in
    let size : length m ≡ length old = length_put_at old at octets room in
    let long : 12 ≤ length m = omega (arith, size, room, header) in
    let small = count_small s in
    let same : (t : Section) → count_in_header t m ≡ count_in_header t old =
    λ t. count_kept t m old at header (take_before old at octets (omega (arith, room))) in
    let off : offset_of_count s + 2 ≤ 12 = omega (arith, small) in
    let after : (i : ℕ) → 12 ≤ i → get_or new i 0 ≡ get_or m i 0 =
    λ i large. ap (λ x. get_or x i 0) new_is ∙ other_octet s m long i (inr (omega (arith, large, off))) in
    record {
      header = header;
      room = room;
      longer = ap length new_is ∙ (length_put_at m (offset_of_count s) (to_be_bytes w16 (count_in_header s m + 1)) (omega (arith, long, off)) ∙ size);
      here = λ i large less. after i large;
      kept = λ i large less. after i large ∙ index_before old octets at i (omega (arith, room)) less;
      head = λ i less.
          ap (λ x. get_or x i 0) new_is ∙ (other_octet s m long i (inl (omega (arith, less)))
          ∙ index_before old octets at i (omega (arith, room)) (omega (arith, less, header)));
      one_more =
          ap (λ x. count_in_header s x) new_is ∙ (count_one_more s m long (omega (arith, same s, few)) ∙ ap (λ n. n + 1) (same s));
      small = few;
      others = λ t apart. ap (λ x. count_in_header t x) new_is ∙ (other_count s m long t apart ∙ same t);
    }

-- an item that is read in each message that begins there as it does stays
grown_stays : {A : Type 0} (stands : List ℕ → A → ℕ → ℕ → Type 0) (x : A) (s : Section) (old new : List ℕ) (at : ℕ) (octets : List ℕ)
    → Grown s old new at octets
    → ((later more : List ℕ) → KeepsSettled (length (take at old)) (take at old) later → drop (length (take at old)) later ≡ octets ++ more
    → stands later x (length (take at old)) (length (take at old) + length octets))
    → StaysRead stands new x at (at + length octets)
grown_stays stands x s old new at octets g read later keeps =
    let size : length (take at old) ≡ at = length-take-le at old (omega (arith, g.room)) in
    let (settled, there) = put_later old new octets later at g.room g.header g.here keeps in
    subst (λ p. stands later x p (p + length octets)) size (read later (drop (at + length octets) later) settled there)

-- ---- sections

same_or_apart : (t s : Section) → (t ≡ s) ⊎ ((rank t < rank s) ⊎ (rank s < rank t))
same_or_apart Queries Queries = inl refl
same_or_apart Queries Answers = inr (inl (omega arith))
same_or_apart Queries Authorities = inr (inl (omega arith))
same_or_apart Queries Additionals = inr (inl (omega arith))
same_or_apart Answers Queries = inr (inr (omega arith))
same_or_apart Answers Answers = inl refl
same_or_apart Answers Authorities = inr (inl (omega arith))
same_or_apart Answers Additionals = inr (inl (omega arith))
same_or_apart Authorities Queries = inr (inr (omega arith))
same_or_apart Authorities Answers = inr (inr (omega arith))
same_or_apart Authorities Authorities = inl refl
same_or_apart Authorities Additionals = inr (inl (omega arith))
same_or_apart Additionals Queries = inr (inr (omega arith))
same_or_apart Additionals Answers = inr (inr (omega arith))
same_or_apart Additionals Authorities = inr (inr (omega arith))
same_or_apart Additionals Additionals = inl refl

-- the other sections have as many items as they had
other_counted : (s t : Section) (rs : List AddedRecord) (c : AddedItems) → (rank t < rank s) ⊎ (rank s < rank t)
    → items_of_section t (with_records s rs c) ≡ items_of_section t c
other_counted Queries t rs c apart = refl
other_counted Answers Queries rs c apart = refl
other_counted Answers Answers rs c (inl less) = absurd (omega (arith, less))
other_counted Answers Answers rs c (inr more) = absurd (omega (arith, more))
other_counted Answers Authorities rs c apart = refl
other_counted Answers Additionals rs c apart = refl
other_counted Authorities Queries rs c apart = refl
other_counted Authorities Answers rs c apart = refl
other_counted Authorities Authorities rs c (inl less) = absurd (omega (arith, less))
other_counted Authorities Authorities rs c (inr more) = absurd (omega (arith, more))
other_counted Authorities Additionals rs c apart = refl
other_counted Additionals Queries rs c apart = refl
other_counted Additionals Answers rs c apart = refl
other_counted Additionals Authorities rs c apart = refl
other_counted Additionals Additionals rs c (inl less) = absurd (omega (arith, less))
other_counted Additionals Additionals rs c (inr more) = absurd (omega (arith, more))

own_counted : (s : Section) (r : AddedRecord) (c : AddedItems) → 1 ≤ rank s → items_of_section s (with_records s (r ∷ []) c) ≡ items_of_section s c + 1
own_counted Queries r c some = absurd (omega (arith, some))
own_counted Answers r c some = length-append c.answers (r ∷ [])
own_counted Authorities r c some = length-append c.authorities (r ∷ [])
own_counted Additionals r c some = length-append c.additionals (r ∷ [])

other_queries : (t : Section) (q : AddedQuestion) (c : AddedItems) → 0 < rank t → items_of_section t (with_question q c) ≡ items_of_section t c
other_queries Queries q c more = absurd (omega (arith, more))
other_queries Answers q c more = refl
other_queries Authorities q c more = refl
other_queries Additionals q c more = refl

-- the sections of a message that ends there
record Turns (c : AddedItems) (m : List ℕ) (end : ℕ) : Type 0 where
  answers_at : ℕ
  authorities_at : ℕ
  additionals_at : ℕ
  queries : StayInTurn ReadsAsQuestion m c.queries 12 answers_at
  answers : StayInTurn ReadsAsRecord m c.answers answers_at authorities_at
  authorities : StayInTurn ReadsAsRecord m c.authorities authorities_at additionals_at
  additionals : StayInTurn ReadsAsRecord m c.additionals additionals_at end

module _ (id flags : ℕ) (c : AddedItems) (w : WriterState) (old new : List ℕ) (octets : List ℕ) (h : HoldsItems id flags c w old) where
  -- the items that a section of this rank or a later one begins after
  module _ (s : Section) (g : Grown s old new w.end octets) (order : w.rank ≤ rank s) where
    -- the message has one more item of the section
    holds_more : (d : AddedItems) (v : WriterState) → v.end ≡ w.end + length octets → v.rank ≡ rank s → items_of_section s d ≡ items_of_section s c + 1
        → ((t : Section) → (rank t < rank s) ⊎ (rank s < rank t) → items_of_section t d ≡ items_of_section t c) → Turns d new (w.end + length octets)
        → HoldsItems id flags d v new
    holds_more d v end_is rank_is own others turns = record {
      whole = omega (arith, end_is, g.header);
      within = omega (arith, end_is, g.room, g.longer);
      head = λ i less. g.head i less ∙ h.head i less;
      id_fits = h.id_fits;
      flags_fit = h.flags_fit;
      counts = λ t.
          elim (same_or_apart t s) [
            | inl same ↦ subst (λ x. count_in_header x new ≡ items_of_section x d) (sym same) (g.one_more ∙ (ap (λ n. n + 1) (h.counts s) ∙ sym own))
            | inr apart ↦ g.others t apart ∙ (h.counts t ∙ sym (others t apart))
          ];
      few = λ t.
          elim (same_or_apart t s) [
            | inl same ↦ subst (λ x. items_of_section x d < 2 ^ 16) (sym same) (omega (arith, own, h.counts s, g.small))
            | inr apart ↦ omega (arith, others t apart, h.few t)
          ];
      answers_at = turns.answers_at;
      authorities_at = turns.authorities_at;
      additionals_at = turns.additionals_at;
      queries = turns.queries;
      answers = turns.answers;
      authorities = turns.authorities;
      additionals = subst (λ e. StayInTurn ReadsAsRecord new d.additionals turns.additionals_at e) (sym end_is) turns.additionals;
      ordered = λ t more. others t (inr (omega (arith, more, rank_is))) ∙ h.ordered t (omega (arith, more, rank_is, order));
    }

    -- what was read before is still
    kept_turn : {A : Type 0} (stands : List ℕ → A → ℕ → ℕ → Type 0) (xs : List A) (p e : ℕ) → e ≤ w.end → StayInTurn stands old xs p e
        → StayInTurn stands new xs p e
    kept_turn stands xs p e inside turn = turn_later stands old new xs p e (λ i after small. g.kept i after (omega (arith, small, inside))) turn

    one_turn : {A : Type 0} (stands : List ℕ → A → ℕ → ℕ → Type 0) (xs : List A) (x : A) (p e : ℕ) → e ≡ w.end → StayInTurn stands old xs p e
        → StaysRead stands new x w.end (w.end + length octets) → StayInTurn stands new (xs ++ x ∷ []) p (w.end + length octets)
    one_turn stands xs x p e last turn one =
        turn_more stands new xs x p w.end (w.end + length octets) (omega arith)
        (subst (λ q. StayInTurn stands new xs p q) last (kept_turn stands xs p e (omega (arith, last)) turn)) one

  answers_end : h.answers_at ≤ h.authorities_at
  answers_end = turn_order ReadsAsRecord old c.answers h.answers_at h.authorities_at h.answers

  authorities_end : h.authorities_at ≤ h.additionals_at
  authorities_end = turn_order ReadsAsRecord old c.authorities h.authorities_at h.additionals_at h.authorities

  additionals_end : h.additionals_at ≤ w.end
  additionals_end = turn_order ReadsAsRecord old c.additionals h.additionals_at w.end h.additionals

  -- sections that have no item end where they begin
  no_additionals : w.rank < 3 → h.additionals_at ≡ w.end
  no_additionals less = turn_none ReadsAsRecord old c.additionals h.additionals_at w.end (h.ordered Additionals less) h.additionals

  no_authorities : w.rank < 2 → h.authorities_at ≡ h.additionals_at
  no_authorities less = turn_none ReadsAsRecord old c.authorities h.authorities_at h.additionals_at (h.ordered Authorities less) h.authorities

  no_answers : w.rank < 1 → h.answers_at ≡ h.authorities_at
  no_answers less = turn_none ReadsAsRecord old c.answers h.answers_at h.authorities_at (h.ordered Answers less) h.answers

  question_turns : (q : AddedQuestion) → Grown Queries old new w.end octets → w.rank ≤ 0
      → StaysRead ReadsAsQuestion new q w.end (w.end + length octets) → Turns (with_question q c) new (w.end + length octets)
  question_turns q g order one =
      let end = w.end + length octets in
      record {
        answers_at = end;
        authorities_at = end;
        additionals_at = end;
        queries = one_turn Queries g order ReadsAsQuestion c.queries q 12 h.answers_at
            (no_answers (omega (arith, order)) ∙ (no_authorities (omega (arith, order)) ∙ no_additionals (omega (arith, order)))) h.queries one;
        answers = none_turn ReadsAsRecord new c.answers end (h.ordered Answers (omega (arith, order)));
        authorities = none_turn ReadsAsRecord new c.authorities end (h.ordered Authorities (omega (arith, order)));
        additionals = none_turn ReadsAsRecord new c.additionals end (h.ordered Additionals (omega (arith, order)));
      }

  record_turns : (s : Section) (r : AddedRecord) → 1 ≤ rank s → Grown s old new w.end octets → w.rank ≤ rank s
      → StaysRead ReadsAsRecord new r w.end (w.end + length octets) → Turns (with_records s (r ∷ []) c) new (w.end + length octets)
  record_turns Queries r some g order one = absurd (omega (arith, some))
  record_turns Answers r some g order one =
      let end = w.end + length octets in
      let last = no_authorities (omega (arith, order)) ∙ no_additionals (omega (arith, order)) in
      record {
        answers_at = h.answers_at;
        authorities_at = end;
        additionals_at = end;
        queries = kept_turn Answers g order ReadsAsQuestion c.queries 12 h.answers_at (omega (arith, answers_end, last)) h.queries;
        answers = one_turn Answers g order ReadsAsRecord c.answers r h.answers_at h.authorities_at last h.answers one;
        authorities = none_turn ReadsAsRecord new c.authorities end (h.ordered Authorities (omega (arith, order)));
        additionals = none_turn ReadsAsRecord new c.additionals end (h.ordered Additionals (omega (arith, order)));
      }
  record_turns Authorities r some g order one =
      let end = w.end + length octets in
      let last = no_additionals (omega (arith, order)) in
      record {
        answers_at = h.answers_at;
        authorities_at = h.authorities_at;
        additionals_at = end;
        queries = kept_turn Authorities g order ReadsAsQuestion c.queries 12 h.answers_at (omega (arith, answers_end, authorities_end, last)) h.queries;
        answers = kept_turn Authorities g order ReadsAsRecord c.answers h.answers_at h.authorities_at (omega (arith, authorities_end, last)) h.answers;
        authorities = one_turn Authorities g order ReadsAsRecord c.authorities r h.authorities_at h.additionals_at last h.authorities one;
        additionals = none_turn ReadsAsRecord new c.additionals end (h.ordered Additionals (omega (arith, order)));
      }
  record_turns Additionals r some g order one = record {
    answers_at = h.answers_at;
    authorities_at = h.authorities_at;
    additionals_at = h.additionals_at;
    queries = kept_turn Additionals g order ReadsAsQuestion c.queries 12 h.answers_at (omega (arith, answers_end, authorities_end, additionals_end)) h.queries;
    answers = kept_turn Additionals g order ReadsAsRecord c.answers h.answers_at h.authorities_at (omega (arith, authorities_end, additionals_end)) h.answers;
    authorities = kept_turn Additionals g order ReadsAsRecord c.authorities h.authorities_at h.additionals_at additionals_end h.authorities;
    additionals = one_turn Additionals g order ReadsAsRecord c.additionals r h.additionals_at w.end refl h.additionals one;
  }

-- ---- the laws

pub questions_are_added : QuestionsAreAdded
questions_are_added slot id flags c q w v old new h fits are added =
    let form : ItemForm = question_form slot q.name q.query_type q.class in
    let g = grown Queries form w v old new added in
    let (octets, hints, is, limit, room, new_is, after_is) = added in
    let read : StaysRead ReadsAsQuestion new q w.end (w.end + length octets) =
    grown_stays ReadsAsQuestion q Queries old new w.end octets g
    (λ later more settled there. question_read slot (take w.end old) w.owner w.hints q octets hints are is later more fits settled there) in
    holds_more id flags c w old new octets h Queries g limit.ordered (with_question q c) v (ap (λ (x : WriterState). x.end) after_is)
    (ap (λ (x : WriterState). x.rank) after_is) (length-append c.queries (q ∷ []))
    (λ t apart. other_queries t q c (elim apart [ inl less ↦ absurd (omega (arith, less)) | inr more ↦ more ]))
    (question_turns id flags c w old new octets h q g limit.ordered read)

pub records_are_added : RecordsAreAdded
records_are_added slot id flags c s r w v old new h some fits are labels added =
    let form : ItemForm = record_form slot r.owner r.record_type r.class r.ttl r.pieces in
    let g = grown s form w v old new added in
    let (octets, hints, is, limit, room, new_is, after_is) = added in
    let small : length octets < 2 ^ 16 = omega (arith, room) in
    let read : StaysRead ReadsAsRecord new r w.end (w.end + length octets) =
    grown_stays ReadsAsRecord r s old new w.end octets g
    (λ later more settled there. record_read slot (take w.end old) w.owner w.hints r octets hints are labels is later more fits small settled there) in
    holds_more id flags c w old new octets h s g limit.ordered (with_records s (r ∷ []) c) v (ap (λ (x : WriterState). x.end) after_is)
    (ap (λ (x : WriterState). x.rank) after_is) (own_counted s r c some)
    (λ t apart. other_counted s t (r ∷ []) c apart)
    (record_turns id flags c w old new octets h s r some g limit.ordered read)
