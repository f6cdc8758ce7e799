-- What a message holds after the other calls.
use Rattle.std.proofs.Common.{◌≡◌, ◌≢◌, ℕ, zero, suc, ◌+◌, ◌/◌, ◌%◌, ◌<◌, ◌≤◌, ◌^◌, Bool, true, false, nat_eq, nat_le, List, [], ◌∷◌, length, map, take, get_or, set, sym, ap, ◌∙◌, subst, refl, append_assoc, arith}
use Rattle.std.specs.Prelude.{if◌then◌else◌, ◌&&◌, slice_set}
use Rattle.std.specs.Int.{w16, from_be_bytes}
use Rattle.std.proofs.lemmas.Bool.{eqb-true}
use Rattle.std.proofs.lemmas.List.{append-nil, get_or-set_other, get_or-set_same, get_or-take, length-set, length-take, length-take-le}
use Rattle.std.proofs.lemmas.Grind.{common_steps}
use Rattle.dnw_message_writer.specs.CompressedNames.{put_at}
use Rattle.dnw_message_writer.specs.ContentLaws.{BegunMessagesAreEmpty, CutMessagesHold, LastRecordsAreAdded, SetsAreAdded, UnchangedMessagesHold}
use Rattle.dnw_message_writer.specs.Contents.{AddedItems, AddedRecord, HoldsItems, ReadsAsQuestion, ReadsAsRecord, StayInTurn, items_of_section, cut_flags, no_items, with_data, with_records}
use Rattle.dnw_message_writer.specs.Sections.{offset_of_count}
use Rattle.dnw_message_writer.specs.Sets.{cut_off}
use Rattle.dnw_message_writer.specs.States.{count_in_header, empty_header, for_last}
use Rattle.dnw_message_writer.specs.declared.section.Section.{Section}
use Rattle.dnw_message_writer.specs.declared.section.Section.TheVariants.{Queries, Answers, Authorities, Additionals}
use Rattle.dnw_message_writer.specs.declared.state.WriterState.{WriterState}
use Rattle.dnw_message_writer.proofs.ContentsBack.{records_are_added, turn_later, turn_order}
use Rattle.dnw_message_writer.proofs.Counting.{count_small}
use Rattle.dnw_message_writer.proofs.ItemsBack.{index_put}
use Rattle.dnw_message_writer.proofs.Puts.{length_put_at}

-- ---- a message begins

no_count : (id flags : ℕ) (s : Section) (m : List ℕ) → ((i : ℕ) → i < 12 → get_or m i 0 ≡ get_or (empty_header id flags) i 0)
    → count_in_header s m ≡ 0
no_count id flags Queries m same = ap (λ x. from_be_bytes w16 (x ∷ get_or m 5 0 ∷ [])) (same 4 (omega arith)) ∙ ap (λ x. from_be_bytes w16 (0 ∷ x ∷ [])) (same 5 (omega arith))
no_count id flags Answers m same = ap (λ x. from_be_bytes w16 (x ∷ get_or m 7 0 ∷ [])) (same 6 (omega arith)) ∙ ap (λ x. from_be_bytes w16 (0 ∷ x ∷ [])) (same 7 (omega arith))
no_count id flags Authorities m same = ap (λ x. from_be_bytes w16 (x ∷ get_or m 9 0 ∷ [])) (same 8 (omega arith)) ∙ ap (λ x. from_be_bytes w16 (0 ∷ x ∷ [])) (same 9 (omega arith))
no_count id flags Additionals m same = ap (λ x. from_be_bytes w16 (x ∷ get_or m 11 0 ∷ [])) (same 10 (omega arith)) ∙ ap (λ x. from_be_bytes w16 (0 ∷ x ∷ [])) (same 11 (omega arith))

counts_none : (s : Section) → items_of_section s no_items ≡ 0
counts_none Queries = refl
counts_none Answers = refl
counts_none Authorities = refl
counts_none Additionals = refl

pub begun_messages_are_empty : BegunMessagesAreEmpty
begun_messages_are_empty id flags max_size old new w id_fits flags_fit long (room, enough, new_is, w_is) =
    let header = empty_header id flags in
    let same : (i : ℕ) → i < 12 → get_or new i 0 ≡ get_or header i 0 =
    λ i small.
    let zeroth : 0 + i ≡ i = omega arith in
    ap (λ x. get_or x i 0) new_is ∙ (ap (λ k. get_or (put_at old 0 header) k 0) (sym zeroth) ∙ index_put old header 0 i (omega arith) (omega (arith, small))) in
    let size : length new ≡ length old = ap length new_is ∙ length_put_at old 0 header (omega (arith, long)) in
    let end : w.end ≡ 12 = ap (λ (x : WriterState). x.end) w_is in
    record {
      whole = omega (arith, end);
      within = omega (arith, end, size, long);
      head = λ i small. same i (omega (arith, small));
      id_fits = id_fits;
      flags_fit = flags_fit;
      counts = λ s. no_count id flags s new same ∙ sym (counts_none s);
      few = λ s. omega (arith, counts_none s);
      answers_at = 12;
      authorities_at = 12;
      additionals_at = 12;
      queries = refl;
      answers = refl;
      authorities = refl;
      additionals = sym end;
      ordered = λ s more. counts_none s;
    }

-- ---- octets that stay

-- The items stay if the octets after the flags do, and the state has the same end and no earlier section.
holds_kept : (id flags others : ℕ) (c : AddedItems) (w v : WriterState) (m n : List ℕ) → HoldsItems id flags c w m → v.end ≡ w.end → w.rank ≤ v.rank
    → w.end ≤ length n → ((i : ℕ) → 4 ≤ i → i < w.end → get_or n i 0 ≡ get_or m i 0) → others < 2 ^ 16
    → ((i : ℕ) → i < 4 → get_or n i 0 ≡ get_or (empty_header id others) i 0) → HoldsItems id others c v n
holds_kept id flags others c w v m n h end order long same fits head =
    let whole : 12 ≤ w.end = h.whole in
    let third = turn_order ReadsAsRecord m c.additionals h.additionals_at w.end h.additionals in
    let second = turn_order ReadsAsRecord m c.authorities h.authorities_at h.additionals_at h.authorities in
    let first = turn_order ReadsAsRecord m c.answers h.answers_at h.authorities_at h.answers in
    let kept : (e : ℕ) → e ≤ w.end → (i : ℕ) → 12 ≤ i → i < e → get_or n i 0 ≡ get_or m i 0 =
    λ e inside i after small. same i (omega (arith, after)) (omega (arith, small, inside)) in
    record {
      whole = omega (arith, whole, end);
      within = omega (arith, long, end);
      head = head;
      id_fits = h.id_fits;
      flags_fit = fits;
      counts = λ s.
          let small = count_small s in
          ap (λ x. from_be_bytes w16 (x ∷ get_or n (offset_of_count s + 1) 0 ∷ [])) (same (offset_of_count s) (omega arith) (omega (arith, small, whole)))
          ∙ (ap (λ x. from_be_bytes w16 (get_or m (offset_of_count s) 0 ∷ x ∷ [])) (same (offset_of_count s + 1) (omega arith) (omega (arith, small, whole)))
          ∙ h.counts s);
      few = h.few;
      answers_at = h.answers_at;
      authorities_at = h.authorities_at;
      additionals_at = h.additionals_at;
      queries = turn_later ReadsAsQuestion m n c.queries 12 h.answers_at (kept h.answers_at (omega (arith, first, second, third))) h.queries;
      answers = turn_later ReadsAsRecord m n c.answers h.answers_at h.authorities_at (kept h.authorities_at (omega (arith, second, third))) h.answers;
      authorities = turn_later ReadsAsRecord m n c.authorities h.authorities_at h.additionals_at (kept h.additionals_at third) h.authorities;
      additionals = subst (λ e. StayInTurn ReadsAsRecord n c.additionals h.additionals_at e) (sym end)
          (turn_later ReadsAsRecord m n c.additionals h.additionals_at w.end (kept w.end (omega arith)) h.additionals);
      ordered = λ s more. h.ordered s (omega (arith, more, order));
    }

state_kept : (id flags : ℕ) (c : AddedItems) (w v : WriterState) (m : List ℕ) → HoldsItems id flags c w m → v.end ≡ w.end → w.rank ≤ v.rank
    → HoldsItems id flags c v m
state_kept id flags c w v m h end order =
    holds_kept id flags flags c w v m m h end order h.within (λ i after small. refl) h.flags_fit h.head

pub unchanged_messages_hold : UnchangedMessagesHold
unchanged_messages_hold id flags c w v old new h end rank_is same =
    let size : length (take w.end old) ≡ w.end = length-take-le w.end old h.within in
    let long : w.end ≤ length new = omega (arith, size, ap length same, length-take w.end new) in
    let each : (i : ℕ) → i < w.end → get_or new i 0 ≡ get_or old i 0 =
    λ i small. sym (get_or-take w.end new i 0 small) ∙ (ap (λ x. get_or x i 0) same ∙ get_or-take w.end old i 0 small) in
    let whole : 12 ≤ w.end = h.whole in
    holds_kept id flags flags c w v old new h end (omega (arith, rank_is)) long (λ i after small. each i small) h.flags_fit
    (λ i small. each i (omega (arith, small, whole)) ∙ h.head i small)

-- ---- TC

first_four : (P : ℕ → Type 0) → P 0 → P 1 → P 2 → P 3 → (i : ℕ) → i < 4 → P i
first_four P a b c d zero small = a
first_four P a b c d (suc zero) small = b
first_four P a b c d (suc (suc zero)) small = c
first_four P a b c d (suc (suc (suc zero))) small = d
first_four P a b c d (suc (suc (suc (suc i)))) small = absurd (omega (arith, small))

module _ (id flags : ℕ) (c : AddedItems) (w : WriterState) (m : List ℕ) (h : HoldsItems id flags c w m) where
  third_octet : get_or m 2 0 ≡ flags / 256
  third_octet =
      let fits : flags < 2 ^ 16 = h.flags_fit in
      omega (arith, h.head 2 (omega arith), fits)

  cut_case : (b : Bool) → nat_eq (flags / 512 % 2) 0 ≡ b
      → HoldsItems id (if b then flags + 512 else flags) c w (if b then slice_set m 2 (get_or m 2 0 + 2) else m)
  cut_case false e = h
  cut_case true e =
      let fits : flags < 2 ^ 16 = h.flags_fit in
      let even : flags / 512 % 2 ≡ 0 = eqb-true (flags / 512 % 2) 0 e in
      let n = slice_set m 2 (get_or m 2 0 + 2) in
      let within : w.end ≤ length m = h.within in
      let whole : 12 ≤ w.end = h.whole in
      let other : (i : ℕ) → i ≢ 2 → get_or n i 0 ≡ get_or m i 0 = λ i not. get_or-set_other m 2 i (get_or m 2 0 + 2) 0 not in
      let own : get_or n 2 0 ≡ get_or m 2 0 + 2 = get_or-set_same m 2 (get_or m 2 0 + 2) 0 (omega (arith, within, whole)) in
      let head : (i : ℕ) → i < 4 → get_or n i 0 ≡ get_or (empty_header id (flags + 512)) i 0 =
      first_four (λ i. get_or n i 0 ≡ get_or (empty_header id (flags + 512)) i 0) (other 0 (omega arith) ∙ h.head 0 (omega arith))
      (other 1 (omega arith) ∙ h.head 1 (omega arith)) (omega (arith, own, third_octet, fits, even))
      (omega (arith, other 3 (omega arith), h.head 3 (omega arith))) in
      holds_kept id flags (flags + 512) c w w m n h refl (omega arith) (omega (arith, within, length-set m 2 (get_or m 2 0 + 2)))
      (λ i after small. other i (omega (arith, after))) (omega (arith, fits, even)) head

pub cut_messages_hold : CutMessagesHold
cut_messages_hold id flags c w old new h (between, same, new_is) =
    let m = between in
    let k = unchanged_messages_hold id flags c w w old m h refl refl same in
    let within : w.end ≤ length m = k.within in
    let whole : 12 ≤ w.end = k.whole in
    let third : get_or m 2 0 / 2 % 2 ≡ flags / 512 % 2 = omega (arith, third_octet id flags c w m k) in
    let long : nat_le 12 (length m) ≡ true = grind (arith, common_steps, within, whole) in
    let set_it = slice_set m 2 (get_or m 2 0 + 2) in
    let cut : cut_off m ≡ (if nat_eq (flags / 512 % 2) 0 then set_it else m) =
    ap (λ x. if x && nat_eq (get_or m 2 0 / 2 % 2) 0 then set_it else m) long ∙ ap (λ x. if nat_eq x 0 then set_it else m) third in
    subst (λ x. HoldsItems id (cut_flags flags) c w x) (sym (new_is ∙ cut)) (cut_case id flags c w m k (nat_eq (flags / 512 % 2) 0) refl)

-- ---- sets, and a last record

no_more_records : (s : Section) (c : AddedItems) → with_records s [] c ≡ c
no_more_records Queries c = refl
no_more_records Answers c = ap (λ xs. record c { answers = xs }) (append-nil c.answers)
no_more_records Authorities c = ap (λ xs. record c { authorities = xs }) (append-nil c.authorities)
no_more_records Additionals c = ap (λ xs. record c { additionals = xs }) (append-nil c.additionals)

more_records : (s : Section) (r : AddedRecord) (rs : List AddedRecord) (c : AddedItems)
    → with_records s rs (with_records s (r ∷ []) c) ≡ with_records s (r ∷ rs) c
more_records Queries r rs c = refl
more_records Answers r rs c = ap (λ xs. record c { answers = xs }) (append_assoc c.answers (r ∷ []) rs)
more_records Authorities r rs c = ap (λ xs. record c { authorities = xs }) (append_assoc c.authorities (r ∷ []) rs)
more_records Additionals r rs c = ap (λ xs. record c { additionals = xs }) (append_assoc c.additionals (r ∷ []) rs)

pub sets_are_added : SetsAreAdded
sets_are_added slot id flags c s r [] w v old new h some fits are labels (v_is, new_is) =
    let P : AddedItems → WriterState → List ℕ → Type 0 = λ x y z. HoldsItems id flags x y z in
    subst (λ x. P x v new) (sym (no_more_records s c)) (subst (λ y. P c y new) (sym v_is) (subst (λ z. P c w z) (sym new_is) h))
sets_are_added slot id flags c s r (d ∷ set) w v old new h some fits are labels (u, between, one, more) =
    let first = records_are_added slot id flags c s (with_data r d) w u old between h some fits are labels.0 one in
    let all = sets_are_added slot id flags (with_records s (with_data r d ∷ []) c) s r set u v between new first some fits are labels.1 more in
    subst (λ x. HoldsItems id flags x v new) (more_records s (with_data r d) (map (with_data r) set) c) all

pub last_records_are_added : LastRecordsAreAdded
last_records_are_added slot id flags held c r w v old new h fits are labels (u, one, v_is) =
    let k = state_kept id flags c w (for_last held w) old h refl (omega arith) in
    let added = records_are_added slot id flags c Additionals r (for_last held w) u old new k (omega arith) fits are labels one in
    let rank_is : u.rank ≤ 4 = omega (arith, ap (λ (x : WriterState). x.rank) one.6) in
    state_kept id flags (with_records Additionals (r ∷ []) c) u v new added (ap (λ (x : WriterState). x.end) v_is)
    (omega (arith, rank_is, ap (λ (x : WriterState). x.rank) v_is))
