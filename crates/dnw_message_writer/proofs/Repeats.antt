-- An owner that repeats the one before it takes two octets.
use Rattle.std.proofs.Common.{◌≡◌, ◌≢◌, ◌⊎◌, ℕ, ◌+◌, ◌-◌, ◌/◌, ◌%◌, ◌<◌, ◌≤◌, Bool, true, false, nat_le, nat_lt, List, [], ◌∷◌, ◌++◌, length, take, drop, get_or, replicate, sym, ap, ◌∙◌, subst, inl, inr, refl, append_assoc, arith, length-append, length-drop}
use Rattle.std.specs.Int.{w16, to_be_bytes}
use Rattle.std.specs.Prelude.{if◌then◌else◌, ◌&&◌, slice_set}
use Rattle.std.specs.List.{AllByRecursion}
use Rattle.std.proofs.lemmas.Bool.{cases_order}
use Rattle.std.proofs.lemmas.Grind.{common_steps}
use Rattle.std.proofs.lemmas.List.{get_or-replicate, get_or-set_other, get_or-set_same, get_or-take, get_or_past, length-take-le, set_past}
use Rattle.std.proofs.lemmas.Option.{get_or_from_slice_get}
use Rattle.dnw_base.specs.Labels.{IsLabel}
use Rattle.dnw_base.specs.Names.{AreLabels, label_wire, wire}
use Rattle.dnw_base.proofs.Wires.{encoded_size_cons, few_labels, length_wire}
use Rattle.dnw_message_writer.specs.CompressedNames.{Compresses, MayPointTo, kept_hints, pointer_octets, put_at}
use Rattle.dnw_message_writer.specs.Inside.Fitting.{HasLabels}
use Rattle.dnw_message_writer.specs.Items.{IsNear, IsOwner, ItemForm, before_length, fields_of_record, place_at, question_fields, question_form, record_form}
use Rattle.dnw_message_writer.specs.NameLaws.{KeepsSettled}
use Rattle.dnw_message_writer.specs.Pieces.{ArePieces}
use Rattle.dnw_message_writer.specs.SizeLaws.{HintsAtLabels, HintsBegin, NearOwnersTakeTwo, QuestionsAreNear, RecordsAreNear}
use Rattle.dnw_message_writer.specs.Standing.{AreSettled, FollowsPointer, IsThere, LeadsBack, StandsFrom, after_octets, after_pointer, at_start, pointed}
use Rattle.dnw_message_writer.specs.States.{AddsItem}
use Rattle.dnw_message_writer.specs.declared.pieces.Piece.{Piece}
use Rattle.dnw_message_writer.specs.declared.pieces.Piece.TheVariants.{Octets, Name}
use Rattle.dnw_message_writer.specs.declared.section.Section.{Section}
use Rattle.dnw_message_writer.specs.declared.section.Section.TheVariants.{Queries}
use Rattle.dnw_message_writer.specs.declared.standing.Spot.{Spot}
use Rattle.dnw_message_writer.specs.declared.state.WriterState.{WriterState}
use Rattle.dnw_message_writer.proofs.ContentsBack.{Grown, grown}
use Rattle.dnw_message_writer.proofs.ItemsBack.{index_put, put_later, regroup}
use Rattle.dnw_message_writer.proofs.PiecesBack.{index_front}
use Rattle.dnw_message_writer.proofs.Places.{is_inside, next_at, octet_at, after_at, part_at, part_later, pointer_leads, points_after_header, same_there, stands_inside, there_later}
use Rattle.dnw_message_writer.proofs.Puts.{length_put_at}
use Rattle.dnw_message_writer.proofs.Sizes.{pieces_take_no_more}
use Rattle.dnw_message_writer.proofs.Turning.{le_or_lt}

-- ---- labels that stand, stand in a later message

-- with another limit
abbrev wider : Spot → ℕ → Spot
wider s n = record { position = s.position; segment = s.segment; limit = n }

abbrev segment_at : ℕ → ℕ → Spot
segment_at p n = record { position = p; segment = p; limit = n }

first_octet : (b : List ℕ) (p c : ℕ) (rest : List ℕ) → drop p b ≡ c ∷ rest → get_or b p 0 ≡ c
first_octet b p c rest at = get_or_from_slice_get b p c 0 (octet_at b p c rest at)

-- no pointer is where another octet is
no_pointer_at : (b : List ℕ) (gap : ℕ) (s : Spot) (c : ℕ) (rest : List ℕ) → c < 192 → drop s.position b ≡ c ∷ rest → LeadsBack b gap s → ⊥
no_pointer_at b gap s c rest small at leads = omega (arith, leads.marked, first_octet b s.position c rest at, small)

module _ (b later : List ℕ) (gap : ℕ) (keeps : KeepsSettled gap b later) where
  settled_on : (p n : ℕ) → AreSettled b gap p n → AreSettled later (length later) p n
  settled_on p n settled =
      let longer : length b ≤ length later = keeps.longer in
      let inside = settled.inside in
      record { inside = omega (arith, inside, longer); after_header = settled.after_header; apart = inl (omega (arith, inside, longer)) }

  there_on : (t : Spot) (n : ℕ) (octets : List ℕ) → t.limit ≤ n → IsThere b gap t octets → IsThere later (length later) (wider t n) octets
  there_on t n octets wide there = record {
    before = omega (arith, there.before, wide);
    settled = settled_on t.position (length octets) there.settled;
    same = part_later b later gap keeps t.position (length octets) there.settled ∙ there.same;
  }

  pointed_on : (p : ℕ) → AreSettled b gap p 2 → pointed later p ≡ pointed b p
  pointed_on p settled =
      let zeroth : p + 0 ≡ p = omega arith in
      let first : get_or later p 0 ≡ get_or b p 0 = rw zeroth at (same_there b later gap keeps p 2 0 settled (omega arith)) in
      let second : get_or later (p + 1) 0 ≡ get_or b (p + 1) 0 = same_there b later gap keeps p 2 1 settled (omega arith) in
      omega (arith, first, second)

  leads_on : (s : Spot) (n : ℕ) → s.limit ≤ n → LeadsBack b gap s → LeadsBack later (length later) (wider s n)
  leads_on s n wide leads =
      let p = s.position in
      let zeroth : p + 0 ≡ p = omega arith in
      let first : get_or later p 0 ≡ get_or b p 0 = rw zeroth at (same_there b later gap keeps p 2 0 leads.settled (omega arith)) in
      record {
        before = omega (arith, leads.before, wide);
        settled = settled_on p 2 leads.settled;
        marked = omega (arith, leads.marked, first);
        prior = omega (arith, leads.prior, pointed_on p leads.settled);
      }

  -- A pointer is followed there too, or none is.
  follow_on : (s t : Spot) (n c : ℕ) (rest : List ℕ) → s.limit ≤ n → c < 192 → FollowsPointer b gap s t → IsThere b gap t (c ∷ rest)
      → (m : ℕ) × (t.limit ≤ m) × FollowsPointer later (length later) (wider s n) (wider t m)
  follow_on s t n c rest wide small (inl (leads, t_is)) there =
      let to = pointed_on s.position leads.settled in
      let moved : after_pointer b s ≡ after_pointer later (wider s n) = ap (λ q. segment_at q s.segment) (sym to) in
      (t.limit, omega arith, inl (leads_on s n wide leads, t_is ∙ moved))
  follow_on s t n c rest wide small (inr (not, t_is)) there =
      let here : IsThere b gap s (c ∷ rest) = subst (λ (x : Spot). IsThere b gap x (c ∷ rest)) t_is there in
      let at = there_later b later gap keeps s (c ∷ rest) here in
      (n, omega (arith, wide, ap (λ (x : Spot). x.limit) t_is), inr (no_pointer_at later (length later) (wider s n) c _ small at, ap (λ (x : Spot). wider x n) t_is))

  stands_on : (s : Spot) (n : ℕ) (ls : List (List ℕ)) → s.limit ≤ n → AllByRecursion IsLabel ls → StandsFrom b gap s ls
      → StandsFrom later (length later) (wider s n) ls
  stands_on s n [] wide all (t, f, there) =
      let (m, more, g) = follow_on s t n 0 [] wide (omega arith) f there in
      (wider t m, g, there_on t m (0 ∷ []) more there)
  stands_on s n (l ∷ ls) wide all (t, f, there, others) =
      let short = all.0.not_long in
      let (m, more, g) = follow_on s t n (length l) l wide (omega (arith, short)) f there in (
        wider t m,
        g,
        there_on t m (label_wire l) more there,
        stands_on (after_octets t (length l + 1)) m ls more all.1 others,
      )

  pub may_point_on : (hint : ℕ) (ls : List (List ℕ)) → AllByRecursion IsLabel ls → MayPointTo b gap hint ls → MayPointTo later (length later) hint ls
  may_point_on hint ls all usable =
      (usable.0, stands_on (at_start b hint) (length later) ls keeps.longer all usable.1)

-- ---- hints

-- a hint that is kept is one that there was, or the new one
pub kept_index : (hints : List ℕ) (at_slot offset i : ℕ)
    → ((j : ℕ) × (get_or (kept_hints hints at_slot offset) i 0 ≡ get_or hints j 0)) ⊎ (get_or (kept_hints hints at_slot offset) i 0 ≡ offset)
kept_index hints at_slot offset i = chosen (nat_lt offset 16384)
  where
    index_set : (xs : List ℕ) (k value : ℕ) → (get_or (slice_set xs k value) i 0 ≡ get_or xs i 0) ⊎ (get_or (slice_set xs k value) i 0 ≡ value)
    index_set xs k value =
        elim (cases_order i k) [
          | inl same ↦
              elim (le_or_lt (length xs) k) [
                | inl outside ↦ inl (ap (λ x. get_or x i 0) (set_past xs k value outside))
                | inr inside ↦ inr (ap (λ n. get_or (slice_set xs k value) n 0) same ∙ get_or-set_same xs k value 0 inside)
              ]
          | inr other ↦ inl (get_or-set_other xs k i value 0 (λ same. elim other [ inl less ↦ omega (arith, less, same) | inr more ↦ omega (arith, more, same) ]))
        ]

    moved : List ℕ
    moved = slice_set hints (at_slot + 256) (get_or hints at_slot 0)

    chosen : (c : Bool) → ((j : ℕ) × (get_or (if c then slice_set moved at_slot offset else hints) i 0 ≡ get_or hints j 0))
        ⊎ (get_or (if c then slice_set moved at_slot offset else hints) i 0 ≡ offset)
    chosen true =
        elim (index_set moved at_slot offset) [
          | inl kept ↦
              elim (index_set hints (at_slot + 256) (get_or hints at_slot 0)) [
                | inl old ↦ inl (i, kept ∙ old)
                | inr later ↦ inl (at_slot, kept ∙ later)
              ]
          | inr new ↦ inr new
        ]
    chosen false = inl (i, refl)

-- No hint is the offset of a pointer of this message.
abbrev NoPointers : List ℕ → List ℕ → Type 0
NoPointers m hints = (i : ℕ) → 12 ≤ get_or hints i 0 → (get_or hints i 0 < length m) × (get_or m (get_or hints i 0) 0 < 192)

kept_no_pointers : (m hints : List ℕ) (at_slot offset : ℕ) → offset < length m → get_or m offset 0 < 192 → NoPointers m hints
    → NoPointers m (kept_hints hints at_slot offset)
kept_no_pointers m hints at_slot offset inside label all i after =
    elim (kept_index hints at_slot offset i) [
      | inl (j, old) ↦
          let own = all j (omega (arith, old, after)) in
          (omega (arith, own.0, old), subst (λ k. get_or m k 0 < 192) (sym old) own.1)
      | inr new ↦ (omega (arith, new, inside), subst (λ k. get_or m k 0 < 192) (sym new) label)
    ]

module _ (slot : List (List ℕ) → ℕ) (m : List ℕ) where
  -- names leave it so
  compress_no_pointers : (b : List ℕ) (gap at : ℕ) (hints : List ℕ) (ls : List (List ℕ)) (octets after more : List ℕ) → AllByRecursion IsLabel ls
      → Compresses slot b gap at hints ls octets after → drop at m ≡ octets ++ more → NoPointers m hints → NoPointers m after
  compress_no_pointers b gap at hints [] octets after more all h there free = subst (NoPointers m) (sym h.1) free
  compress_no_pointers b gap at hints (l ∷ ls) octets after more all (inl (hint, finds, is, same)) there free = subst (NoPointers m) (sym same) free
  compress_no_pointers b gap at hints (l ∷ ls) octets after more all (inr (not, rest, is, others)) there free =
      let here : drop at m ≡ label_wire l ++ (rest ++ more) = there ∙ (ap (λ x. x ++ more) is ∙ append_assoc (label_wire l) rest more) in
      let behind : drop (at + 1 + length l) m ≡ rest ++ more = after_at m at (at + 1 + length l) (label_wire l) (rest ++ more) here (omega arith) in
      let short = all.0.not_long in
      let octet : get_or m at 0 ≡ length l = first_octet m at (length l) (l ++ (rest ++ more)) here in
      compress_no_pointers b gap (at + 1 + length l) (kept_hints hints (slot (l ∷ ls)) at) ls rest after more all.1 others behind
      (kept_no_pointers m hints (slot (l ∷ ls)) at (is_inside m at (length l) (l ++ (rest ++ more)) here) (omega (arith, octet, short)) free)

  pub owner_no_pointers : (b : List ℕ) (near : ℕ) (hints : List ℕ) (ls : List (List ℕ)) (octets after more : List ℕ) → AreLabels ls
      → IsOwner slot b near hints ls octets after → drop (length b) m ≡ octets ++ more → NoPointers m hints → NoPointers m after
  owner_no_pointers b near hints ls octets after more are (inl (usable, is, same)) there free = subst (NoPointers m) (sym same) free
  owner_no_pointers b near hints ls octets after more are (inr (not, h)) there free =
      compress_no_pointers b (length b) (length b) hints ls octets after more are.each h there free

  pub pieces_no_pointers : (b : List ℕ) (gap : ℕ) (hints : List ℕ) (xs : List Piece) (octets after more : List ℕ) → AllByRecursion HasLabels xs
      → ArePieces slot b gap hints xs octets after → drop (length b) m ≡ octets ++ more → NoPointers m hints → NoPointers m after
  pieces_no_pointers b gap hints [] octets after more labels h there free = subst (NoPointers m) (sym h.1) free
  pieces_no_pointers b gap hints (Octets bytes ∷ xs) octets after more labels (own, between, others, is, split, rest) there free =
      let here : drop (length b) m ≡ own ++ (others ++ more) = there ∙ (ap (λ o. o ++ more) split ∙ append_assoc own others more) in
      pieces_no_pointers (b ++ own) gap between xs others after more labels.1 rest
      (after_at m (length b) (length (b ++ own)) own (others ++ more) here (length-append b own)) (subst (NoPointers m) (sym is.1) free)
  pieces_no_pointers b gap hints (Name ls ∷ xs) octets after more labels (own, between, others, is, split, rest) there free =
      let here : drop (length b) m ≡ own ++ (others ++ more) = there ∙ (ap (λ o. o ++ more) split ∙ append_assoc own others more) in
      pieces_no_pointers (b ++ own) gap between xs others after more labels.1 rest
      (after_at m (length b) (length (b ++ own)) own (others ++ more) here (length-append b own))
      (compress_no_pointers b gap (length b) hints ls own between (others ++ more) labels.0.each is here free)

-- ---- a name that is written stands

module _ (slot : List (List ℕ) → ℕ) (b later : List ℕ) (keeps : KeepsSettled (length b) b later) (header : 12 ≤ length b) where
  pub compress_stands : (at : ℕ) (hints : List ℕ) (ls : List (List ℕ)) (octets after more : List ℕ) (n : ℕ) → AllByRecursion IsLabel ls
      → Compresses slot b (length b) at hints ls octets after → drop at later ≡ octets ++ more → length b ≤ at → at + length octets ≤ n
      → ((i : ℕ) → 12 ≤ get_or hints i 0 → get_or hints i 0 < length b → get_or b (get_or hints i 0) 0 < 192)
      → StandsFrom later (length later) (record { position = at; segment = length b; limit = n }) ls
  compress_stands at hints [] octets after more n all h there past fits good =
      let s : Spot = record { position = at; segment = length b; limit = n } in
      let here : drop at later ≡ 0 ∷ more = there ∙ ap (λ x. x ++ more) h.0 in
      let inside : at < length later = is_inside later at 0 more here in (
        s,
        inr (no_pointer_at later (length later) s 0 more (omega arith) here, refl),
        record {
          before = omega (arith, fits, ap length h.0);
          settled = record { inside = omega (arith, inside); after_header = omega (arith, header, past); apart = inl (omega (arith, inside)) };
          same = part_at later at (0 ∷ []) more here;
        },
      )
  compress_stands at hints (l ∷ ls) octets after more n all (inl (hint, (usable, which), is, same)) there past fits good =
      let s : Spot = record { position = at; segment = length b; limit = n } in
      let start : Spot = record { position = hint; segment = hint; limit = length b } in
      let after_it = points_after_header b (length b) hint (l ∷ ls) usable in
      let prior : hint < length b = stands_inside b (length b) start (l ∷ ls) usable.1 in
      let label : get_or b hint 0 < 192 = elim which [
        | inl later_is ↦ subst (λ k. get_or b k 0 < 192) (sym later_is) (good (slot (l ∷ ls)) (omega (arith, later_is, after_it)) (omega (arith, later_is, prior)))
        | inr (none, former_is) ↦
            subst (λ k. get_or b k 0 < 192) (sym former_is) (good (slot (l ∷ ls) + 256) (omega (arith, former_is, after_it)) (omega (arith, former_is, prior)))
      ] in
      let high = 192 + hint / 256 in
      let low = hint % 256 in
      let here : drop at later ≡ high ∷ (low ∷ more) = there ∙ ap (λ x. x ++ more) is in
      let first : get_or later at 0 ≡ high = first_octet later at high (low ∷ more) here in
      let next : drop (at + 1) later ≡ low ∷ more = next_at later at high (low ∷ more) here in
      let second : get_or later (at + 1) 0 ≡ low = first_octet later (at + 1) low more next in
      let inside : at + 1 < length later = is_inside later (at + 1) low more next in
      let to : pointed later at ≡ hint = omega (arith, first, second, pointer_leads hint) in
      let leads : LeadsBack later (length later) s = record {
        before = omega (arith, fits, ap length is);
        settled = record { inside = omega (arith, inside); after_header = omega (arith, header, past); apart = inl (omega (arith, inside)) };
        marked = omega (arith, first);
        prior = omega (arith, to, prior);
      } in
      let (t, f, piece, others) = usable.1 in
      let t_is : t ≡ start = elim f [
        | inl (back, is_back) ↦ absurd (omega (arith, back.marked, label))
        | inr (none, is_start) ↦ is_start
      ] in
      let piece_there : IsThere b (length b) start (label_wire l) = subst (λ (x : Spot). IsThere b (length b) x (label_wire l)) t_is piece in
      let others_there : StandsFrom b (length b) (after_octets start (length l + 1)) ls =
      subst (λ (x : Spot). StandsFrom b (length b) (after_octets x (length l + 1)) ls) t_is others in (
        start,
        inl (leads, ap (λ q. segment_at q (length b)) (sym to)),
        there_on b later (length b) keeps start (length b) (label_wire l) (omega arith) piece_there,
        stands_on b later (length b) keeps (after_octets start (length l + 1)) (length b) ls (omega arith) all.1 others_there,
      )
  compress_stands at hints (l ∷ ls) octets after more n all (inr (not, rest, is, others)) there past fits good =
      let s : Spot = record { position = at; segment = length b; limit = n } in
      let here : drop at later ≡ label_wire l ++ (rest ++ more) = there ∙ (ap (λ x. x ++ more) is ∙ append_assoc (label_wire l) rest more) in
      let behind : drop (at + 1 + length l) later ≡ rest ++ more = after_at later at (at + 1 + length l) (label_wire l) (rest ++ more) here (omega arith) in
      let short = all.0.not_long in
      let size = ap length is in
      let sum = length-append (label_wire l) rest in
      let room : at + (length l + 1) ≤ length later = omega (arith, ap length here, length-drop at later, length-append (label_wire l) (rest ++ more)) in
      let moved : at + 1 + length l ≡ at + (length l + 1) = omega arith in
      let good_on : (i : ℕ) → 12 ≤ get_or (kept_hints hints (slot (l ∷ ls)) at) i 0
      → get_or (kept_hints hints (slot (l ∷ ls)) at) i 0 < length b
      → get_or b (get_or (kept_hints hints (slot (l ∷ ls)) at) i 0) 0 < 192 =
      λ i after_it prior.
      elim (kept_index hints (slot (l ∷ ls)) at i) [
        | inl (j, old) ↦ subst (λ k. get_or b k 0 < 192) (sym old) (good j (omega (arith, old, after_it)) (omega (arith, old, prior)))
        | inr new ↦ absurd (omega (arith, new, prior, past))
      ] in
      let rest_there = compress_stands (at + 1 + length l) (kept_hints hints (slot (l ∷ ls)) at) ls rest after more n all.1 others behind
      (omega (arith, past)) (omega (arith, fits, size, sum)) good_on in (
        s,
        inr (no_pointer_at later (length later) s (length l) (l ++ (rest ++ more)) (omega (arith, short)) here, refl),
        record {
          before = omega (arith, fits, size, sum);
          settled = record { inside = omega (arith, room); after_header = omega (arith, header, past); apart = inl (omega (arith, room)) };
          same = part_at later at (label_wire l) (rest ++ more) here;
        },
        subst (λ q. StandsFrom later (length later) (record { position = q; segment = length b; limit = n }) ls) moved rest_there,
      )

-- ---- items

place_pointer : (m : List ℕ) (p hint : ℕ) → p + 1 < length m → get_or m p 0 ≡ 192 + hint / 256 → get_or m (p + 1) 0 ≡ hint % 256 → place_at m p ≡ hint
place_pointer m p hint inside first second =
    let one : nat_lt (p + 1) (length m) ≡ true = grind (arith, common_steps, inside) in
    let two : nat_le 192 (get_or m p 0) ≡ true = grind (arith, common_steps, first) in
    ap (λ c. if c && nat_le 192 (get_or m p 0) then pointed m p else p) one
    ∙ (ap (λ c. if c then pointed m p else p) two ∙ omega (arith, first, second, pointer_leads hint))

and_false : (c : Bool) → (c && false) ≡ false
and_false true = refl
and_false false = refl

place_label : (m : List ℕ) (p : ℕ) → get_or m p 0 < 192 → place_at m p ≡ p
place_label m p small =
    let two : nat_le 192 (get_or m p 0) ≡ false = grind (arith, common_steps, small) in
    ap (λ c. if nat_lt (p + 1) (length m) && c then pointed m p else p) two ∙ ap (λ c. if c then pointed m p else p) (and_false (nat_lt (p + 1) (length m)))

long_wire : (ls : List (List ℕ)) → ls ≢ [] → 1 < length (wire ls)
long_wire [] some = absurd (some refl)
long_wire (l ∷ ls) some = omega (arith, length_wire (l ∷ ls), encoded_size_cons l ls, length_wire ls, few_labels ls)

-- An item whose octets begin with its owner was put into a message, and this is a later one.
module _ (slot : List (List ℕ) → ℕ) (old later : List ℕ) (at near : ℕ) (hints : List ℕ) (ls : List (List ℕ)) (owner between tail octets more : List ℕ)
    (header : 12 ≤ at) (room : at + length octets ≤ length old) (octets_are : octets ≡ owner ++ tail)
    (keeps : KeepsSettled (length (take at old)) (take at old) later) (there : drop (length (take at old)) later ≡ octets ++ more)
    (good : (i : ℕ) → 12 ≤ get_or hints i 0 → get_or hints i 0 < at → get_or old (get_or hints i 0) 0 < 192) where
  b : List ℕ
  b = take at old

  size : length (take at old) ≡ at
  size = length-take-le at old (omega (arith, room))

  owner_octet : (k : ℕ) → k < length owner → get_or (put_at old at octets) (at + k) 0 ≡ get_or owner k 0
  owner_octet k small =
      let sum = length-append owner tail in
      index_put old octets at k (omega (arith, room)) (omega (arith, ap length octets_are, sum, small))
      ∙ (ap (λ x. get_or x k 0) octets_are ∙ index_front owner tail k small)

  pointer_place : (hint : ℕ) → owner ≡ pointer_octets hint → place_at (put_at old at octets) at ≡ hint
  pointer_place hint is =
      let two = ap length is in
      let sum = length-append owner tail in
      let zeroth : at + 0 ≡ at = omega arith in
      let first : get_or (put_at old at octets) at 0 ≡ 192 + hint / 256 =
      ap (λ k. get_or (put_at old at octets) k 0) (sym zeroth) ∙ (owner_octet 0 (omega (arith, two)) ∙ ap (λ x. get_or x 0 0) is) in
      let second : get_or (put_at old at octets) (at + 1) 0 ≡ hint % 256 = owner_octet 1 (omega (arith, two)) ∙ ap (λ x. get_or x 1 0) is in
      place_pointer (put_at old at octets) at hint (omega (arith, length_put_at old at octets room, room, ap length octets_are, sum, two)) first second

  owner_near : AllByRecursion IsLabel ls → IsOwner slot (take at old) near hints ls owner between → ls ≢ []
      → (at < 16384) ⊎ IsNear (take at old) near ls → IsNear later (place_at (put_at old at octets) at) ls
  owner_near all (inl (usable, is, same)) some where_it =
      subst (λ p. IsNear later p ls) (sym (pointer_place near is)) (usable.0, may_point_on (take at old) later (length (take at old)) keeps near ls all usable.1)
  owner_near all (inr (not, h)) some (inr near_it) = absurd (not near_it)
  owner_near all (inr (not, h)) some (inl reach) = compressed ls all h some
    where
      compressed : (ls : List (List ℕ)) → AllByRecursion IsLabel ls → Compresses slot (take at old) (length (take at old)) (length (take at old)) hints ls owner between
          → ls ≢ [] → IsNear later (place_at (put_at old at octets) at) ls
      compressed [] all h some = absurd (some refl)
      compressed (l ∷ ls) all (inl (hint, (usable, which), is, same)) some =
          subst (λ p. IsNear later p (l ∷ ls)) (sym (pointer_place hint is))
          (long_wire (l ∷ ls) some, may_point_on (take at old) later (length (take at old)) keeps hint (l ∷ ls) all usable)
      compressed (l ∷ ls) all (inr (none, rest, is, others)) some =
          let short = all.0.not_long in
          let zeroth : at + 0 ≡ at = omega arith in
          let sum = length-append (label_wire l) rest in
          let own : get_or (put_at old at octets) at 0 ≡ length l =
          ap (λ k. get_or (put_at old at octets) k 0) (sym zeroth) ∙ (owner_octet 0 (omega (arith, ap length is, sum)) ∙ ap (λ x. get_or x 0 0) is) in
          let place : place_at (put_at old at octets) at ≡ at = place_label (put_at old at octets) at (omega (arith, own, short)) in
          let here : drop (length (take at old)) later ≡ owner ++ (tail ++ more) = there ∙ (ap (λ x. x ++ more) octets_are ∙ append_assoc owner tail more) in
          let long : length (take at old) ≤ length later = keeps.longer in
          let fits : length (take at old) + length owner ≤ length later =
          omega (arith, ap length here, length-drop (length (take at old)) later, length-append owner (tail ++ more), long) in
          let stands = compress_stands slot (take at old) later keeps (omega (arith, size, header)) (length (take at old)) hints (l ∷ ls) owner between (tail ++ more) (length later)
          all (inr (none, rest, is, others)) here (omega arith) fits
          (λ i after_it prior. subst (λ x. x < 192) (sym (get_or-take at old (get_or hints i 0) 0 (omega (arith, prior, size)))) (good i after_it (omega (arith, prior, size)))) in
          subst (λ p. IsNear later p (l ∷ ls)) (sym place)
          (long_wire (l ∷ ls) some, (reach, subst (λ p. StandsFrom later (length later) (segment_at p (length later)) (l ∷ ls)) size stands))

module _ (s : Section) (form : ItemForm) (w v : WriterState) (old new : List ℕ) (h : AddsItem s form w old v new) where
  g : Grown s old new w.end h.0
  g = grown s form w v old new h

  end_is : v.end ≡ w.end + length h.0
  end_is = ap (λ (x : WriterState). x.end) h.6

  now_size : length (take v.end new) ≡ v.end
  now_size = length-take-le v.end new (omega (arith, g.room, g.longer, end_is))

  pub item_later : KeepsSettled (length (take w.end old)) (take w.end old) (take v.end new)
      × (drop (length (take w.end old)) (take v.end new) ≡ h.0 ++ drop (w.end + length h.0) (take v.end new))
  item_later =
      put_later old new h.0 (take v.end new) w.end g.room g.header g.here
      (record {
        longer = omega (arith, now_size, end_is);
        same = λ i after small. get_or-take v.end new i 0 (omega (arith, small, end_is));
      })

  pub hints_before : HintsAtLabels w old → NoPointers (take v.end new) w.hints
  hints_before all i after =
      let own = all i after in
      let hint = get_or w.hints i 0 in
      let same : get_or (take v.end new) hint 0 ≡ get_or old hint 0 =
      get_or-take v.end new hint 0 (omega (arith, own.0, end_is)) ∙ g.kept hint after own.0 in
      (omega (arith, own.0, end_is, now_size), omega (arith, own.1, same))

  pub hints_after : NoPointers (take v.end new) h.1 → HintsAtLabels v new
  hints_after all i after =
      let same : get_or v.hints i 0 ≡ get_or h.1 i 0 = ap (λ (x : WriterState). get_or x.hints i 0) h.6 in
      let own = all i (omega (arith, same, after)) in
      let hint = get_or h.1 i 0 in
      let octet : get_or new hint 0 < 192 = subst (λ x. x < 192) (get_or-take v.end new hint 0 (omega (arith, own.0, now_size))) own.1 in
      (omega (arith, own.0, same, now_size), subst (λ k. get_or new k 0 < 192) (sym same) octet)

-- ---- the laws

pub hints_begin : HintsBegin
hints_begin id flags max_size old new w begun i after =
    let hints : w.hints ≡ replicate 512 0 = ap (λ (x : WriterState). x.hints) begun.3 in
    let none : get_or w.hints i 0 ≡ 0 =
    ap (λ x. get_or x i 0) hints ∙ elim (le_or_lt 512 i) [ inl past ↦ get_or_past (replicate 512 0) i 0 (omega (arith, past)) | inr less ↦ get_or-replicate 512 i 0 0 less ] in
    absurd (omega (arith, none, after))

pub questions_are_near : QuestionsAreNear
questions_are_near slot q w v old new hints are added =
    let form : ItemForm = question_form slot q.name q.query_type q.class in
    let g = grown Queries form w v old new added in
    let (keeps, there) = item_later Queries form w v old new added in
    let b = take w.end old in
    let later = take v.end new in
    let octets = added.0 in
    let name = added.2.0 in
    let tail = question_fields q.query_type q.class in
    let more = drop (w.end + length octets) later in
    let here : drop (length b) later ≡ name ++ (tail ++ more) = there ∙ (ap (λ x. x ++ more) added.2.2 ∙ append_assoc name tail more) in
    let free = owner_no_pointers slot later b w.owner w.hints q.name name added.1 (tail ++ more) are added.2.1 here (hints_before Queries form w v old new added hints) in (
      hints_after Queries form w v old new added free,
      λ some reach.
          subst (λ p. IsNear later p q.name) (sym (ap (λ (x : WriterState). x.owner) added.6))
          (owner_near slot old later w.end w.owner w.hints q.name name added.1 tail octets more g.header g.room added.2.2 keeps there
          (λ i after less. (hints i after).1) are.each added.2.1 some reach),
    )

pub records_are_near : RecordsAreNear
records_are_near slot s r w v old new hints are labels added =
    let fields = fields_of_record r.record_type r.class r.ttl in
    let form : ItemForm = record_form slot r.owner r.record_type r.class r.ttl r.pieces in
    let g = grown s form w v old new added in
    let (keeps, there) = item_later s form w v old new added in
    let b = take w.end old in
    let later = take v.end new in
    let octets = added.0 in
    let (owner, between, own, is, pieces_are, split) = added.2 in
    let count = to_be_bytes w16 (length own) in
    let first = before_length fields in
    let tail = first ++ (count ++ own) in
    let more = drop (w.end + length octets) later in
    let here : drop (length b) later ≡ owner ++ (tail ++ more) = there ∙ (ap (λ x. x ++ more) split ∙ append_assoc owner tail more) in
    let free = owner_no_pointers slot later b w.owner w.hints r.owner owner between (tail ++ more) are is here (hints_before s form w v old new added hints) in
    let front : drop (length b) later ≡ (owner ++ first) ++ (count ++ (own ++ more)) = there ∙ (ap (λ x. x ++ more) split ∙ regroup owner first count own more) in
    let next = after_at later (length b) (length b + length owner + 8) (owner ++ first) (count ++ (own ++ more)) front (omega (arith, length-append owner first)) in
    let behind : drop (length ((b ++ owner) ++ fields)) later ≡ own ++ more =
    after_at later (length b + length owner + 8) (length ((b ++ owner) ++ fields)) count (own ++ more) next (omega (arith, length-append (b ++ owner) fields, length-append b owner)) in
    let all_free = pieces_no_pointers slot later ((b ++ owner) ++ fields) (length b + length owner + (length fields - 2)) between r.pieces own added.1 more labels pieces_are behind free in (
      hints_after s form w v old new added all_free,
      λ some reach.
          subst (λ p. IsNear later p r.owner) (sym (ap (λ (x : WriterState). x.owner) added.6))
          (owner_near slot old later w.end w.owner w.hints r.owner owner between tail octets more g.header g.room split keeps there
          (λ i after less. (hints i after).1) are.each is some reach),
    )

near_size : (slot : List (List ℕ) → ℕ) (b : List ℕ) (near : ℕ) (hints : List ℕ) (ls : List (List ℕ)) (octets after : List ℕ) → IsNear b near ls
    → IsOwner slot b near hints ls octets after → length octets ≡ 2
near_size slot b near hints ls octets after near_it (inl (usable, is, same)) = ap length is
near_size slot b near hints ls octets after near_it (inr (not, h)) = absurd (not near_it)

pub near_owners_take_two : NearOwnersTakeTwo
near_owners_take_two slot s r w v old new near_it labels added =
    let fields = fields_of_record r.record_type r.class r.ttl in
    let b = take w.end old in
    let (owner, between, own, is, pieces_are, split) = added.2 in
    omega (
      arith,
      ap (λ (x : WriterState). x.end) added.6,
      ap length split,
      length-append owner (before_length fields ++ (to_be_bytes w16 (length own) ++ own)),
      near_size slot b w.owner w.hints r.owner owner between near_it is,
      pieces_take_no_more slot ((b ++ owner) ++ fields) (length b + length owner + (length fields - 2)) between r.pieces own added.1 labels pieces_are,
    )
