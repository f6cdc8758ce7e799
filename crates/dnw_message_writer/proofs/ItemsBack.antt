-- Questions and records that are written are read back.
use Rattle.std.proofs.Common.{◌≡◌, ℕ, ◌+◌, ◌-◌, ◌<◌, ◌≤◌, ◌^◌, List, [], ◌∷◌, ◌++◌, length, take, drop, get_or, slice_range, sym, ap, ◌∙◌, subst, refl, append_assoc, arith, length-append, length-drop}
use Rattle.std.specs.Int.{w16, to_be_bytes}
use Rattle.std.specs.List.{AllByRecursion}
use Rattle.std.proofs.lemmas.List.{append-nil, drop-drop, drop-take, get_or-take, length-take-le, take_at, take-append-drop}
use Rattle.std.proofs.lemmas.Grind.{same_number_lists}
use Rattle.dnw_base.specs.Names.{AreLabels}
use Rattle.dnw_base.proofs.Wires.{AreLabels_few}
use Rattle.dnw_message_writer.specs.CompressedNames.{put_at}
use Rattle.dnw_message_writer.specs.Contents.{AddedQuestion, AddedRecord, KeepsItems, PiecesStand, QuestionFits, ReadsAsQuestion, RecordFits, ReadsAsRecord}
use Rattle.dnw_message_writer.specs.Inside.Fitting.{HasLabels}
use Rattle.dnw_message_writer.specs.Items.{IsQuestion, IsRecord, before_length, fields_of_record, question_fields}
use Rattle.dnw_message_writer.specs.NameLaws.{KeepsSettled}
use Rattle.dnw_message_writer.specs.Pieces.{ArePieces}
use Rattle.dnw_message_writer.proofs.PiecesBack.{index_back, index_from, index_front, keeps_all_more, keeps_gap, owner_read, pieces_read}
use Rattle.dnw_message_writer.proofs.Places.{after_at, part_at}

pub regroup : (a b c d e : List ℕ) → (a ++ (b ++ (c ++ d))) ++ e ≡ (a ++ b) ++ (c ++ (d ++ e))
regroup a b c d e =
    append_assoc a (b ++ (c ++ d)) e
    ∙ (ap (λ x. a ++ x) (append_assoc b (c ++ d) e ∙ ap (λ x. b ++ x) (append_assoc c d e)) ∙ sym (append_assoc a b (c ++ (d ++ e))))

-- a message that is cut after some octets keeps what is before
cut_keeps : (b later octets more : List ℕ) (e : ℕ) → e ≡ length b + length octets → KeepsSettled (length b) b later
    → drop (length b) later ≡ octets ++ more → KeepsSettled (length b) b (take e later) × (drop (length b) (take e later) ≡ octets ++ [])
cut_keeps b later octets more e e_is keeps at =
    let longer : length b ≤ length later = keeps.longer in
    let room : e ≤ length later = omega (arith, longer, ap length at, length-drop (length b) later, length-append octets more, e_is) in (
      record {
        longer = omega (arith, length-take-le e later room, e_is);
        same = λ i after small apart. get_or-take e later i 0 (omega (arith, small, e_is)) ∙ keeps.same i after small apart;
      },
      ap (λ n. drop (length b) (take n later)) e_is ∙ (drop-take (length b) (length octets) later
          ∙ (ap (take (length octets)) at ∙ (take_at octets more (length octets) refl ∙ sym (append-nil octets)))),
    )

module _ (slot : List (List ℕ) → ℕ) (b : List ℕ) (near : ℕ) (hints : List ℕ) (r : AddedRecord) (octets after : List ℕ) (are : AreLabels r.owner)
    (labels : AllByRecursion HasLabels r.pieces) (h : IsRecord slot b near hints r.owner (fields_of_record r.record_type r.class r.ttl) r.pieces octets after) where
  abbrev fields : List ℕ
  fields = fields_of_record r.record_type r.class r.ttl

  abbrev first : List ℕ
  first = before_length fields

  abbrev owner : List ℕ
  owner = h.0

  abbrev own : List ℕ
  own = h.2

  abbrev count : List ℕ
  count = to_be_bytes w16 (length own)

  octets_are : octets ≡ owner ++ (first ++ (count ++ own))
  octets_are = h.5

  size : length octets ≡ length owner + 10 + length own
  size =
      omega (
        arith,
        ap length octets_are,
        length-append owner (first ++ (count ++ own)),
      )

  so_far : (b ++ owner) ++ fields ≡ (b ++ (owner ++ first)) ++ (0 ∷ 0 ∷ [])
  so_far =
      let parts : fields ≡ first ++ (0 ∷ 0 ∷ []) = refl in
      ap (λ x. (b ++ owner) ++ x) parts ∙ (sym (append_assoc (b ++ owner) first (0 ∷ 0 ∷ [])) ∙ ap (λ x. x ++ (0 ∷ 0 ∷ [])) (append_assoc b owner first))

  before_size : length (b ++ (owner ++ first)) ≡ length b + length owner + 8
  before_size = omega (arith, length-append b (owner ++ first), length-append owner first)

  -- data, in a message that begins there as the record does
  data_read : (later more : List ℕ) → KeepsSettled (length b) b later → drop (length b) later ≡ octets ++ more
      → PiecesStand later (length b + length owner + 10) r.pieces (length b + length octets)
  data_read later more keeps at =
      let front = b ++ (owner ++ first) in
      let two : List ℕ = 0 ∷ 0 ∷ [] in
      let here : drop (length b) later ≡ (owner ++ first) ++ (count ++ (own ++ more)) =
      at ∙ (ap (λ x. x ++ more) octets_are ∙ regroup owner first count own more) in
      let longer : length b ≤ length later = keeps.longer in
      let room : length front + 2 ≤ length later = omega (arith, before_size, longer, ap length at, length-drop (length b) later, length-append octets more, size) in
      let keeps_front = keeps_all_more b later (owner ++ first) (count ++ (own ++ more)) keeps here in
      let keeps_both = keeps_gap front later two keeps_front refl room in
      let next : drop (length front) later ≡ count ++ (own ++ more) = after_at later (length b) (length front) (owner ++ first) (count ++ (own ++ more)) here (length-append b (owner ++ first)) in
      let both_size : length (front ++ two) ≡ length front + 2 = length-append front two in
      let last : drop (length (front ++ two)) later ≡ own ++ more = after_at later (length front) (length (front ++ two)) count (own ++ more) next both_size in
      let gap_is : length b + length owner + (length fields - 2) ≡ length front = omega (arith, before_size) in
      let data_are : ArePieces slot (front ++ two) (length front) h.1 r.pieces own after =
      subst (λ x. ArePieces slot x (length front) h.1 r.pieces own after) so_far (subst (λ g. ArePieces slot ((b ++ owner) ++ fields) g h.1 r.pieces own after) gap_is h.4) in
      let start : length (front ++ two) ≡ length b + length owner + 10 = omega (arith, both_size, before_size) in
      let end : length (front ++ two) + length own ≡ length b + length octets = omega (arith, both_size, before_size, size) in
      subst (λ p. PiecesStand later p r.pieces (length b + length octets)) start
      (subst (λ e. PiecesStand later (length (front ++ two)) r.pieces e) end
      (pieces_read slot (length front) (front ++ two) h.1 r.pieces own after later more labels data_are keeps_both last))

  pub record_read : (later more : List ℕ) → RecordFits r → length octets < 2 ^ 16 → KeepsSettled (length b) b later → drop (length b) later ≡ octets ++ more
      → ReadsAsRecord later r (length b) (length b + length octets)
  record_read later more fits small keeps at =
      let end = length b + length octets in
      let here : drop (length b) later ≡ owner ++ ((first ++ count) ++ (own ++ more)) =
      at ∙ (ap (λ x. x ++ more) octets_are ∙ (append_assoc owner (first ++ (count ++ own)) more
      ∙ ap (λ x. owner ++ x) (append_assoc first (count ++ own) more ∙ (ap (λ x. first ++ x) (append_assoc count own more) ∙ sym (append_assoc first count (own ++ more)))))) in
      let (pointers, name, few) = owner_read slot b near hints r.owner owner h.1 later ((first ++ count) ++ (own ++ more)) are h.3 keeps here in
      let owner_end = length b + length owner in
      let next = after_at later (length b) owner_end owner ((first ++ count) ++ (own ++ more)) here refl in
      let (cut_all, cut_at) = cut_keeps b later octets more end refl keeps at in
      let longer : length b ≤ length later = keeps.longer in
      record {
        owner_end = owner_end;
        pointers = pointers;
        len = length own;
        owner = name;
        few = omega (arith, few, AreLabels_few r.owner are);
        fields = part_at later owner_end (first ++ count) (own ++ more) next;
        ends = omega (arith, size);
        inside = omega (arith, longer, ap length at, length-drop (length b) later, length-append octets more);
        small = omega (arith, size, small);
        data_are = data_read (take end later) [] cut_all cut_at;
        fits = fits;
      }

module _ (slot : List (List ℕ) → ℕ) (b : List ℕ) (near : ℕ) (hints : List ℕ) (q : AddedQuestion) (octets after : List ℕ) (are : AreLabels q.name)
    (h : IsQuestion slot b near hints q.name q.query_type q.class octets after) where
  pub question_read : (later more : List ℕ) → QuestionFits q → KeepsSettled (length b) b later → drop (length b) later ≡ octets ++ more
      → ReadsAsQuestion later q (length b) (length b + length octets)
  question_read later more fits keeps at =
      let name = h.0 in
      let kind = to_be_bytes w16 q.query_type in
      let class = to_be_bytes w16 q.class in
      let here : drop (length b) later ≡ name ++ (kind ++ (class ++ more)) =
      at ∙ (ap (λ x. x ++ more) h.2 ∙ (append_assoc name (kind ++ class) more ∙ ap (λ x. name ++ x) (append_assoc kind class more))) in
      let (pointers, read, few) = owner_read slot b near hints q.name name after later (kind ++ (class ++ more)) are h.1 keeps here in
      let end = length b + length name in
      let next = after_at later (length b) end name (kind ++ (class ++ more)) here refl in
      let last = after_at later end (end + 2) kind (class ++ more) next refl in
      let longer : length b ≤ length later = keeps.longer in
      let sum : end + 2 + 2 ≡ end + 4 = omega arith in
      record {
        name_end = end;
        pointers = pointers;
        name = read;
        few = omega (arith, few, AreLabels_few q.name are);
        query_type = part_at later end kind (class ++ more) next;
        class = subst (λ e. slice_range later (end + 2) e ≡ class) sum (part_at later (end + 2) class more last);
        ends = omega (arith, ap length h.2, length-append name (question_fields q.query_type q.class));
        inside = omega (arith, longer, ap length at, length-drop (length b) later, length-append octets more);
        fits = fits;
      }

-- ---- items that are put into a message

-- elements of a message into which octets are put
pub index_before : (m o : List ℕ) (at i : ℕ) → at ≤ length m → i < at → get_or (put_at m at o) i 0 ≡ get_or m i 0
index_before m o at i within small =
    index_front (take at m) (o ++ drop (at + length o) m) i (omega (arith, length-take-le at m within, small)) ∙ get_or-take at m i 0 small

pub index_put : (m o : List ℕ) (at k : ℕ) → at ≤ length m → k < length o → get_or (put_at m at o) (at + k) 0 ≡ get_or o k 0
index_put m o at k within small =
    let size = length-take-le at m within in
    index_back (take at m) (o ++ drop (at + length o) m) (at + k) (omega (arith, size))
    ∙ (ap (λ i. get_or (o ++ drop (at + length o) m) i 0) (omega (arith, size)) ∙ index_front o (drop (at + length o) m) k small)

pub index_after : (m o : List ℕ) (at i : ℕ) → at ≤ length m → at + length o ≤ i → get_or (put_at m at o) i 0 ≡ get_or m i 0
index_after m o at i within large =
    let size = length-take-le at m within in
    index_back (take at m) (o ++ drop (at + length o) m) i (omega (arith, size, large))
    ∙ (ap (λ n. get_or (o ++ drop (at + length o) m) n 0) (omega (arith, size))
    ∙ (index_back o (drop (at + length o) m) (i - at) (omega (arith, large))
    ∙ (ap (λ n. get_or (drop (at + length o) m) n 0) (omega (arith, large)) ∙ sym (index_from m (at + length o) i large))))

-- a later message keeps what was before octets that were put, and begins there with them
pub put_later : (old new octets later : List ℕ) (at : ℕ) → at + length octets ≤ length old → 12 ≤ at
    → ((i : ℕ) → 12 ≤ i → i < at + length octets → get_or new i 0 ≡ get_or (put_at old at octets) i 0)
    → KeepsItems (at + length octets) new later
    → KeepsSettled (length (take at old)) (take at old) later × (drop (length (take at old)) later ≡ octets ++ drop (at + length octets) later)
put_later old new octets later at room header same keeps =
    let size : length (take at old) ≡ at = length-take-le at old (omega (arith, room)) in
    let longer : at + length octets ≤ length later = keeps.longer in
    let n = length octets in
    let each : (k : ℕ) → k < length (take n (drop at later)) → get_or (take n (drop at later)) k 0 ≡ get_or octets k 0 =
    λ k small.
    let small_here : k < n = omega (arith, small, length-take-le n (drop at later) (omega (arith, longer, length-drop at later))) in
    let back : at + k - at ≡ k = omega arith in
    get_or-take n (drop at later) k 0 small_here
    ∙ (sym (index_from later at (at + k) (omega arith) ∙ ap (λ i. get_or (drop at later) i 0) back)
    ∙ (keeps.same (at + k) (omega (arith, header)) (omega (arith, small_here)) ∙ (same (at + k) (omega (arith, header)) (omega (arith, small_here))
    ∙ index_put old octets at k (omega (arith, room)) small_here))) in
    let part : take n (drop at later) ≡ octets =
    same_number_lists (take n (drop at later)) octets (length-take-le n (drop at later) (omega (arith, longer, length-drop at later))) each in (
      record {
        longer = omega (arith, size, longer);
        same = λ i after small apart.
            keeps.same i after (omega (arith, small, size)) ∙ (same i after (omega (arith, small, size))
            ∙ (index_before old octets at i (omega (arith, room)) (omega (arith, small, size)) ∙ sym (get_or-take at old i 0 (omega (arith, small, size)))));
      },
      ap (λ p. drop p later) size ∙ (sym (take-append-drop n (drop at later)) ∙ (ap (λ x. x ++ drop n (drop at later)) part ∙ ap (λ x. octets ++ x) (drop-drop n at later))),
    )
