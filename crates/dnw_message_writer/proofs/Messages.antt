-- A message that holds items is read as these.
use Rattle.std.proofs.Common.{◌≡◌, ℕ, suc, ◌+◌, ◌-◌, ◌*◌, ◌<◌, ◌≤◌, ◌^◌, List, [], ◌∷◌, length, map, take, drop, drop-cons, add-one, get_or, slice_range, sym, ap, ◌∙◌, subst, refl, arith}
use Rattle.std.specs.Int.{w16, from_be_bytes, to_be_bytes}
use Rattle.std.specs.List.{AllZip}
use Rattle.std.proofs.lemmas.List.{get_or-take, length-take-le}
use Rattle.std.proofs.lemmas.Nat.{from_be_bytes-to_be_bytes_2, from_be_bytes-to_be_bytes_4}
use Rattle.dnw_base.specs.DnsClasses.{class_of_code}
use Rattle.dnw_base.specs.RecordTypes.{type_of_code}
use Rattle.dnw_record.specs.Records.{class_field, fixed_at, length_field, number_at, ttl_field, type_field}
use Rattle.dnw_message_read.specs.Headers.{header_field, header_of, metadata_of}
use Rattle.dnw_message_read.specs.declared.header.Header.{Header}
use Rattle.dnw_message_read.specs.Messages.{Item, ItemAt, ItemsAt, MessageValue, Rest, done, next, none, one_more, query_of, question_rest, record_in, record_rest}
use Rattle.dnw_message_read.proofs.OneMessage.{not_both, one_message}
use Rattle.dnw_message_writer.specs.Contents.{AddedItems, AddedQuestion, AddedRecord, HoldsItems, PiecesStand, ReadsAsQuestion, ReadsAsRecord, StayInTurn, fields_before, most_followed}
use Rattle.dnw_message_writer.specs.ReadItems.{HasItems, HeldItemsAreRead, HeldItemsNeverFail, IsAddedQuestion, IsAddedRecord, ReadMessagesHaveItems, counts_of_items}
use Rattle.dnw_message_writer.specs.States.{empty_header}
use Rattle.dnw_message_writer.specs.declared.section.Section.TheVariants.{Queries, Answers, Authorities, Additionals}
use Rattle.dnw_message_writer.specs.declared.state.WriterState.{WriterState}
use Rattle.dnw_message_writer.proofs.ContentsBack.{turn_order}
use Rattle.dnw_message_writer.proofs.ContentsKept.{unchanged_messages_hold}
use Rattle.dnw_message_writer.proofs.Places.{part_at}

-- ---- items

-- From p to e there is an item, which says the same as x, and whose name follows few pointers.
record OneRead {X Y : Type 0} (rest : Rest) (of : Item → Y) (same : X → Y → Type 0) (b : List ℕ) (x : X) (p e : ℕ) : Type 0 where
  item : Item
  pointers : ℕ
  at : ItemAt rest b p item e pointers
  is : same x (of item)
  few : pointers ≤ most_followed

-- So it is with items.
record AllRead {X Y : Type 0} (rest : Rest) (of : Item → Y) (same : X → Y → Type 0) (b : List ℕ) (xs : List X) (p e : ℕ) : Type 0 where
  items : List Item
  pointers : ℕ
  at : ItemsAt rest b p items e pointers
  are : AllZip same xs (map of items)
  counted : length items ≡ length xs
  few : pointers ≤ most_followed * length xs

module _ {X Y : Type 0} (rest : Rest) (of : Item → Y) (same : X → Y → Type 0) (b : List ℕ) (stands : List ℕ → X → ℕ → ℕ → Type 0)
    (read : (x : X) (p e : ℕ) → stands b x p e → OneRead rest of same b x p e) where
  all_read : (xs : List X) (p e : ℕ) → e ≤ length b → StayInTurn stands b xs p e → AllRead rest of same b xs p e
  all_read [] p e inside ends = record {
    items = [];
    pointers = 0;
    at = subst (λ q. ItemsAt rest b p [] q 0) ends none;
    are = tt;
    counted = refl;
    few = omega arith;
  }
  all_read (x ∷ xs) p e inside (q, before, one, more) =
      let order = turn_order stands b xs q e more in
      let first = read x p q (one b (record { longer = omega (arith, inside, order); same = λ i after small. refl })) in
      let others = all_read xs q e inside more in
      record {
        items = first.item ∷ others.items;
        pointers = first.pointers + others.pointers;
        at = one_more first.at others.at;
        are = (first.is, others.are);
        counted = omega (arith, others.counted);
        few = omega (arith, first.few, others.few);
      }

-- the number that two octets are
number_read : (b : List ℕ) (n p : ℕ) → n < 2 ^ 16 → slice_range b p (p + 2) ≡ to_be_bytes w16 n → number_at b p ≡ n
number_read b n p fits there = ap (from_be_bytes w16) there ∙ from_be_bytes-to_be_bytes_2 n fits

question_is : (b : List ℕ) (q : AddedQuestion) (p e : ℕ) → ReadsAsQuestion b q p e → OneRead question_rest (query_of b) IsAddedQuestion b q p e
question_is b q p e h =
    let end : h.name_end + 4 ≡ h.name_end + 2 + 2 = omega arith in
    record {
      item = record { labels = q.name; name_end = h.name_end };
      pointers = h.pointers;
      at = record { name = h.name; ends = h.ends; inside = h.inside };
      is = (
        refl,
        ap type_of_code (number_read b q.query_type h.name_end h.fits.0 h.query_type),
        ap class_of_code (number_read b q.class (h.name_end + 2) h.fits.1 (subst (λ e. slice_range b (h.name_end + 2) e ≡ to_be_bytes w16 q.class) end h.class)),
      );
      few = h.few;
    }

record_is : (b : List ℕ) (r : AddedRecord) (p e : ℕ) → ReadsAsRecord b r p e → OneRead record_rest (record_in b) IsAddedRecord b r p e
record_is b r p e h =
    let fields = fields_before r h.len in
    let same : fixed_at b h.owner_end ≡ fields = h.fields in
    let len : length_field (fixed_at b h.owner_end) ≡ h.len = ap length_field same ∙ from_be_bytes-to_be_bytes_2 h.len h.small in
    let end : e ≡ h.owner_end + 10 + length_field (fixed_at b h.owner_end) = omega (arith, h.ends, len) in
    let whole : PiecesStand (take e b) (h.owner_end + 10) r.pieces e = h.data_are in
    let last : ℕ = h.owner_end + 10 + length_field (fixed_at b h.owner_end) in
    let cut : last ≡ last - 0 = omega arith in
    let up_to : PiecesStand (take last b) (h.owner_end + 10) r.pieces last = subst (λ n. PiecesStand (take n b) (h.owner_end + 10) r.pieces n) end whole in
    record {
      item = record { labels = r.owner; name_end = h.owner_end };
      pointers = h.pointers;
      at = record { name = h.owner; ends = omega (arith, end); inside = h.inside };
      is = (
        refl,
        ap type_field same ∙ ap type_of_code (from_be_bytes-to_be_bytes_2 r.record_type h.fits.0),
        ap class_field same ∙ ap class_of_code (from_be_bytes-to_be_bytes_2 r.class h.fits.1),
        ap ttl_field same ∙ from_be_bytes-to_be_bytes_4 r.ttl h.fits.2,
        omega (arith, end, h.inside),
        subst (λ n. PiecesStand (take n b) (h.owner_end + 10) r.pieces last) cut up_to,
      );
      few = h.few;
    }

-- ---- the header

two_at : (xs : List ℕ) (p : ℕ) → p + 2 ≤ length xs → slice_range xs p (p + 2) ≡ get_or xs p 0 ∷ get_or xs (p + 1) 0 ∷ []
two_at xs p within =
    let one : drop p xs ≡ get_or xs p 0 ∷ drop (p + 1) xs = rw add-one (drop-cons xs p 0 (omega (arith, within))) in
    let two : drop (p + 1) xs ≡ get_or xs (p + 1) 0 ∷ drop (suc (p + 1)) xs = drop-cons xs (p + 1) 0 (omega (arith, within)) in
    part_at xs p (get_or xs p 0 ∷ get_or xs (p + 1) 0 ∷ []) (drop (suc (p + 1)) xs) (one ∙ ap (λ x. get_or xs p 0 ∷ x) two)

module _ (b : List ℕ) (long : 12 ≤ length b) where
  field_at : (p : ℕ) → p + 2 ≤ 12 → header_field (take 12 b) p ≡ from_be_bytes w16 (get_or b p 0 ∷ get_or b (p + 1) 0 ∷ [])
  field_at p small =
      let size = length-take-le 12 b long in
      ap (from_be_bytes w16) (two_at (take 12 b) p (omega (arith, size, small)))
      ∙ (ap (λ x. from_be_bytes w16 (x ∷ get_or (take 12 b) (p + 1) 0 ∷ [])) (get_or-take 12 b p 0 (omega (arith, small)))
      ∙ ap (λ x. from_be_bytes w16 (get_or b p 0 ∷ x ∷ [])) (get_or-take 12 b (p + 1) 0 (omega (arith, small))))

  -- the header of these octets, by its id, its flags and its counts
  header_parts : (id flags queries answers authorities additionals : ℕ) → header_field (take 12 b) 0 ≡ id → header_field (take 12 b) 2 ≡ flags
      → header_field (take 12 b) 4 ≡ queries → header_field (take 12 b) 6 ≡ answers → header_field (take 12 b) 8 ≡ authorities
      → header_field (take 12 b) 10 ≡ additionals
      → header_of (take 12 b) ≡ record { metadata = metadata_of id flags; counts = record { queries = queries; answers = answers; authorities = authorities; additionals = additionals } }
  header_parts id flags queries answers authorities additionals id_is flags_is q a u d = rw (id_is, flags_is, q, a, u, d) refl

header_read : (id flags : ℕ) (c : AddedItems) (w : WriterState) (b : List ℕ) → HoldsItems id flags c w b
    → header_of (take 12 b) ≡ record { metadata = metadata_of id flags; counts = counts_of_items c }
header_read id flags c w b h =
    let within : w.end ≤ length b = h.within in
    let whole : 12 ≤ w.end = h.whole in
    let long : 12 ≤ length b = omega (arith, within, whole) in
    let head = h.head in
    let id_is : from_be_bytes w16 (get_or b 0 0 ∷ get_or b 1 0 ∷ []) ≡ id =
    ap (λ x. from_be_bytes w16 (x ∷ get_or b 1 0 ∷ [])) (head 0 (omega arith))
    ∙ (ap (λ x. from_be_bytes w16 (get_or (empty_header id flags) 0 0 ∷ x ∷ [])) (head 1 (omega arith)) ∙ from_be_bytes-to_be_bytes_2 id h.id_fits) in
    let flags_is : from_be_bytes w16 (get_or b 2 0 ∷ get_or b 3 0 ∷ []) ≡ flags =
    ap (λ x. from_be_bytes w16 (x ∷ get_or b 3 0 ∷ [])) (head 2 (omega arith))
    ∙ (ap (λ x. from_be_bytes w16 (get_or (empty_header id flags) 2 0 ∷ x ∷ [])) (head 3 (omega arith)) ∙ from_be_bytes-to_be_bytes_2 flags h.flags_fit) in
    header_parts b long id flags (length c.queries) (length c.answers) (length c.authorities) (length c.additionals)
    (field_at b long 0 (omega arith) ∙ id_is) (field_at b long 2 (omega arith) ∙ flags_is) (field_at b long 4 (omega arith) ∙ h.counts Queries)
    (field_at b long 6 (omega arith) ∙ h.counts Answers) (field_at b long 8 (omega arith) ∙ h.counts Authorities)
    (field_at b long 10 (omega arith) ∙ h.counts Additionals)

-- ---- the message

pub held_items_are_read : HeldItemsAreRead
held_items_are_read id flags c w m b held same =
    let h = unchanged_messages_hold id flags c w w m b held refl refl same in
    let within : w.end ≤ length b = h.within in
    let whole : 12 ≤ w.end = h.whole in
    let third = turn_order ReadsAsRecord b c.additionals h.additionals_at w.end h.additionals in
    let second = turn_order ReadsAsRecord b c.authorities h.authorities_at h.additionals_at h.authorities in
    let first = turn_order ReadsAsRecord b c.answers h.answers_at h.authorities_at h.answers in
    let q = all_read question_rest (query_of b) IsAddedQuestion b ReadsAsQuestion (question_is b) c.queries 12 h.answers_at (omega (arith, first, second, third, within)) h.queries in
    let records = all_read record_rest (record_in b) IsAddedRecord b ReadsAsRecord (record_is b) in
    let a = records c.answers h.answers_at h.authorities_at (omega (arith, second, third, within)) h.answers in
    let u = records c.authorities h.authorities_at h.additionals_at (omega (arith, third, within)) h.authorities in
    let d = records c.additionals h.additionals_at w.end within h.additionals in
    let header : Header = record { metadata = metadata_of id flags; counts = counts_of_items c } in
    let x : MessageValue = record {
      octets = b;
      header = header;
      queries = map (query_of b) q.items;
      answers = map (record_in b) a.items;
      authorities = map (record_in b) u.items;
      additionals = map (record_in b) d.items;
      end = w.end;
    } in (
      x,
      q.pointers + (a.pointers + (u.pointers + (d.pointers + 0))),
      record {
        whole = omega (arith, within, whole);
        octets = refl;
        header = sym (header_read id flags c w b h);
        queries = q.items;
        answers = a.items;
        authorities = u.items;
        additionals = d.items;
        sections = next q.at q.counted (next a.at a.counted (next u.at u.counted (next d.at d.counted done)));
        queries_are = refl;
        answers_are = refl;
        authorities_are = refl;
        additionals_are = refl;
      },
      refl,
      record { header = refl; queries = q.are; answers = a.are; authorities = u.are; additionals = d.are },
      omega (arith, q.few, a.few, u.few, d.few),
    )

pub held_items_never_fail : HeldItemsNeverFail
held_items_never_fail id flags c w m b most error held same enough fails =
    let (x, k, at, end, has, few) = held_items_are_read id flags c w m b held same in
    not_both b most x k error at (omega (arith, few, enough)) fails

pub read_messages_have_items : ReadMessagesHaveItems
read_messages_have_items id flags c w m b y j held same there =
    let (x, k, at, end, has, few) = held_items_are_read id flags c w m b held same in
    let one = one_message b x y k j at there in
    subst (λ (z : MessageValue). (z.end ≡ w.end) × HasItems id flags c z) one.0 (end, has)
