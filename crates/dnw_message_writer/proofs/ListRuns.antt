-- Records of a set that are added in turn: what stays of the message, and what is taken back.
use Rattle.std.proofs.Common.{◌≡◌, ◌≢◌, ◌⊎◌, ℕ, ◌<◌, ◌≤◌, Bool, true, false, List, length, take, refl, sym, ap, ◌∙◌, subst, inl, inr, arith}
use Rattle.dnw_base.specs.Decoder.{Decoder}
use Rattle.dnw_record.specs.Records.{RecordValue, data_octets}
use Rattle.dnw_message_writer.specs.CompressedNames.{put_at}
use Rattle.dnw_message_writer.specs.Hints.{slot_of}
use Rattle.dnw_message_writer.specs.Items.{question_form}
use Rattle.dnw_message_writer.specs.Listed.{data_form}
use Rattle.dnw_message_writer.specs.Needs.{is_uncut}
use Rattle.dnw_message_writer.specs.Sections.{offset_of_count, rank}
use Rattle.dnw_message_writer.specs.Standing.{first_item}
use Rattle.dnw_message_writer.specs.States.{AddsItem}
use Rattle.dnw_message_writer.specs.declared.section.Section.TheVariants as Sections
use Rattle.dnw_message_writer.specs.Inside.Turns.{KeptCount, count_octets}
use Rattle.dnw_message_writer.specs.declared.needs.Purpose.{Purpose}
use Rattle.dnw_message_writer.specs.declared.section.Section.{Section}
use Rattle.dnw_message_writer.specs.declared.state.WriterState.{WriterState}
use Rattle.dnw_message_writer.proofs.Laying.{take_less}
use Rattle.dnw_message_writer.proofs.Turning.{count_back, count_same, kept_on}
use Rattle.dnw_message_writer.specs.ListResults.{at_offset}
use Rattle.dnw_message_writer.specs.declared.list.ListError.{ListError}
use Rattle.dnw_message_writer.specs.declared.list.ListError.TheVariants as why
use Rattle.std.proofs.lemmas.List.{length-take}
use Rattle.dnw_message_writer.specs.declared.list.writing.LeftOut.{LeftOut}
use Rattle.dnw_message_writer.specs.Lists.{AddsRecords, AddsRun, BeginsWithOctet, FailsToAddRecords, FailsToWriteNext, WritesNext, WritesFrom, IsHalved, IsLeftOut, IsNoItem, IsNoneOfSet, IsOctetOf, IsOfRun, LacksListed, PassesEnd, Progress, TakesListed, TakesQuestion, comes_last, further, here, left_out, left_with, more, no_room, none, nothing_left_out, pairs_left, progress, progress_at, question, set, what_is_there}
use Rattle.dnw_message_writer.specs.ListEnds.{AddsListed, FailsToAddListed, is_put_last}
use Rattle.dnw_message_writer.specs.declared.list.halves.There.{There}
use Rattle.dnw_message_writer.specs.ListResults.{StaysAsItWas}
use Rattle.dnw_base.specs.DnsClasses.{class_code}
use Rattle.dnw_base.specs.RecordTypes.{type_code}
use Rattle.dnw_message_writer.proofs.ListItems.{IsOnward, onward_trans, question_onward, record_onward}

-- Records are added in turn, and what the message had before them is unchanged but for a count.
pub record Ran (octet : ℕ) (s : Section) (x : RecordValue) (start : Decoder) (w : WriterState) (m : List ℕ) (d : Decoder) (v : WriterState) (n : List ℕ) : Type 0 where
  pub run : AddsRun octet s x start w m d v n
  pub further : w.end ≤ v.end
  pub kept : KeptCount s (take w.end m) (take w.end n)
  pub size : length n ≡ length m
  pub whole : (first_item ≤ w.end) ⊎ (v.end ≡ w.end)

module _ (octet : ℕ) (s : Section) (first : RecordValue) (start : Decoder) (w : WriterState) (m : List ℕ) where
  pub ran_none : Ran octet s first start w m start w m
  ran_none = record {
    run = none;
    further = omega arith;
    kept = inl refl;
    size = refl;
    whole = inr refl;
  }

  module _ {d : Decoder} {v : WriterState} {n : List ℕ} (g : Ran octet s first start w m d v n) where
    -- one more is added
    pub ran_on : (x : RecordValue) (after : Decoder) (u : WriterState) (o : List ℕ) → length o ≡ length n
        → TakesListed d octet x after → IsOfRun octet first x → AddsListed s x v n u o → Ran octet s first start w m after u o
    ran_on x after u o size takes same_set added =
        let further = g.further in
        let header = added.3.message.whole in
        let whole : first_item ≤ w.end = elim g.whole [ inl above ↦ above | inr same ↦ omega (arith, same, header) ] in
        record {
          run = more d after v u n o x g.run takes same_set added;
          further = omega (arith, further, ap (λ (x : WriterState). x.end) added.6);
          kept = kept_on s m w.end (data_form x.owner (type_code x.record_type) (class_code x.class) x.ttl (data_octets x)) v u n o whole further g.size g.kept added;
          size = size ∙ g.size;
          whole = inl whole;
        }

    -- the next one is not
    pub kept_past : (o : List ℕ) → take v.end o ≡ take v.end n → KeptCount s (take w.end m) (take w.end o)
    kept_past o same =
        let further = g.further in
        let here : take w.end o ≡ take w.end n =
        sym (take_less w.end v.end o further) ∙ (ap (take w.end) same ∙ take_less w.end v.end n further) in
        subst (λ x. KeptCount s (take w.end m) x) (sym here) g.kept

-- the records of a set end after the first one at least
pub run_onward : {octet : ℕ} {s : Section} {first : RecordValue} {start : Decoder} {w : WriterState} {m : List ℕ} {d : Decoder} {v : WriterState} {n : List ℕ}
    → AddsRun octet s first start w m d v n → (d ≡ start) ⊎ IsOnward start d
run_onward none = inl refl
run_onward {octet} {s} {first} {start} (more d after v u n o x run takes same_set adds) =
    let one = record_onward takes.1 in
    elim (run_onward run) [
      | inl same ↦ inr (subst (λ e. IsOnward e after) same one)
      | inr before ↦ inr (onward_trans start d after before one)
    ]

-- ---- a set

module _ {octet : ℕ} {s : Section} {d : Decoder} {x : RecordValue} {after : Decoder} {w : WriterState} {m : List ℕ} (takes : TakesListed d octet x after) where
  -- it is the first of its set
  pub run_begins : is_put_last octet x ≡ false → (v : WriterState) (n : List ℕ) → length n ≡ length m → AddsListed s x w m v n → Ran octet s x d w m after v n
  run_begins plain v n size adds =
      ran_on octet s x d w m (ran_none octet s x d w m) x after v n size takes (plain, (inl refl, refl, refl)) adds

  -- the first is not added
  pub first_fails : is_put_last octet x ≡ false → (failure : ListError) → FailsToAddListed s x w m failure → FailsToAddRecords d octet s w m failure
  first_fails plain failure fails = record {
    x = x;
    next = after;
    first = takes;
    at = d;
    v = w;
    between = m;
    run = none;
    y = x;
    after = after;
    takes = takes;
    same = (plain, (inl refl, refl, refl));
    fails = fails;
  }

  module _ {at : Decoder} {v : WriterState} {n : List ℕ} (g : Ran octet s x d w m at v n) where
    pub run_on : (y : RecordValue) (later : Decoder) (u : WriterState) (o : List ℕ) → length o ≡ length n → TakesListed at octet y later
        → IsOfRun octet x y → AddsListed s y v n u o → Ran octet s x d w m later u o
    run_on y later u o size next same adds = ran_on octet s x d w m g y later u o size next same adds

    pub run_ends : is_put_last octet x ≡ false → IsNoneOfSet at octet x → AddsRecords d octet s w m at v n
    run_ends plain others = record { x = x; next = after; first = takes; plain = plain; run = g.run; others = others }

    pub run_fails : (y : RecordValue) (later : Decoder) (failure : ListError) → TakesListed at octet y later → IsOfRun octet x y
        → FailsToAddListed s y v n failure → FailsToAddRecords d octet s w m failure
    run_fails y later failure next same fails = record {
      x = x;
      next = after;
      first = takes;
      at = at;
      v = v;
      between = n;
      run = g.run;
      y = y;
      after = later;
      takes = next;
      same = same;
      fails = fails;
    }

-- what was added is taken back
pub taken_message : (s : Section) (e : ℕ) (old n o count : List ℕ) → length n ≡ length old → KeptCount s (take e old) (take e n)
    → (first_item ≤ length old → count ≡ count_octets old (offset_of_count s))
    → ((first_item ≤ e) × (first_item ≤ length n) × (o ≡ put_at n (offset_of_count s) count)) ⊎ (((e < first_item) ⊎ (length n < first_item)) × (o ≡ n))
    → take e o ≡ take e old
taken_message s e old n o count size kept count_is (inl (header, long, is)) =
    let long' : first_item ≤ length old = omega (arith, long, size) in
    ap (take e) (is ∙ ap (put_at n (offset_of_count s)) (count_is long')) ∙ count_back s old e n header long' size kept
taken_message s e old n o count size kept count_is (inr (short, is)) =
    let few = length-take e old in
    ap (take e) is ∙ count_same s old e n (λ long. elim short [ inl a ↦ absurd (omega (arith, a, long, few)) | inr b ↦ absurd (omega (arith, b, size, long, few)) ]) kept

-- ---- the writing of a list

pub records_onward : {d : Decoder} {octet : ℕ} {s : Section} {w : WriterState} {m : List ℕ} {after : Decoder} {v : WriterState} {n : List ℕ}
    → AddsRecords d octet s w m after v n → IsOnward d after
records_onward {d} {octet} g =
    elim (run_onward g.run) [
      | inl same ↦ absurd (g.others g.x g.next (subst (λ e. TakesListed e octet g.x g.next) (sym same) g.first) (g.plain, (inl refl, refl, refl)))
      | inr later ↦ later
    ]

-- what is next in a list has octets of its own
pub goes_onward : (bare : Bool) (needs : Purpose) (p q : Progress) → WritesNext bare needs p q → IsOnward p.items q.items
goes_onward bare needs p q (question name t c takes adds same) = question_onward takes
goes_onward bare needs p q (comes_last octet (x, takes, is) state message same) = record_onward takes.1
goes_onward bare needs p q (set octet s is ready adds same) = records_onward adds
goes_onward bare needs p q (no_room octet s x is ready fails cut back takes same) = record_onward takes.1
goes_onward bare needs p q (left_out octet s x is shut takes plain state message same) = record_onward takes.1

-- Items are written up to a decoder, which is in the list.
pub record Gone (list : List ℕ) (bare : Bool) (needs : Purpose) (w : WriterState) (m : List ℕ) (p : Progress) : Type 0 where
  pub goes : WritesFrom bare needs (progress_at list w m) p
  pub same : p.items.bytes ≡ list
  pub inside : p.items.index ≤ length list

pub gone_none : (list : List ℕ) (bare : Bool) (needs : Purpose) (w : WriterState) (m : List ℕ) (d : Decoder) (left : LeftOut) → d ≡ record { bytes = list; index = 0 }
    → left ≡ nothing_left_out → Gone list bare needs w m (progress d w m left)
gone_none list bare needs w m d left is same =
    subst (λ e. Gone list bare needs w m (progress e w m left)) (sym is)
    (subst (λ l. Gone list bare needs w m (progress (at_offset list 0) w m l)) (sym same) (record { goes = here; same = refl; inside = omega arith }))

pub gone_on : {list : List ℕ} {bare : Bool} {needs : Purpose} {w : WriterState} {m : List ℕ} {p : Progress} → Gone list bare needs w m p → (q : Progress) → WritesNext bare needs p q
    → Gone list bare needs w m q
gone_on {list} {bare} {needs} {w} {m} {p} g q goes =
    let onward = goes_onward bare needs p q goes in
    let same = onward.same ∙ g.same in
    let inside = onward.inside in
    record { goes = further p q g.goes goes; same = same; inside = omega (arith, inside, ap length same) }

-- a record that is next is left out
abbrev pub Leaves : Purpose → ℕ → Section → There → Decoder → LeftOut → Decoder → LeftOut → Type 0
Leaves needs octet s there d left after now =
    (x : RecordValue) × (half : Bool) × TakesListed d octet x after × IsHalved (pairs_left s left) there d.bytes x half
    × (now ≡ left_with needs s octet there half x left)

-- the octet before a record is not that before a question
pub octet_other : (octet : ℕ) (s : Section) → IsOctetOf octet s → octet ≢ 0
octet_other octet s (some, inl is) none_ = absurd (omega (arith, some, is, none_))
octet_other octet s (some, inr (inl is)) none_ = absurd (omega (arith, is, none_))
octet_other octet s (some, inr (inr is)) none_ = absurd (omega (arith, is, none_))

-- no record is next, and so no item
pub lacks_item : (octet : ℕ) (s : Section) (d : Decoder) (failure : ListError) → IsOctetOf octet s → BeginsWithOctet d octet
    → LacksListed d × (failure ≡ why.BadItem) → IsNoItem d × (failure ≡ why.BadItem)
lacks_item octet s d failure is begins (lacks, bad) = (inr (inr (inr (octet, begins, octet_other octet s is, lacks))), bad)

module _ (bare : Bool) (needs : Purpose) where
  pub question_goes : (d after : Decoder) (w v : WriterState) (m n : List ℕ) (left : LeftOut)
      → ((name : List (List ℕ)) × (t : ℕ) × (c : ℕ) × TakesQuestion d name t c after × AddsItem Sections.Queries (question_form slot_of name t c) w m v n)
      → WritesNext bare needs (progress d w m left) (progress after v n left)
  question_goes d after w v m n left (name, t, c, takes, adds) = question name t c takes adds refl

  pub end_goes : (octet : ℕ) (d after : Decoder) (w : WriterState) (m : List ℕ) (left : LeftOut) → PassesEnd bare octet d after true
      → WritesNext bare needs (progress d w m left) (progress after w m left)
  end_goes octet d after w m left passes = comes_last octet passes refl refl refl

  -- a record is left out, by what is there of its section
  pub out_of : (octet : ℕ) (s : Section) (p q : Progress) (there : There) (x : RecordValue) (half : Bool) → there ≡ what_is_there s p
      → IsHalved (pairs_left s p.left) there p.items.bytes x half → q.left ≡ left_with needs s octet there half x p.left → IsLeftOut needs octet s p x q
  out_of octet s p q there x half is halved left_is =
      (half, subst (λ t. IsHalved (pairs_left s p.left) t p.items.bytes x half) is halved, left_is ∙ ap (λ t. left_with needs s octet t half x p.left) is)

  module _ (octet : ℕ) (s : Section) (d e : Decoder) (w : WriterState) (m : List ℕ) (left : LeftOut) (no_end : PassesEnd bare octet d e false)
      (is : IsOctetOf octet s) where
    -- nothing was passed, and then a record is left out
    pub passed : (r : ℕ) (after : Decoder) (now : LeftOut) (there : There) → there ≡ what_is_there s (progress e w m left) → r ≡ rank s
        → r ≡ left.closed → Leaves needs octet s there e left after now → WritesNext bare needs (progress d w m left) (progress after w m now)
    passed r after now there there_is rank_is shut (x, half, takes, halved, left_is) =
        let here : TakesListed d octet x after = subst (λ f. TakesListed f octet x after) no_end.0 takes in
        left_out octet s x is (sym rank_is ∙ shut) here (no_end.1 x after here) refl refl
        (out_of octet s (progress d w m left) (progress after w m now) there x half
        (subst (λ f. there ≡ what_is_there s (progress f w m left)) no_end.0 there_is)
        (subst (λ (f : Decoder). IsHalved (pairs_left s left) there f.bytes x half) no_end.0 halved) left_is)

    -- or none is next
    pub passed_none : (failure : ListError) → BeginsWithOctet d octet → LacksListed e × (failure ≡ why.BadItem)
        → FailsToWriteNext needs (progress d w m left) failure
    passed_none failure begins (lacks, bad) = inl (lacks_item octet s d failure is begins (subst LacksListed no_end.0 lacks, bad))

module _ (bare : Bool) (needs : Purpose) (octet : ℕ) (s : Section) (p : Progress) (is : IsOctetOf octet s) (ready : rank s ≢ p.left.closed) where
  pub set_left_out : (after : Decoder) (failure : ListError) (u : WriterState) (o : List ℕ) (now : LeftOut) (there : There) → there ≡ what_is_there s p
      → FailsToAddRecords p.items octet s p.state p.message failure ⊎ ((failure ≡ why.BadItem) × LacksListed p.items)
      → failure ≡ why.TooLong → is_uncut needs ≡ false → StaysAsItWas p.state p.message u o
      → Leaves needs octet s there p.items p.left after now → WritesNext bare needs p (progress after u o now)
  set_left_out after failure u o now there there_is (inl fails) long cut back (x, half, takes, halved, left_is) =
      no_room octet s x is ready (subst (FailsToAddRecords p.items octet s p.state p.message) long fails) cut back takes
      (out_of bare needs octet s p (progress after u o now) there x half there_is halved left_is)
  set_left_out after failure u o now there there_is (inr (bad, other)) long cut back left_is = let clash = sym bad ∙ long in absurd cc

  pub set_fails : (failure : ListError) → BeginsWithOctet p.items octet
      → FailsToAddRecords p.items octet s p.state p.message failure ⊎ ((failure ≡ why.BadItem) × LacksListed p.items)
      → (failure ≡ why.TooLong → is_uncut needs ≡ true) → FailsToWriteNext needs p failure
  set_fails failure begins (inl fails) uncut = inr (inr (octet, s, is, ready, fails, uncut))
  set_fails failure begins (inr (bad, lacks)) uncut = inl (lacks_item octet s p.items failure is begins (lacks, bad))
