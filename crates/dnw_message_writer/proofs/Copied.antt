-- A message that was written again holds the items of the other.
use Rattle.std.proofs.Common.{◌≡◌, ℕ, suc, ◌≤◌, ◌&&◌, ◌||◌, Bool, true, false, true≢false, if◌then◌else◌, List, [], ◌∷◌, ◌++◌, drop, length, take, refl, sym, ap, ◌∙◌, subst, append_assoc, drop_at, arith}
use Rattle.std.specs.List.{AllZip}
use Rattle.std.proofs.lemmas.List.{append-nil, take_at}
use Rattle.dnw_base.specs.DnsClasses.{class_code}
use Rattle.dnw_base.specs.RecordTypes.{type_code}
use Rattle.dnw_record.specs.Records.{RecordValue}
use Rattle.dnw_message_read.specs.Headers.{flags_of}
use Rattle.dnw_message_read.specs.Messages.{MessageValue, QueryValue}
use Rattle.dnw_message_writer.specs.Contents.{AddedItems, AddedQuestion, AddedRecord, HoldsItems, cut_flags, no_items, with_question, with_records}
use Rattle.dnw_message_writer.specs.Copying.{CopiesSets, Misses, copied_form, held_in, lacks_of, lacks_some, left_out_of, no_room, none_left, one_set, query_form, section_records, sets_of, there_of}
use Rattle.dnw_message_writer.specs.CopyLaws.{AreItemsOf, AreTheFirst, CopiesHold, IsCopiedQuestion, IsCopiedRecord, is_missing_of}
use Rattle.dnw_message_writer.specs.Hints.{slot_of}
use Rattle.dnw_message_writer.specs.Items.{ItemForm}
use Rattle.dnw_message_writer.specs.Needs.{has_half, has_required, is_uncut, purpose_of}
use Rattle.dnw_message_writer.specs.Sections.{rank}
use Rattle.dnw_message_writer.specs.Sets.{AddsSet, cut_off}
use Rattle.dnw_message_writer.specs.States.{AddsItem, count_in_header, for_last}
use Rattle.dnw_message_writer.specs.declared.section.Section.{Section}
use Rattle.dnw_message_writer.specs.declared.section.Section.TheVariants.{Queries, Answers, Authorities, Additionals}
use Rattle.dnw_message_writer.specs.declared.state.WriterState.{WriterState}
use Rattle.dnw_message_writer.proofs.ContentsBack.{questions_are_added}
use Rattle.dnw_message_writer.proofs.ContentsKept.{begun_messages_are_empty, cut_messages_hold, unchanged_messages_hold}
use Rattle.dnw_message_writer.proofs.GivenRecords.{given_records_are_added}

-- ---- the maximum

-- The state has this maximum, and keeps it.
abbrev Within : ℕ → WriterState → Type 0
Within most w = (w.max_size ≡ most) × (w.end ≤ most)

item_within : (s : Section) (form : ItemForm) (w v : WriterState) (m n : List ℕ) (most : ℕ) → w.max_size ≡ most → AddsItem s form w m v n → Within most v
item_within s form w v m n most same (octets, hints, is, limit, fits, new_is, after_is) = (
  ap (λ (x : WriterState). x.max_size) after_is ∙ same,
  omega (arith, ap (λ (x : WriterState). x.end) after_is, fits, same),
)

set_within : {D : Type 0} (s : Section) (form : D → ItemForm) (xs : List D) (w v : WriterState) (m n : List ℕ) (most : ℕ) → Within most w
    → AddsSet s form xs w m v n → Within most v
set_within s form [] w v m n most within (v_is, n_is) = subst (Within most) (sym v_is) within
set_within s form (x ∷ xs) w v m n most within (u, between, one, more) =
    set_within s form xs u v between n most (item_within s (form x) w u m between most within.0 one) more

sets_within : (s : Section) (xs : List RecordValue) (w v : WriterState) (m n : List ℕ) (all : Bool) (most : ℕ) → Within most w
    → CopiesSets s xs w m v n all → Within most v
sets_within s xs w v m n all most within (none_left w1 m1) = within
sets_within s xs w v m n all most within (one_set set others w1 u v1 m1 between n1 all1 are ends adds more) =
    sets_within s others u v between n all most (set_within s copied_form set w u m between most within adds) more
sets_within s xs w v m n all most within (no_room xs1 w1 m1 n1 stops same) = within

-- ---- items

-- a record is added
item_holds : (id flags : ℕ) (c : AddedItems) (s : Section) (x : RecordValue) (w v : WriterState) (m n : List ℕ) → HoldsItems id flags c w m → 1 ≤ rank s
    → AddsItem s (copied_form x) w m v n → (r : AddedRecord) × IsCopiedRecord x r × HoldsItems id flags (with_records s (r ∷ []) c) v n
item_holds id flags c s x w v m n h some (octets, hints, (fits, own, copies, form), limit, room, new_is, after_is) =
    let r : AddedRecord = record {
      owner = x.owner;
      record_type = type_code x.record_type;
      class = class_code x.class;
      ttl = x.ttl;
      pieces = [];
    } in
    let (xs, of_data, holds) = given_records_are_added slot_of id flags c s r own w v m n h some (fits.0, fits.1, fits.2) fits.3
    (octets, hints, form, limit, room, new_is, after_is) in
    (record r { pieces = xs }, (refl, refl, refl, refl, own, copies, of_data), holds)

more_of : (s : Section) (qs rs : List AddedRecord) (c : AddedItems) → with_records s rs (with_records s qs c) ≡ with_records s (qs ++ rs) c
more_of Queries qs rs c = refl
more_of Answers qs rs c = ap (λ xs. record c { answers = xs }) (append_assoc c.answers qs rs)
more_of Authorities qs rs c = ap (λ xs. record c { authorities = xs }) (append_assoc c.authorities qs rs)
more_of Additionals qs rs c = ap (λ xs. record c { additionals = xs }) (append_assoc c.additionals qs rs)

none_of : (s : Section) (c : AddedItems) → with_records s [] c ≡ c
none_of Queries c = refl
none_of Answers c = ap (λ xs. record c { answers = xs }) (append-nil c.answers)
none_of Authorities c = ap (λ xs. record c { authorities = xs }) (append-nil c.authorities)
none_of Additionals c = ap (λ xs. record c { additionals = xs }) (append-nil c.additionals)

-- records are
set_holds : (id flags : ℕ) (s : Section) (c : AddedItems) (xs : List RecordValue) (w v : WriterState) (m n : List ℕ) → HoldsItems id flags c w m → 1 ≤ rank s
    → AddsSet s copied_form xs w m v n → (rs : List AddedRecord) × AllZip IsCopiedRecord xs rs × HoldsItems id flags (with_records s rs c) v n
set_holds id flags s c [] w v m n h some (v_is, n_is) =
    let P : AddedItems → WriterState → List ℕ → Type 0 = λ x y z. HoldsItems id flags x y z in
    ([], tt, subst (λ x. P x v n) (sym (none_of s c)) (subst (λ y. P c y n) (sym v_is) (subst (λ z. P c w z) (sym n_is) h)))
set_holds id flags s c (x ∷ xs) w v m n h some (u, between, one, more) =
    let (r, is, first) = item_holds id flags c s x w u m between h some one in
    let (rs, are, all) = set_holds id flags s (with_records s (r ∷ []) c) xs u v between n first some more in
    (r ∷ rs, (is, are), subst (λ y. HoldsItems id flags y v n) (more_of s (r ∷ []) rs c) all)

zip_append : (xs ys : List RecordValue) (qs rs : List AddedRecord) → AllZip IsCopiedRecord xs qs → AllZip IsCopiedRecord ys rs
    → AllZip IsCopiedRecord (xs ++ ys) (qs ++ rs)
zip_append [] ys [] rs none more = more
zip_append [] ys (q ∷ qs) rs none more = absurd none
zip_append (x ∷ xs) ys [] rs none more = absurd none
zip_append (x ∷ xs) ys (q ∷ qs) rs (one, others) more = (one, zip_append xs ys qs rs others more)

-- What is left of a section: nothing if all are added.
record LeftOf (xs : List RecordValue) (rs : List AddedRecord) (all : Bool) : Type 0 where
  pub first : AreTheFirst xs rs
  pub none_left : all ≡ true → first.left ≡ []

-- sets are, up to the first that has no room
sets_hold : (id flags : ℕ) (s : Section) (c : AddedItems) (xs : List RecordValue) (w v : WriterState) (m n : List ℕ) (all : Bool)
    → HoldsItems id flags c w m → 1 ≤ rank s → CopiesSets s xs w m v n all
    → (rs : List AddedRecord) × LeftOf xs rs all × HoldsItems id flags (with_records s rs c) v n
sets_hold id flags s c xs w v m n all h some (none_left w1 m1) = (
  [],
  record { first = record { copied = []; left = []; are = refl; copies = tt }; none_left = λ is. refl },
  subst (λ x. HoldsItems id flags x w m) (sym (none_of s c)) h,
)
sets_hold id flags s c xs w v m n all h some (one_set set others w1 u v1 m1 between n1 all1 are ends adds more) =
    let (qs, first, holds) = set_holds id flags s c set w u m between h some adds in
    let (rs, later, last) = sets_hold id flags s (with_records s qs c) others u v between n all holds some more in (
      qs ++ rs,
      record {
        first = record {
          copied = set ++ later.first.copied;
          left = later.first.left;
          are = ap (λ ys. set ++ ys) later.first.are ∙ sym (append_assoc set later.first.copied later.first.left);
          copies = zip_append set later.first.copied qs rs first later.first.copies;
        };
        none_left = later.none_left;
      },
      subst (λ x. HoldsItems id flags x v n) (more_of s qs rs c) last,
    )
sets_hold id flags s c xs w v m n all h some (no_room xs1 w1 m1 n1 stops same) = (
  [],
  record { first = record { copied = []; left = xs; are = refl; copies = tt }; none_left = λ is. absurd (true≢false (sym is)) },
  subst (λ x. HoldsItems id flags x w n) (sym (none_of s c)) (unchanged_messages_hold id flags c w w m n h refl refl same),
)

zip_size : (xs : List RecordValue) (rs : List AddedRecord) → AllZip IsCopiedRecord xs rs → length xs ≡ length rs
zip_size [] [] none = refl
zip_size [] (r ∷ rs) none = absurd none
zip_size (x ∷ xs) [] none = absurd none
zip_size (x ∷ xs) (r ∷ rs) (one, more) = ap suc (zip_size xs rs more)

-- of a section something is missing, by what is there and what is left out
lacks_as : (s : Section) (x : MessageValue) (ys : List RecordValue) (rs : List AddedRecord) (m : List ℕ) (first : AreTheFirst ys rs)
    → sets_of s (section_records s x) ≡ ys → count_in_header s m ≡ length rs → lacks_of s x m ≡ is_missing_of s (purpose_of x) first.copied first.left
lacks_as s x ys rs m first of_section counted =
    let n = count_in_header s m in
    let size : length first.copied ≡ n = zip_size first.copied rs first.copies ∙ sym counted in
    let left : left_out_of s (section_records s x) m ≡ first.left = ap (drop n) (of_section ∙ first.are) ∙ drop_at first.copied first.left n size in
    let there : there_of s (section_records s x) m ≡ first.copied = ap (take n) (of_section ∙ first.are) ∙ take_at first.copied first.left n size in
    let lacks : ℕ → List RecordValue → List RecordValue → Bool = λ k copied out. has_required s (purpose_of x) false out || has_half k copied out in
    ap (λ k. lacks k (there_of s (section_records s x) m) (left_out_of s (section_records s x) m)) (sym size)
    ∙ (ap (λ copied. lacks (length first.copied) copied (left_out_of s (section_records s x) m)) there ∙ ap (lacks (length first.copied) first.copied) left)

-- whether something is missing, if it may be
all_lack : (x : MessageValue) (m : List ℕ) (a u d missing : Bool) → lacks_of Answers x m ≡ a → lacks_of Authorities x m ≡ u → lacks_of Additionals x m ≡ d
    → missing ≡ lacks_some x m → missing ≡ (a || (u || d))
all_lack x m a u d missing a_is u_is d_is is =
    is ∙ (ap (λ b. b || (lacks_of Authorities x m || lacks_of Additionals x m)) a_is
    ∙ (ap (λ b. a || (b || lacks_of Additionals x m)) u_is ∙ ap (λ b. a || (u || b)) d_is))

-- something is missing exactly if a record is left out that the message has to have, or half of a set
missing_as : (x : MessageValue) (m : List ℕ) (ac an uc us dc ds : List RecordValue) (all_answers all_authorities all_additionals missing : Bool)
    → (all_answers ≡ true → an ≡ []) → (all_authorities ≡ true → us ≡ []) → (all_additionals ≡ true → ds ≡ [])
    → lacks_of Answers x m ≡ is_missing_of Answers (purpose_of x) ac an → lacks_of Authorities x m ≡ is_missing_of Authorities (purpose_of x) uc us
    → lacks_of Additionals x m ≡ is_missing_of Additionals (purpose_of x) dc ds
    → Misses x m (all_answers && (all_authorities && all_additionals)) missing
    → (missing ≡ (is_missing_of Answers (purpose_of x) ac an || (is_missing_of Authorities (purpose_of x) uc us || is_missing_of Additionals (purpose_of x) dc ds)))
    × (is_uncut (purpose_of x) ≡ true → (an ≡ []) × (us ≡ []) × (ds ≡ []))
missing_as x m ac an uc us dc ds true true true missing no_an no_us no_ds an_are us_are ds_are misses =
    let none : (an ≡ []) × (us ≡ []) × (ds ≡ []) = (no_an refl, no_us refl, no_ds refl) in
    (misses ∙ sym (rw (none.0, none.1, none.2) refl), λ uncut. none)
missing_as x m ac an uc us dc ds true true false missing no_an no_us no_ds an_are us_are ds_are (cut, is) =
    (all_lack x m _ _ _ missing an_are us_are ds_are is, λ uncut. absurd (true≢false (sym uncut ∙ cut)))
missing_as x m ac an uc us dc ds true false more missing no_an no_us no_ds an_are us_are ds_are (cut, is) =
    (all_lack x m _ _ _ missing an_are us_are ds_are is, λ uncut. absurd (true≢false (sym uncut ∙ cut)))
missing_as x m ac an uc us dc ds false all more missing no_an no_us no_ds an_are us_are ds_are (cut, is) =
    (all_lack x m _ _ _ missing an_are us_are ds_are is, λ uncut. absurd (true≢false (sym uncut ∙ cut)))

-- ---- questions

queries_hold : (id flags : ℕ) (c : AddedItems) (xs : List QueryValue) (w v : WriterState) (m n : List ℕ) → HoldsItems id flags c w m
    → AddsSet Queries query_form xs w m v n → (qs : List AddedQuestion) × AllZip IsCopiedQuestion xs qs × HoldsItems id flags (record c { queries = c.queries ++ qs }) v n
queries_hold id flags c [] w v m n h (v_is, n_is) =
    let P : AddedItems → WriterState → List ℕ → Type 0 = λ x y z. HoldsItems id flags x y z in
    let none : record c { queries = c.queries ++ [] } ≡ c = ap (λ xs. record c { queries = xs }) (append-nil c.queries) in
    ([], tt, subst (λ x. P x v n) (sym none) (subst (λ y. P c y n) (sym v_is) (subst (λ z. P c w z) (sym n_is) h)))
queries_hold id flags c (x ∷ xs) w v m n h (u, between, (octets, hints, (some, few, labels, form), limit, room, new_is, after_is), more) =
    let q : AddedQuestion = record { name = x.name; query_type = type_code x.query_type; class = class_code x.query_class } in
    let first = questions_are_added slot_of id flags c q w u m between h (some, few) labels (octets, hints, form, limit, room, new_is, after_is) in
    let (qs, are, all) = queries_hold id flags (with_question q c) xs u v between n first more in
    let same : record c { queries = (c.queries ++ q ∷ []) ++ qs } ≡ record c { queries = c.queries ++ q ∷ qs } =
    ap (λ ys. record c { queries = ys }) (append_assoc c.queries (q ∷ []) qs) in
    (q ∷ qs, ((refl, refl, refl), are), subst (λ y. HoldsItems id flags y v n) same all)

-- ---- the whole

-- TC is set, or not
ends_cut : (id flags : ℕ) (c : AddedItems) (w : WriterState) (whole new : List ℕ) (missing : Bool) → HoldsItems id flags c w whole
    → new ≡ (if missing then cut_off whole else whole) → HoldsItems id (if missing then cut_flags flags else flags) c w new
ends_cut id flags c w whole new true h is = cut_messages_hold id flags c w whole new h (whole, refl, is)
ends_cut id flags c w whole new false h is = subst (λ m. HoldsItems id flags c w m) (sym is) h

pub copies_hold : CopiesHold
copies_hold x max_size old new w long copies =
    let id = x.header.metadata.id in
    let flags = flags_of x.header.metadata in
    let asked = copies.body.questions in
    let (has_room, enough, begun_is, first_is) = asked.begins in
    let empty = begun_messages_are_empty id flags max_size old asked.begun asked.first asked.id_fits asked.flags_fit long asked.begins in
    let held : WriterState = record asked.first { reserved = asked.held } in
    let start = unchanged_messages_hold id flags no_items asked.first held asked.begun asked.begun empty refl refl refl in
    let start_within : Within max_size held = (ap (λ (x : WriterState). x.max_size) first_is, omega (arith, ap (λ (x : WriterState). x.end) first_is, enough)) in
    let (qs, queries, holds) = queries_hold id flags no_items x.queries held copies.body.asked asked.begun copies.body.asked_by start asked.adds in
    let within = set_within Queries query_form x.queries held copies.body.asked asked.begun copies.body.asked_by max_size start_within asked.adds in
    let s = copies.body.sections in
    let c1 : AddedItems = record no_items { queries = qs } in
    let (rs, answers, answered) = sets_hold id flags Answers c1 x.answers copies.body.asked s.answered copies.body.asked_by s.answered_by s.all_answers holds (omega arith) s.answers in
    let (us_, authorities, led) = sets_hold id flags Authorities (with_records Answers rs c1) x.authorities s.answered s.led s.answered_by s.led_by s.all_authorities answered (omega arith) s.authorities in
    let c3 = with_records Authorities us_ (with_records Answers rs c1) in
    let (ds, additionals, filled) = sets_hold id flags Additionals c3 (sets_of Additionals x.additionals) s.led copies.filled s.led_by copies.filled_by s.all_additionals led (omega arith) s.additionals in
    let c4 = with_records Additionals ds c3 in
    let within1 = sets_within Answers x.answers copies.body.asked s.answered copies.body.asked_by s.answered_by s.all_answers max_size within s.answers in
    let within2 = sets_within Authorities x.authorities s.answered s.led s.answered_by s.led_by s.all_authorities max_size within1 s.authorities in
    let within3 = sets_within Additionals (sets_of Additionals x.additionals) s.led copies.filled s.led_by copies.filled_by s.all_additionals max_size within2 s.additionals in
    let free : WriterState = for_last copies.filled.reserved copies.filled in
    let freed = unchanged_messages_hold id flags c4 copies.filled free copies.filled_by copies.filled_by filled refl refl refl in
    let (ls, last, all) = set_holds id flags Additionals c4 (held_in x.additionals) free w copies.filled_by copies.whole freed (omega arith) copies.held in
    let (most, few) = set_within Additionals copied_form (held_in x.additionals) free w copies.filled_by copies.whole max_size within3 copies.held in
    let c5 = with_records Additionals ls c4 in
    let an = answers.first in
    let us = authorities.first in
    let os = additionals.first in
    let counts = filled.counts in
    let (missing_is, uncut) = missing_as x copies.filled_by an.copied an.left us.copied us.left os.copied os.left s.all_answers s.all_authorities
    s.all_additionals copies.missing answers.none_left authorities.none_left additionals.none_left
    (lacks_as Answers x x.answers rs copies.filled_by an refl (counts Answers))
    (lacks_as Authorities x x.authorities us_ copies.filled_by us refl (counts Authorities))
    (lacks_as Additionals x (sets_of Additionals x.additionals) ds copies.filled_by os refl (counts Additionals)) s.missing_is in
    let items : AreItemsOf x c5 copies.missing = record {
      queries = queries;
      answers = an;
      authorities = us;
      others = ds;
      additionals = os;
      last = ls;
      held = last;
      additionals_are = refl;
      missing_is = missing_is;
      uncut = uncut;
    } in
    (copies.missing, c5, items, few, ends_cut id flags c5 w copies.whole new copies.missing all copies.new_is)
