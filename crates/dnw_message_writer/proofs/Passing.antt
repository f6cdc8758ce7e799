-- Items of a message that are added in turn, when it is written again.
use Rattle.std.proofs.Common.{◌≡◌, ◌≢◌, ◌⊎◌, ℕ, ◌<◌, ◌≤◌, ◌^◌, Bool, true, false, true≢false, not, cond, List, [], ◌∷◌, ◌++◌, length, take, refl, sym, ap, ◌∙◌, subst, inl, inr, append_assoc, arith, length-append}
use Rattle.std.specs.List.{AllByRecursion}
use Rattle.std.proofs.lemmas.List.{append-nil}
use Rattle.dnw_base.specs.DnsClasses.{class_code}
use Rattle.dnw_base.specs.Names.{AreLabels}
use Rattle.dnw_base.specs.RecordTypes.{type_code}
use Rattle.dnw_record.specs.Records.{RecordValue}
use Rattle.dnw_message_read.specs.Messages.{QueryValue}
use Rattle.dnw_message_writer.specs.Copying.{AreASet, AreOfOneSet, CopiesSets, CopyFits, copied_past, EndsBefore, FailsSets, FailsToAddCopy, FailsToAddQuery, StopsAmong, StopsInSet, after_set, at_once, copied_form, held_in, is_held, no_room, none_left, one_set, query_form, sets_of, signs_message}
use Rattle.dnw_message_writer.specs.Inside.CopiedSets.{AddsFirstSet}
use Rattle.dnw_message_writer.specs.Inside.Taken.{IsCopiedIn}
use Rattle.dnw_message_writer.specs.Inside.Turns.{KeptCount}
use Rattle.dnw_message_writer.specs.Hints.{slot_of}
use Rattle.dnw_message_writer.specs.Items.{ItemForm, question_form, question_past, record_form, record_past}
use Rattle.dnw_message_writer.specs.Padded.{signatures_in}
use Rattle.dnw_message_writer.specs.Sets.{AddsSet}
use Rattle.dnw_message_writer.specs.States.{AddsItem, FailsToAdd}
use Rattle.dnw_message_writer.specs.declared.copying.CopyError.{CopyError}
use Rattle.dnw_message_writer.specs.declared.copying.CopyError.TheVariants as errors
use Rattle.dnw_message_writer.specs.declared.pieces.Piece.{Piece}
use Rattle.dnw_message_writer.specs.declared.section.Section.{Section}
use Rattle.dnw_message_writer.specs.declared.section.Section.TheVariants.{Additionals, Queries}
use Rattle.dnw_message_writer.specs.declared.section.WriteError.{WriteError}
use Rattle.dnw_message_writer.specs.declared.section.WriteError.TheVariants.{NoRoom}
use Rattle.dnw_message_writer.specs.declared.state.WriterState.{WriterState}
use Rattle.dnw_message_writer.proofs.Laying.{take_less}
use Rattle.dnw_message_writer.proofs.Listing.{adds_push}
use Rattle.dnw_message_writer.proofs.Turning.{kept_on}

-- Some of these items are added, and these are left.
pub record Passing {D : Type 0} (s : Section) (form : D → ItemForm) (xs : List D) (first : WriterState) (old : List ℕ) (left : List D)
    (w : WriterState) (m : List ℕ) : Type 0 where
  pub done : List D
  pub split : xs ≡ done ++ left
  pub adds : AddsSet s form done first old w m
  pub further : first.end ≤ w.end
  pub kept : KeptCount s (take first.end old) (take first.end m)
  pub size : length m ≡ length old
  pub whole : (12 ≤ first.end) ⊎ (w.end ≡ first.end)

module _ {D : Type 0} (s : Section) (form : D → ItemForm) (xs : List D) (first : WriterState) (old : List ℕ) where
  abbrev pub passing_none : Passing s form xs first old xs first old
  passing_none = record {
    done = [];
    split = refl;
    adds = (refl, refl);
    further = omega arith;
    kept = inl refl;
    size = refl;
    whole = inr refl;
  }

  module _ {left : List D} {w : WriterState} {m : List ℕ} (g : Passing s form xs first old left w m) where
    -- the next one is added
    abbrev pub passing_on : (x : D) (later : List D) (v : WriterState) (n : List ℕ) → left ≡ x ∷ later → length n ≡ length m
        → AddsItem s (form x) w m v n → Passing s form xs first old later v n
    passing_on x later v n is size added =
        let further = g.further in
        let header = added.3.message.whole in
        let whole : 12 ≤ first.end = elim g.whole [ inl above ↦ above | inr same ↦ omega (arith, same, header) ] in
        record {
          done = g.done ++ x ∷ [];
          split = g.split ∙ (ap (λ ys. g.done ++ ys) is ∙ sym (append_assoc g.done (x ∷ []) later));
          adds = adds_push s form g.done x first old w m v n g.adds added;
          further = omega (arith, further, ap (λ (x : WriterState). x.end) added.6);
          kept = kept_on s old first.end (form x) w v m n whole further g.size g.kept added;
          size = size ∙ g.size;
          whole = inl whole;
        }

    -- nothing is next
    pub passing_same : (later : List D) → left ≡ later → Passing s form xs first old later w m
    passing_same later is = subst (λ ys. Passing s form xs first old ys w m) is g

    pub passing_kept : (n : List ℕ) → take w.end n ≡ take w.end m → KeptCount s (take first.end old) (take first.end n)
    passing_kept n same =
        let further = g.further in
        let here : take first.end n ≡ take first.end m =
        sym (take_less first.end w.end n further) ∙ (ap (take first.end) same ∙ take_less first.end w.end m further) in
        subst (λ x. KeptCount s (take first.end old) x) (sym here) g.kept

    -- all are added
    pub passed_all : left ≡ [] → AddsSet s form xs first old w m
    passed_all is =
        let all : xs ≡ g.done = g.split ∙ (ap (λ ys. g.done ++ ys) is ∙ append-nil g.done) in
        subst (λ ys. AddsSet s form ys first old w m) (sym all) g.adds

    -- the next one is not
    abbrev pub passing_stops : (fails_for : D → WriterState → List ℕ → CopyError → Type 0) (x : D) (later : List D) (e : CopyError) → left ≡ x ∷ later
        → fails_for x w m e → StopsAmong s form fails_for xs first old e
    passing_stops fails_for x later e is fails = record {
      done = g.done;
      next = x;
      left = later;
      are = g.split ∙ ap (λ ys. g.done ++ ys) is;
      state = w;
      message = m;
      adds = g.adds;
      fails = fails;
    }

-- ---- records that a message has to have

pub held_kept : (x : RecordValue) (xs : List RecordValue) → is_held x ≡ true → held_in (x ∷ xs) ≡ x ∷ held_in xs
held_kept x xs is = ap (λ (b : Bool). cond b (x ∷ held_in xs) (held_in xs)) is

pub signature_kept : (x : RecordValue) (xs : List RecordValue) → signs_message x ≡ true → signatures_in (x ∷ xs) ≡ x ∷ signatures_in xs
signature_kept x xs is = ap (λ (b : Bool). cond b (x ∷ signatures_in xs) (signatures_in xs)) is

pub held_out : (x : RecordValue) (xs : List RecordValue) → is_held x ≡ false → held_in (x ∷ xs) ≡ held_in xs
held_out x xs is = ap (λ (b : Bool). cond b (x ∷ held_in xs) (held_in xs)) is

pub plain_kept : (x : RecordValue) (xs : List RecordValue) → is_held x ≡ false → sets_of Additionals (x ∷ xs) ≡ x ∷ sets_of Additionals xs
plain_kept x xs is = ap (λ (b : Bool). cond (not b) (x ∷ sets_of Additionals xs) (sets_of Additionals xs)) is

pub plain_out : (x : RecordValue) (xs : List RecordValue) → is_held x ≡ true → sets_of Additionals (x ∷ xs) ≡ sets_of Additionals xs
plain_out x xs is = ap (λ (b : Bool). cond (not b) (x ∷ sets_of Additionals xs) (sets_of Additionals xs)) is

-- ---- sets

all_push : (P : RecordValue → Type 0) (xs : List RecordValue) (y : RecordValue) → AllByRecursion P xs → P y → AllByRecursion P (xs ++ y ∷ [])
all_push P [] y all here = (here, tt)
all_push P (x ∷ xs) y (one, more) here = (one, all_push P xs y more here)

-- The first of these records is added, and some of its set.
pub record InSet (s : Section) (x : RecordValue) (xs : List RecordValue) (first : WriterState) (old : List ℕ) (left : List RecordValue)
    (w : WriterState) (m : List ℕ) : Type 0 where
  pub passing : Passing s copied_form (x ∷ xs) first old left w m
  pub tail : List RecordValue
  pub begins : passing.done ≡ x ∷ tail
  pub of_one : AllByRecursion (AreOfOneSet x) tail

module _ (s : Section) (x : RecordValue) (xs : List RecordValue) (first : WriterState) (old : List ℕ) where
  pub set_begins : (w : WriterState) (m : List ℕ) → length m ≡ length old → AddsItem s (copied_form x) first old w m → InSet s x xs first old xs w m
  set_begins w m size added = record {
    passing = passing_on s copied_form (x ∷ xs) first old (passing_none s copied_form (x ∷ xs) first old) x xs w m refl size added;
    tail = [];
    begins = refl;
    of_one = tt;
  }

  pub first_stops : (e : CopyError) → FailsToAddCopy s x first old e → StopsInSet s (x ∷ xs) first old e
  first_stops e fails = (passing_stops s copied_form (x ∷ xs) first old (passing_none s copied_form (x ∷ xs) first old) (FailsToAddCopy s) x xs e refl fails, tt)

  module _ {left : List RecordValue} {w : WriterState} {m : List ℕ} (g : InSet s x xs first old left w m) where
    pub set_on : (y : RecordValue) (later : List RecordValue) (v : WriterState) (n : List ℕ) → left ≡ y ∷ later → length n ≡ length m
        → AreOfOneSet x y → AddsItem s (copied_form y) w m v n → InSet s x xs first old later v n
    set_on y later v n is size of added = record {
      passing = passing_on s copied_form (x ∷ xs) first old g.passing y later v n is size added;
      tail = g.tail ++ y ∷ [];
      begins = ap (λ ys. ys ++ y ∷ []) g.begins;
      of_one = all_push (AreOfOneSet x) g.tail y g.of_one of;
    }

    pub set_stops : (y : RecordValue) (later : List RecordValue) (e : CopyError) → left ≡ y ∷ later → AreOfOneSet x y → FailsToAddCopy s y w m e
        → StopsInSet s (x ∷ xs) first old e
    set_stops y later e is of fails = (
      passing_stops s copied_form (x ∷ xs) first old g.passing (FailsToAddCopy s) y later e is fails,
      subst (λ ys. AreASet (ys ++ y ∷ [])) (sym g.begins) (all_push (AreOfOneSet x) g.tail y g.of_one of),
    )

    pub set_kept : (n : List ℕ) → take w.end n ≡ take w.end m → KeptCount s (take first.end old) (take first.end n)
    set_kept n same = passing_kept s copied_form (x ∷ xs) first old g.passing n same

    -- the next record is of another set
    pub set_ends : (y : RecordValue) (later : List RecordValue) → left ≡ y ∷ later → (AreOfOneSet x y → ⊥)
        → AddsFirstSet s (x ∷ xs) (y ∷ later) first old w m
    set_ends y later is other =
        let p = g.passing in (
          p.done,
          p.split ∙ ap (λ ys. p.done ++ ys) is,
          subst AreASet (sym g.begins) g.of_one,
          subst (λ ys. EndsBefore ys (y ∷ later)) (sym g.begins) other,
          p.adds,
        )

    -- there is none
    pub set_ends_all : left ≡ [] → AddsFirstSet s (x ∷ xs) [] first old w m
    set_ends_all is =
        let p = g.passing in (
          p.done,
          p.split ∙ ap (λ ys. p.done ++ ys) is,
          subst AreASet (sym g.begins) g.of_one,
          subst (λ ys. EndsBefore ys []) (sym g.begins) tt,
          p.adds,
        )

set_size : (set : List RecordValue) → AreASet set → 1 ≤ length set
set_size [] are = absurd are
set_size (x ∷ xs) are = omega arith

pub set_smaller : (s : Section) (xs others : List RecordValue) (w : WriterState) (m : List ℕ) (v : WriterState) (n : List ℕ)
    → AddsFirstSet s xs others w m v n → length others < length xs
set_smaller s xs others w m v n (set, is, are, ends, adds) =
    omega (arith, ap length is, length-append set others, set_size set are)

-- ---- set by set

-- Sets of these records are added, and these records are left.
pub record InSets (s : Section) (xs : List RecordValue) (first : WriterState) (old : List ℕ) (left : List RecordValue) (w : WriterState) (m : List ℕ) : Type 0 where
  pub goes_on : (v : WriterState) (n : List ℕ) (all : Bool) → CopiesSets s left w m v n all → CopiesSets s xs first old v n all
  pub fails : (e : CopyError) → FailsSets s e left w m → FailsSets s e xs first old

module _ (s : Section) (xs : List RecordValue) (first : WriterState) (old : List ℕ) where
  pub sets_none : (left : List RecordValue) → xs ≡ left → InSets s xs first old left first old
  sets_none left is = record {
    goes_on = λ v n all h. subst (λ ys. CopiesSets s ys first old v n all) (sym is) h;
    fails = λ e h. subst (λ ys. FailsSets s e ys first old) (sym is) h;
  }

  module _ {left : List RecordValue} {w : WriterState} {m : List ℕ} (g : InSets s xs first old left w m) where
    pub sets_on : (others : List RecordValue) (v : WriterState) (n : List ℕ) → AddsFirstSet s left others w m v n → InSets s xs first old others v n
    sets_on others v n (set, is, are, ends, adds) = record {
      goes_on = λ u o all h. g.goes_on u o all (subst (λ ys. CopiesSets s ys w m u o all) (sym is) (one_set set others w v u m n o all are ends adds h));
      fails = λ e h. g.fails e (subst (λ ys. FailsSets s e ys w m) (sym is) (after_set set others w v m n are ends adds h));
    }

    pub sets_end : left ≡ [] → CopiesSets s xs first old w m true
    sets_end is = g.goes_on w m true (subst (λ ys. CopiesSets s ys w m w m true) (sym is) (none_left w m))

    pub sets_stop : (v : WriterState) (n : List ℕ) → v ≡ w → take w.end n ≡ take w.end m → StopsInSet s left w m (errors.Write NoRoom)
        → CopiesSets s xs first old v n false
    sets_stop v n unchanged same stops =
        subst (λ u. CopiesSets s xs first old u n false) (sym unchanged) (g.goes_on w n false (no_room left w m n stops same))

    pub sets_fail : (e : CopyError) → e ≢ errors.Write NoRoom → StopsInSet s left w m e → FailsSets s e xs first old
    sets_fail e other stops = g.fails e (at_once left w m other stops)

-- ---- one record

module _ (s : Section) (x : RecordValue) (xs : List Piece) (copied : IsCopiedIn x xs) (owner : List (List ℕ)) (t c l : ℕ) (owner_is : owner ≡ x.owner)
    (t_is : t ≡ type_code x.record_type) (c_is : c ≡ class_code x.class) (l_is : l ≡ x.ttl) where
  pub pieces_added : (w v : WriterState) (m n : List ℕ) → (t < 2 ^ 16) × (c < 2 ^ 16) × (l < 2 ^ 32) × AreLabels owner
      → AddsItem s (record_form slot_of owner t c l xs) w m v n → AddsItem s (copied_form x) w m v n
  pieces_added w v m n fits added =
      let f : CopyFits x = rw (owner_is, t_is, c_is, l_is) at fits in
      let (own, copies, of) = copied in
      let (octets, hints, is, limit, room, new_is, after_is) : AddsItem s (record_form slot_of x.owner (type_code x.record_type) (class_code x.class) x.ttl xs) w m v n =
      rw (owner_is, t_is, c_is, l_is) at added in
      (octets, hints, (f, own, copies, (xs, of, is)), limit, room, new_is, after_is)

  pub pieces_past : (w : WriterState) (m : List ℕ) (e : WriteError) → FailsToAdd s (record_past slot_of owner t c l xs) w m e → FailsToAdd s (copied_past x) w m e
  pieces_past w m e fails =
      let (own, copies, of) = copied in
      let f : FailsToAdd s (record_past slot_of x.owner (type_code x.record_type) (class_code x.class) x.ttl xs) w m e = rw (owner_is, t_is, c_is, l_is) at fails in
      elim f [ inl first ↦ inl first | inr (limit, past, is) ↦ inr (limit, (own, copies, (xs, of, past)), is) ]

-- ---- one question

module _ (x : QueryValue) (name : List (List ℕ)) (t c : ℕ) (name_is : name ≡ x.name) (t_is : t ≡ type_code x.query_type) (c_is : c ≡ class_code x.query_class) where
  pub query_added : (w v : WriterState) (m n : List ℕ) → (t < 2 ^ 16) × (c < 2 ^ 16) × AreLabels name
      → AddsItem Queries (question_form slot_of name t c) w m v n → AddsItem Queries (query_form x) w m v n
  query_added w v m n fits added =
      let f : (type_code x.query_type < 2 ^ 16) × (class_code x.query_class < 2 ^ 16) × AreLabels x.name = rw (name_is, t_is, c_is) at fits in
      let (octets, hints, is, limit, room, new_is, after_is) : AddsItem Queries (question_form slot_of x.name (type_code x.query_type) (class_code x.query_class)) w m v n =
      rw (name_is, t_is, c_is) at added in
      (octets, hints, (f.0, f.1, f.2, is), limit, room, new_is, after_is)

  pub query_past : (w : WriterState) (m : List ℕ) (error : WriteError) → FailsToAdd Queries (question_past slot_of name) w m error
      → FailsToAddQuery x w m (errors.Write error)
  query_past w m error fails = (error, rw name_is at fails, refl)

pub not_so : {P : Type 0} (r : Bool) → (P → r ≡ true) → r ≡ false → P → ⊥
not_so r so isnt p = absurd (true≢false (sym (so p) ∙ isnt))
