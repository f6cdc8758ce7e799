-- Records that are added in turn.
use Rattle.std.proofs.Common.{◌≡◌, ◌⊎◌, ℕ, suc, ◌+◌, ◌-◌, ◌<◌, ◌≤◌, Result, Ok, Err, OnErr, List, [], ◌∷◌, ◌++◌, length, take, drop, get_or, drop-cons, add-one, refl, sym, ap, ◌∙◌, subst, inl, inr, append_assoc, arith, length-append}
use Rattle.std.specs.Int.{w16, to_be_bytes}
use Rattle.std.proofs.Math.Seq.{take-add}
use Rattle.std.proofs.lemmas.Bool.{cases_order}
use Rattle.std.proofs.lemmas.List.{append-nil, drop-take, drop_at, get_or-take, length-take-le, take_all, take_at, take-append-drop}
use Rattle.dnw_message_writer.specs.CompressedNames.{put_at}
use Rattle.dnw_message_writer.specs.Inside.Turns.{KeptCount, Turned, count_octets}
use Rattle.dnw_message_writer.specs.Items.{ItemForm, ItemPast}
use Rattle.dnw_message_writer.specs.Sections.{offset_of_count}
use Rattle.dnw_message_writer.specs.Sets.{AddsSet, FailsToAddSet}
use Rattle.dnw_message_writer.specs.States.{AddsItem, FailsToAdd, count_in_header}
use Rattle.dnw_message_writer.specs.declared.section.Section.{Section}
use Rattle.dnw_message_writer.specs.declared.section.WriteError.{WriteError}
use Rattle.dnw_message_writer.specs.declared.set.Data.{Data}
use Rattle.dnw_message_writer.specs.declared.state.WriterState.{WriterState}
use Rattle.dnw_message_writer.proofs.Counting.{count_small}
use Rattle.dnw_message_writer.proofs.Going.{take_before}
use Rattle.dnw_message_writer.proofs.Laying.{put_at_inside, take_less}
use Rattle.dnw_message_writer.proofs.Puts.{length_put_at}

pub le_or_lt : (a b : ℕ) → (a ≤ b) ⊎ (b < a)
le_or_lt a b = elim (cases_order a b) [
  | inl same ↦ inl (omega (arith, same))
  | inr other ↦ elim other [ inl less ↦ inl (omega (arith, less)) | inr more ↦ inr more ]
]

-- octets that are put within the first ones
put_small : (m : List ℕ) (e p : ℕ) (a : List ℕ) → p + length a ≤ e → e ≤ length m → take e (put_at m p a) ≡ put_at (take e m) p a
put_small m e p a small within =
    let q = p + length a in
    let front = take p m ++ a in
    let rest = drop q m in
    let split : put_at m p a ≡ front ++ rest = sym (append_assoc (take p m) a rest) in
    let size : length front ≡ q = omega (arith, length-append (take p m) a, length-take-le p m (omega (arith, small, within))) in
    let sum : e ≡ q + (e - q) = omega (arith, small) in
    let head : take q (put_at m p a) ≡ front = ap (take q) split ∙ take_at front rest q size in
    let tail : drop q (put_at m p a) ≡ rest = ap (drop q) split ∙ drop_at front rest q size in
    let parts : take e (put_at m p a) ≡ front ++ take (e - q) rest =
    ap (λ n. take n (put_at m p a)) sum ∙ (take-add q (e - q) (put_at m p a) ∙ (ap (λ x. x ++ take (e - q) (drop q (put_at m p a))) head ∙ ap (λ x. front ++ take (e - q) x) tail)) in
    let behind : take (e - q) rest ≡ drop q (take e m) = sym (ap (λ n. drop q (take n m)) sum ∙ drop-take q (e - q) m) in
    let before : take p m ≡ take p (take e m) = sym (take_less p e m (omega (arith, small))) in
    parts ∙ (append_assoc (take p m) a (take (e - q) rest) ∙ (ap (λ x. take p m ++ (a ++ x)) behind ∙ ap (λ x. x ++ (a ++ drop q (take e m))) before))

-- also if there are fewer
put_within : (m : List ℕ) (e p : ℕ) (a : List ℕ) → p + length a ≤ e → p + length a ≤ length m → take e (put_at m p a) ≡ put_at (take e m) p a
put_within m e p a small inside =
    elim (le_or_lt e (length m)) [
      | inl within ↦ put_small m e p a small within
      | inr past ↦
          let size = length_put_at m p a inside in
          take_all e (put_at m p a) (omega (arith, size, past)) ∙ ap (λ x. put_at x p a) (sym (take_all e m (omega (arith, past))))
    ]

put_again : (m : List ℕ) (p : ℕ) (x y : List ℕ) → length x ≡ length y → p ≤ length m → put_at (put_at m p x) p y ≡ put_at m p y
put_again m p x y same within =
    let first : put_at m p x ≡ put_at m p ([] ++ (x ++ [])) = ap (put_at m p) (sym (append-nil x)) in
    ap (λ k. put_at k p y) first ∙ (put_at_inside m p p [] x y [] same (omega arith) within ∙ ap (put_at m p) (append-nil y))

put_own : (m : List ℕ) (p : ℕ) → p + 2 ≤ length m → put_at m p (count_octets m p) ≡ m
put_own m p within =
    let one : drop p m ≡ get_or m p 0 ∷ drop (p + 1) m = rw add-one (drop-cons m p 0 (omega (arith, within))) in
    let next : suc (p + 1) ≡ p + 2 = omega arith in
    let two : drop (p + 1) m ≡ get_or m (p + 1) 0 ∷ drop (p + 2) m =
    drop-cons m (p + 1) 0 (omega (arith, within)) ∙ ap (λ n. get_or m (p + 1) 0 ∷ drop n m) next in
    let both : drop p m ≡ count_octets m p ++ drop (p + 2) m = one ∙ ap (λ x. get_or m p 0 ∷ x) two in
    ap (λ x. take p m ++ x) (sym both) ∙ take-append-drop p m

-- two octets are put over the count
module _ (s : Section) (t : List ℕ) (whole : 12 ≤ length t) where
  pub count_over : (now y : List ℕ) → length y ≡ 2 → KeptCount s t now → put_at now (offset_of_count s) y ≡ put_at t (offset_of_count s) y
  count_over now y two (inl same) = ap (λ m. put_at m (offset_of_count s) y) same
  count_over now y two (inr (long, x, size, same)) =
      let small = count_small s in
      ap (λ m. put_at m (offset_of_count s) y) same ∙ put_again t (offset_of_count s) x y (size ∙ sym two) (omega (arith, small, whole))

module _ (s : Section) (old : List ℕ) (e : ℕ) where
  -- one more item is added after the octets that stay
  pub kept_on : (form : ItemForm) (w v : WriterState) (m n : List ℕ) → 12 ≤ e → e ≤ w.end → length m ≡ length old
      → KeptCount s (take e old) (take e m) → AddsItem s form w m v n → KeptCount s (take e old) (take e n)
  kept_on form w v m n header further size kept (octets, hints, is, limit, fits, new_is, after_is) =
      let small = count_small s in
      let off = offset_of_count s in
      let room = limit.room in
      let inside : w.end + length octets ≤ length m = omega (arith, fits, limit.limit_is) in
      let m1 = put_at m w.end octets in
      let m1_size : length m1 ≡ length m = length_put_at m w.end octets inside in
      let count = to_be_bytes w16 (count_in_header s m1 + 1) in
      let m1_same : take e m1 ≡ take e m =
      sym (take_less e w.end m1 further) ∙ (ap (take e) (take_before m w.end octets (omega (arith, inside))) ∙ take_less e w.end m further) in
      let t_size : length (take e old) ≡ e = length-take-le e old (omega (arith, further, inside, size)) in
      let put : take e n ≡ put_at (take e m) off count =
      ap (take e) new_is ∙ (put_small m1 e off count (omega (arith, small, header)) (omega (arith, m1_size, further, inside)) ∙ ap (λ x. put_at x off count) m1_same) in
      inr (omega (arith, t_size, header), count, refl, put ∙ count_over s (take e old) (omega (arith, t_size, header)) (take e m) count refl kept)

  -- the count is put back
  pub count_back : (m : List ℕ) → 12 ≤ e → 12 ≤ length old → length m ≡ length old → KeptCount s (take e old) (take e m)
      → take e (put_at m (offset_of_count s) (count_octets old (offset_of_count s))) ≡ take e old
  count_back m header long size kept =
      let small = count_small s in
      let off = offset_of_count s in
      let two = count_octets old off in
      let t_size : 12 ≤ length (take e old) = elim (le_or_lt e (length old)) [
        | inl within ↦ omega (arith, length-take-le e old within, header)
        | inr past ↦ omega (arith, ap length (take_all e old (omega (arith, past))), long)
      ] in
      let first : get_or (take e old) off 0 ≡ get_or old off 0 = get_or-take e old off 0 (omega (arith, small, header)) in
      let second : get_or (take e old) (off + 1) 0 ≡ get_or old (off + 1) 0 = get_or-take e old (off + 1) 0 (omega (arith, small, header)) in
      let own : count_octets (take e old) off ≡ two = ap (λ x. x ∷ (get_or (take e old) (off + 1) 0 ∷ [])) first ∙ ap (λ x. get_or old off 0 ∷ (x ∷ [])) second in
      put_within m e off two (omega (arith, small, header)) (omega (arith, size, small, long))
      ∙ (count_over s (take e old) t_size (take e m) two refl kept
      ∙ (ap (λ x. put_at (take e old) off x) (sym own) ∙ put_own (take e old) off (omega (arith, t_size, small))))

  -- nothing is to be put back if there is no header before the end
  pub count_same : (m : List ℕ) → ((12 ≤ length (take e old)) → ⊥) → KeptCount s (take e old) (take e m) → take e m ≡ take e old
  count_same m short (inl same) = same
  count_same m short (inr (long, x, size, same)) = absurd (short long)

module _ (s : Section) (form : Data → ItemForm) (past : Data → ItemPast) (first : WriterState) (old : List ℕ) (set : List Data) where
  pub turned_none : Turned s form past first old set first old set
  turned_none = record {
    goes_on = λ after new h. h;
    fails = λ e h. h;
    further = omega arith;
    kept = inl refl;
    size = refl;
    whole = inr refl;
  }

  module _ {w : WriterState} {m : List ℕ} {left : List Data} (g : Turned s form past first old set w m left) where
    -- one more is added
    pub turned_on : (d : Data) (ds : List Data) (v : WriterState) (n : List ℕ) → left ≡ d ∷ ds → length n ≡ length m
        → AddsItem s (form d) w m v n → Turned s form past first old set v n ds
    turned_on d ds v n split size added =
        let further = g.further in
        let header = added.3.message.whole in
        let whole : 12 ≤ first.end = elim g.whole [ inl above ↦ above | inr same ↦ omega (arith, same, header) ] in
        record {
          goes_on = λ after new h.
              g.goes_on after new (subst (λ xs. AddsSet s form xs w m after new) (sym split) (v, n, added, h));
          fails = λ e h. g.fails e (subst (λ xs. FailsToAddSet s form past xs w m e) (sym split) (inr (v, n, added, h)));
          further = omega (arith, further, ap (λ (x : WriterState). x.end) added.6);
          kept = kept_on s old first.end (form d) w v m n whole further g.size g.kept added;
          size = size ∙ g.size;
          whole = inl whole;
        }

    -- the next one is not
    pub turned_past : (d : Data) (ds : List Data) (e : WriteError) → left ≡ d ∷ ds → FailsToAdd s (past d) w m e
        → FailsToAddSet s form past set first old e
    turned_past d ds e split fails = g.fails e (subst (λ xs. FailsToAddSet s form past xs w m e) (sym split) (inl fails))

    pub kept_past : (n : List ℕ) → take w.end n ≡ take w.end m → KeptCount s (take first.end old) (take first.end n)
    kept_past n same =
        let further = g.further in
        let here : take first.end n ≡ take first.end m =
        sym (take_less first.end w.end n further) ∙ (ap (take first.end) same ∙ take_less first.end w.end m further) in
        subst (λ x. KeptCount s (take first.end old) x) (sym here) g.kept

    pub turned_all : left ≡ [] → AddsSet s form set first old w m
    turned_all none = g.goes_on w m (subst (λ xs. AddsSet s form xs w m w m) (sym none) (refl, refl))

pub on_err : {A E : Type 0} (r : Result A E) {P : Type 0} → P → OnErr r P
on_err (Ok x) h = tt
on_err (Err e) h = h
