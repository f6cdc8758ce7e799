-- The first record of a set is known by the first one of the set of its type that was met last.
use Rattle.std.proofs.Common.{◌≡◌, ℕ, ◌+◌, ◌<◌, ◌==◌, ◌&&◌, Bool, true, false, true≢false, List, [], ◌∷◌, length, get_or, Option, Some, None, inl, inr, refl, sym, ap, ◌∙◌, subst, arith}
use Rattle.std.proofs.lemmas.Bool.{and_right, cases_eq, eq-eqb, ne_eqb, true_from_ne_false}
use Rattle.std.proofs.lemmas.Cmp.{alike_right, tied_itself}
use Rattle.std.proofs.lemmas.List.{get_or_default}
use Rattle.std.specs.List.{position_from}
use Rattle.std.specs.Ordering.{is_eq, is_lt, ordering_reverse}
use Rattle.std.specs.declared.cmp.Ordering.{Ordering}
use Rattle.std.specs.declared.cmp.Ordering.TheVariants.{Less, Equal, Greater}
use Rattle.dnw_base.specs.RecordTypes.{type_code}
use Rattle.dnw_name_order.specs.Order.{labels_cmp}
use Rattle.dnw_record.specs.Records.{RecordValue}
use Rattle.dnw_zone_checks.specs.Checks.{OwnersAreInOrder, first_at, has_type, is_same}
use Rattle.dnw_zone_checks.specs.Inside.Seeking.{AreFirsts, IsLastOfType, IsMetLast, IsNew, IsNotMet, IsOfMetSet}
use Rattle.dnw_zone_checks.specs.declared.sets.Firsts.{Firsts}
use Rattle.dnw_zone_checks.proofs.Lookups.{either, far, first_is, labels_total, names_rank, not_same_if_less}

-- ---- the next record

abbrev type_at : List RecordValue → ℕ → RecordValue → ℕ
type_at zs k d = type_code (get_or zs k d).record_type

-- A fact of the numbers before this one, and of this one.
one_more : (P : ℕ → Type 0) (i : ℕ) → ((k : ℕ) → k < i → P k) → P i → (k : ℕ) → k < i + 1 → P k
one_more P i before here k h = either k i (P k) (before k) (λ g. let e : i ≡ k = omega arith in subst P e here)

-- A record of this number that has the type has no owner after that of the first one.
abbrev IsNotAfter : List RecordValue → ℕ → ℕ → ℕ → Type 0
IsNotAfter zs first code n = (d : RecordValue) → (type_at zs n d == code) ≡ true → is_lt (labels_cmp (get_or zs first d).owner (get_or zs n d).owner) ≡ false

other_type : (zs : List RecordValue) (i code : ℕ) (e : Option ℕ) → ((d : RecordValue) → (type_at zs i d == code) ≡ false) → IsLastOfType zs i code e → IsLastOfType zs (i + 1) code e
other_type zs i code None not none = λ k d h. one_more (λ n. (x : RecordValue) → (type_at zs n x == code) ≡ false) i (λ n below x. none n x below) not k h d
other_type zs i code (Some first) not met = record {
  before = omega (arith, met.before);
  is_first = met.is_first;
  last = λ k d h. one_more (IsNotAfter zs first code) i (λ n below x. met.last n x below) (λ x is. absurd (true≢false (sym is ∙ not x))) k h d;
}

-- ---- a record of the set that was met last

alike : (zs : List RecordValue) (x y : List (List ℕ)) (p : ℕ → Bool) (i : ℕ) → labels_cmp x y ≡ Equal
    → position_from (λ r. is_same r.owner x && p (type_code r.record_type)) i zs ≡ position_from (λ r. is_same r.owner y && p (type_code r.record_type)) i zs
unfolding is_same
alike [] x y p i e = refl
alike (r ∷ zs) x y p i e = rw (alike_right labels_total x y r.owner e, alike zs x y p (i + 1) e) refl

equal_if : (o : Ordering) → is_eq o ≡ true → o ≡ Equal
equal_if Less h = absurd (true≢false (sym h))
equal_if Equal h = refl
equal_if Greater h = absurd (true≢false (sym h))

pub first_again : (zs : List RecordValue) (i code first : ℕ) (d : RecordValue) → IsOfMetSet zs i code first → first_at zs (get_or zs i d).owner (has_type code) ≡ Some first
unfolding first_at
first_again zs i code first d of_set =
    sym (alike zs (get_or zs first d).owner (get_or zs i d).owner (has_type code) 0 (equal_if _ (of_set.same d))) ∙ of_set.last.is_first d

not_less : (o : Ordering) → is_eq o ≡ true → is_lt o ≡ false
not_less Less h = absurd (true≢false (sym h))
not_less Equal h = refl
not_less Greater h = refl

pub of_same : (zs : List RecordValue) (i first code : ℕ) → i < length zs → IsMetLast zs i code first
    → ((d : RecordValue) → is_eq (labels_cmp (get_or zs first d).owner (get_or zs i d).owner) ≡ true) → IsOfMetSet zs i code first
of_same zs i first code h met same = record {
  last = record {
    before = omega (arith, met.before);
    is_first = met.is_first;
    last = λ k d h. one_more (IsNotAfter zs first code) i (λ n below x. met.last n x below) (λ x is. not_less _ (same x)) k h d;
  };
  is_before = omega (arith, met.before);
  same = same;
}

-- ---- a record that is the first of its set

pub not_met_is_new : (zs : List RecordValue) (i code : ℕ) → IsNotMet zs i code → IsNew zs i code
not_met_is_new zs i code none = record { none = λ k d h. and_right _ _ (none k d h) }

less_if : (o : Ordering) → is_eq o ≡ false → is_lt (ordering_reverse o) ≡ false → is_lt o ≡ true
less_if Less h g = refl
less_if Equal h g = absurd (true≢false h)
less_if Greater h g = absurd (true≢false g)

not_in_set : (zs : List RecordValue) (i first code k : ℕ) (d : RecordValue) → IsMetLast zs i code first
    → is_lt (labels_cmp (get_or zs first d).owner (get_or zs i d).owner) ≡ true → k < i → (b : Bool) → (type_at zs k d == code) ≡ b
    → (is_same (get_or zs k d).owner (get_or zs i d).owner && (type_at zs k d == code)) ≡ false
not_in_set zs i first code k d met lt h false e = and_right _ _ e
not_in_set zs i first code k d met lt h true e =
    let less : is_lt (labels_cmp (get_or zs k d).owner (get_or zs i d).owner) ≡ true =
    true_from_ne_false _ (λ none. true≢false (sym lt ∙ names_rank.chain (get_or zs first d).owner (get_or zs k d).owner (get_or zs i d).owner (met.last k d h e) none)) in
    ap (λ (b : Bool). b && (type_at zs k d == code)) (not_same_if_less _ _ less)

pub of_other : (zs : List RecordValue) (i first code : ℕ) → OwnersAreInOrder zs → i < length zs → IsMetLast zs i code first
    → ((d : RecordValue) → is_eq (labels_cmp (get_or zs first d).owner (get_or zs i d).owner) ≡ false) → IsNew zs i code
of_other zs i first code up h met other = record {
  none = λ k d below.
      let lt : is_lt (labels_cmp (get_or zs first d).owner (get_or zs i d).owner) ≡ true =
      less_if _ (other d) (ap is_lt (sym (labels_total.antisymm (get_or zs i d).owner (get_or zs first d).owner)) ∙ far zs up first i d (omega (arith, met.before)) h) in
      not_in_set zs i first code k d met lt below _ refl;
}

same_itself : (x : List (List ℕ)) → is_same x x ≡ true
unfolding is_same
same_itself x = ap is_eq (tied_itself labels_total x)

pub new_is_first : (zs : List RecordValue) (i code : ℕ) (d : RecordValue) → i < length zs → IsNew zs i code → (type_at zs i d == code) ≡ true
    → first_at zs (get_or zs i d).owner (has_type code) ≡ Some i
unfolding first_at
new_is_first zs i code d h new is =
    let e : 0 + i ≡ i = omega arith in
    first_is _ zs 0 i d h (rw (same_itself (get_or zs i d).owner, is) refl) (λ k below. new.none k d below) ∙ ap Some e

pub new_is_last : (zs : List RecordValue) (i code : ℕ) → OwnersAreInOrder zs → i < length zs → IsNew zs i code → ((d : RecordValue) → (type_at zs i d == code) ≡ true)
    → IsMetLast zs (i + 1) code i
new_is_last zs i code up h new is = record {
  before = omega arith;
  is_first = λ d. new_is_first zs i code d h new (is d);
  last = λ k d below is_type. far zs up k i d (omega arith) h;
}

-- ---- the table

-- a type that is another number than this one
type_is : (zs : List RecordValue) (i code other : ℕ) → ((d : RecordValue) → code ≡ type_at zs i d) → (other ≡ code → ⊥) → (d : RecordValue) → (type_at zs i d == other) ≡ false
type_is zs i code other is not d = ne_eqb _ _ (λ e. not (sym e ∙ sym (is d)))

pub its_type : (zs : List RecordValue) (i code : ℕ) → ((d : RecordValue) → code ≡ type_at zs i d) → (d : RecordValue) → (type_at zs i d == code) ≡ true
its_type zs i code is d = eq-eqb _ _ (sym (is d))

-- The table has this one for its type, and what it had for others.
pub table_on : (zs : List RecordValue) (ns ms : List (Option ℕ)) (i code first : ℕ) → ((d : RecordValue) → code ≡ type_at zs i d)
    → ((other : ℕ) → other < 65536 → IsLastOfType zs i other (get_or ns other None)) → get_or ms code None ≡ Some first
    → ((other : ℕ) → (other ≡ code → ⊥) → get_or ms other None ≡ get_or ns other None) → IsMetLast zs (i + 1) code first
    → (other : ℕ) → other < 65536 → IsLastOfType zs (i + 1) other (get_or ms other None)
table_on zs ns ms i code first is each at others last other below =
    elim (cases_eq other code) [
      | inl e ↦ subst (λ (n : ℕ). IsLastOfType zs (i + 1) n (get_or ms n None)) (sym e) (subst (IsLastOfType zs (i + 1) code) (sym at) last)
      | inr not ↦
          subst (IsLastOfType zs (i + 1) other) (sym (others other not))
          (other_type zs i other (get_or ns other None) (type_is zs i code other is not) (each other below))
    ]

pub entry_is : (zs : List RecordValue) (i code : ℕ) (firsts : Firsts) (x e : Option ℕ) → AreFirsts firsts zs i → code < 65536
    → x ≡ get_or firsts.numbers.items code x → x ≡ e → IsLastOfType zs i code e
entry_is zs i code firsts x e are few is to =
    subst (IsLastOfType zs i code) (get_or_default firsts.numbers.items code None x (omega (arith, are.all_types)) ∙ sym is ∙ to) (are.each code few)
