-- Labels of octets that stand for themselves.
use Rattle.std.proofs.Common.{◌≡◌, ℕ, zero, suc, ◌+◌, ◌-◌, ◌<◌, ◌≤◌, true, false, inl, inr, List, ◌==◌, length, take, drop, get_or, refl, sym, ap, ◌∙◌, add-one, add-zero, arith}
use Rattle.std.specs.List.{list_all}
use Rattle.std.proofs.lemmas.Bool.{and_parts, both_ways, cases_lt, lt-ltb}
use Rattle.std.proofs.lemmas.List.Folds.{list_all_at, list_all_more}
use Rattle.std.proofs.lemmas.List.{length-drop, length-take-le, get_or-drop, get_or_past, take_all, take_more, drop_more}
use Rattle.dnw_name_text.specs.Inside.Labels.{BeginsPlain}
use Rattle.dnw_name_text.specs.PlainNames.{is_own_octet}

own_no_dot : (o : ℕ) → is_own_octet o ≡ true → (o == 46) ≡ false
unfolding is_own_octet
own_no_dot o h = grind arith

own_no_backslash : (o : ℕ) → is_own_octet o ≡ true → (o == 92) ≡ false
unfolding is_own_octet
own_no_backslash o h = grind arith

-- there is none past the end
pub own_past : (text : List ℕ) (n : ℕ) → length text ≤ n → is_own_octet (get_or text n 0) ≡ false
unfolding is_own_octet
own_past text n past = rw (get_or_past text n 0 past) refl

-- the last octet that is left is the last one
pub last_left : (text : List ℕ) (start : ℕ) → start < length text → get_or text (length text - 1) 0 ≡ 46
    → is_own_octet (get_or (drop start text) (length (drop start text) - 1) 0) ≡ false
unfolding is_own_octet
last_left text start lt last =
    let end : start + (length (drop start text) - 1) ≡ length text - 1 = omega (arith, length-drop start text) in
    rw (get_or-drop start text (length (drop start text) - 1) 0, end, last) refl

-- one more
pub own_more : (text : List ℕ) (n m : ℕ) → m ≡ n + 1 → n < length text → is_own_octet (get_or text n 0) ≡ true
    → list_all is_own_octet (take n text) ≡ true → list_all is_own_octet (take m text) ≡ true
own_more text n m next lt own all = rw (next, list_all_more is_own_octet text n 0 lt, all, own) refl

-- after one of these is another octet, if the last one is none of these
pub own_inside : (text : List ℕ) (n m : ℕ) → m ≡ n + 1 → n < length text → is_own_octet (get_or text n 0) ≡ true → is_own_octet (get_or text (length text - 1) 0) ≡ false
    → m < length text
own_inside text n m next lt own last = elim (cases_lt m (length text)) [
  | inl inside ↦ inside
  | inr past ↦
      let end : length text - 1 ≡ n = omega (arith, next, lt, past) in
      absurd (both_ways _ (ap (λ (i : ℕ). is_own_octet (get_or text i 0)) (sym end) ∙ last) own)
]

-- all are if those up to the end are, or none is left but the last one; not if one is not
pub own_all : (text : List ℕ) (n : ℕ) → length text ≤ n → list_all is_own_octet (take n text) ≡ true → list_all is_own_octet text ≡ true
own_all text n past all = rw (take_all n text past) at all

pub own_last : (text : List ℕ) (n : ℕ) → length text ≡ n + 1 → list_all is_own_octet (take n text) ≡ true
    → list_all is_own_octet text ≡ is_own_octet (get_or text n 0)
own_last text n size all =
    sym (ap (λ (t : List ℕ). list_all is_own_octet t) (take_all (n + 1) text (omega (arith, size))))
    ∙ list_all_more is_own_octet text n 0 (omega (arith, size)) ∙ rw all refl

pub own_not : (text : List ℕ) (n : ℕ) → n < length text → is_own_octet (get_or text n 0) ≡ false → list_all is_own_octet text ≡ false
own_not text n lt not_own = list_all_at is_own_octet text n 0 lt not_own

-- and what reading is after it
plain_more : (text : List ℕ) (n m : ℕ) → m ≡ n + 1 → n < length text → n < 63 → is_own_octet (get_or text n 0) ≡ true
    → BeginsPlain text n → BeginsPlain text m
plain_more text n m next lt few own begins = λ at done.
    let size : length (take n text) ≡ n = length-take-le n text (omega arith) in
    let end : at + n + 1 ≡ at + (n + 1) = omega arith in
    begins at done
    ∙ rw (next, drop_more text n 0 lt, own_no_dot (get_or text n 0) own, own_no_backslash (get_or text n 0) own, size, lt-ltb n 63 few, take_more text n 0 lt, end) refl

pub own_begins : (text : List ℕ) (n : ℕ) → n ≤ length text → n ≤ 63 → list_all is_own_octet (take n text) ≡ true → BeginsPlain text n
own_begins text zero few short own = λ at done. rw add-zero refl
own_begins text (suc n) few short own =
    let lt : n < length text = omega (arith, few) in
    let both = and_parts _ _ (sym (list_all_more is_own_octet text n 0 lt) ∙ rw (← add-one n) at own) in
    plain_more text n (suc n) (sym (add-one n)) lt (omega (arith, short)) both.1 (own_begins text n (omega (arith, few)) (omega (arith, short)) both.0)
