-- When a label's text cannot become a label, whatever follows, and why.
use Rattle.std.proofs.Common.{◌≡◌, ℕ, ◌+◌, ◌<◌, ◌≤◌, ◌==◌, ◌&&◌, Bool, true, false, List, [], ◌∷◌, ◌++◌, length, Result, Ok, Err, encode_utf8, refl, sym, ap, subst, ◌∙◌, arith, if◌then◌else◌, append_assoc, append-nil}
use Rattle.std.specs.List.{list_all}
use Rattle.std.proofs.lemmas.Bool.{lt-ltb, le-ltb, ltb-true, ltb-false, ne_eqb, and_parts, both_ways}
use Rattle.std.proofs.lemmas.Bool.Decides.{nat_tests}
use Rattle.std.proofs.lemmas.List.{length-append}
use Rattle.std.proofs.lemmas.List.Folds.{list_all-append}
use Rattle.std.proofs.lemmas.Str.{encode_ascii, char_from_byte, length-encode, len_utf8_bounds}
use Rattle.std.proofs.Math.Bool.{and-true}
use Rattle.std.proofs.Math.Dec.{ltb}
use Rattle.dnw_base.specs.Fault.{Fault, LabelTooLong, MalformedLabel, NameTooLong, ◌>>=◌}
use Rattle.dnw_base.specs.Names.{NameValue, encoded_size}
use Rattle.dnw_name_form.specs.LabelText.{is_label_text, may_begin, may_follow}
use Rattle.dnw_name_form.specs.Edits.{with_label}
use Rattle.dnw_name_form.proofs.EditLemmas.{with_label_long, with_label_fits}
use Rattle.dnw_name_text.specs.AsciiText.{TextElement, Char, Dot, Stop, with_text, name_from_elements}

-- what fails at its first part fails
binds : {A B : Type 0} (r : Result A Fault) (f : A → Result B Fault) → ((x : A) → r ≡ Ok x → ⊥) → (y : B) → (r >>= f) ≡ Ok y → ⊥
binds (Ok x) f never y e = never x refl
binds (Err fault) f never y e = cc

-- the four outcomes of a label's text
pub too_long : (ls : List (List ℕ)) (t : List ℕ) → 63 < length t → with_text ls t ≡ Err (LabelTooLong (length t))
too_long ls t long = rw (lt-ltb 63 (length t) long) refl

pub malformed : (ls : List (List ℕ)) (t : List ℕ) → length t ≤ 63 → is_label_text t ≡ false → with_text ls t ≡ Err (MalformedLabel t)
malformed ls t few bad = rw (le-ltb 63 (length t) few, bad) refl

pub no_room : (ls : List (List ℕ)) (t : List ℕ) (n : ℕ) → length t ≤ 63 → is_label_text t ≡ true → n ≡ encoded_size ls + 1 + length t → 255 < n → with_text ls t ≡ Err (NameTooLong n)
no_room ls t n few good e over = rw (le-ltb 63 (length t) few, good) (with_label_long ls t n e over)

pub fits : (ls : List (List ℕ)) (t : List ℕ) → length t ≤ 63 → is_label_text t ≡ true → encoded_size ls + 1 + length t ≤ 255 → with_text ls t ≡ Ok (ls ++ t ∷ [])
fits ls t few good room = rw (le-ltb 63 (length t) few, good) (with_label_fits ls t room)

-- the text and whatever may follow it are no label
abbrev pub Never : List (List ℕ) → List ℕ → Type 0
Never ls t = (more : List ℕ) → (x : List (List ℕ)) → with_text ls (t ++ more) ≡ Ok x → ⊥

pub never_long : (ls : List (List ℕ)) (t : List ℕ) → 63 < length t → Never ls t
never_long ls t long more x e =
    let longer : 63 < length (t ++ more) = omega (arith, length-append t more) in
    let fails = too_long ls (t ++ more) longer in
    cc

-- a text that is short and a label's is none if it does not fit
never_by : (ls : List (List ℕ)) (t : List ℕ) (long good : Bool) (x : List (List ℕ)) → (good ≡ true → 255 < encoded_size ls + 1 + length t)
    → ((if long then Err (LabelTooLong (length t)) else if good then Ok t else Err (MalformedLabel t)) >>= (λ l. with_label ls l)) ≡ Ok x → ⊥
never_by ls t true good x over e = cc
never_by ls t false true x over e = let fails = with_label_long ls t _ refl (over refl) in cc
never_by ls t false false x over e = cc

still_bad : (b : Bool) (xs ys : List ℕ) → (b && list_all may_follow xs) ≡ false → (b && list_all may_follow (xs ++ ys)) ≡ false
still_bad false xs ys bad = refl
still_bad true xs ys bad = rw (list_all-append may_follow xs ys, bad) refl

pub never_bad : (ls : List (List ℕ)) (t : List ℕ) → 0 < length t → is_label_text t ≡ false → Never ls t
never_bad ls [] some bad more x e = absurd (omega (arith, some))
never_bad ls (b ∷ bs) some bad more x e =
    never_by ls (b ∷ bs ++ more) _ _ x (λ good. let is = still_bad (may_begin b) bs more bad in absurd (both_ways _ is good)) e

pub never_fits : (ls : List (List ℕ)) (t : List ℕ) → 255 < encoded_size ls + 1 + length t → Never ls t
never_fits ls t over more x e = never_by ls (t ++ more) _ _ x (λ good. omega (arith, over, length-append t more)) e

-- and then no name is given
pub no_name : (es : List TextElement) (ls : List (List ℕ)) (t : List ℕ) → 0 < length t → Never ls t → (name : NameValue) → name_from_elements ls t es ≡ Ok name → ⊥
no_name [] ls [] some never name e = absurd (omega (arith, some))
no_name [] ls (b ∷ bs) some never name e =
    binds (with_text ls (b ∷ bs)) _ (λ x h. never [] x (ap (with_text ls) (append-nil (b ∷ bs)) ∙ h)) name e
no_name (Char c ∷ es) ls t some never name e =
    no_name es ls (t ++ encode_utf8 c) (omega (arith, some, length-append t (encode_utf8 c)))
    (λ more x h. never (encode_utf8 c ++ more) x (ap (with_text ls) (sym (append_assoc t (encode_utf8 c) more)) ∙ h)) name e
no_name (Dot ∷ es) ls t some never name e =
    binds (with_text ls t) _ (λ x h. never [] x (ap (with_text ls) (append-nil t) ∙ h)) name e
no_name (Stop fault ∷ es) ls t some never name e = cc

-- no character past ASCII may stand in a label
begins_low : (c : ℕ) → 128 ≤ c → may_begin c ≡ false
begins_low c high = grind (arith, nat_tests)

follows_low : (c : ℕ) → 128 ≤ c → may_follow c ≡ false
follows_low c high = grind (arith, nat_tests)

-- the first byte of such a character
high_byte : (c : ℕ) (x : ℕ) (xs : List ℕ) → encode_utf8 c ≡ x ∷ xs → 128 ≤ c → 128 ≤ x
high_byte c x xs e high =
    let not_low : ¬ (x < 128) = λ low. let same : c ≡ x = char_from_byte (x ∷ xs) [] c (sym (append-nil (encode_utf8 c) ∙ e)) low (omega arith) in omega (arith, same, low, high) in
    omega (arith, not_low)

-- a test of the first byte, and of those after it whether they may follow, is one of the character if it fails past ASCII
alone : (first : ℕ → Bool) (test : List ℕ → Bool) → ((x : ℕ) (xs : List ℕ) → test (x ∷ xs) ≡ (first x && list_all may_follow xs))
    → ((n : ℕ) → 128 ≤ n → first n ≡ false) → (c : ℕ) → test (encode_utf8 c) ≡ first c
alone first test splits low c = by (encode_utf8 c) refl (ltb c 128) refl
  where
    by : (bytes : List ℕ) → encode_utf8 c ≡ bytes → (b : Bool) → ltb c 128 ≡ b → test bytes ≡ first c
    by bytes e true h = subst (λ l. test l ≡ first c) (sym (encode_ascii c (ltb-true c 128 h)) ∙ e) (splits c [] ∙ and-true (first c))
    by [] e false h = absurd (omega (arith, ap length e, length-encode c, (len_utf8_bounds c).0))
    by (x ∷ xs) e false h =
        let high : 128 ≤ c = ltb-false c 128 h in
        rw (splits x xs, low x (high_byte c x xs e high), low c high) refl

-- a label with one more character
pub longer_text : (label : List ℕ) (c : ℕ) → (0 < length label → is_label_text label ≡ true)
    → is_label_text (label ++ encode_utf8 c) ≡ (if length label == 0 then may_begin c else may_follow c)
longer_text [] c good = alone may_begin is_label_text (λ x xs. refl) begins_low c
longer_text (b ∷ bs) c good =
    let both = and_parts (may_begin b) (list_all may_follow bs) (good (omega arith)) in
    rw (ne_eqb (length (b ∷ bs)) 0 (λ e. omega (arith, e)), list_all-append may_follow bs (encode_utf8 c), both.0, both.1) (alone may_follow (list_all may_follow) (λ x xs. refl) follows_low c)
