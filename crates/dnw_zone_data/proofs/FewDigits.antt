-- Digits alone are the same number in each form.
use Rattle.std.proofs.Common.{◌≡◌, ◌≢◌, ℕ, ◌+◌, ◌-◌, ◌*◌, ◌<◌, ◌≤◌, ◌⊎◌, Bool, true, false, List, [], ◌∷◌, ◌++◌, length, drop, get_or, refl, sym, ap, ap₂, subst, ◌∙◌, arith, inl, inr, append_assoc, append-nil, length-append, take-append-drop}
use Rattle.std.specs.Prelude.{Option, Some, None, option_map}
use Rattle.std.specs.Char.{digit_value, is_ascii_digit}
use Rattle.std.specs.List.{list_all}
use Rattle.std.specs.Str.Parse.{AllDigits, digits_value, digits_value_after}
use Rattle.std.proofs.lemmas.Bool.{and_parts, cases_Bool, false≢true}
use Rattle.std.proofs.lemmas.Option.{same_Some}
use Rattle.dnw_zone_lexer.specs.Times.{groups_after, max_ttl, total_seconds}
use Rattle.dnw_zone_values.specs.Mnemonics.{IsNumberOrName, algorithm_named, begins_with_digit, certificate_type_named, protocol_named, scheme_named}
use Rattle.dnw_zone_values.specs.Numbers.{max_u8, max_u16, max_u32, IsNumberText}
use Rattle.dnw_base.specs.Names.{NameValue}
use Rattle.dnw_data.specs.declared.kind.Kind.{Kind}
use Rattle.dnw_data.specs.declared.kind.Kind.TheVariants.{U8, U16, U32}
use Rattle.dnw_data.specs.Values.{u8, u16, u32}
use Rattle.dnw_zone_data.specs.Appending.{AppendsOne}
use Rattle.dnw_zone_data.specs.Inside.Reads.{HasNumber, is_number}
use Rattle.dnw_zone_data.specs.Parsing.{IsWord}
use Rattle.dnw_zone_data.specs.declared.number_form.NumberForm.{NumberForm}
use Rattle.dnw_zone_data.specs.declared.number_form.NumberForm.TheVariants.{Decimal, Period, Algorithm, CertificateType, Scheme, Protocol, Optional}
use Rattle.dnw_zone_data.specs.NumberForms.{most_short, IsNumberIn, IsPeriod}
use Rattle.dnw_zone_data.specs.Words.{after_word, is_end, is_space, word, word_len}
use Rattle.dnw_zone_data.proofs.Plain.{all_plain, is_plain, plain_after, plain_word}

-- The digits of a text up to what is left of it write this number.
pub record AreDigits (text : List ℕ) (n : ℕ) (left : List ℕ) : Type 0 where
  pub group : groups_after (Some 0) text ≡ groups_after (Some n) left
  pub value : digits_value 10 text ≡ digits_value_after 10 n left
  pub digits : list_all is_ascii_digit left ≡ true → list_all is_ascii_digit text ≡ true
  pub all : AllDigits 10 left → AllDigits 10 text

digit : (n c : ℕ) → is_ascii_digit c ≡ true → (digit_value c < 10) × (n * 10 + digit_value c ≡ 10 * n + (c - 48))
digit n c is = grind arith

-- one digit more
pub digits_more : (text left rest : List ℕ) (n c : ℕ) → left ≡ c ∷ rest → is_ascii_digit c ≡ true → AreDigits text n left
    → AreDigits text (10 * n + (c - 48)) rest
digits_more text left rest n c first is so =
    let (few, same) = digit n c is in
    record {
      group = so.group ∙ rw (first, is) refl;
      value = so.value ∙ rw first (ap (λ (m : ℕ). digits_value_after 10 m rest) same);
      digits = λ others. so.digits (rw (first, is) others);
      all = λ others. so.all (rw first (few, others));
    }

digits_all : (text left : List ℕ) (n : ℕ) → 0 < length text → length left ≡ 0 → n ≤ max_ttl → AreDigits text n left → IsNumberText max_u32 text n × IsPeriod text n
digits_all [] left n some none few so = absurd (omega (arith, some))
digits_all (c ∷ cs) (d ∷ left) n some none few so = absurd (omega (arith, none))
digits_all (c ∷ cs) [] n some none few so =
    let digits = so.digits refl in
    let is = (and_parts (is_ascii_digit c) (list_all is_ascii_digit cs) digits).0 in
    let one : total_seconds ((n, 1) ∷ []) ≡ n = omega arith in
    let first : groups_after None (c ∷ cs) ≡ groups_after (Some 0) (c ∷ cs) =
    let same : c - 48 ≡ 10 * 0 + (c - 48) = omega arith in rw is (ap (λ (m : ℕ). groups_after (Some m) cs) same) in (
      ((some, so.all tt), so.value, few),
      (ap (option_map total_seconds) (first ∙ so.group) ∙ ap Some one, few, rw digits refl),
    )

-- ---- the first word

-- A text up to what is left of it is digits that write this number.
pub record NumberAt (text left : List ℕ) (n : ℕ) : Type 0 where
  pub front : List ℕ
  pub whole : text ≡ front ++ left
  pub value : (rest : List ℕ) → AreDigits (front ++ rest) n rest

pub number_none : (text : List ℕ) → NumberAt text text 0
number_none text = record { front = []; whole = refl; value = λ rest. record { group = refl; value = refl; digits = λ is. is; all = λ is. is } }

-- one digit more
pub number_more : (text left rest : List ℕ) (n c : ℕ) → left ≡ c ∷ rest → is_ascii_digit c ≡ true → NumberAt text left n
    → NumberAt text rest (10 * n + (c - 48))
number_more text left rest n c first is so = record {
  front = so.front ++ c ∷ [];
  whole = so.whole ∙ ap (λ (xs : List ℕ). so.front ++ xs) first ∙ sym (append_assoc so.front (c ∷ []) rest);
  value = λ others. rw (append_assoc so.front (c ∷ []) others) (digits_more (so.front ++ c ∷ others) (c ∷ others) others n c refl is (so.value (c ∷ others)));
}

plain_digit : (c : ℕ) → is_ascii_digit c ≡ true → is_plain c ≡ true
plain_digit c is = grind arith

plain_digits : (front : List ℕ) → list_all is_ascii_digit front ≡ true → all_plain front ≡ true
plain_digits [] all = refl
plain_digits (c ∷ front) all =
    let parts = and_parts (is_ascii_digit c) (list_all is_ascii_digit front) all in rw (plain_digit c parts.0) (plain_digits front parts.1)

pub number_end : (text left : List ℕ) (n : ℕ) → NumberAt text left n → length left ≢ length text → is_end left ≡ true → n ≤ max_ttl
    → (IsNumberText max_u32 (word text) n × IsPeriod (word text) n) × (left ≡ after_word text)
number_end text left n so less end few =
    let front : List ℕ = so.front in
    let all : AreDigits front n [] = subst (λ (xs : List ℕ). AreDigits xs n []) (append-nil front) (so.value []) in
    let plain = plain_digits front (all.digits refl) in
    let same : word text ≡ front = ap word so.whole ∙ plain_word front left plain end in
    let rest : after_word text ≡ left = ap after_word so.whole ∙ plain_after front left plain end in
    let some : 0 < length front = omega (arith, less, ap length so.whole, length-append front left) in
    (rw same (digits_all front [] n some refl few all), sym rest)

-- ---- the first word, if its number is short

is_digit : (c : ℕ) → digit_value c < 10 → is_ascii_digit c ≡ true
is_digit c few = grind arith

digit_at : (front cs : List ℕ) (c : ℕ) → AllDigits 10 (front ++ c ∷ cs) → digit_value c < 10
digit_at [] cs c all = all.0
digit_at (d ∷ front) cs c all = digit_at front cs c all.1

grows : (n : ℕ) (text : List ℕ) → n ≤ digits_value_after 10 n text
grows n [] = omega arith
grows n (c ∷ cs) = omega (arith, grows (n * 10 + digit_value c) cs)

-- The digits before white space or the end go on from those of the front.
record GoOn (front digits rest left : List ℕ) : Type 0 where
  more : List ℕ
  all : digits ≡ front ++ more
  others : left ≡ more ++ rest

no_space : (c : ℕ) → is_ascii_digit c ≡ true → is_space c ≡ false
no_space c is = grind arith

go_on : (front digits rest left : List ℕ) → list_all is_ascii_digit front ≡ true → front ++ left ≡ digits ++ rest → is_end rest ≡ true → GoOn front digits rest left
go_on [] digits rest left all same end = record { more = digits; all = refl; others = same }
go_on (c ∷ front) [] [] left all same end = absurd (cc)
go_on (c ∷ front) [] (d ∷ rest) left all same end =
    let first : c ≡ d = ap (λ (xs : List ℕ). get_or xs 0 0) same in
    absurd (false≢true (sym (no_space c (and_parts (is_ascii_digit c) (list_all is_ascii_digit front) all).0) ∙ ap is_space first ∙ end))
go_on (c ∷ front) (d ∷ digits) rest left all same end =
    let first : c ≡ d = ap (λ (xs : List ℕ). get_or xs 0 0) same in
    let so = go_on front digits rest left (and_parts (is_ascii_digit c) (list_all is_ascii_digit front) all).1 (ap (drop 1) same) end in
    record { more = so.more; all = ap₂ (λ (x : ℕ) (l : List ℕ). x ∷ l) (sym first) so.all; others = so.others }

-- What is left begins with no digit, or one more may be too many.
abbrev pub Stops : ℕ → List ℕ → Type 0
Stops n left = (c : ℕ) (cs : List ℕ) → left ≡ c ∷ cs → is_ascii_digit c ≡ true → 429496728 < n

pub stops_at : (n c : ℕ) (left rest : List ℕ) → left ≡ c ∷ rest → is_ascii_digit c ≡ false → Stops n left
stops_at n c left rest here none = λ d cs first is.
    absurd (false≢true (sym none ∙ ap (λ (xs : List ℕ). is_ascii_digit (get_or xs 0 0)) (sym here ∙ first) ∙ is))

pub stops_without : (n : ℕ) (left : List ℕ) → length left ≡ 0 → Stops n left
stops_without n left none = λ c cs first is. absurd (omega (arith, ap length first, none))

ends_short : (text left rest more : List ℕ) (n m : ℕ) (so : NumberAt text left n) → Stops n left → word text ≡ so.front ++ more → left ≡ more ++ rest
    → IsNumberText most_short (word text) m → (length left ≡ length text) ⊎ (is_end left ≡ false) → is_end rest ≡ false
ends_short text left rest [] n m so stops all others is (inl none) =
    let some : 0 < length (word text) = is.0.0 in
    absurd (omega (arith, some, ap length all, length-append so.front [], ap length so.whole, length-append so.front left, none))
ends_short text left rest [] n m so stops all others is (inr end) = ap is_end (sym others) ∙ end
ends_short text left rest (c ∷ more) n m so stops all others is end =
    let few = digit_at so.front more c (subst (λ (xs : List ℕ). AllDigits 10 xs) all is.0.1) in
    let large : 429496728 < n = stops c (more ++ rest) others (is_digit c few) in
    let value : digits_value_after 10 n (c ∷ more) ≡ m = sym (so.value (c ∷ more)).value ∙ ap (digits_value 10) (sym all) ∙ is.1 in
    absurd (omega (arith, large, grows (n * 10 + digit_value c) more, value, is.2))

pub short_read : (text left : List ℕ) (n : ℕ) → NumberAt text left n → Stops n left → (length left ≡ length text) ⊎ (is_end left ≡ false)
    → (m : ℕ) → IsNumberText most_short (word text) m → is_end (after_word text) ≡ false
short_read text left n so stops end m is = elim (cases_Bool (is_end (after_word text))) [
  | inl space ↦
      let front : List ℕ = so.front in
      let all : AreDigits front n [] = subst (λ (xs : List ℕ). AreDigits xs n []) (append-nil front) (so.value []) in
      let on = go_on front (word text) (after_word text) left (all.digits refl) (sym so.whole ∙ sym (take-append-drop (word_len text) text)) space in
      ends_short text left (after_word text) on.more n m so stops on.all on.others is end
  | inr none ↦ none
]

-- ---- each form

begins : (max n : ℕ) (text : List ℕ) → IsNumberText max text n → begins_with_digit text ≡ true
begins max n [] is = absurd (omega (arith, is.0.0))
begins max n (c ∷ cs) is = let few : digit_value c < 10 = is.0.1.0 in grind arith

named : (of : List ℕ → Option ℕ) (max n : ℕ) (text : List ℕ) → IsNumberText max_u32 text n → n ≤ max → IsNumberOrName of max text n
named of max n text is few = rw (begins max_u32 n text is) (is.0, is.1, few)

pub few_in : (way : NumberForm) (max n : ℕ) (text : List ℕ) → IsNumberText max_u32 text n × IsPeriod text n → n ≤ max → IsNumberIn way max text n
few_in Decimal max n text is few = (is.0.0, is.0.1, few)
few_in Period max n text is few = (is.1, few)
few_in Algorithm max n text is few = named algorithm_named max n text is.0 few
few_in CertificateType max n text is few = named certificate_type_named max n text is.0 few
few_in Scheme max n text is few = named scheme_named max n text is.0 few
few_in Protocol max n text is few = named protocol_named max n text is.0 few
few_in Optional max n text is few = (is.0.0, is.0.1, few)

same : (max n m : ℕ) (text : List ℕ) → IsNumberText max_u32 text n → IsNumberText max text m → n ≤ max
same max n m text is own = omega (arith, sym is.1 ∙ own.1, own.2)

not_named : (of : List ℕ → Option ℕ) (max n m : ℕ) (text : List ℕ) → IsNumberText max_u32 text n → IsNumberOrName of max text m → n ≤ max
not_named of max n m text is own = same max n m text is (rw (begins max_u32 n text is) at own)

pub within : (way : NumberForm) (max n m : ℕ) (text : List ℕ) → IsNumberText max_u32 text n × IsPeriod text n → IsNumberIn way max text m → n ≤ max
within Decimal max n m text is own = same max n m text is.0 own
within Period max n m text is own = omega (arith, same_Some n m (sym is.1.0 ∙ own.0.0), own.1)
within Algorithm max n m text is own = not_named algorithm_named max n m text is.0 own
within CertificateType max n m text is own = not_named certificate_type_named max n m text is.0 own
within Scheme max n m text is own = not_named scheme_named max n m text is.0 own
within Protocol max n m text is own = not_named protocol_named max n m text is.0 own
within Optional max n m text is own = same max n m text is.0 own

-- ---- fields

-- digits alone are the field of a number, whatever its form
pub number_field : (origin : Option NameValue) (way : NumberForm) (kind : Kind) (text old new : List ℕ) (n : ℕ) (read : Bool) → is_number kind ≡ true
    → IsNumberText max_u32 text n × IsPeriod text n → AppendsOne (HasNumber kind n) old new read → AppendsOne (IsWord origin way kind text) old new read
number_field origin way U8 text old new n true number is h = (h.0, (n, few_in way max_u8 n text is h.1.0, h.1.1), h.2)
number_field origin way U16 text old new n true number is h = (h.0, (n, few_in way max_u16 n text is h.1.0, h.1.1), h.2)
number_field origin way U32 text old new n true number is h = (h.0, (n, few_in way max_u32 n text is h.1.0, h.1.1), h.2)
number_field origin way U8 text old new n false number is h = λ value own. h (u8 n) (within way max_u8 n own.0 text is own.1, refl)
number_field origin way U16 text old new n false number is h = λ value own. h (u16 n) (within way max_u16 n own.0 text is own.1, refl)
number_field origin way U32 text old new n false number is h = λ value own. h (u32 n) (within way max_u32 n own.0 text is own.1, refl)
number_field origin way kind text old new n read number is h = absurd (false≢true number)
