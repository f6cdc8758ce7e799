-- Strings, octet by octet.
use Rattle.std.proofs.Common.{◌≡◌, ◌≢◌, ◌⊎◌, take, drop, get_or, ℕ, zero, suc, ◌*◌, ◌/◌, ◌%◌, inl, inr, ◌+◌, ◌-◌, ◌≤◌, ◌<◌, Bool, true, false, ◌==◌, ◌&&◌, List, [], ◌∷◌, ◌++◌, length, Option, Some, None, refl, sym, ap, ◌∙◌, arith, append_assoc, append-nil, length-append}
use Rattle.dnw_zone_values.specs.Strings.{quote, backslash, Plain, at_end, octets_from, with_octet, octet_text, string_text, IsString, IsText, IsStringText, IsLongText}
use Rattle.std.specs.Prelude.{flat_map, nat_le, not}
use Rattle.std.specs.Char.{is_ascii_digit}
use Rattle.std.specs.Option.{unwrap_or}
use Rattle.std.proofs.lemmas.Bool.{cases_eq, cases_Bool, false_from_ne_true, ne_eqb, lt-ltb}
use Rattle.memchr.specs.Find.{IsFirstByte, is_byte2}
use Rattle.dnw_zone_values.specs.Octets.{IsOctets}
use Rattle.dnw_zone_values.specs.Spelling.{ComesBack}
use Rattle.dnw_zone_values.specs.Inside.Takes.{after, octets_at, is_string_mark, string_run_len, IsNoText, Pushes}

-- one octet more
pub after_more : (found : List ℕ) (o : ℕ) (octets : Option (List ℕ)) → after found (with_octet o octets) ≡ after (found ++ o ∷ []) octets
after_more found o None = refl
after_more found o (Some own) = ap Some (sym (append_assoc found (o ∷ []) own))

none_more : (octets : Option (List ℕ)) → octets ≡ after [] octets
none_more None = refl
none_more (Some own) = refl

pub after_both : (found run : List ℕ) (octets : Option (List ℕ)) → after found (after run octets) ≡ after (found ++ run) octets
after_both found run None = refl
after_both found run (Some own) = ap Some (sym (append_assoc found run own))

-- one octet that stands for itself
plain_more : (quoted : Bool) (c : ℕ) (cs : List ℕ) → (c ≡ quote) ⊎ (c ≢ quote) → (c ≡ backslash) ⊎ (c ≢ backslash)
    → octets_from quoted Plain cs ≡ after (take (string_run_len cs) cs) (octets_from quoted Plain (drop (string_run_len cs) cs))
    → octets_from quoted Plain (c ∷ cs)
    ≡ after (take (string_run_len (c ∷ cs)) (c ∷ cs)) (octets_from quoted Plain (drop (string_run_len (c ∷ cs)) (c ∷ cs)))
plain_more quoted c cs (inl e) other so = rw e (none_more (octets_from quoted Plain (quote ∷ cs)))
plain_more quoted c cs (inr no_quote) (inl e) so = rw e (none_more (octets_from quoted Plain (backslash ∷ cs)))
plain_more true c cs (inr no_quote) (inr plain) so =
    let a = ne_eqb c quote no_quote in
    let b = ne_eqb c backslash plain in
    rw (a, b) (ap (with_octet c) so ∙ after_both (c ∷ []) (take (string_run_len cs) cs) (octets_from true Plain (drop (string_run_len cs) cs)))
plain_more false c cs (inr no_quote) (inr plain) so =
    let a = ne_eqb c quote no_quote in
    let b = ne_eqb c backslash plain in
    rw (a, b) (ap (with_octet c) so ∙ after_both (c ∷ []) (take (string_run_len cs) cs) (octets_from false Plain (drop (string_run_len cs) cs)))

-- more octets than there may be
pub too_long : (found : List ℕ) (octets : Option (List ℕ)) (max : ℕ) → max < length found → IsNoText max (after found octets)
too_long found None max many = tt
too_long found (Some own) max many = omega (arith, length-append found own)

-- one octet too many
pub too_many : (found : List ℕ) (o : ℕ) (octets : Option (List ℕ)) → (max : ℕ) → max ≤ length found → IsNoText max (after found (with_octet o octets))
too_many found o None max full = tt
too_many found o (Some own) max full = omega (arith, length-append found (o ∷ own))

-- so many octets are before the first one of these, or before the end
run_is : (text : List ℕ) (k : ℕ) → k ≤ length text → ((i : ℕ) → i < k → ¬ (is_string_mark (get_or text i 0) ≡ true)) → (k < length text → is_string_mark (get_or text k 0) ≡ true)
    → string_run_len text ≡ k
run_is [] k few none here = omega (arith, few)
run_is (c ∷ cs) zero few none here = rw (here (omega arith)) refl
run_is (c ∷ cs) (suc k) few none here =
    let first : is_string_mark c ≡ false = false_from_ne_true (is_string_mark c) (none 0 (omega arith)) in
    rw first (ap suc (run_is cs k (omega (arith, few)) (λ i lt. none (suc i) (omega (arith, lt))) (λ lt. here (omega (arith, lt)))))

pub run_first : (text : List ℕ) (r : Option ℕ) → IsFirstByte (is_byte2 quote backslash) text r → (string_run_len text ≡ unwrap_or r (length text)) × (unwrap_or r (length text) ≤ length text)
run_first text None none = (run_is text (length text) (omega arith) (λ i lt. none i (omega arith) lt) (λ lt. absurd (omega (arith, lt))), omega arith)
run_first text (Some k) first = (run_is text k (omega (arith, first.0.high)) (λ i lt. first.0.before i (omega arith) lt) (λ lt. first.1), omega (arith, first.0.high))

-- octets that stand for themselves
pub plain_run : (quoted : Bool) (text : List ℕ)
    → octets_from quoted Plain text ≡ after (take (string_run_len text) text) (octets_from quoted Plain (drop (string_run_len text) text))
plain_run quoted [] = none_more (octets_from quoted Plain [])
plain_run quoted (c ∷ cs) = plain_more quoted c cs (cases_eq c quote) (cases_eq c backslash) (plain_run quoted cs)

-- the text goes on with octets that stand for themselves
pub with_run : (quoted : Bool) (text left others found run : List ℕ) (len : ℕ)
    → octets_from quoted Plain text ≡ after found (octets_from quoted Plain left) → len ≡ string_run_len left → run ≡ take len left
    → others ≡ drop len left → octets_from quoted Plain text ≡ after (found ++ run) (octets_from quoted Plain others)
with_run quoted text left others found run len so_far is front back =
    rw (front, back, is)
    (so_far ∙ ap (after found) (plain_run quoted left)
    ∙ after_both found (take (string_run_len left) left) (octets_from quoted Plain (drop (string_run_len left) left)))

-- it ends, in quotes or not
pub ended_text : (quoted : Bool) (octets : Option (List ℕ)) (found old new : List ℕ) (max : ℕ)
    → octets ≡ after found (octets_from quoted Plain []) → length found ≤ max → new ≡ old ++ found → Pushes max octets old new (not quoted)
ended_text true octets found old new max so_far few items = (rw so_far tt, (found, items))
ended_text false octets found old new max so_far few items = (found, so_far ∙ ap Some (append-nil found), few, items)

-- its quote is closed
pub closed_text : (octets : Option (List ℕ)) (rest found old new : List ℕ) (max : ℕ) (empty : Bool)
    → octets ≡ after found (at_end rest) → empty ≡ (length rest == 0) → length found ≤ max → new ≡ old ++ found
    → Pushes max octets old new empty
closed_text octets [] found old new max empty so_far is few items =
    rw is (found, so_far ∙ ap Some (append-nil found), few, items)
closed_text octets (c ∷ rest) found old new max empty so_far is few items =
    let unclosed : empty ≡ false = is ∙ ne_eqb (suc (length rest)) 0 (λ e. omega arith) in rw unclosed (rw so_far tt, (found, items))

-- it has no octet next
pub no_octet : (octets : Option (List ℕ)) (found old new : List ℕ) (max : ℕ) → octets ≡ after found None → new ≡ old ++ found
    → Pushes max octets old new false
no_octet octets found old new max so_far items = (rw so_far tt, (found, items))

-- the text goes on with an octet
pub step : (quoted : Bool) (text left rest next found : List ℕ) (first o : ℕ)
    → octets_from quoted Plain text ≡ after found (octets_from quoted Plain left) → left ≡ first ∷ rest → (quoted && (first == quote)) ≡ false
    → octets_at quoted first rest ≡ with_octet o (octets_from quoted Plain next)
    → octets_from quoted Plain text ≡ after found (with_octet o (octets_from quoted Plain next))
step quoted text left rest next found first o so_far whole ends takes =
    let here : octets_from quoted Plain left ≡ octets_at quoted first rest = rw (whole, ends) refl in
    so_far ∙ ap (after found) (here ∙ takes)

digit : (d : ℕ) → d < 10 → is_ascii_digit (48 + d) ≡ true
digit d fits = grind arith

-- what is printed of an octet is read as that octet
read_octet : (o : ℕ) (rest : List ℕ) → o < 256 → octets_from true Plain (octet_text o ++ rest) ≡ with_octet o (octets_from true Plain rest)
read_octet o rest fits = elim (cases_eq o quote) [
  | inl e ↦ rw e refl
  | inr no_quote ↦ elim (cases_eq o backslash) [
    | inl e ↦ rw e refl
    | inr plain ↦
        let a = ne_eqb o quote no_quote in
        let b = ne_eqb o backslash plain in
        elim (cases_Bool (nat_le 32 o && nat_le o 126)) [
          | inl printable ↦ rw (a, b, printable, a, b) refl
          | inr other ↦
              let whole : 100 * (48 + o / 100 - 48) + 10 * (48 + o / 10 % 10 - 48) + (48 + o % 10 - 48) ≡ o = omega arith in
              rw (a, b, other, digit (o / 100) (omega arith), digit (o / 10 % 10) (omega arith), digit (o % 10) (omega arith), whole, lt-ltb o 256 fits) refl
        ]
  ]
]

-- what is printed of a string is read up to its quote
pub read_string : (string : List ℕ) → IsOctets string → octets_from true Plain (flat_map octet_text string ++ quote ∷ []) ≡ Some string
read_string [] octets = refl
read_string (o ∷ string) octets =
    rw (append_assoc (octet_text o) (flat_map octet_text string) (quote ∷ []))
    (read_octet o (flat_map octet_text string ++ quote ∷ []) (octets 0) ∙ ap (with_octet o) (read_string string (λ i. octets (suc i))))

pub text : ComesBack IsText string_text IsLongText
text own is =
    let spells = read_string own is.0 in
    ((spells, is.1), λ other also. let e : Some other ≡ Some own = sym also.0 ∙ spells in cc)

pub string : ComesBack IsString string_text IsStringText
string own is =
    let spells = read_string own is.0 in
    ((spells, is.1), λ other also. let e : Some other ≡ Some own = sym also.0 ∙ spells in cc)
