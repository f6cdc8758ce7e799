-- Address prefixes, one after another.
use Rattle.std.proofs.Common.{◌≡◌, ◌≢◌, ◌≤◌, ◌<◌, ℕ, zero, suc, true, false, List, [], ◌∷◌, ◌++◌, length, take, drop, refl, sym, ap, ◌∙◌, subst, arith, append-nil, length-append}
use Rattle.std.specs.Prelude.{Option, Some, None, nat_le}
use Rattle.std.proofs.lemmas.List.{take_at, drop_at}
use Rattle.std.proofs.lemmas.Bool.{le-leb, lt-leb}
use Rattle.dnw_zone_values.specs.Inside.Steps.{IsSpaced}
use Rattle.dnw_zone_values.specs.Prefixes.{prefix_text, IsPrefixText}
use Rattle.dnw_zone_data.specs.Words.{after_spaces, word, after_word}
use Rattle.dnw_zone_data.specs.PrefixLists.{first_prefix_size, spaced_before, prefixes_within, PrintsPrefixes, ArePrefixWords}
use Rattle.dnw_zone_data.specs.Appending.{AppendedInPart}
use Rattle.dnw_zone_data.specs.Inside.PrefixWords.{LeadToPrefixes}
use Rattle.dnw_zone_data.proofs.TypeSteps.{after, after_all}

-- ---- words

pub prefixes_more : (text : List ℕ) (done : List (List ℕ)) (left own : List ℕ) → LeadToPrefixes text done left → left ≢ [] → IsPrefixText (word left) own
    → LeadToPrefixes text (done ++ own ∷ []) (after_spaces (after_word left))
prefixes_more text [] left own h some is = (
  subst (λ (xs : List ℕ). xs ≢ []) h some,
  subst (λ (xs : List ℕ). IsPrefixText (word xs) own) h is,
  ap (λ (xs : List ℕ). after_spaces (after_word xs)) h,
)
prefixes_more text (d ∷ done) left own h some is = (h.0, h.1, prefixes_more (after_word (after_spaces text)) done left own h.2 some is)

pub prefixes_end : (text : List ℕ) (done : List (List ℕ)) (left : List ℕ) → LeadToPrefixes text done left → left ≡ [] → ArePrefixWords text done
prefixes_end text [] left h none = sym h ∙ none
prefixes_end text (d ∷ done) left h none = (h.0, h.1, prefixes_end (after_word (after_spaces text)) done left h.2 none)

pub prefixes_stop : (text : List ℕ) (done listed : List (List ℕ)) (left : List ℕ) → LeadToPrefixes text done left → left ≢ []
    → ((own : List ℕ) → ¬ (IsPrefixText (word left) own)) → ArePrefixWords text listed → ⊥
prefixes_stop text [] [] left h some none are = some (h ∙ are)
prefixes_stop text [] (s ∷ listed) left h some none are = none s (subst (λ (xs : List ℕ). IsPrefixText (word xs) s) (sym h) are.1)
prefixes_stop text (d ∷ done) [] left h some none are = h.0 are
prefixes_stop text (d ∷ done) (s ∷ listed) left h some none are = prefixes_stop (after_word (after_spaces text)) done listed left h.2 some none are.2

-- no prefix is empty
pub word_some : (w own : List ℕ) → IsPrefixText w own → 0 < length w
word_some [] own is = absurd (omega (arith, is.1.0.0))
word_some (c ∷ w) own is = omega arith

-- ---- octets

spaced_is : (text : List ℕ) (others : Option (List ℕ)) → spaced_before (Some text) others ≡ after (32 ∷ text) others
spaced_is text None = refl
spaced_is text (Some own) = refl

spaced_none : (others : Option (List ℕ)) → spaced_before None others ≡ None
spaced_none None = refl
spaced_none (Some own) = refl

-- a prefix, if it has a text
prefix_one : (n : ℕ) (left own others text : List ℕ) → left ≢ [] → left ≡ own ++ others → length own ≡ first_prefix_size left → prefix_text own ≡ Some text
    → prefixes_within (suc n) left ≡ after (32 ∷ text) (prefixes_within n others)
prefix_one n [] own others text some whole size is = absurd (some refl)
prefix_one n (o ∷ left) own others text some whole size is =
    let all = o ∷ left in
    let front : take (first_prefix_size all) all ≡ own = ap (take (first_prefix_size all)) whole ∙ take_at own others (first_prefix_size all) size in
    let back : drop (first_prefix_size all) all ≡ others = ap (drop (first_prefix_size all)) whole ∙ drop_at own others (first_prefix_size all) size in
    let fits : nat_le (first_prefix_size all) (length all) ≡ true = le-leb (first_prefix_size all) (length all) (omega (arith, size, ap length whole, length-append own others)) in
    rw (fits, front, back, is) (spaced_is text (prefixes_within n others))

pub prefix_more : (all left own others found text : List ℕ) (n : ℕ) → prefixes_within (length all) all ≡ after found (prefixes_within n left) → length left ≤ n
    → left ≢ [] → left ≡ own ++ others → length own ≡ first_prefix_size left → prefix_text own ≡ Some text
    → (m : ℕ) × (length others ≤ m) × (prefixes_within (length all) all ≡ after (found ++ 32 ∷ text) (prefixes_within m others))
prefix_more all [] own others found text n so_far few some whole size is = absurd (some refl)
prefix_more all (o ∷ left) own others found text zero so_far few some whole size is = absurd (omega (arith, few))
prefix_more all (o ∷ left) own others found text (suc n) so_far few some whole size is = (
  n,
  omega (arith, few, size, ap length whole, length-append own others),
  so_far ∙ ap (after found) (prefix_one n (o ∷ left) own others text some whole size is) ∙ after_all found (32 ∷ text) (prefixes_within n others),
)

-- none
pub prefix_short : (n : ℕ) (left : List ℕ) → left ≢ [] → length left < first_prefix_size left → prefixes_within n left ≡ None
prefix_short n [] some few = absurd (some refl)
prefix_short zero (o ∷ left) some few = refl
prefix_short (suc n) (o ∷ left) some few = let fits = lt-leb (first_prefix_size (o ∷ left)) (length (o ∷ left)) few in rw fits refl

pub prefix_none : (n : ℕ) (left own others : List ℕ) → left ≢ [] → left ≡ own ++ others → length own ≡ first_prefix_size left → prefix_text own ≡ None
    → prefixes_within n left ≡ None
prefix_none n [] own others some whole size is = absurd (some refl)
prefix_none zero (o ∷ left) own others some whole size is = refl
prefix_none (suc n) (o ∷ left) own others some whole size is =
    let all = o ∷ left in
    let front : take (first_prefix_size all) all ≡ own = ap (take (first_prefix_size all)) whole ∙ take_at own others (first_prefix_size all) size in
    let fits : nat_le (first_prefix_size all) (length all) ≡ true = le-leb (first_prefix_size all) (length all) (omega (arith, size, ap length whole, length-append own others)) in
    rw (fits, front, is) (spaced_none (prefixes_within n (drop (first_prefix_size all) all)))

pub spaced_more : (found text : List ℕ) → IsSpaced found → IsSpaced (found ++ 32 ∷ text)
spaced_more [] text h = refl
spaced_more (c ∷ found) text h = h

pub no_prefixes : (all left found more old new : List ℕ) (n : ℕ) → prefixes_within (length all) all ≡ after found (prefixes_within n left)
    → prefixes_within n left ≡ None → IsSpaced more → new ≡ old ++ more → AppendedInPart (PrintsPrefixes all) old new false
no_prefixes all left found more old new n so_far none spaced e =
    (λ text is. let no : None ≡ Some text = ap (after found) (sym none) ∙ sym so_far ∙ is in cc, (more, spaced, e))

pub all_prefixes : (all left found old new : List ℕ) (n : ℕ) → prefixes_within (length all) all ≡ after found (prefixes_within n left) → left ≡ []
    → new ≡ old ++ found → AppendedInPart (PrintsPrefixes all) old new true
all_prefixes all left found old new n so_far none e =
    let end : prefixes_within n left ≡ Some [] = ap (prefixes_within n) none in
    (found, so_far ∙ ap (after found) end ∙ ap Some (append-nil found), e)
