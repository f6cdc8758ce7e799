-- Which prefix a name gives.
use Rattle.std.proofs.Common.{◌≡◌, ℕ, ◌<◌, ◌≤◌, ◌==◌, Bool, true, false, nat_lt, List, [], ◌∷◌, length, take, reverse, if◌then◌else◌, Result, Ok, Err, refl, sym, ap, ◌∙◌, subst, arith}
use Rattle.std.specs.Char.{to_ascii_lowercase}
use Rattle.std.specs.List.{AllByRecursion}
use Rattle.std.specs.Str.{IsAscii, is_utf8}
use Rattle.std.proofs.lemmas.Bool.{le-ltb, ltb-false, false_from_ne_true, and_parts}
use Rattle.std.proofs.lemmas.Bool.Decides.{nat_tests}
use Rattle.std.proofs.lemmas.List.{take_all}
use Rattle.std.proofs.lemmas.Str.Ascii.{IsAscii-nil, IsAscii-cons}
use Rattle.dnw_base.specs.Names.{NameValue}
use Rattle.dnw_name_form.specs.LabelOrder.{label_eq}
use Rattle.dnw_name_arpa.specs.Arpa.{ArpaPrefix, ArpaFault, NotUtf8, NotArpa, UnknownFamily, TooManyLabels, Relative, ◌>>=◌, arpa, family_label, as_text, most_values, value_of, values_of, prefix_of, prefix_below, prefix_from_end, GiveValues, GivesPrefix}
use Rattle.dnw_name_arpa.specs.ArpaLaws.{NamesGivePrefixes}
use Rattle.dnw_name_arpa.specs.declared.reading.Family.{Family}
use Rattle.dnw_name_arpa.specs.declared.reading.Family.TheVariants.{Ipv4, Ipv6}
use Rattle.dnw_name_arpa.proofs.ValueLabels.{ascii_text}

-- ---- labels that are ASCII

small : (a b : ℕ) → (to_ascii_lowercase a == to_ascii_lowercase b) ≡ true → b < 128 → a < 128
small a b e h = grind (arith, nat_tests)

ascii : (l m : List ℕ) → label_eq l m ≡ true → AllByRecursion (λ b. b < 128) m → IsAscii l
ascii [] m e h = IsAscii-nil
ascii (a ∷ l) [] e h = cc
ascii (a ∷ l) (b ∷ m) e h =
    let parts = and_parts (to_ascii_lowercase a == to_ascii_lowercase b) (label_eq l m) e in
    IsAscii-cons a l (small a b parts.0 h.0) (ascii l m parts.1 h.1)

text : (l m : List ℕ) → label_eq l m ≡ true → AllByRecursion (λ b. b < 128) m → is_utf8 l ≡ true
text l m e h = ascii_text l (ascii l m e h)

same_length : (l m : List ℕ) → label_eq l m ≡ true → length l ≡ length m
same_length [] [] e = refl
same_length [] (b ∷ m) e = cc
same_length (a ∷ l) [] e = cc
same_length (a ∷ l) (b ∷ m) e = grind (arith, same_length l m)

-- ---- what succeeds

ok_first : {A B : Type 0} (r : Result A ArpaFault) (f : A → Result B ArpaFault) (y : B) → (r >>= f) ≡ Ok y → (x : A) × (r ≡ Ok x) × (f x ≡ Ok y)
ok_first (Ok x) f y e = (x, refl, e)
ok_first (Err fault) f y e = absurd cc

ok_then : {B : Type 0} (b : Bool) (r : Result B ArpaFault) (fault : ArpaFault) (y : B) → (if b then r else Err fault) ≡ Ok y → (b ≡ true) × (r ≡ Ok y)
ok_then true r fault y e = (refl, e)
ok_then false r fault y e = absurd cc

ok_else : {B : Type 0} (b : Bool) (r : Result B ArpaFault) (fault : ArpaFault) (y : B) → (if b then Err fault else r) ≡ Ok y → (b ≡ false) × (r ≡ Ok y)
ok_else true r fault y e = absurd cc
ok_else false r fault y e = (refl, e)

ok_text : {B : Type 0} (l : List ℕ) (f : List ℕ → Result B ArpaFault) (y : B) → (as_text l >>= f) ≡ Ok y → f l ≡ Ok y
ok_text l f y e =
    let (t, is, more) = ok_first (as_text l) f y e in
    let (utf8, same) = ok_then (is_utf8 l) (Ok l) NotUtf8 t is in
    let whole : t ≡ l = cc in
    rw whole at more

-- ---- values

values_give : (family : Family) (ls : List (List ℕ)) (vs : List ℕ) → values_of family ls ≡ Ok vs → GiveValues family ls vs
values_give family [] [] e = tt
values_give family [] (v ∷ vs) e = absurd cc
values_give family (l ∷ ls) vs e =
    let (v, is, more) = ok_first (value_of family l) (λ v. values_of family ls >>= (λ ws. Ok (v ∷ ws))) vs e in
    let (ws, are, all) = ok_first (values_of family ls) (λ ws. Ok (v ∷ ws)) vs more in
    let same : v ∷ ws ≡ vs = cc in
    subst (GiveValues family (l ∷ ls)) same (is, values_give family ls ws are)

give_values : (family : Family) (ls : List (List ℕ)) (vs : List ℕ) → GiveValues family ls vs → values_of family ls ≡ Ok vs
give_values family [] [] h = refl
give_values family [] (v ∷ vs) h = absurd h
give_values family (l ∷ ls) [] h = absurd h
give_values family (l ∷ ls) (v ∷ vs) h = rw (h.0, give_values family ls vs h.1) refl

-- ---- the labels of a family

abbrev IsOf : List ℕ → List (List ℕ) → ArpaPrefix → Type 0
IsOf second others p = (label_eq second (family_label p.family) ≡ true) × (length others ≤ most_values p.family) × GiveValues p.family others p.values

prefix_is : (family : Family) (second : List ℕ) (ls : List (List ℕ)) (p : ArpaPrefix) → label_eq second (family_label family) ≡ true
    → prefix_of family ls ≡ Ok p → IsOf second ls p
prefix_is family second ls p is e =
    let (vs, are, last) = ok_first (values_of family (take (most_values family) ls)) _ p e in
    let (few, made) = ok_else (nat_lt (most_values family) (length ls)) (Ok (record { family = family; values = vs })) (TooManyLabels family) p last in
    let le : length ls ≤ most_values family = ltb-false _ _ few in
    let same : record { family = family; values = vs } ≡ p = cc in
    subst (IsOf second ls) same (is, le, values_give family ls vs (ap (values_of family) (sym (take_all (most_values family) ls le)) ∙ are))

family_is : (second : List ℕ) (others : List (List ℕ)) (p : ArpaPrefix) (b c : Bool) → label_eq second (family_label Ipv4) ≡ b → label_eq second (family_label Ipv6) ≡ c
    → (if b then prefix_of Ipv4 others else if c then prefix_of Ipv6 others else Err UnknownFamily) ≡ Ok p → IsOf second others p
family_is second others p true c is other e = prefix_is Ipv4 second others p is e
family_is second others p false true is other e = prefix_is Ipv6 second others p other e
family_is second others p false false is other e = absurd cc

is_prefix : (family : Family) (second : List ℕ) (others : List (List ℕ)) (vs : List ℕ) → IsOf second others (record { family = family; values = vs })
    → prefix_below (second ∷ others) ≡ Ok (record { family = family; values = vs })
is_prefix Ipv4 second others vs h =
    rw (
      text second (family_label Ipv4) h.0 (omega arith, (omega arith, (omega arith, (omega arith, (omega arith, (omega arith, (omega arith, tt))))))),
      h.0,
      take_all 4 others h.1,
      give_values Ipv4 others vs h.2,
      le-ltb 4 (length others) h.1,
    ) refl
is_prefix Ipv6 second others vs h =
    let other : label_eq second (family_label Ipv4) ≡ false = false_from_ne_true _ (λ same. omega (arith, same_length second (family_label Ipv4) same, same_length second (family_label Ipv6) h.0)) in
    rw (
      text second (family_label Ipv6) h.0 (omega arith, (omega arith, (omega arith, tt))),
      other,
      h.0,
      take_all 32 others h.1,
      give_values Ipv6 others vs h.2,
      le-ltb 32 (length others) h.1,
    ) refl

-- ---- the whole name

labels_give : (n : NameValue) (p : ArpaPrefix) (ls : List (List ℕ)) → n.is_fqdn ≡ true → reverse n.labels ≡ ls → prefix_from_end ls ≡ Ok p → GivesPrefix n p
labels_give n p [] fqdn order e = absurd cc
labels_give n p (l ∷ []) fqdn order e =
    let below = ok_then (label_eq l arpa) (prefix_below []) NotArpa p (ok_text l _ p e) in
    absurd cc
labels_give n p (l ∷ second ∷ others) fqdn order e =
    let (is_arpa, below) = ok_then (label_eq l arpa) (prefix_below (second ∷ others)) NotArpa p (ok_text l _ p e) in
    let (of_family, few, each) = family_is second others p _ _ refl refl (ok_text second _ p below) in
    record { fqdn = fqdn; last = l; second = second; others = others; order = order; below_arpa = is_arpa; of_family = of_family; few = few; each = each }

pub names_give : NamesGivePrefixes
names_give n p = (
  λ e. let (fqdn, from_end) = ok_then n.is_fqdn (prefix_from_end (reverse n.labels)) Relative p e in labels_give n p (reverse n.labels) fqdn refl from_end,
  λ h.
      rw (h.fqdn, h.order, text h.last arpa h.below_arpa (omega arith, (omega arith, (omega arith, (omega arith, tt)))), h.below_arpa)
      (is_prefix p.family h.second h.others p.values (h.of_family, h.few, h.each)),
)
