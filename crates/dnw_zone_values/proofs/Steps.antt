-- Keys, parameters and items, one after another.
use Rattle.std.proofs.Common.{◌≡◌, ◌<◌, ◌≤◌, ℕ, zero, suc, ◌+◌, Bool, true, false, List, [], ◌∷◌, ◌++◌, codes, length, take, drop, refl, ◌==◌, sym, ap, ◌∙◌, subst, arith, append_assoc, append-nil, length-append, length-drop, slice_index, inl, inr, decimal}
use Rattle.std.specs.List.{position_or_len}
use Rattle.std.specs.String.Boundary.{IsSplitPoint}
use Rattle.std.specs.Net.Grammar.{IsColonHex, IsDotted, IsGroups}
use Rattle.std.specs.Prelude.{Option, Some, None, option_map, nat_le, nat_lt}
use Rattle.std.specs.Int.{w16, from_be_bytes, to_be_bytes}
use Rattle.std.specs.Net.Addr.{ipv4_octets, ipv6_segments, octets_of}
use Rattle.std.specs.declared.net.Ipv6Addr.{Ipv6Addr}
use Rattle.std.proofs.NetLemmas.Theorems.{IsIpv4Text_unique, IsIpv6Text_unique}
use Rattle.std.proofs.lemmas.List.{length-take-le, take_at}
use Rattle.std.proofs.lemmas.Bool.{le-leb, lt-ltb}
use Rattle.dnw_zone_values.specs.Numbers.{max_u16, IsNumberText}
use Rattle.dnw_zone_values.specs.Octets.{IsBase64Text}
use Rattle.dnw_zone_values.proofs.ComeBack.{numbers, base64}
use Rattle.dnw_zone_values.specs.declared.items.After.{After}
use Rattle.dnw_zone_values.specs.declared.items.After.TheVariants.{End, Items, Fault}
use Rattle.dnw_zone_values.specs.declared.keys.Form.{Form}
use Rattle.dnw_zone_values.specs.declared.keys.Form.TheVariants as forms
use Rattle.dnw_zone_values.specs.declared.lists.ListValue.{ListValue}
use Rattle.dnw_zone_values.specs.declared.lists.ListValue.TheVariants.{Keys, Protocols, Ipv4, Ipv6}
use Rattle.dnw_zone_values.specs.ParamKeys.{generic_key, named_form, named_key, IsKey}
use Rattle.dnw_zone_values.specs.CommaLists.{comma, items_of}
use Rattle.dnw_zone_values.specs.ParamValues.{is_ascending, octets_of_item, is_item, text_of_item, items_within, IsItem, AreItems, IsListText}
use Rattle.dnw_zone_values.specs.Params.{ParamValue, in_key_order}
use Rattle.dnw_zone_values.specs.ParamTexts.{param_text, params_within, params_text}
use Rattle.dnw_zone_values.specs.ParamWords.{is_equals, key_part, value_part, keys_of, keys_wire, HasValue, IsOwnValue, IsValueText, IsParam, IsParamOf}
use Rattle.dnw_zone_values.specs.Inside.Steps.{after_these, TakesListItem, IsSpaced, AppendsSpaced}

-- ---- keys

pub digits_of : (text digits : List ℕ) (x key : ℕ) → x ≡ 3 → digits ≡ drop x text → text ≡ generic_key key → digits ≡ decimal key
digits_of text digits x key three own is = own ∙ rw (three, is) refl

-- a key with a number has no name
no_name : (text : List ℕ) (key : ℕ) → text ≡ generic_key key → named_key text ≡ None
no_name text key e = rw e refl

same_digits : (a b : ℕ) → decimal a ≡ decimal b → a ≤ max_u16 → b ≤ max_u16 → a ≡ b
same_digits a b e fa fb =
    (numbers max_u16 (omega arith) b fb).1 a (subst (λ (d : List ℕ). IsNumberText max_u16 d a) e (numbers max_u16 (omega arith) a fa).0)

-- a text is one key at most
pub one_key : (text : List ℕ) (a b : ℕ) → IsKey text a → IsKey text b → a ≡ b
one_key text a b (inl x) (inl y) = let e : Some a ≡ Some b = sym x ∙ y in cc
one_key text a b (inl x) (inr y) = let no : Some a ≡ None = sym x ∙ no_name text b y.1 in absurd cc
one_key text a b (inr x) (inl y) = let no : Some b ≡ None = sym y ∙ no_name text a x.1 in absurd cc
one_key text a b (inr x) (inr y) = same_digits a b (ap (drop 3) (sym x.1 ∙ y.1)) x.0 y.0

-- ---- keys in order

pub ascends : (least key a b : ℕ) (left rest : List ℕ) → left ≡ a ∷ b ∷ rest → key ≡ from_be_bytes w16 (a ∷ b ∷ []) → nat_le least key ≡ true
    → is_ascending (key + 1) rest ≡ is_ascending least left
ascends least key a b left rest e k le = rw e (rw (sym k) (rw le refl))

pub descends : (least key a b : ℕ) (left rest : List ℕ) → left ≡ a ∷ b ∷ rest → key ≡ from_be_bytes w16 (a ∷ b ∷ []) → nat_le least key ≡ false
    → is_ascending least left ≡ false
descends least key a b left rest e k le = rw e (rw (sym k) (rw le refl))

pub ascending_end : (least : ℕ) (left : List ℕ) (empty : Bool) → length left < 2 → (length left == 0) ≡ empty → empty ≡ is_ascending least left
ascending_end least [] empty few e = sym e
ascending_end least (a ∷ []) empty few e = sym e
ascending_end least (a ∷ b ∷ left) empty few e = absurd (omega (arith, few))

pub key_more : (key a b : ℕ) (left rest : List ℕ) → left ≡ a ∷ b ∷ rest → key ≡ from_be_bytes w16 (a ∷ b ∷ [])
    → keys_of left ≡ record { key = key; octets = [] } ∷ keys_of rest
key_more key a b left rest e k = rw (e, sym k) refl

pub keys_end : (left : List ℕ) → length left < 2 → keys_of left ≡ []
keys_end [] few = refl
keys_end (a ∷ []) few = refl
keys_end (a ∷ b ∷ left) few = absurd (omega (arith, few))

-- ---- lists

pub after_nil : {A : Type 0} (xs : Option (List A)) → xs ≡ after_these [] xs
after_nil None = refl
after_nil (Some own) = refl

pub after_all : {A : Type 0} (found own : List A) (xs : Option (List A)) → after_these found (after_these own xs) ≡ after_these (found ++ own) xs
after_all found own None = refl
after_all found own (Some others) = ap Some (sym (append_assoc found own others))

-- ---- the items of a text

pub item_more : (list : ListValue) (done : List (List ℕ)) (own first new item : List ℕ) → AreItems list done own → IsItem list item first → new ≡ own ++ first
    → AreItems list (done ++ item ∷ []) new
item_more list [] own first new item are is e = (first, [], is, refl, e ∙ ap (λ (xs : List ℕ). xs ++ first) are ∙ sym (append-nil first))
item_more list (d ∷ done) own first new item are is e = (
  are.0,
  are.1 ++ first,
  are.2,
  item_more list done are.1 first (are.1 ++ first) item are.3 is refl,
  e ∙ ap (λ (xs : List ℕ). xs ++ first) are.4 ∙ append_assoc are.0 are.1 first,
)

pub no_item : (list : ListValue) (done rest : List (List ℕ)) (item own : List ℕ) → ((first : List ℕ) → ¬ (IsItem list item first)) → ¬ (AreItems list (done ++ item ∷ rest) own)
no_item list [] rest item own none are = none are.0 are.2
no_item list (d ∷ done) rest item own none are = no_item list done rest item are.1 none are.3

-- after the items so far, one that is none, and perhaps others
no_such : (list : ListValue) (done : List (List ℕ)) (item own : List ℕ) (rest : Option (List (List ℕ))) (items : List (List ℕ))
    → ((first : List ℕ) → ¬ (IsItem list item first)) → after_these done (option_map (λ others. item ∷ others) rest) ≡ Some items → ¬ (AreItems list items own)
no_such list done item own None items none e are = absurd cc
no_such list done item own (Some others) items none e are =
    let same : done ++ item ∷ others ≡ items = cc in
    no_item list done others item own none (subst (λ (xs : List (List ℕ)). AreItems list xs own) (sym same) are)

pub no_list : (list : ListValue) (text left : List ℕ) (done : List (List ℕ)) (item own : List ℕ) (next : After) → (next ≡ Fault → ⊥) → TakesListItem left item next
    → items_of text ≡ after_these done (items_of left) → ((first : List ℕ) → ¬ (IsItem list item first)) → ¬ (IsListText list text own)
no_list list text left done item own End fault takes so_far none is =
    no_such list done item own (Some []) is.0 none (ap (after_these done) (sym takes) ∙ sym so_far ∙ is.1) is.2
no_list list text left done item own (Items rest) fault takes so_far none is =
    no_such list done item own (items_of rest.now) is.0 none (ap (after_these done) (sym takes.0) ∙ sym so_far ∙ is.1) is.2
no_list list text left done item own Fault fault takes so_far none is = absurd (fault refl)

pub bad_list : (list : ListValue) (text left : List ℕ) (done : List (List ℕ)) (item own : List ℕ) (next : After) → next ≡ Fault → TakesListItem left item next
    → items_of text ≡ after_these done (items_of left) → ¬ (IsListText list text own)
bad_list list text left done item own next fault takes so_far is =
    let none : items_of left ≡ None = rw fault at takes in
    let no : None ≡ Some is.0 = ap (after_these done) (sym none) ∙ sym so_far ∙ is.1 in cc

pub last_item : (text left : List ℕ) (done : List (List ℕ)) (item : List ℕ) (next : After) → (next ≡ Fault → ⊥) → ((rest : _) → next ≡ Items rest → ⊥)
    → TakesListItem left item next → items_of text ≡ after_these done (items_of left) → items_of text ≡ Some (done ++ item ∷ [])
last_item text left done item End fault items takes so_far = so_far ∙ ap (after_these done) takes
last_item text left done item (Items rest) fault items takes so_far = absurd (items rest refl)
last_item text left done item Fault fault items takes so_far = absurd (fault refl)

pub next_item : (text left rest : List ℕ) (done : List (List ℕ)) (item : List ℕ) → items_of left ≡ option_map (λ items. item ∷ items) (items_of rest)
    → items_of text ≡ after_these done (items_of left) → items_of text ≡ after_these (done ++ item ∷ []) (items_of rest)
next_item text left rest done item takes so_far = so_far ∙ ap (after_these done) takes ∙ after_all done (item ∷ []) (items_of rest)

-- ---- the items of octets

pub items_more : (list : ListValue) (all left own rest found new : List ℕ) (n : ℕ) → items_within (length all) list all ≡ after_these found (items_within n list left)
    → length left ≤ n → left ≡ own ++ rest → own ≡ take (octets_of_item list left) left → rest ≡ drop (octets_of_item list left) left
    → 2 ≤ octets_of_item list left → octets_of_item list left ≤ length left → new ≡ found ++ comma ∷ text_of_item list own
    → (m : ℕ) × (length rest ≤ m) × (items_within (length all) list all ≡ after_these new (items_within m list rest))
items_more list all [] own rest found new n so_far few whole front back some fits e = absurd (omega (arith, some, fits))
items_more list all (o ∷ left) own rest found new zero so_far few whole front back some fits e = absurd (omega (arith, few))
items_more list all (o ∷ left) own rest found new (suc n) so_far few whole front back some fits e =
    let is : is_item list (o ∷ left) ≡ true = rw (le-leb (octets_of_item list (o ∷ left)) (length (o ∷ left)) fits, le-leb 2 (octets_of_item list (o ∷ left)) some) refl in
    let step : items_within (suc n) list (o ∷ left) ≡ after_these (comma ∷ text_of_item list own) (items_within n list rest) = rw (is, front, back) refl in
    let size : length (o ∷ left) ≡ length own + length rest = ap length whole ∙ length-append own rest in
    (n, omega (arith, few, size, front, length-take-le (octets_of_item list (o ∷ left)) (o ∷ left) fits, ap length front, some), so_far ∙ ap (after_these found) step ∙ after_all found (comma ∷ text_of_item list own) (items_within n list rest) ∙ ap (λ (xs : List ℕ). after_these xs (items_within n list rest)) (sym e))

-- ---- a text is one value at most

one_item : (list : ListValue) (item a b : List ℕ) → IsItem list item a → IsItem list item b → a ≡ b
one_item Keys item a b x y = x.4 ∙ ap (to_be_bytes w16) (one_key item x.0 y.0 x.2 y.2) ∙ sym y.4
one_item Protocols item a b x y = x.2 ∙ sym y.2
one_item Ipv4 item a b x y = x.3 ∙ ap ipv4_octets (IsIpv4Text_unique item x.0 y.0 x.2 y.2) ∙ sym y.3
one_item Ipv6 item a b x y = x.3 ∙ ap (λ (o : Ipv6Addr). octets_of (ipv6_segments o)) (IsIpv6Text_unique item x.0 y.0 x.2 y.2) ∙ sym y.3

one_items : (list : ListValue) (items : List (List ℕ)) (a b : List ℕ) → AreItems list items a → AreItems list items b → a ≡ b
one_items list [] a b x y = x ∙ sym y
one_items list (item ∷ items) a b x y =
    x.4 ∙ ap (λ (xs : List ℕ). xs ++ x.1) (one_item list item x.0 y.0 x.2 y.2) ∙ ap (λ (xs : List ℕ). y.0 ++ xs) (one_items list items x.1 y.1 x.3 y.3) ∙ sym y.4

pub one_list : (list : ListValue) (text a b : List ℕ) → IsListText list text a → IsListText list text b → a ≡ b
one_list list text a b x y =
    let e : Some x.0 ≡ Some y.0 = sym x.1 ∙ y.1 in
    let same : x.0 ≡ y.0 = cc in
    one_items list y.0 a b (subst (λ (items : List (List ℕ)). AreItems list items a) same x.2) y.2

pub one_value : (form : Form) (value a b : List ℕ) → IsOwnValue form value a → IsOwnValue form value b → a ≡ b
one_value forms.Mandatory value a b x y =
    let same : x.0 ≡ y.0 = one_list Keys value x.0 y.0 x.2 y.2 in
    let e : Some x.1 ≡ Some y.1 = sym x.3 ∙ ap (λ (xs : List ℕ). in_key_order [] (keys_of xs)) same ∙ y.3 in
    let keys : x.1 ≡ y.1 = cc in x.4 ∙ ap keys_wire keys ∙ sym y.4
one_value forms.Protocols value a b x y = one_list Protocols value a b x y
one_value forms.Nothing value a b x y = x.1 ∙ sym y.1
one_value forms.Port value a b x y = x.3 ∙ ap (to_be_bytes w16) (sym x.2.1 ∙ y.2.1) ∙ sym y.3
one_value forms.Ipv4 value a b x y = one_list Ipv4 value a b x y
one_value forms.Ech value a b x y = (base64 b y.2.0).1 a (subst (λ (t : List ℕ). IsBase64Text t a) y.2.1 x.2)
one_value forms.Ipv6 value a b x y = one_list Ipv6 value a b x y
one_value forms.Template value a b x y = x.2 ∙ sym y.2
one_value forms.Any value a b x y = absurd x

-- no text without characters is an item, or a value of a form that has one
no_dotted : (text octets : List ℕ) → [] ≡ text → IsDotted text octets → ⊥
no_dotted text octets none is =
    let front = ((decimal is.a ++ codes ".") ++ decimal is.b) ++ codes "." in
    let size = ap length (none ∙ is.spelled) in
    omega (arith, size, length-append ((front ++ decimal is.c) ++ codes ".") (decimal is.d), length-append (front ++ decimal is.c) (codes "."))

no_groups : (segments : List ℕ) → IsGroups true [] segments → 0 < length segments → ⊥
no_groups [] is some = omega (arith, some)
no_groups (s ∷ segments) (inl is) some = omega (arith, ap length is.2, length-append is.0 is.1, is.3.0.0.0)
no_groups (s ∷ segments) (inr is) some = no_dotted is.0 is.1 is.3 is.4

pub no_colon_hex : (segments : List ℕ) → IsColonHex [] segments → ⊥
no_colon_hex segments is = elim is [
  | inl groups ↦ no_groups segments groups.0 (omega (arith, groups.1))
  | inr elided ↦ omega (arith, ap length elided.spelled, length-append (elided.head_text ++ codes "::") elided.tail_text, length-append elided.head_text (codes "::"))
]

item_some : (list : ListValue) (own : List ℕ) → IsItem list [] own → ⊥
item_some Keys own is = elim is.2 [
  | inl named ↦ let no : None ≡ Some is.0 = named in cc
  | inr generic ↦ let no : [] ≡ generic_key is.0 = generic.1 in cc
]
item_some Protocols own is = omega (arith, is.0)
item_some Ipv4 own is = no_dotted [] (ipv4_octets is.0) refl is.2
item_some Ipv6 own is = no_colon_hex (ipv6_segments is.0) is.2

list_some : (list : ListValue) (own : List ℕ) → IsListText list [] own → ⊥
list_some list own is =
    let e : Some ([] ∷ []) ≡ Some is.0 = is.1 in
    let items : [] ∷ [] ≡ is.0 = cc in
    let one = subst (λ (xs : List (List ℕ)). AreItems list xs own) (sym items) is.2 in
    item_some list one.0 one.2

pub value_some : (form : Form) (own : List ℕ) → (form ≡ forms.Nothing → ⊥) → IsOwnValue form [] own → ⊥
value_some forms.Mandatory own other is = list_some Keys is.0 is.2
value_some forms.Protocols own other is = list_some Protocols own is
value_some forms.Nothing own other is = other refl
value_some forms.Port own other is = omega (arith, is.2.0.0)
value_some forms.Ipv4 own other is = list_some Ipv4 own is
value_some forms.Ech own other is = omega (arith, is.1)
value_some forms.Ipv6 own other is = list_some Ipv6 own is
value_some forms.Template own other is = omega (arith, is.1)
value_some forms.Any own other is = is

-- a value that writes octets has characters
pub has_value : (text : Option (List ℕ)) (own : List ℕ) → IsValueText text own → 1 ≤ length own → HasValue text
has_value None own is some = omega (arith, some, ap length is)
has_value (Some []) own is some = let no : None ≡ Some own = is.0 in absurd cc
has_value (Some (c ∷ text)) own is some = omega arith

-- ---- texts that begin with a space

pub spaced_more : (found others : List ℕ) → IsSpaced found → IsSpaced (found ++ 32 ∷ others)
spaced_more [] others h = refl
spaced_more (c ∷ found) others h = h

space_after : (old own : List ℕ) → IsSpaced own → length old < length (old ++ own) → slice_index (old ++ own) (length old) ≡ 32
space_after [] [] h within = absurd (omega (arith, within))
space_after [] (c ∷ own) h within = h
space_after (o ∷ old) own h within = space_after old own h (omega (arith, within))

-- what was appended may be cut off, and then nothing is
pub may_cut : (old new : List ℕ) (n : ℕ) → AppendsSpaced old new → n ≡ length old → IsSplitPoint new n
may_cut old new n (own, spaced, e) at =
    rw (e, at) (omega (arith, length-append old own), λ some within high. absurd (omega (arith, high, space_after old own spaced within)))

pub cut_off : (old new kept : List ℕ) (n : ℕ) → AppendsSpaced old new → n ≡ length old → kept ≡ take n new → kept ≡ old
cut_off old new kept n (own, spaced, e) at cut = cut ∙ rw (e, at) (take_at old own (length old) refl)

-- ---- the parameters of octets

one_param : (n a b c d : ℕ) (octets : List ℕ) → nat_le (from_be_bytes w16 (c ∷ d ∷ [])) (length octets) ≡ true
    → params_within (suc n) (a ∷ b ∷ c ∷ d ∷ octets) ≡ after_these (32 ∷ param_text (from_be_bytes w16 (a ∷ b ∷ [])) (take (from_be_bytes w16 (c ∷ d ∷ [])) octets)) (params_within n (drop (from_be_bytes w16 (c ∷ d ∷ [])) octets))
one_param n a b c d octets le = rw le refl

pub params_more : (all left r1 r2 own rest found : List ℕ) (n key len a b c d : ℕ) → params_text all ≡ after_these found (params_within n left) → length left ≤ n
    → left ≡ a ∷ b ∷ r1 → r1 ≡ c ∷ d ∷ r2 → key ≡ from_be_bytes w16 (a ∷ b ∷ []) → len ≡ from_be_bytes w16 (c ∷ d ∷ []) → own ≡ take len r2 → rest ≡ drop len r2 → len ≤ length r2
    → (m : ℕ) × (length rest ≤ m) × (params_text all ≡ after_these (found ++ 32 ∷ param_text key own) (params_within m rest))
params_more all left r1 r2 own rest found zero key len a b c d so_far few first second k l front back fits = absurd (omega (arith, few, ap length first))
params_more all left r1 r2 own rest found (suc n) key len a b c d so_far few first second k l front back fits =
    let k2 = from_be_bytes w16 (a ∷ b ∷ []) in
    let l2 = from_be_bytes w16 (c ∷ d ∷ []) in
    let le : nat_le l2 (length r2) ≡ true = le-leb l2 (length r2) (omega (arith, fits, l)) in
    let own2 : take l2 r2 ≡ own = sym (front ∙ ap (λ (i : ℕ). take i r2) l) in
    let rest2 : drop l2 r2 ≡ rest = sym (back ∙ ap (λ (i : ℕ). drop i r2) l) in
    let step : params_within (suc n) left ≡ after_these (32 ∷ param_text key own) (params_within n rest) =
    ap (params_within (suc n)) (first ∙ ap (λ (xs : List ℕ). a ∷ b ∷ xs) second) ∙ one_param n a b c d r2 le
    ∙ ap (λ (i : ℕ). after_these (32 ∷ param_text i (take l2 r2)) (params_within n (drop l2 r2))) (sym k)
    ∙ ap (λ (o : List ℕ). after_these (32 ∷ param_text key o) (params_within n (drop l2 r2))) own2
    ∙ ap (λ (o : List ℕ). after_these (32 ∷ param_text key own) (params_within n o)) rest2 in
    let size : length rest ≤ length r2 = omega (arith, ap length back, length-drop len r2) in
    (n, omega (arith, few, ap length first, ap length second, size), so_far ∙ ap (after_these found) step ∙ after_all found (32 ∷ param_text key own) (params_within n rest))

-- ---- a word is one parameter at most

one_text : (text : Option (List ℕ)) (a b : List ℕ) → IsValueText text a → IsValueText text b → a ≡ b
one_text None a b x y = x ∙ sym y
one_text (Some text) a b x y = let e : Some a ≡ Some b = sym x.0 ∙ y.0 in cc

same_param : (a b : ParamValue) → a.key ≡ b.key → a.octets ≡ b.octets → a ≡ b
same_param a b k o =
    let first : a ≡ record { key = b.key; octets = a.octets } = ap (λ (i : ℕ). record { key = i; octets = a.octets }) k in
    first ∙ ap (λ (xs : List ℕ). record { key = b.key; octets = xs }) o

one_of : (key value : List ℕ) (a b : ParamValue) → IsParamOf key value a → IsParamOf key value b → a ≡ b
one_of key value a b (inl x) (inl y) =
    let e : Some a.key ≡ Some b.key = sym x.0 ∙ y.0 in
    let k : a.key ≡ b.key = cc in
    same_param a b k (one_value (named_form b.key) value a.octets b.octets (subst (λ (i : ℕ). IsOwnValue (named_form i) value a.octets) k x.1) y.1)
one_of key value a b (inl x) (inr y) = let no : Some a.key ≡ None = sym x.0 ∙ no_name key b.key y.0.1 in absurd cc
one_of key value a b (inr x) (inl y) = let no : Some b.key ≡ None = sym y.0 ∙ no_name key a.key x.0.1 in absurd cc
one_of key value a b (inr x) (inr y) = same_param a b (same_digits a.key b.key (ap (drop 3) (sym x.0.1 ∙ y.0.1)) x.0.0 y.0.0) (x.1 ∙ sym y.1)

pub one_word : (word : List ℕ) (a b : ParamValue) → IsParam word a → IsParam word b → a ≡ b
one_word word a b x y =
    let same = one_text (value_part word) x.0 y.0 x.2 y.2 in
    one_of (key_part word) y.0 a b (subst (λ (v : List ℕ). IsParamOf (key_part word) v a) same x.3) y.3

-- no parameter is an empty word
pub word_some : (word : List ℕ) (p : ParamValue) → IsParam word p → 0 < length word
word_some [] p is = elim is.3 [
  | inl named ↦ let no : None ≡ Some p.key = named.0 in absurd cc
  | inr generic ↦ let no : [] ≡ generic_key p.key = generic.0.1 in absurd cc
]
word_some (c ∷ word) p is = omega arith

-- ---- the parts of a word

next_of : (n : ℕ) (xs value : List ℕ) (x : ℕ) → drop n xs ≡ x ∷ value → (n < length xs) × (drop (n + 1) xs ≡ value)
next_of zero [] value x e = absurd cc
next_of zero (y ∷ xs) value x e = (omega arith, cc)
next_of (suc n) [] value x e = absurd cc
next_of (suc n) (y ∷ xs) value x e =
    let more = next_of n xs value x e in
    let one : suc n + 1 ≡ suc (n + 1) = omega arith in
    (omega (arith, more.0), ap (λ (k : ℕ). drop k (y ∷ xs)) one ∙ more.1)

-- the value is what is after the key and one character more
pub value_after : (word value rest : List ℕ) (x n : ℕ) → n ≡ position_or_len is_equals word → rest ≡ drop n word → rest ≡ x ∷ value → Some value ≡ value_part word
value_after word value rest x n at cut first =
    let more = next_of n word value x (sym cut ∙ first) in
    let within : nat_lt (position_or_len is_equals word) (length word) ≡ true = lt-ltb (position_or_len is_equals word) (length word) (omega (arith, at, more.0)) in
    rw within (ap Some (sym more.1 ∙ ap (λ (k : ℕ). drop (k + 1) word) at))
