-- What is printed of a service parameter is that parameter.
use Rattle.std.proofs.Common.{◌≡◌, ◌⊎◌, ℕ, zero, suc, ◌+◌, ◌*◌, ◌/◌, ◌%◌, ◌^◌, ◌<◌, ◌≤◌, Bool, true, false, not, ◌&&◌, ◌==◌, List, [], ◌∷◌, ◌++◌, length, take, drop, get_or, slice_index, codes, decimal, refl, sym, ap, ◌∙◌, subst, arith, All, append_assoc, append-nil, length-append, inl, inr}
use Rattle.std.specs.Prelude.{bytes_eq, nat_le, nat_lt, Option, Some, None, option_map, replicate}
use Rattle.std.specs.Int.{w16, from_be_bytes, to_be_bytes}
use Rattle.std.specs.List.{list_all, position_or_len}
use Rattle.std.specs.Str.{IsUtf8, IsAscii}
use Rattle.std.specs.Net.Addr.{octets_of, segments_of}
use Rattle.std.specs.declared.net.Ipv4Addr.{Ipv4Addr}
use Rattle.std.specs.declared.net.Ipv6Addr.{Ipv6Addr}
use Rattle.std.specs.Net.Text.{ipv4_text, ipv6_text, hex_groups_text}
use Rattle.std.proofs.NetLemmas.Alphabet.{IsDigitOrDot, IsHexOrColon, All-ipv4_text, All-hex_groups_text}
use Rattle.std.proofs.NetLemmas.Texts.{AllSegments, AllSegments-drop, IsDotted-ipv4_text, IsColonHex-ipv6_text}
use Rattle.std.proofs.Math.Seq.{take-length}
use Rattle.std.proofs.lemmas.Bool.{and_parts, cases_Bool, cases_eq, cases_lt, cond_both, ne_eqb, lt-ltb}
use Rattle.std.proofs.lemmas.Fmt.{decimal_by_steps}
use Rattle.std.proofs.lemmas.List.{take_at, drop_at, take-append-drop, length-take-le}
use Rattle.std.proofs.lemmas.Nat.{be_bytes_2}
use Rattle.std.proofs.lemmas.Str.{IsUtf8-from_ascii}
use Rattle.std.proofs.lemmas.Str.Ascii.{IsAscii-nil, IsAscii-cons}
use Rattle.base64.specs.Engines.{standard}
use Rattle.base64.specs.Rfc4648.{encode_symbols, padding_len}
use Rattle.dnw_zone_values.specs.Numbers.{max_u16}
use Rattle.dnw_zone_values.specs.Octets.{IsOctets, base64_text}
use Rattle.dnw_zone_values.proofs.ComeBack.{numbers}
use Rattle.dnw_zone_values.specs.Strings.{Plain, octets_from, string_octets, with_octet, string_text, IsText}
use Rattle.dnw_zone_values.proofs.StringText.{text}
use Rattle.dnw_zone_values.specs.declared.keys.Form.{Form}
use Rattle.dnw_zone_values.specs.declared.keys.Form.TheVariants as forms
use Rattle.dnw_zone_values.specs.declared.lists.ListValue.{ListValue}
use Rattle.dnw_zone_values.specs.declared.lists.ListValue.TheVariants.{Keys, Protocols, Ipv4, Ipv6}
use Rattle.dnw_zone_values.specs.ParamKeys.{form_of, generic_key, key_name, key_text, named_form, named_key, IsKey}
use Rattle.dnw_zone_values.specs.CommaLists.{is_escaped, items_from, items_of, item_octet, item_text}
use Rattle.dnw_zone_values.specs.ParamValues.{after_comma, octets_of_item, is_item, text_of_item, items_within, list_text, is_ascending, IsItem, IsListText}
use Rattle.dnw_zone_values.specs.ParamTexts.{any_part, own_part, own_text, param_text, part_of}
use Rattle.dnw_zone_values.specs.Params.{ParamValue, in_key_order}
use Rattle.dnw_zone_values.specs.ParamWords.{is_equals, key_part, value_part, keys_of, keys_wire, IsValueText, IsOwnValue, IsParam, IsParamOf}
use Rattle.dnw_zone_values.specs.ParamLaws.{IsParamValue, ParamsComeBack}
use Rattle.dnw_zone_values.specs.Inside.Steps.{AreBelow}
use Rattle.dnw_zone_values.proofs.Ascending.{with_last}
use Rattle.dnw_zone_values.proofs.Steps.{value_some, one_word}

-- ---- keys

-- a letter, a digit, or a hyphen, and some others, but no `=` and no backslash
abbrev pub is_key : ℕ → Bool
is_key c = nat_le 45 c && nat_le c 122 && not (c == 59) && not (c == 61) && not (c == 92)

abbrev pub all_key : List ℕ → Bool
all_key k = list_all is_key k

key_append : (a b : List ℕ) → all_key a ≡ true → all_key b ≡ true → all_key (a ++ b) ≡ true
key_append [] b h k = k
key_append (c ∷ a) b h k = let parts = and_parts (is_key c) (all_key a) h in rw (parts.0) (key_append a b parts.1 k)

digit_key : (n : ℕ) → n < 10 → is_key (48 + n) ≡ true
digit_key n h = grind arith

decimal_key : (n : ℕ) → n < 2 ^ 64 → all_key (decimal n) ≡ true
decimal_key n h =
    decimal_by_steps (λ _ text. all_key text ≡ true) (λ n below. rw (digit_key n below) refl)
    (λ n ds ten so_far. key_append ds ((48 + n % 10) ∷ []) so_far (rw (digit_key (n % 10) (omega arith)) refl)) n h

name_key : (form : Form) (key : ℕ) → key < 2 ^ 64 → all_key (key_name form key) ≡ true
name_key forms.Template key few = decimal_key key few
name_key forms.Any key few = decimal_key key few
name_key form key few = refl

pub no_equals : (c : ℕ) → is_key c ≡ true → (c == 61) ≡ false
no_equals c h = grind arith

found : (k v : List ℕ) → all_key k ≡ true → position_or_len is_equals (k ++ 61 ∷ v) ≡ length k
found [] v h = refl
found (c ∷ k) v h = let parts = and_parts (is_key c) (all_key k) h in rw (no_equals c parts.0) (omega (arith, found k v parts.1))

not_found : (k : List ℕ) → all_key k ≡ true → position_or_len is_equals k ≡ length k
not_found [] h = refl
not_found (c ∷ k) h = let parts = and_parts (is_key c) (all_key k) h in rw (no_equals c parts.0) (omega (arith, not_found k parts.1))

-- the key and the value after the first `=`
abbrev HasParts : List ℕ → List ℕ → Option (List ℕ) → Type 0
HasParts text k v = (key_part text ≡ k) × (value_part text ≡ v)

with_value : (k v : List ℕ) → all_key k ≡ true → HasParts (k ++ 61 ∷ v) k (Some v)
with_value k v h =
    let size : length k < length (k ++ 61 ∷ v) = omega (arith, length-append k (61 ∷ v)) in
    let back : drop (length k + 1) (k ++ 61 ∷ v) ≡ v =
    ap (drop (length k + 1)) (sym (append_assoc k (61 ∷ []) v)) ∙ drop_at (k ++ 61 ∷ []) v (length k + 1) (omega (arith, length-append k (61 ∷ []))) in
    rw (found k v h, lt-ltb (length k) (length (k ++ 61 ∷ v)) size) (take_at k (61 ∷ v) (length k) refl, ap Some back)

not_less : (a : ℕ) → nat_lt a a ≡ false
not_less a = grind arith

without_value : (k : List ℕ) → all_key k ≡ true → HasParts k k None
without_value k h = rw (not_found k h, not_less (length k)) (take-length k, refl)

-- ---- values

-- characters that are no quotes and no backslashes
abbrev pub is_open : ℕ → Bool
is_open c = nat_le 33 c && nat_le c 126 && not (c == 34) && not (c == 40) && not (c == 41) && not (c == 59) && not (c == 92)

abbrev pub all_open : List ℕ → Bool
all_open t = list_all is_open t

no_quote_lem : (c : ℕ) → is_open c ≡ true → (c == 34) ≡ false
no_quote_lem c h = grind arith

no_backslash : (c : ℕ) → is_open c ≡ true → (c == 92) ≡ false
no_backslash c h = grind arith

open_from : (t : List ℕ) → all_open t ≡ true → octets_from false Plain t ≡ Some t
open_from [] h = refl
open_from (c ∷ t) h =
    let parts = and_parts (is_open c) (all_open t) h in
    rw (no_backslash c parts.0) (ap (with_octet c) (open_from t parts.1))

open_octets : (t : List ℕ) → all_open t ≡ true → 1 ≤ length t → string_octets t ≡ Some t
open_octets [] h some = absurd (omega (arith, some))
open_octets (c ∷ t) h some = let parts = and_parts (is_open c) (all_open t) h in rw (no_quote_lem c parts.0) (open_from (c ∷ t) h)

open_value : (k t : List ℕ) → all_key k ≡ true → all_open t ≡ true → 1 ≤ length t → length t ≤ 65535 → (key_part (k ++ 61 ∷ t) ≡ k) × IsValueText (value_part (k ++ 61 ∷ t)) t
open_value k t key shape some few =
    let parts = with_value k t key in
    (parts.0, subst (λ v. IsValueText v t) (sym parts.1) (open_octets t shape some, few))

any_value : (k own : List ℕ) → all_key k ≡ true → IsText own → (key_part (k ++ any_part own) ≡ k) × IsValueText (value_part (k ++ any_part own)) own
any_value k [] key is =
    let parts = without_value k key in
    let whole = append-nil k in
    (ap key_part whole ∙ parts.0, subst (λ v. IsValueText v []) (sym (ap value_part whole ∙ parts.1)) refl)
any_value k (o ∷ own) key is =
    let parts = with_value k (string_text (o ∷ own)) key in
    (parts.0, subst (λ v. IsValueText v (o ∷ own)) (sym parts.1) (text (o ∷ own) is).0)

-- ---- lists

-- characters of an item that is no identifier
abbrev pub is_bare : ℕ → Bool
is_bare c = nat_le 33 c && nat_le c 126 && not (c == 34) && not (c == 40) && not (c == 41) && not (c == 59) && not (c == 92) && not (c == 44)

abbrev pub all_bare : List ℕ → Bool
all_bare t = list_all is_bare t

not_escaped : (c : ℕ) → is_bare c ≡ true → is_escaped c ≡ false
not_escaped c h = grind arith

bare_item : (t : List ℕ) → all_bare t ≡ true → item_text t ≡ t
bare_item [] h = refl
bare_item (c ∷ t) h = let parts = and_parts (is_bare c) (all_bare t) h in rw (not_escaped c parts.0) (ap (λ (xs : List ℕ). c ∷ xs) (bare_item t parts.1))

item_octet_read : (c : ℕ) (done xs : List ℕ) → items_from false done (item_octet c ++ xs) ≡ items_from false (done ++ c ∷ []) xs
item_octet_read c done xs = elim (cases_eq c 44) [
  | inl e ↦ rw e refl
  | inr no_comma ↦ elim (cases_eq c 92) [
    | inl e ↦ rw e refl
    | inr other ↦ let a = ne_eqb c 44 no_comma in let b = ne_eqb c 92 other in rw (a, b, a, b) refl
  ]
]

item_read : (item done xs : List ℕ) → items_from false done (item_text item ++ xs) ≡ items_from false (done ++ item) xs
item_read [] done xs = ap (λ (d : List ℕ). items_from false d xs) (sym (append-nil done))
item_read (c ∷ item) done xs =
    ap (items_from false done) (append_assoc (item_octet c) (item_text item) xs) ∙ item_octet_read c done (item_text item ++ xs)
    ∙ item_read item (done ++ c ∷ []) xs ∙ ap (λ (d : List ℕ). items_from false d xs) (append_assoc done (c ∷ []) item)

-- characters of the text of a list: octets in quotes, or characters that need none
abbrev is_fine : ListValue → ℕ → Bool
is_fine Protocols c = nat_lt c 256
is_fine list c = is_open c

-- an item is printed as itself
abbrev ItemBack : ListValue → List ℕ → Type 0
ItemBack list own =
    (item : List ℕ) × (text_of_item list own ≡ item_text item) × IsItem list item own × (list_all (is_fine list) (text_of_item list own) ≡ true)

open_of : (c : ℕ) → is_bare c ≡ true → is_open c ≡ true
open_of c h = grind arith

bare_below : (c : ℕ) → is_bare c ≡ true → c < 128
bare_below c h = grind arith

bare_ascii : (t : List ℕ) → all_bare t ≡ true → IsAscii t
bare_ascii [] h = IsAscii-nil
bare_ascii (c ∷ t) h = let parts = and_parts (is_bare c) (all_bare t) h in IsAscii-cons c t (bare_below c parts.0) (bare_ascii t parts.1)

pub bare_open : (t : List ℕ) → all_bare t ≡ true → all_open t ≡ true
bare_open [] h = refl
bare_open (c ∷ t) h =
    let parts = and_parts (is_bare c) (all_bare t) h in
    rw (open_of c parts.0) (bare_open t parts.1)

bare_utf8 : (t : List ℕ) → all_bare t ≡ true → IsUtf8 t
bare_utf8 t h = IsUtf8-from_ascii t (bare_ascii t h)

identifier_fine : (item : List ℕ) → IsOctets item → list_all (is_fine Protocols) (item_text item) ≡ true
identifier_fine [] h = refl
identifier_fine (c ∷ item) h =
    let own = lt-ltb c 256 (h 0) in
    elim (cases_Bool (is_escaped c)) [
      | inl is ↦ rw (is, own) (identifier_fine item (λ i. h (suc i)))
      | inr other ↦ rw (other, own) (identifier_fine item (λ i. h (suc i)))
    ]

protocol_back : (own : List ℕ) → IsOctets own → length own ≡ octets_of_item Protocols own → 2 ≤ length own → ItemBack Protocols own
protocol_back [] h size some = absurd (omega (arith, some))
protocol_back (x ∷ item) h size some =
    let same : x ≡ length item = omega (arith, size) in
    (item, refl, (omega (arith, some), omega (arith, same, h 0), ap (λ (n : ℕ). n ∷ item) same), identifier_fine item (λ i. h (suc i)))

bare_of : (c : ℕ) → is_key c ≡ true → is_bare c ≡ true
bare_of c h = grind arith

key_bare : (k : List ℕ) → all_key k ≡ true → all_bare k ≡ true
key_bare [] h = refl
key_bare (c ∷ k) h = let parts = and_parts (is_key c) (all_key k) h in rw (bare_of c parts.0) (key_bare k parts.1)

high : (key : ℕ) → 7 ≤ key → form_of key ≡ forms.Any
high key h =
    rw (ne_eqb key 0 (omega (arith, h)), ne_eqb key 1 (omega (arith, h)), ne_eqb key 2 (omega (arith, h)), ne_eqb key 3 (omega (arith, h)), ne_eqb key 4 (omega (arith, h)), ne_eqb key 5 (omega (arith, h)), ne_eqb key 6 (omega (arith, h)))
    refl

named : (key : ℕ) → ((named_key (key_text key) ≡ Some key) × (named_form key ≡ form_of key)) ⊎ (form_of key ≡ forms.Any)
named zero = inl (refl, refl)
named (suc zero) = inl (refl, refl)
named (suc (suc zero)) = inl (refl, refl)
named (suc (suc (suc zero))) = inl (refl, refl)
named (suc (suc (suc (suc zero)))) = inl (refl, refl)
named (suc (suc (suc (suc (suc zero))))) = inl (refl, refl)
named (suc (suc (suc (suc (suc (suc zero)))))) = inl (refl, refl)
named (suc (suc (suc (suc (suc (suc (suc key))))))) = inr (high (suc (suc (suc (suc (suc (suc (suc key))))))) (omega arith))

key_is : (key : ℕ) → key ≤ 65535 → IsKey (key_text key) key
key_is key few = elim (named key) [
  | inl is ↦ inl is.0
  | inr any ↦ inr (few, rw any refl)
]

key_back : (own : List ℕ) → IsOctets own → length own ≡ 2 → 1 ≤ from_be_bytes w16 own → ItemBack Keys own
key_back [] h two least = absurd (omega (arith, two))
key_back (a ∷ []) h two least = absurd (omega (arith, two))
key_back (a ∷ b ∷ c ∷ own) h two least = absurd (omega (arith, two))
key_back (a ∷ b ∷ []) h two least =
    let own = a ∷ b ∷ [] in
    let key = from_be_bytes w16 own in
    let few : key ≤ 65535 = omega (arith, h 0, h 1) in
    let k = key_text key in
    let bare = key_bare k (name_key (form_of key) key (omega (arith, few))) in
    (k, sym (bare_item k bare), (key, bare_utf8 k bare, key_is key few, least, sym (be_bytes_2 own key refl h refl)), bare_open k bare)

digit_bare : (c : ℕ) → IsDigitOrDot c → is_bare c ≡ true
digit_bare c (inl h) = grind arith
digit_bare c (inr h) = grind arith

hex_bare : (c : ℕ) → IsHexOrColon c → is_bare c ≡ true
hex_bare c (inl h) = grind arith
hex_bare c (inr h) = grind arith

dotted_bare : (t : List ℕ) → All IsDigitOrDot t → all_bare t ≡ true
dotted_bare [] h = refl
dotted_bare (c ∷ t) h = rw (digit_bare c (h 0 0 (omega arith))) (dotted_bare t (λ i d within. h (suc i) d (omega (arith, within))))

groups_bare : (t : List ℕ) → All IsHexOrColon t → all_bare t ≡ true
groups_bare [] h = refl
groups_bare (c ∷ t) h = rw (hex_bare c (h 0 0 (omega arith))) (groups_bare t (λ i d within. h (suc i) d (omega (arith, within))))

ipv4_back : (own : List ℕ) → IsOctets own → length own ≡ 4 → ItemBack Ipv4 own
ipv4_back own h four =
    let a : Ipv4Addr = record { octets = own } in
    let t = ipv4_text own in
    let bare = dotted_bare t (All-ipv4_text own h) in
    (t, sym (bare_item t bare), (a, bare_utf8 t bare, IsDotted-ipv4_text own four h, refl), bare_open t bare)

pub octets_fit : (xs : List ℕ) → AllSegments xs → IsOctets (octets_of xs)
octets_fit [] h i = omega arith
octets_fit (x ∷ xs) h zero = omega (arith, h 0)
octets_fit (x ∷ xs) h (suc zero) = omega arith
octets_fit (x ∷ xs) h (suc (suc i)) = octets_fit xs (λ j. h (suc j)) i

pub ipv6_bare : (xs : List ℕ) → AllSegments xs → all_bare (ipv6_text xs) ≡ true
unfolding ipv6_text
ipv6_bare xs fits =
    let o = octets_of (drop 6 xs) in
    cond_both (bytes_eq (take 6 xs) (0 ∷ 0 ∷ 0 ∷ 0 ∷ 0 ∷ 0xffff ∷ [])) (codes "::ffff:" ++ ipv4_text o) (hex_groups_text xs) (λ t. all_bare t ≡ true)
    (λ _. dotted_bare (ipv4_text o) (All-ipv4_text o (octets_fit (drop 6 xs) (AllSegments-drop 6 xs fits)))) (λ _. groups_bare (hex_groups_text xs) (All-hex_groups_text xs fits))

pub segments_fit : (own : List ℕ) → IsOctets own → AllSegments (segments_of own)
segments_fit [] h i = omega arith
segments_fit (a ∷ []) h i = omega arith
segments_fit (a ∷ b ∷ own) h zero = omega (arith, h 0, h 1)
segments_fit (a ∷ b ∷ own) h (suc i) = segments_fit own (λ j. h (suc (suc j))) i

pub halves : (own : List ℕ) (n : ℕ) → IsOctets own → length own ≡ n + n → (length (segments_of own) ≡ n) × (own ≡ octets_of (segments_of own))
halves [] n h e = (omega (arith, e), refl)
halves (a ∷ []) n h e = absurd (omega (arith, e))
halves (a ∷ b ∷ own) zero h e = absurd (omega (arith, e))
halves (a ∷ b ∷ own) (suc n) h e =
    let (size, same) = halves own n (λ i. h (suc (suc i))) (omega (arith, e)) in
    let high : (a * 256 + b) / 256 ≡ a = omega (arith, h 1) in
    let low : (a * 256 + b) % 256 ≡ b = omega (arith, h 1) in
    (omega (arith, size), rw (high, low) (ap (λ (xs : List ℕ). a ∷ b ∷ xs) same))

ipv6_back : (own : List ℕ) → IsOctets own → length own ≡ 16 → ItemBack Ipv6 own
ipv6_back own h sixteen =
    let segments = segments_of own in
    let a : Ipv6Addr = record { segments = segments } in
    let (eight, same) = halves own 8 h sixteen in
    let fits = segments_fit own h in
    let t = ipv6_text segments in
    let bare = ipv6_bare segments fits in
    (t, sym (bare_item t bare), (a, bare_utf8 t bare, IsColonHex-ipv6_text segments eight fits, same), bare_open t bare)

-- ---- the items of octets

-- keys ascend, and none is 0
abbrev Ascends : ListValue → List ℕ → Type 0
Ascends Keys octets = (least : ℕ) × (1 ≤ least) × (is_ascending least octets ≡ true)
Ascends list octets = Unit {0}

at_most : (a b : ℕ) → nat_le a b ≡ true → a ≤ b
at_most a b h = grind arith

pub take_fit : (n : ℕ) (xs : List ℕ) → IsOctets xs → IsOctets (take n xs)
take_fit zero xs h i = omega arith
take_fit (suc n) [] h i = omega arith
take_fit (suc n) (x ∷ xs) h zero = h 0
take_fit (suc n) (x ∷ xs) h (suc i) = take_fit n xs (λ j. h (suc j)) i

pub drop_fit : (n : ℕ) (xs : List ℕ) → IsOctets xs → IsOctets (drop n xs)
drop_fit zero xs h = h
drop_fit (suc n) [] h = h
drop_fit (suc n) (x ∷ xs) h = drop_fit n xs (λ j. h (suc j))

head_taken : (n x : ℕ) (xs : List ℕ) → 1 ≤ n → slice_index (take n (x ∷ xs)) 0 ≡ x
head_taken zero x xs some = absurd (omega (arith, some))
head_taken (suc n) x xs some = refl

first_item : (list : ListValue) (all : List ℕ) → IsOctets all → octets_of_item list all ≤ length all → 2 ≤ octets_of_item list all → Ascends list all
    → ItemBack list (take (octets_of_item list all) all) × Ascends list (drop (octets_of_item list all) all)
first_item Keys [] h fits some keys = absurd (omega (arith, fits))
first_item Keys (a ∷ []) h fits some keys = absurd (omega (arith, fits))
first_item Keys (a ∷ b ∷ all) h fits some (least, low, ascend) =
    let key = from_be_bytes w16 (a ∷ b ∷ []) in
    let parts = and_parts (nat_le least key) (is_ascending (key + 1) all) ascend in
    let up : least ≤ key = at_most least key parts.0 in
    (key_back (a ∷ b ∷ []) (take_fit 2 (a ∷ b ∷ all) h) refl (omega (arith, low, up)), (key + 1, omega arith, parts.1))
first_item Protocols [] h fits some keys = absurd (omega (arith, fits, some))
first_item Protocols (x ∷ all) h fits some keys =
    let own = take (1 + x) (x ∷ all) in
    let size : length own ≡ 1 + x = length-take-le (1 + x) (x ∷ all) fits in
    (protocol_back own (take_fit (1 + x) (x ∷ all) h) (omega (arith, size, head_taken (1 + x) x all (omega arith))) (omega (arith, size, some)), tt)
first_item Ipv4 all h fits some keys = (ipv4_back (take 4 all) (take_fit 4 all h) (length-take-le 4 all fits), tt)
first_item Ipv6 all h fits some keys = (ipv6_back (take 16 all) (take_fit 16 all h) (length-take-le 16 all fits), tt)

pub map_some : (f : List ℕ → List ℕ) (x : Option (List ℕ)) (t : List ℕ) → option_map f x ≡ Some t → (y : List ℕ) × (x ≡ Some y) × (t ≡ f y)
map_some f None t e = absurd cc
map_some f (Some y) t e = (y, refl, cc)

fine_append : (list : ListValue) (a b : List ℕ) → list_all (is_fine list) a ≡ true → list_all (is_fine list) b ≡ true → list_all (is_fine list) (a ++ b) ≡ true
fine_append list [] b h k = k
fine_append list (c ∷ a) b h k = let parts = and_parts (is_fine list c) (list_all (is_fine list) a) h in rw (parts.0) (fine_append list a b parts.1 k)

comma_fine : (list : ListValue) → is_fine list 44 ≡ true
comma_fine Keys = refl
comma_fine Protocols = refl
comma_fine Ipv4 = refl
comma_fine Ipv6 = refl

-- the text is the items of the octets
abbrev IsTextOf : ListValue → List ℕ → List ℕ → Type 0
IsTextOf list octets t = IsListText list t octets × (list_all (is_fine list) t ≡ true)

-- nothing, or a comma and the items
abbrev Listed : ListValue → List ℕ → List ℕ → Type 0
Listed list octets t = ((octets ≡ []) × (t ≡ [])) ⊎ ((rest : List ℕ) × (t ≡ 44 ∷ rest) × IsTextOf list octets rest)

one_item_more : (list : ListValue) (all own rest others t : List ℕ) → all ≡ own ++ rest → ItemBack list own → t ≡ 44 ∷ text_of_item list own ++ others → Listed list rest others → Listed list all t
one_item_more list all own rest others t whole (item, print, is, fine) e (inl (none, end)) =
    let all_of : items_of (text_of_item list own ++ others) ≡ Some (item ∷ []) = rw (print, end) (item_read item [] []) in
    inr (text_of_item list own ++ others, e, ((item ∷ [], all_of, (own, rest, is, none, whole)), fine_append list (text_of_item list own) others fine (rw end refl)))
one_item_more list all own rest others t whole (item, print, is, fine) e (inr (r, more, ((items, so_far, are), fine_r))) =
    let all_of : items_of (text_of_item list own ++ others) ≡ Some (item ∷ items) = rw (print, more) (item_read item [] (44 ∷ r) ∙ ap (option_map (λ (xs : List (List ℕ)). item ∷ xs)) so_far) in
    inr (text_of_item list own ++ others, e, ((item ∷ items, all_of, (own, rest, is, are, whole)), fine_append list (text_of_item list own) others fine (rw (more, comma_fine list) fine_r)))

items_back : (n : ℕ) (list : ListValue) (octets t : List ℕ) → IsOctets octets → Ascends list octets → items_within n list octets ≡ Some t → Listed list octets t
items_back n list [] t h keys e = inl (refl, cc)
items_back zero list (o ∷ octets) t h keys e = absurd cc
items_back (suc n) list (o ∷ octets) t h keys e = elim (cases_Bool (is_item list (o ∷ octets))) [
  | inl is ↦
      let all = o ∷ octets in
      let size = octets_of_item list all in
      let parts = and_parts (nat_le size (length all)) (nat_le 2 size) is in
      let fits = at_most size (length all) parts.0 in
      let some = at_most 2 size parts.1 in
      let (first, others_ascend) = first_item list all h fits some keys in
      let (others, e2, e3) = map_some (λ others. 44 ∷ text_of_item list (take size all) ++ others) (items_within n list (drop size all)) t (rw is at e) in
      one_item_more list all (take size all) (drop size all) others t (sym (take-append-drop size all)) first e3
      (items_back n list (drop size all) others (drop_fit size all h) others_ascend e2)
  | inr other ↦ let no = rw other at e in absurd cc
]

tail_of : (c d : ℕ) (t u : List ℕ) → c ∷ t ≡ d ∷ u → u ≡ t
tail_of c d t u e = cc

without_comma : (x : Option (List ℕ)) (t : List ℕ) → after_comma x ≡ Some t → (c : ℕ) × (x ≡ Some (c ∷ t))
without_comma None t e = absurd cc
without_comma (Some []) t e = absurd cc
without_comma (Some (c ∷ u)) t e = (c, cc)

list_back : (list : ListValue) (octets t : List ℕ) → IsOctets octets → Ascends list octets → list_text list octets ≡ Some t → IsTextOf list octets t
list_back list octets t h keys e =
    let (c, whole) = without_comma (items_within (length octets) list octets) t e in
    elim (items_back (length octets) list octets (c ∷ t) h keys whole) [
      | inl none ↦ let no : c ∷ t ≡ [] = none.1 in absurd cc
      | inr some ↦ let same : some.0 ≡ t = tail_of c 44 t some.0 some.1 in subst (λ (r : List ℕ). IsTextOf list octets r) same some.2
    ]

-- ---- keys in order

pub below_more : (m n : ℕ) (p : ParamValue) (done : List ParamValue) → AreBelow m done → m ≤ n → p.key < n → AreBelow n (done ++ p ∷ [])
below_more m n p [] h le lt = (lt, tt)
below_more m n p (q ∷ done) h le lt = (omega (arith, h.0, le), below_more m n p done h.1 le lt)

pub below_weaker : (m n : ℕ) (done : List ParamValue) → AreBelow m done → m ≤ n → AreBelow n done
below_weaker m n [] h le = tt
below_weaker m n (q ∷ done) h le = (omega (arith, h.0, le), below_weaker m n done h.1 le)

keys_sorted : (octets : List ℕ) (least : ℕ) (done : List ParamValue) → is_ascending least octets ≡ true → AreBelow least done
    → in_key_order done (keys_of octets) ≡ Some (done ++ keys_of octets)
keys_sorted [] least done h below = ap Some (sym (append-nil done))
keys_sorted (a ∷ []) least done h below = absurd cc
keys_sorted (a ∷ b ∷ octets) least done h below =
    let key = from_be_bytes w16 (a ∷ b ∷ []) in
    let p : ParamValue = record { key = key; octets = [] } in
    let parts = and_parts (nat_le least key) (is_ascending (key + 1) octets) h in
    let up = at_most least key parts.0 in
    rw (with_last p done (below_weaker least key done below up))
    (keys_sorted octets (key + 1) (done ++ p ∷ []) parts.1 (below_more least (key + 1) p done below (omega (arith, up)) (omega arith))
    ∙ ap Some (append_assoc done (p ∷ []) (keys_of octets)))

keys_wire_lem : (octets : List ℕ) (least : ℕ) → IsOctets octets → is_ascending least octets ≡ true → octets ≡ keys_wire (keys_of octets)
keys_wire_lem [] least h ascend = refl
keys_wire_lem (a ∷ []) least h ascend = absurd cc
keys_wire_lem (a ∷ b ∷ octets) least h ascend =
    let own = a ∷ b ∷ [] in
    let key = from_be_bytes w16 own in
    let parts = and_parts (nat_le least key) (is_ascending (key + 1) octets) ascend in
    let two : to_be_bytes w16 key ≡ own = be_bytes_2 own key refl (take_fit 2 (a ∷ b ∷ octets) h) refl in
    ap (λ (xs : List ℕ). a ∷ b ∷ xs) (keys_wire_lem octets (key + 1) (λ i. h (suc (suc i))) parts.1) ∙ ap (λ (xs : List ℕ). xs ++ keys_wire (keys_of octets)) (sym two)

-- ---- values in the form of their keys

abbrev all_symbols : ℕ → Bool
all_symbols zero = true
all_symbols (suc n) = is_open (get_or standard.encode_table n 0) && all_symbols n

symbol_at : (n k : ℕ) → all_symbols n ≡ true → k < n → is_open (get_or standard.encode_table k 0) ≡ true
symbol_at zero k h lt = absurd (omega (arith, lt))
symbol_at (suc n) k h lt =
    let parts = and_parts (is_open (get_or standard.encode_table n 0)) (all_symbols n) h in
    elim (cases_lt k n) [
      | inl below ↦ symbol_at n k parts.1 below
      | inr top ↦ let e : k ≡ n = omega (arith, top, lt) in rw e parts.0
    ]

symbol : (k : ℕ) → k < 64 → is_open (get_or standard.encode_table k 0) ≡ true
symbol k h = symbol_at 64 k refl h

symbols_open : (own : List ℕ) → IsOctets own → all_open (encode_symbols standard.encode_table own) ≡ true
unfolding encode_symbols
symbols_open [] h = refl
symbols_open (a ∷ []) h = rw (symbol (a / 4) (omega (arith, h 0)), symbol (a % 4 * 16) (omega arith)) refl
symbols_open (a ∷ b ∷ []) h =
    rw (symbol (a / 4) (omega (arith, h 0)), symbol (a % 4 * 16 + b / 16) (omega (arith, h 1)), symbol (b % 16 * 4) (omega arith)) refl
symbols_open (a ∷ b ∷ c ∷ own) h =
    rw (symbol (a / 4) (omega (arith, h 0)), symbol (a % 4 * 16 + b / 16) (omega (arith, h 1)), symbol (b % 16 * 4 + c / 64) (omega (arith, h 2)), symbol (c % 64) (omega arith))
    (symbols_open own (λ i. h (suc (suc (suc i)))))

padding_open : (k : ℕ) → all_open (replicate k 61) ≡ true
padding_open zero = refl
padding_open (suc k) = padding_open k

open_append : (a b : List ℕ) → all_open a ≡ true → all_open b ≡ true → all_open (a ++ b) ≡ true
open_append [] b h k = k
open_append (c ∷ a) b h k = let parts = and_parts (is_open c) (all_open a) h in rw (parts.0) (open_append a b parts.1 k)

pub base64_open : (own : List ℕ) → IsOctets own → all_open (base64_text own) ≡ true
base64_open own h = open_append (encode_symbols standard.encode_table own) _ (symbols_open own h) (padding_open (padding_len (length own)))

-- characters of the text of a value of a form
abbrev fine_of : Form → ℕ → Bool
fine_of forms.Protocols c = nat_lt c 256
fine_of form c = is_open c

-- what a text says of the octets of a form
abbrev IsValueBack : Form → List ℕ → List ℕ → Type 0
IsValueBack form octets t = IsOwnValue form t octets × (list_all (fine_of form) t ≡ true)

open_below : (c : ℕ) → is_open c ≡ true → c < 128
open_below c h = grind arith

open_ascii : (t : List ℕ) → all_open t ≡ true → IsAscii t
open_ascii [] h = IsAscii-nil
open_ascii (c ∷ t) h = let parts = and_parts (is_open c) (all_open t) h in IsAscii-cons c t (open_below c parts.0) (open_ascii t parts.1)

open_utf8 : (t : List ℕ) → all_open t ≡ true → IsUtf8 t
open_utf8 t h = IsUtf8-from_ascii t (open_ascii t h)

pub base64_some : (o : ℕ) (own : List ℕ) → 1 ≤ length (base64_text (o ∷ own))
unfolding encode_symbols
base64_some o [] = omega arith
base64_some o (a ∷ []) = omega arith
base64_some o (a ∷ b ∷ own) = omega arith

own_back : (form : Form) (octets t : List ℕ) → IsOctets octets → own_text form octets ≡ Some t → IsValueBack form octets t
own_back forms.Mandatory octets t h e = elim (cases_Bool (is_ascending 1 octets)) [
  | inl ascend ↦
      let list = list_back Keys octets t h (1, omega arith, ascend) (rw ascend at e) in
      ((octets, keys_of octets, list.0, keys_sorted octets 1 [] ascend tt, keys_wire_lem octets 1 h ascend), list.1)
  | inr other ↦ let no = rw other at e in absurd cc
]
own_back forms.Protocols octets t h e = list_back Protocols octets t h tt e
own_back forms.Nothing [] t h e = let none : [] ≡ t = cc in ((sym none, refl), rw (← none) refl)
own_back forms.Nothing (o ∷ octets) t h e = let no = rw (ne_eqb (length (o ∷ octets)) 0 (omega arith)) at e in absurd cc
own_back forms.Port [] t h e = absurd cc
own_back forms.Port (a ∷ []) t h e = absurd cc
own_back forms.Port (a ∷ b ∷ c ∷ octets) t h e = let no = rw (ne_eqb (length (a ∷ b ∷ c ∷ octets)) 2 (omega arith)) at e in absurd cc
own_back forms.Port (a ∷ b ∷ []) t h e =
    let own = a ∷ b ∷ [] in
    let n = from_be_bytes w16 own in
    let few : n ≤ 65535 = omega (arith, h 0, h 1) in
    let same : decimal n ≡ t = cc in
    let shape = bare_open (decimal n) (key_bare (decimal n) (decimal_key n (omega (arith, few)))) in
    let is : IsValueBack forms.Port own (decimal n) = ((n, open_utf8 (decimal n) shape, (numbers max_u16 (omega arith) n few).0, sym (be_bytes_2 own n refl h refl)), shape) in
    subst (λ (x : List ℕ). IsValueBack forms.Port own x) same is
own_back forms.Ipv4 octets t h e = list_back Ipv4 octets t h tt e
own_back forms.Ech [] t h e = absurd cc
own_back forms.Ech (o ∷ octets) t h e =
    let some = rw (ne_eqb (length (o ∷ octets)) 0 (omega arith)) at e in
    let same : base64_text (o ∷ octets) ≡ t = cc in
    let shape = base64_open (o ∷ octets) h in
    let is : IsValueBack forms.Ech (o ∷ octets) (base64_text (o ∷ octets)) = ((open_utf8 (base64_text (o ∷ octets)) shape, base64_some o octets, (h, refl)), shape) in
    subst (λ (x : List ℕ). IsValueBack forms.Ech (o ∷ octets) x) same is
own_back forms.Ipv6 octets t h e = list_back Ipv6 octets t h tt e
own_back forms.Template octets t h e = absurd cc
own_back forms.Any octets t h e = absurd cc

-- ---- parameters

below_octet : (c : ℕ) → nat_lt c 256 ≡ true → c < 256
below_octet c h = grind arith

fine_octets : (t : List ℕ) → list_all (is_fine Protocols) t ≡ true → IsOctets t
fine_octets [] h i = omega arith
fine_octets (c ∷ t) h zero = below_octet c (and_parts (nat_lt c 256) (list_all (is_fine Protocols) t) h).0
fine_octets (c ∷ t) h (suc i) = fine_octets t (and_parts (nat_lt c 256) (list_all (is_fine Protocols) t) h).1 i

key_ascii : (k : List ℕ) → all_key k ≡ true → IsAscii k
key_ascii [] h = IsAscii-nil
key_ascii (c ∷ k) h = let parts = and_parts (is_key c) (all_key k) h in IsAscii-cons c k (bare_below c (bare_of c parts.0)) (key_ascii k parts.1)

text_some : (form : Form) (t own : List ℕ) → (form ≡ forms.Nothing → ⊥) → IsOwnValue form t own → 1 ≤ length t
text_some form [] own other is = absurd (value_some form own other is)
text_some form (c ∷ t) own other is = omega arith

-- characters that are no white space, quotes, parentheses, semicolons or backslashes; after them nothing, or octets in quotes, if
-- they are a key and a `=`
abbrev pub IsShaped : List ℕ → Type 0
IsShaped w =
    (front : List ℕ) × (back : List ℕ) × (w ≡ front ++ back) × (all_open front ≡ true)
    × ((back ≡ []) ⊎ ((own : List ℕ) × (key : List ℕ) × IsOctets own × (back ≡ string_text own) × (front ≡ key ++ 61 ∷ []) × (all_key key ≡ true)))

any_shaped : (own : List ℕ) → IsOctets own → IsShaped (any_part own)
any_shaped [] h = ([], [], refl, refl, inl refl)
any_shaped (o ∷ own) h = (61 ∷ [], string_text (o ∷ own), refl, refl, inr (o ∷ own, [], h, refl, refl, refl))

shaped_after : (k part : List ℕ) → all_key k ≡ true → IsShaped part → IsShaped (k ++ part)
shaped_after k part key (front, back, e, shape, inl none) =
    (k ++ front, back, ap (λ (xs : List ℕ). k ++ xs) e ∙ sym (append_assoc k front back), open_append k front (bare_open k (key_bare k key)) shape, inl none)
shaped_after k part key (front, back, e, shape, inr (own, name, fit, is, begins, are)) = (
  k ++ front,
  back,
  ap (λ (xs : List ℕ). k ++ xs) e ∙ sym (append_assoc k front back),
  open_append k front (bare_open k (key_bare k key)) shape,
  inr (own, k ++ name, fit, is, ap (λ (xs : List ℕ). k ++ xs) begins ∙ sym (append_assoc k name (61 ∷ [])), key_append k name key are),
)

-- the text is this key, and the value writes these
abbrev IsWritten : List ℕ → List ℕ → List ℕ → Type 0
IsWritten k part t = ((key_part (k ++ part) ≡ k) × IsValueText (value_part (k ++ part)) t) × IsShaped part

open_written : (k t : List ℕ) → all_key k ≡ true → all_open t ≡ true → 1 ≤ length t → length t ≤ 65535 → IsWritten k (61 ∷ t) t
open_written k t key shape some few =
    (open_value k t key shape some few, (61 ∷ t, [], sym (append-nil (61 ∷ t)), shape, inl refl))

any_written : (k own : List ℕ) → all_key k ≡ true → IsText own → IsWritten k (any_part own) own
any_written k own key is = (any_value k own key is, any_shaped own is.0)

form_written : (form : Form) (k t own : List ℕ) → all_key k ≡ true → IsOwnValue form t own → list_all (fine_of form) t ≡ true → length t ≤ 65535 → IsWritten k (own_part form t) t
form_written forms.Mandatory k t own key is fine few = open_written k t key fine (text_some forms.Mandatory t own (λ e. cc) is) few
form_written forms.Protocols k t own key is fine few = any_written k t key (fine_octets t fine, few)
form_written forms.Nothing k t own key is fine few = let none = is.0 in rw none (any_written k [] key ((λ i. omega arith), omega arith))
form_written forms.Port k t own key is fine few = open_written k t key fine (text_some forms.Port t own (λ e. cc) is) few
form_written forms.Ipv4 k t own key is fine few = open_written k t key fine (text_some forms.Ipv4 t own (λ e. cc) is) few
form_written forms.Ech k t own key is fine few = open_written k t key fine (text_some forms.Ech t own (λ e. cc) is) few
form_written forms.Ipv6 k t own key is fine few = open_written k t key fine (text_some forms.Ipv6 t own (λ e. cc) is) few
form_written forms.Template k t own key is fine few = open_written k t key fine (text_some forms.Template t own (λ e. cc) is) few
form_written forms.Any k t own key is fine few = absurd is

-- a text is a parameter, and has this shape
abbrev IsShapedParam : List ℕ → ParamValue → Type 0
IsShapedParam w p = IsParam w p × IsShaped w

-- a word of a key and a value is a parameter
word_is : (k part value : List ℕ) (p : ParamValue) → all_key k ≡ true → IsWritten k part value → IsParamOf k value p → IsShapedParam (k ++ part) p
word_is k part value p key written is = (
  (value, subst IsUtf8 (sym written.0.0) (IsUtf8-from_ascii k (key_ascii k key)), written.0.1, subst (λ (w : List ℕ). IsParamOf w value p) (sym written.0.0) is),
  shaped_after k part key written.1,
)

generic_back : (p : ParamValue) → IsParamValue p → IsShapedParam (generic_key p.key ++ any_part p.octets) p
generic_back p is =
    let key = name_key forms.Any p.key (omega (arith, is.0)) in
    word_is (generic_key p.key) (any_part p.octets) p.octets p key (any_written (generic_key p.key) p.octets key (is.1, is.2)) (inr ((is.0, refl), refl))

named_back : (p : ParamValue) (t : List ℕ) → IsParamValue p → own_text (form_of p.key) p.octets ≡ Some t → length t ≤ 65535 → IsShapedParam (key_text p.key ++ own_part (form_of p.key) t) p
named_back p t is e few = elim (named p.key) [
  | inl name ↦
      let form = form_of p.key in
      let key = name_key form p.key (omega (arith, is.0)) in
      let back = own_back form p.octets t is.1 e in
      word_is (key_text p.key) (own_part form t) t p key (form_written form (key_text p.key) t p.octets key back.0 back.1 few) (inl (name.0, subst (λ f. IsOwnValue f t p.octets) (sym name.1) back.0, is.2))
  | inr any ↦ let no = rw any at e in absurd cc
]

part_back : (p : ParamValue) (x : Option (List ℕ)) → IsParamValue p → own_text (form_of p.key) p.octets ≡ x → IsShapedParam (part_of p.key p.octets x) p
part_back p None is e = generic_back p is
part_back p (Some t) is e = elim (cases_Bool (nat_le (length t) 65535)) [
  | inl few ↦
      let whole : part_of p.key p.octets (Some t) ≡ key_text p.key ++ own_part (form_of p.key) t = rw few refl in
      subst (λ (w : List ℕ). IsShapedParam w p) (sym whole) (named_back p t is e (at_most (length t) 65535 few))
  | inr many ↦
      let whole : part_of p.key p.octets (Some t) ≡ generic_key p.key ++ any_part p.octets = rw many refl in
      subst (λ (w : List ℕ). IsShapedParam w p) (sym whole) (generic_back p is)
]

pub params : ParamsComeBack
params p is =
    let back = (part_back p (own_text (form_of p.key) p.octets) is refl).0 in
    (back, λ other also. one_word (param_text p.key p.octets) other p also back)

pub param_shaped : (p : ParamValue) → IsParamValue p → IsShaped (param_text p.key p.octets)
param_shaped p is = (part_back p (own_text (form_of p.key) p.octets) is refl).1
