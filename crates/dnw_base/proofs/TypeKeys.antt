-- Names of types are found by their keys.
use Rattle.std.proofs.Common.{rules, add-one, ◌≡◌, ℕ, zero, suc, ◌+◌, ◌-◌, ◌*◌, ◌<◌, ◌≤◌, ◌==◌, ◌&&◌, Bool, true, false, nat_lt, nat_le, List, [], ◌∷◌, length, find, Option, Some, None, option_map, slice_index, refl, sym, ap, ◌∙◌, arith}
use Rattle.std.specs.Char.{to_ascii_lowercase}
use Rattle.std.specs.List.{list_all}
use Rattle.std.specs.Option.{option_or}
use Rattle.std.specs.Bool.{Decides}
use Rattle.std.specs.Str.{bytes_eq, str_to_ascii_lowercase, str_eq_ignore_ascii_case}
use Rattle.std.proofs.lemmas.Bool.{lt-ltb, ltb-true, leb-true, and_parts}
use Rattle.std.proofs.lemmas.Bool.Decides.{Decides-eqb, Decides-like, same_from_decides}
use Rattle.std.proofs.lemmas.Slice.Eq.{bytes_eq-Decides}
use Rattle.std.proofs.lemmas.Str.Ascii.{lowercase_is}
use Rattle.std.proofs.lemmas.List.{length-map}
use Rattle.dnw_base.specs.declared.record_type.RecordType.{RecordType}
use Rattle.dnw_base.specs.declared.record_type.RecordType.TheVariants.{Unknown}
use Rattle.dnw_base.specs.Entries.{Entry}
use Rattle.dnw_base.specs.RecordTypes.{is_registered, named_types, registered_type, type_name}
use Rattle.dnw_base.specs.TypeNames.{further_code, further_names}
use Rattle.dnw_base.specs.Inside.TypeKeys.{letters_after, name_key, named_by_key, further_by_key}

-- ---- letters as a number

-- less than 256, so many times
abbrev pub bound : ℕ → ℕ
bound zero = 1
bound (suc n) = 256 * bound n

pub bound_fits : (n : ℕ) → n ≤ 10 → bound n ≤ 1208925819614629174706176
bound_fits zero h = omega arith
bound_fits (suc zero) h = omega arith
bound_fits (suc (suc zero)) h = omega arith
bound_fits (suc (suc (suc zero))) h = omega arith
bound_fits (suc (suc (suc (suc zero)))) h = omega arith
bound_fits (suc (suc (suc (suc (suc zero))))) h = omega arith
bound_fits (suc (suc (suc (suc (suc (suc zero)))))) h = omega arith
bound_fits (suc (suc (suc (suc (suc (suc (suc zero))))))) h = omega arith
bound_fits (suc (suc (suc (suc (suc (suc (suc (suc zero)))))))) h = omega arith
bound_fits (suc (suc (suc (suc (suc (suc (suc (suc (suc zero))))))))) h = omega arith
bound_fits (suc (suc (suc (suc (suc (suc (suc (suc (suc (suc zero)))))))))) h = omega arith
bound_fits (suc (suc (suc (suc (suc (suc (suc (suc (suc (suc (suc n))))))))))) h = absurd (omega (arith, h))

lower_octet : (c : ℕ) → c < 256 → to_ascii_lowercase c < 256
lower_octet c h = search (rules, lowercase_is c, h)

pub more_letters : (i n c : ℕ) → n < bound i → c < 256 → 256 * n + to_ascii_lowercase c < bound (i + 1)
more_letters i n c h small =
    let more : bound (i + 1) ≡ 256 * bound i = ap bound (add-one i) in
    omega (arith, h, lower_octet c small, more)

abbrev are_octets : List ℕ → Bool
are_octets [] = true
are_octets (c ∷ cs) = nat_lt c 256 && are_octets cs

octets_of : (xs : List ℕ) → ((i : ℕ) → slice_index xs i < 256) → are_octets xs ≡ true
octets_of [] h = refl
octets_of (c ∷ cs) h = rw (lt-ltb c 256 (h 0)) (octets_of cs (λ i. h (suc i)))

same_letters : (n m : ℕ) (xs ys : List ℕ) → are_octets xs ≡ true → are_octets ys ≡ true → length xs ≡ length ys → letters_after n xs ≡ letters_after m ys
    → (n ≡ m) × (str_to_ascii_lowercase xs ≡ str_to_ascii_lowercase ys)
same_letters n m [] [] all others long h = (h, refl)
same_letters n m [] (y ∷ ys) all others long h = absurd (omega (arith, long))
same_letters n m (x ∷ xs) [] all others long h = absurd (omega (arith, long))
same_letters n m (x ∷ xs) (y ∷ ys) all others long h =
    let a = to_ascii_lowercase x in
    let b = to_ascii_lowercase y in
    let one = and_parts (nat_lt x 256) (are_octets xs) all in
    let two = and_parts (nat_lt y 256) (are_octets ys) others in
    let rest = same_letters (256 * n + a) (256 * m + b) xs ys one.1 two.1 (omega (arith, long)) h in
    let low : a < 256 = lower_octet x (ltb-true x 256 one.0) in
    let low_too : b < 256 = lower_octet y (ltb-true y 256 two.0) in
    let first : a ≡ b = omega (arith, rest.0, low, low_too) in
    (omega (arith, rest.0, low, low_too), ap (λ (c : ℕ). c ∷ str_to_ascii_lowercase xs) first ∙ ap (λ (cs : List ℕ). b ∷ cs) rest.1)

abbrev lower_after : ℕ → List ℕ → ℕ
lower_after n [] = n
lower_after n (c ∷ cs) = lower_after (256 * n + c) cs

by_lower : (n : ℕ) (xs : List ℕ) → letters_after n xs ≡ lower_after n (str_to_ascii_lowercase xs)
by_lower n [] = refl
by_lower n (c ∷ cs) = by_lower (256 * n + to_ascii_lowercase c) cs

-- ---- keys

abbrev fits : List ℕ → Bool
fits name = nat_le (length name) 10 && are_octets name

lengths : (xs : List ℕ) → length (str_to_ascii_lowercase xs) ≡ length xs
lengths xs = length-map xs to_ascii_lowercase

key_alike : (text : List ℕ) → are_octets text ≡ true → length text ≤ 10 → (name : List ℕ) → fits name ≡ true
    → (name_key name == name_key text) ≡ str_eq_ignore_ascii_case name text
key_alike text all short name good =
    let lower = bytes_eq-Decides (str_to_ascii_lowercase name) (str_to_ascii_lowercase text) in
    let keys = Decides-eqb (name_key name) (name_key text) in
    let own = and_parts (nat_le (length name) 10) (are_octets name) good in
    let small : length name ≤ 10 = leb-true (length name) 10 own.0 in
    let long : name_key name ≡ name_key text → length name ≡ length text = λ same. omega (arith, same, small, short) in
    same_from_decides _ _ keys (Decides-like (str_eq_ignore_ascii_case name text)
    (λ is.
    let long : length name ≡ length text = sym (lengths name) ∙ ap length is ∙ lengths text in
    let letters : letters_after 0 name ≡ letters_after 0 text = by_lower 0 name ∙ ap (lower_after 0) is ∙ sym (by_lower 0 text) in
    omega (arith, long, letters))
    (λ same.
    let letters : letters_after 0 name ≡ letters_after 0 text = omega (arith, same, long same) in
    (same_letters 0 0 name text own.1 all (long same) letters).1)
    lower)

long_apart : (text : List ℕ) → 10 < length text → (name : List ℕ) → fits name ≡ true → str_eq_ignore_ascii_case name text ≡ false
long_apart text long name good = apart (str_eq_ignore_ascii_case name text) refl
  where
    apart : (b : Bool) → str_eq_ignore_ascii_case name text ≡ b → b ≡ false
    apart false h = refl
    apart true h =
        let e = (bytes_eq-Decides (str_to_ascii_lowercase name) (str_to_ascii_lowercase text)).0 h in
        let own = and_parts (nat_le (length name) 10) (are_octets name) good in
        absurd (omega (arith, long, leb-true (length name) 10 own.0, sym (lengths name) ∙ ap length e ∙ lengths text))

-- ---- the tables

find_alike : {X : Type 0} (p q good : X → Bool) (xs : List X) → list_all good xs ≡ true → ((x : X) → good x ≡ true → p x ≡ q x) → find p xs ≡ find q xs
find_alike p q good [] all same = refl
find_alike p q good (x ∷ xs) all same =
    let own = and_parts (good x) (list_all good xs) all in
    rw (same x own.0, find_alike p q good xs own.1 same) refl

find_none : {X : Type 0} (xs : List X) → find (λ (x : X). false) xs ≡ None
find_none [] = refl
find_none (x ∷ xs) = find_none xs

no_and : (b c : Bool) → c ≡ false → (b && c) ≡ false
no_and true c h = h
no_and false c h = refl

pub too_long : (text : List ℕ) → 10 < length text → registered_type text ≡ None
unfolding registered_type
too_long text long =
    let named = find_alike (λ (r : RecordType). is_registered r && str_eq_ignore_ascii_case (type_name r) text) (λ r. false) (λ r. fits (type_name r)) named_types refl
    (λ r good. no_and (is_registered r) _ (long_apart text long (type_name r) good)) in
    let further = find_alike (λ (e : Entry). str_eq_ignore_ascii_case e.name text) (λ e. false) (λ e. fits e.name) further_names refl
    (λ e good. long_apart text long e.name good) in
    rw (named ∙ find_none named_types, further ∙ find_none further_names) refl

pub found_by_key : (text : List ℕ) → ((i : ℕ) → slice_index text i < 256) → length text ≤ 10
    → option_or (named_by_key (name_key text)) (option_map Unknown (further_by_key (name_key text))) ≡ registered_type text
unfolding registered_type named_by_key further_by_key
found_by_key text octets short =
    let all = octets_of text octets in
    let named = find_alike (λ (r : RecordType). is_registered r && (name_key (type_name r) == name_key text))
    (λ r. is_registered r && str_eq_ignore_ascii_case (type_name r) text) (λ r. fits (type_name r)) named_types refl
    (λ r good. ap (λ (b : Bool). is_registered r && b) (key_alike text all short (type_name r) good)) in
    let further = find_alike (λ (e : Entry). name_key e.name == name_key text) (λ e. str_eq_ignore_ascii_case e.name text) (λ e. fits e.name) further_names refl
    (λ e good. key_alike text all short e.name good) in
    rw (named, further) refl
