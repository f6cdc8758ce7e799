-- The texts of types are short, and give the types again.
use Rattle.std.proofs.Common.{◌≡◌, ℕ, ◌<◌, ◌≤◌, ◌==◌, Bool, true, false, nat_le, if◌then◌else◌, List, [], ◌∷◌, length, map, drop, get_or, find, Option, Some, None, option_map, unwrap_or, refl, sym, ap, ◌∙◌, arith, codes}
use Rattle.std.proofs.lemmas.Bool.{leb-true, true≢false}
use Rattle.std.proofs.lemmas.Bool.Decides.{Decides-eqb}
use Rattle.std.proofs.lemmas.Option.{same_Some}
use Rattle.dnw_base.specs.declared.record_type.RecordType.{RecordType}
use Rattle.dnw_base.specs.declared.record_type.RecordType.TheVariants as rr
use Rattle.dnw_base.specs.CodeTexts.{numbered}
use Rattle.dnw_base.specs.Entries.{Entry}
use Rattle.dnw_base.specs.RecordTypes.{is_registered, registered_name, registered_type, type_code, type_name, type_of_code, type_text, type_of_text}
use Rattle.dnw_base.specs.TypeNames.{further_name, further_names}
use Rattle.dnw_base.proofs.Digits.{numbered_back}

-- a row of a code and a name, of which two functions say the same
pub record Row {Y : Type 0} (f g : Entry → Y) (code : ℕ) (name : List ℕ) : Type 0 where
  pub row : Entry
  pub of_code : row.code ≡ code
  pub of_name : row.name ≡ name
  pub same : f row ≡ g row

find_row : {Y : Type 0} (f g : Entry → Y) (code : ℕ) (name : List ℕ) (rows : List Entry) → map f rows ≡ map g rows
    → option_map (λ e. e.name) (find (λ e. e.code == code) rows) ≡ Some name → Row f g code name
find_row {Y = Y} f g code name [] same found = cc
find_row {Y = Y} f g code name (x ∷ xs) same found = by (x.code == code) refl (find_row f g code name xs (ap (λ (ys : List Y). drop 1 ys) same)) found
  where
    by : (t : Bool) → (x.code == code) ≡ t → (option_map (λ (e : Entry). e.name) (find (λ (e : Entry). e.code == code) xs) ≡ Some name → Row f g code name)
        → option_map (λ (e : Entry). e.name) (if t then Some x else find (λ (e : Entry). e.code == code) xs) ≡ Some name → Row f g code name
    by true is later here = record { row = x; of_code = (Decides-eqb x.code code).0 is; of_name = same_Some _ _ here; same = ap (λ (ys : List Y). get_or ys 0 (f x)) same }
    by false is later here = later here

-- what holds of each further name holds of one that is found
pub further_row : {Y : Type 0} (f g : Entry → Y) → map f further_names ≡ map g further_names → (code : ℕ) (name : List ℕ) → further_name code ≡ Some name → Row f g code name
unfolding further_name
further_row f g same code name found = find_row f g code name further_names same found

type_names_fit : (record_type : RecordType) → length (type_name record_type) ≤ 10
type_names_fit (rr.Unknown code) = omega arith
type_names_fit record_type = omega arith

pub names_fit : (record_type : RecordType) (name : List ℕ) → Some name ≡ registered_name record_type → length name ≤ 10
names_fit record_type name found = by (is_registered record_type) found
  where
    by : (t : Bool) → Some name ≡ (if t then Some (type_name record_type) else further_name (type_code record_type)) → length name ≤ 10
    by true here = omega (arith, ap length (same_Some _ _ here), type_names_fit record_type)
    by false here =
        let e = further_row (λ e. nat_le (length e.name) 10) (λ e. true) refl (type_code record_type) name (sym here) in
        leb-true (length name) 10 (ap (λ (xs : List ℕ). nat_le (length xs) 10) (sym e.of_name) ∙ e.same)

name_back : (record_type : RecordType) → is_registered record_type ≡ true → type_of_text (type_name record_type) ≡ Some (type_of_code (type_code record_type))
unfolding type_of_text type_of_code registered_type
name_back rr.ZERO is = absurd (true≢false (sym is))
name_back rr.ANAME is = absurd (true≢false (sym is))
name_back (rr.Unknown code) is = absurd (true≢false (sym is))
name_back record_type is = refl

further_back : (code : ℕ) (name : List ℕ) → further_name code ≡ Some name → type_of_text name ≡ Some (type_of_code code)
unfolding type_of_text type_of_code registered_type
further_back code name found =
    let e = further_row (λ e. type_of_text e.name) (λ e. Some (type_of_code e.code)) refl code name found in
    ap type_of_text (sym e.of_name) ∙ (e.same ∙ ap (λ (n : ℕ). Some (type_of_code n)) e.of_code)

number_back : (code : ℕ) → code < 65536 → type_of_text (numbered (codes "TYPE") code) ≡ Some (type_of_code code)
unfolding type_of_text
number_back code small = rw (numbered_back (codes "TYPE") code small) refl

pub types_come_back : (record_type : RecordType) → type_code record_type < 65536 → type_of_text (type_text record_type) ≡ Some (type_of_code (type_code record_type))
types_come_back record_type small = by (is_registered record_type) refl
  where
    other : (found : Option (List ℕ)) → further_name (type_code record_type) ≡ found
        → type_of_text (unwrap_or found (numbered (codes "TYPE") (type_code record_type))) ≡ Some (type_of_code (type_code record_type))
    other None is = number_back (type_code record_type) small
    other (Some name) is = further_back (type_code record_type) name is

    by : (t : Bool) → is_registered record_type ≡ t
        → type_of_text (unwrap_or (if t then Some (type_name record_type) else further_name (type_code record_type)) (numbered (codes "TYPE") (type_code record_type)))
        ≡ Some (type_of_code (type_code record_type))
    by true is = name_back record_type is
    by false is = other (further_name (type_code record_type)) refl

-- what holds of all names and of a number holds of the text of a type
pub text_by : (p : List ℕ → Bool) → ((record_type : RecordType) → p (type_name record_type) ≡ true)
    → map (λ (e : Entry). p e.name) further_names ≡ map (λ (e : Entry). true) further_names
    → (record_type : RecordType) → p (numbered (codes "TYPE") (type_code record_type)) ≡ true → p (type_text record_type) ≡ true
text_by p named further record_type number = by (is_registered record_type)
  where
    other : (found : Option (List ℕ)) → further_name (type_code record_type) ≡ found → p (unwrap_or found (numbered (codes "TYPE") (type_code record_type))) ≡ true
    other None is = number
    other (Some name) is =
        let e = further_row (λ (e : Entry). p e.name) (λ (e : Entry). true) further (type_code record_type) name is in
        ap p (sym e.of_name) ∙ e.same

    by : (t : Bool) → p (unwrap_or (if t then Some (type_name record_type) else further_name (type_code record_type)) (numbered (codes "TYPE") (type_code record_type))) ≡ true
    by true = named record_type
    by false = other (further_name (type_code record_type)) refl
