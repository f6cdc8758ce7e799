-- Other data have the same fields if they are alike in what the table looks at: whether there are any, and the first octet of A6.
use Rattle.std.proofs.Common.{◌≡◌, ℕ, ◌==◌, ◌&&◌, ◌||◌, zero, suc, Bool, true, false, List, [], ◌∷◌, length, take, slice_index, inl, inr, refl, sym, ap, ◌∙◌, arith}
use Rattle.std.specs.Prelude.{nat_lt, not, if◌then◌else◌}
use Rattle.std.proofs.lemmas.Bool.{cases_Bool}
use Rattle.std.proofs.lemmas.List.{nil_from_length}
use Rattle.dnw_data.specs.declared.kind.Kind.{Kind}
use Rattle.dnw_data.specs.declared.kind.Kind.TheVariants.{Counted, LongCounted, Octets, Shaped}
use Rattle.dnw_data.specs.declared.kind.Kind.TheVariants as kinds
use Rattle.dnw_data.specs.declared.kind.ListKind.TheVariants as lists
use Rattle.dnw_data.specs.declared.kind.Shape.{Shape}
use Rattle.dnw_data.specs.declared.kind.Shape.TheVariants.{Location, Gateway, Relay, HostIdentity, AddressSuffix}
use Rattle.dnw_data.specs.Shapes.{shape_size}
use Rattle.dnw_data.specs.Values.{own_size}
use Rattle.dnw_data.specs.Table.{Row, a6, a6_fields, chaos_fields, fields_elsewhere, fields_in, fields_in_internet, fields_of, fields_of_some, hex, table, is_internet_type, is_like_internet, may_lack_data}

-- Data whose fields are of these kinds, and others that are alike.
abbrev pub Alike : List Kind → List ℕ → List ℕ → Type 0
Alike [] a b = (a ≡ []) × (b ≡ [])
Alike (Shaped shape ∷ kinds) a b = (b ≡ [] → a ≡ []) × (slice_index a 0 ≡ slice_index b 0)
Alike (kind ∷ kinds) a b = b ≡ [] → a ≡ []

alike_none : (fields : List Kind) (a : List ℕ) → Alike fields a [] → a ≡ []
alike_none [] a h = h.0
alike_none (Shaped shape ∷ kinds) a h = h.0 refl
alike_none (kind ∷ kinds) a h = h refl

a6_alike : (prefix : ℕ) (a b : List ℕ) → Alike (a6_fields prefix) a b → slice_index a 0 ≡ slice_index b 0
a6_alike prefix a b h = elim (cases_Bool (prefix == 0)) [
  | inl none ↦ (rw none at h).1
  | inr some ↦ (rw some at h).1
]

some_alike : (class code : ℕ) (a b : List ℕ) → Alike (fields_of_some class code a) a b → fields_of_some class code b ≡ fields_of_some class code a
some_alike class code a b h = elim (cases_Bool (is_like_internet class || not (is_internet_type code))) [
  | inr other ↦ rw other refl
  | inl like ↦ elim (cases_Bool (code == a6)) [
    | inr other ↦ rw (like, other) refl
    | inl is ↦
        let same = a6_alike (slice_index a 0) a b (rw (like, is) at h) in
        rw (like, is) (ap a6_fields (sym same))
  ]
]

pub alike_fields : (class code : ℕ) (a b : List ℕ) → Alike (fields_of class code a) a b → fields_of class code b ≡ fields_of class code a
unfolding fields_of
alike_fields class code [] [] h = refl
alike_fields class code [] (y ∷ ys) h = elim (cases_Bool (may_lack_data class code)) [
  | inl may ↦ let none = (rw may at h).1 in absurd cc
  | inr must ↦ rw must (some_alike class code [] (y ∷ ys) (rw must at h))
]
alike_fields class code (x ∷ xs) [] h = let none = alike_none (fields_of_some class code (x ∷ xs)) (x ∷ xs) h in absurd cc
alike_fields class code (x ∷ xs) (y ∷ ys) h = some_alike class code (x ∷ xs) (y ∷ ys) h

-- ---- a field takes no octets only if none are left

shape_some : (shape : Shape) (left : List ℕ) → shape_size shape left ≡ 0 → left ≡ []
shape_some Location left none = elim (cases_Bool (slice_index left 0 == 0)) [
  | inl is ↦ let size = rw is at none in absurd (omega (arith, size))
  | inr other ↦ let size = rw other at none in nil_from_length left size
]
shape_some Gateway left none = absurd (omega (arith, none))
shape_some Relay left none = absurd (omega (arith, none))
shape_some HostIdentity left none = elim (cases_Bool (nat_lt (length left) 4)) [
  | inl is ↦ let size = rw is at none in absurd (omega (arith, size))
  | inr other ↦ let size = rw other at none in absurd (omega (arith, size))
]
shape_some AddressSuffix left none = absurd (omega (arith, none))

pub size_some : (kind : Kind) (left : List ℕ) → own_size kind left ≡ 0 → left ≡ []
size_some (kinds.Name form) left none = nil_from_length left none
size_some (Counted shown) left none = absurd (omega (arith, none))
size_some (LongCounted shown) left none = elim (cases_Bool (nat_lt (length left) 2)) [
  | inl is ↦ let size = rw is at none in absurd (omega (arith, size))
  | inr other ↦ let size = rw other at none in absurd (omega (arith, size))
]
size_some (Shaped shape) left none = shape_some shape left none
size_some (Octets shown) left none = nil_from_length left none
size_some (kinds.List lists.Texts) left none = absurd (omega (arith, none))
size_some (kinds.List list) left none = nil_from_length left none
size_some kind left none = absurd (omega (arith, none))

-- the first octet of a field is the first that is left
pub first_of : (kind : Kind) (left own : List ℕ) → own ≡ take (own_size kind left) left → slice_index own 0 ≡ slice_index left 0
first_of kind [] own is = ap (λ (o : List ℕ). slice_index o 0) (is ∙ take_nil (own_size kind []))
  where
    take_nil : (n : ℕ) → take {A = ℕ} n [] ≡ []
    take_nil zero = refl
    take_nil (suc n) = refl
first_of kind (x ∷ xs) own is = by_size (own_size kind (x ∷ xs)) refl
  where
    by_size : (n : ℕ) → own_size kind (x ∷ xs) ≡ n → slice_index own 0 ≡ x
    by_size zero none = let no = size_some kind (x ∷ xs) none in absurd cc
    by_size (suc n) some = ap (λ (o : List ℕ). slice_index o 0) (is ∙ ap (λ k. take k (x ∷ xs)) some)

-- ---- what holds of the fields of each row

abbrev pub rows_hold : (List Kind → Bool) → List Row → Bool
rows_hold P [] = true
rows_hold P (row ∷ rows) = P row.fields && rows_hold P rows

-- It holds of the fields of all data: of none, of octets, of those of Chaosnet, of A6 and of the table.
pub record Holds (P : List Kind → Bool) : Type 0 where
  pub none : P [] ≡ true
  pub octets : P (hex ∷ []) ≡ true
  pub chaos : P chaos_fields ≡ true
  pub six : (prefix : ℕ) → P (a6_fields prefix) ≡ true
  pub rows : rows_hold P table ≡ true

in_rows : (P : List Kind → Bool) (rows : List Row) (code : ℕ) → P (hex ∷ []) ≡ true → rows_hold P rows ≡ true → P (fields_in rows code) ≡ true
in_rows P [] code other hold = other
in_rows P (row ∷ rows) code other hold = elim (cases_Bool (P row.fields)) [
  | inr wrong ↦ let no : false ≡ true = rw wrong at hold in absurd cc
  | inl first ↦ elim (cases_Bool (row.code == code)) [
    | inl here ↦ let is : fields_in (row ∷ rows) code ≡ row.fields = rw (here, fields_in) refl in ap P is ∙ first
    | inr there ↦
        let is : fields_in (row ∷ rows) code ≡ fields_in rows code = rw (there, fields_in) refl in
        ap P is ∙ in_rows P rows code other (rw first at hold)
  ]
]

pub fields_hold : (P : List Kind → Bool) → Holds P → (class code : ℕ) (octets : List ℕ) → P (fields_of class code octets) ≡ true
unfolding fields_of
fields_hold P h class code octets = by_octets octets
  where
    internet : (own : List ℕ) → P (fields_in_internet code own) ≡ true
    internet own = elim (cases_Bool (code == a6)) [
      | inl is ↦ rw is (h.six (slice_index own 0))
      | inr other ↦ rw other (in_rows P table code h.octets h.rows)
    ]

    elsewhere : P (fields_elsewhere class code) ≡ true
    elsewhere = elim (cases_Bool (class == 3 && code == 1)) [ inl is ↦ rw is h.chaos | inr other ↦ rw other h.octets ]

    some : (own : List ℕ) → P (fields_of_some class code own) ≡ true
    some own = elim (cases_Bool (is_like_internet class || not (is_internet_type code))) [ inl like ↦ rw like (internet own) | inr other ↦ rw other elsewhere ]

    by_octets : (own : List ℕ) → P (fields_of class code own) ≡ true
    by_octets [] = elim (cases_Bool (may_lack_data class code)) [ inl may ↦ rw may h.none | inr must ↦ rw must (some []) ]
    by_octets (o ∷ os) = some (o ∷ os)

-- ---- data in IN are not left out

pub in_internet : (code : ℕ) (octets : List ℕ) → fields_of 1 code octets ≡ fields_in_internet code octets
unfolding fields_of
in_internet code [] = refl
in_internet code (octet ∷ octets) = refl
