-- Whole data that are printed are parsed as the same octets.
use Rattle.std.proofs.Common.{◌≡◌, ◌≢◌, ◌≤◌, ◌<◌, ◌+◌, ◌⊎◌, ℕ, ◌-◌, ◌==◌, ◌&&◌, ◌||◌, Bool, true, false, List, [], ◌∷◌, ◌++◌, length, drop, slice_index, length-drop, refl, sym, ap, ◌∙◌, subst, arith, length-append, inl, inr}
use Rattle.std.specs.Prelude.{not, Option, None, find, unwrap_or, flat_map}
use Rattle.std.specs.List.{list_all}
use Rattle.std.proofs.lemmas.Bool.{and_parts, cases_Bool, cases_lt}
use Rattle.std.proofs.lemmas.List.{nil_from_length}
use Rattle.dnw_base.specs.Decoder.{Decoder}
use Rattle.dnw_base.specs.Names.{NameValue}
use Rattle.dnw_base.specs.DnsClasses.{class_code}
use Rattle.dnw_base.specs.RecordTypes.{type_code}
use Rattle.dnw_name_read.specs.ReadingLaws.{AreBytes}
use Rattle.dnw_data.specs.declared.kind.Kind.{Kind}
use Rattle.dnw_data.specs.Table.{Row, a6, a6_fields, fields_elsewhere, fields_in, fields_in_internet, fields_of, fields_of_some, is_internet_type, is_like_internet, may_lack_data, table}
use Rattle.dnw_data.specs.Values.{FieldValue}
use Rattle.dnw_data.proofs.Taking.{moves_on}
use Rattle.dnw_record.specs.Records.{RecordValue}
use Rattle.dnw_record.specs.RecordFields.{record_fields}
use Rattle.dnw_zone_values.specs.Octets.{IsOctets}
use Rattle.dnw_zone_values.proofs.ParamTextsBack.{drop_fit, take_fit}
use Rattle.dnw_data.specs.FieldWires.{field_wire}
use Rattle.dnw_zone_data.specs.declared.extent.Extent.{Extent}
use Rattle.dnw_zone_data.specs.declared.extent.Extent.TheVariants.{All}
use Rattle.dnw_zone_data.specs.declared.number_form.NumberForm.{NumberForm}
use Rattle.dnw_zone_data.specs.declared.number_form.NumberForm.TheVariants.{Decimal}
use Rattle.dnw_zone_data.specs.NumberForms.{first_form, number_forms, other_forms}
use Rattle.dnw_zone_data.specs.Words.{is_end, word, after_spaces}
use Rattle.dnw_zone_data.specs.Generic.{generic_mark, IsGeneric}
use Rattle.dnw_base.specs.Limits.{max_data}
use Rattle.dnw_zone_data.specs.Parsing.{extent_of, AreFieldTexts}
use Rattle.dnw_zone_data.specs.Printing.{Prints, PrintsFields}
use Rattle.dnw_zone_data.specs.DataTexts.{has_own_form, is_blank, stand_in, text_kinds, without_space, AreWire, IsFieldsText, IsOwnText, IsPlainData, IsTextOf}
use Rattle.dnw_zone_data.specs.DataTextLaws.{DataComeBack, FieldComesBack, FollowsField}
use Rattle.dnw_zone_data.proofs.FieldValues.{both_fit, field_back, wire_fit}
use Rattle.dnw_zone_data.proofs.GenericText.{generic}
use Rattle.dnw_zone_data.proofs.Items.{end_append}

-- ---- the table

abbrev takes_all : Extent → Bool
takes_all All = true
takes_all extent = false

-- only the last field takes all words
abbrev are_in_turn : List Kind → Bool
are_in_turn [] = true
are_in_turn (kind ∷ []) = true
are_in_turn (kind ∷ next ∷ kinds) = not (takes_all (extent_of kind)) && are_in_turn (next ∷ kinds)

found : (test passes : Row → Bool) (rows : List Row) (other : Row) → list_all passes rows ≡ true → passes other ≡ true
    → passes (unwrap_or (find test rows) other) ≡ true
found test passes [] other all is = is
found test passes (row ∷ rows) other all is =
    let parts = and_parts (passes row) (list_all passes rows) all in
    elim (cases_Bool (test row)) [ inl here ↦ rw here parts.0 | inr there ↦ rw there (found test passes rows other parts.1 is) ]

rows_in_turn : (code : ℕ) → are_in_turn (fields_in table code) ≡ true
rows_in_turn code = found (λ row. row.code == code) (λ row. are_in_turn row.fields) table _ refl refl

a6_in_turn : (prefix : ℕ) → are_in_turn (a6_fields prefix) ≡ true
a6_in_turn prefix = elim (cases_Bool (prefix == 0)) [ inl none ↦ rw none refl | inr some ↦ rw some refl ]

elsewhere_in_turn : (class code : ℕ) → are_in_turn (fields_elsewhere class code) ≡ true
elsewhere_in_turn class code = elim (cases_Bool (class == 3 && code == 1)) [ inl is ↦ rw is refl | inr other ↦ rw other refl ]

internet_in_turn : (code : ℕ) (own : List ℕ) → are_in_turn (fields_in_internet code own) ≡ true
internet_in_turn code own = elim (cases_Bool (code == a6)) [
  | inl is ↦ rw is (a6_in_turn (slice_index own 0))
  | inr other ↦ rw other (rows_in_turn code)
]

some_in_turn : (class code : ℕ) (own : List ℕ) → are_in_turn (fields_of_some class code own) ≡ true
some_in_turn class code own = elim (cases_Bool (is_like_internet class || not (is_internet_type code))) [
  | inl like ↦ rw like (internet_in_turn code own)
  | inr other ↦ rw other (elsewhere_in_turn class code)
]

in_turn : (class code : ℕ) (own : List ℕ) → are_in_turn (fields_of class code own) ≡ true
unfolding fields_of
in_turn class code [] = elim (cases_Bool (may_lack_data class code)) [
  | inl may ↦ rw may refl
  | inr must ↦ rw must (some_in_turn class code [])
]
in_turn class code (x ∷ xs) = some_in_turn class code (x ∷ xs)

-- nothing is printed after a field that takes all words
turn_ends : (kind : Kind) (kinds : List Kind) (d : Decoder) (text : List ℕ) → are_in_turn (kind ∷ kinds) ≡ true → extent_of kind ≡ All
    → PrintsFields kinds d text → text ≡ []
turn_ends kind [] d text turn all print = print.1
turn_ends kind (next ∷ kinds) d text turn all print = let no = rw all at turn in absurd cc

turn_rest : (kind : Kind) (kinds : List Kind) → are_in_turn (kind ∷ kinds) ≡ true → are_in_turn kinds ≡ true
turn_rest kind [] turn = refl
turn_rest kind (next ∷ kinds) turn = (and_parts (not (takes_all (extent_of kind))) (are_in_turn (next ∷ kinds)) turn).1

-- ---- fields

-- a text is these fields, whatever the origin
record AreBack (kinds : List Kind) (text : List ℕ) (values : List FieldValue) : Type 0 where
  reads : (origin : Option NameValue) (ways : List NumberForm) → AreFieldTexts origin ways kinds text values
  other : word (after_spaces text) ≢ generic_mark
  begins : is_end text ≡ true

one_back : (kind : Kind) (kinds : List Kind) (after : Decoder) (value : FieldValue) (own others : List ℕ) (values : List FieldValue)
    → are_in_turn (kind ∷ kinds) ≡ true → FieldComesBack kind value → Prints kind value own → PrintsFields kinds after others → AreBack kinds others values
    → AreBack (kind ∷ kinds) (own ++ others) (value ∷ values)
one_back kind kinds after value own others values turn back print prints rest =
    let follows : FollowsField kind others = (λ all. turn_ends kind kinds after others turn all prints, rest.begins) in
    let first = back None Decimal own others print follows in
    record {
      reads = λ origin ways. (others, (back origin (first_form ways) own others print follows).0, rest.reads origin (other_forms ways));
      other = first.1;
      begins = end_append own others first.2 rest.begins;
    }

fields_back : (kinds : List Kind) (d : Decoder) (text : List ℕ) → are_in_turn kinds ≡ true → AreBytes d.bytes → PrintsFields kinds d text
    → (values : List FieldValue) × AreWire kinds d (flat_map field_wire values) × (length (flat_map field_wire values) ≤ max_data → AreBack kinds text values)
fields_back [] d text turn h (end, none) = ([], (end, refl), λ few. rw none (record { reads = λ origin ways. refl; other = λ e. cc; begins = refl }))
fields_back (kind ∷ kinds) d text turn h (value, after, own, others, takes, print, prints, e) =
    let same = (moves_on kind d after value takes).1 in
    let bytes : AreBytes after.bytes = subst AreBytes (sym same) h in
    let (values, wire, rest) = fields_back kinds after others (turn_rest kind kinds turn) bytes prints in
    let size = length-append (field_wire value) (flat_map field_wire values) in (
      value ∷ values,
      (value, after, flat_map field_wire values, takes, wire, refl),
      λ few. subst (λ (t : List ℕ). AreBack (kind ∷ kinds) t (value ∷ values)) (sym e)
          (one_back kind kinds after value own others values turn (field_back kind d value after h takes (omega (arith, few, size))) print prints (rest (omega (arith, few, size)))),
    )

-- the space before the first field is no part of it
no_space : (text : List ℕ) → after_spaces (without_space text) ≡ after_spaces text
no_space [] = refl
no_space (c ∷ text) = elim (cases_Bool (c == 32)) [
  | inl space ↦ rw space refl
  | inr other ↦ let kept : without_space (c ∷ text) ≡ c ∷ text = rw other refl in ap after_spaces kept
]

pub same_start : (origin : Option NameValue) (ways : List NumberForm) (kinds : List Kind) (text start : List ℕ) (values : List FieldValue) → after_spaces start ≡ after_spaces text
    → AreFieldTexts origin ways kinds text values → AreFieldTexts origin ways kinds start values
same_start origin ways [] text start [] e are = e ∙ are
same_start origin ways [] text start (v ∷ values) e are = are
same_start origin ways (kind ∷ kinds) text start [] e are = are
same_start origin ways (kind ∷ kinds) text start (v ∷ values) e are = rw e are

-- ---- data

-- one has octets if the other has, as far as a list of kinds needs any
abbrev AreThere : List Kind → List ℕ → List ℕ → Type 0
AreThere [] a b = (a ≡ []) × (b ≡ [])
AreThere (kind ∷ kinds) a b = b ≡ [] → a ≡ []

-- the data of A6, of which the first octet says which fields they have, have no form of their own
a6_lacks_form : (prefix : ℕ) → has_own_form (a6_fields prefix) ≡ false
a6_lacks_form prefix = elim (cases_Bool (prefix == 0)) [ inl none ↦ rw none refl | inr some ↦ rw some refl ]

same_some : (class code : ℕ) (a b : List ℕ) → has_own_form (fields_of_some class code a) ≡ true → fields_of_some class code b ≡ fields_of_some class code a
same_some class code a b form = elim (cases_Bool (is_like_internet class || not (is_internet_type code))) [
  | inr other ↦ rw other refl
  | inl like ↦ elim (cases_Bool (code == a6)) [
    | inr other ↦ rw (like, other) refl
    | inl is ↦ let no : false ≡ true = sym (a6_lacks_form (slice_index a 0)) ∙ (rw (like, is) at form) in absurd cc
  ]
]

some_there : (kinds : List Kind) (a : List ℕ) → AreThere kinds a [] → a ≡ []
some_there [] a there = there.0
some_there (kind ∷ kinds) a there = there refl

same_fields : (class code : ℕ) (a b : List ℕ) → has_own_form (fields_of class code a) ≡ true → AreThere (fields_of class code a) a b
    → fields_of class code b ≡ fields_of class code a
unfolding fields_of
same_fields class code [] [] form there = refl
same_fields class code [] (y ∷ ys) form there = elim (cases_Bool (may_lack_data class code)) [
  | inl may ↦ let none = (rw may at there).1 in absurd cc
  | inr must ↦ rw must (same_some class code [] (y ∷ ys) (rw must at form))
]
same_fields class code (x ∷ xs) [] form there = let none = some_there (fields_of_some class code (x ∷ xs)) (x ∷ xs) there in absurd cc
same_fields class code (x ∷ xs) (y ∷ ys) form there = same_some class code (x ∷ xs) (y ∷ ys) form

-- octets that stand in for data that are printed are there if those are
text_there : (kinds : List Kind) (d : Decoder) (printed start : List ℕ) → PrintsFields kinds d printed → is_blank kinds printed ≡ false
    → start ≡ after_spaces printed → AreThere kinds (drop d.index d.bytes) (stand_in start)
text_there [] d printed start (end, none) shown e =
    (nil_from_length (drop d.index d.bytes) (omega (arith, end, length-drop d.index d.bytes)), ap stand_in (e ∙ ap after_spaces none))
text_there (kind ∷ kinds) d printed [] prints shown e =
    let blank : is_blank (kind ∷ kinds) printed ≡ true = ap (λ (xs : List ℕ). length xs == 0) (sym e) in
    let no : true ≡ false = sym blank ∙ shown in absurd cc
text_there (kind ∷ kinds) d printed (c ∷ cs) prints shown e = λ none. absurd cc

own_back : (origin : Option NameValue) (r : RecordValue) (text : List ℕ) → AreBytes r.message → IsOwnText (record_fields r) text
    → (own : List ℕ) × IsPlainData r own
    × ((max_data < length own) ⊎ IsGeneric text own ⊎ IsTextOf origin (number_forms (type_code r.record_type)) (fields_of (class_code r.class) (type_code r.record_type)) text own)
own_back origin r text h (form, printed, prints, shown, e) =
    let fields = fields_of (class_code r.class) (type_code r.record_type) in
    let ways = number_forms (type_code r.record_type) in
    let d = (record_fields r).reader in
    let left = drop d.index d.bytes in
    let kinds = fields left in
    let bytes : AreBytes d.bytes = take_fit (r.start + r.len - 0) r.message h in
    let (values, wire, back) = fields_back kinds d printed (in_turn (class_code r.class) (type_code r.record_type) left) bytes prints in
    let own = flat_map field_wire values in
    let start : after_spaces text ≡ after_spaces printed = ap after_spaces e ∙ no_space printed in
    let same : text_kinds fields text ≡ kinds =
    same_fields (class_code r.class) (type_code r.record_type) left (stand_in (after_spaces text)) form (text_there kinds d printed (after_spaces text) prints shown start) in (
      own,
      inl wire,
      elim (cases_lt max_data (length own)) [
        | inl many ↦ inl many
        | inr few ↦
            let are = back few in
            inr (inr (inr (subst (λ (ks : List Kind). IsFieldsText origin ways ks text own) (sym same)
            (λ marked. are.other (ap word (sym start) ∙ marked), form, values, same_start origin ways kinds printed text values start (are.reads origin ways), refl))))
      ],
    )

plain_fit : (kinds : List Kind) (d : Decoder) (own : List ℕ) → AreBytes d.bytes → AreWire kinds d own → IsOctets own
plain_fit [] d own h (end, none) = rw none (λ i. omega arith)
plain_fit (kind ∷ kinds) d own h (value, after, others, takes, wire, e) =
    let bytes : AreBytes after.bytes = subst AreBytes (sym (moves_on kind d after value takes).1) h in
    rw e (both_fit (field_wire value) others (wire_fit kind d value after h takes) (plain_fit kinds after others bytes wire))

pub data_fit : (r : RecordValue) (own : List ℕ) → AreBytes r.message → IsPlainData r own → IsOctets own
data_fit r own h (inl wire) = plain_fit (record_fields r).kinds (record_fields r).reader own (take_fit (r.start + r.len - 0) r.message h) wire
data_fit r own h (inr (none, e)) = rw e (take_fit (r.start + r.len - r.start) (drop r.start r.message) (drop_fit r.start r.message h))

pub back : DataComeBack
back origin r text h (inl (known, is)) = own_back origin r text h is
back origin r text h (inr (lacks, own, plain, e)) = (
  own,
  plain,
  elim (cases_lt max_data (length own)) [
    | inl many ↦ inl many
    | inr few ↦ inr (inl (rw e (generic own (data_fit r own h plain, few)).0))
  ],
)
