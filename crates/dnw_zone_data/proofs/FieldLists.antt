-- Fields of texts, one after another.
use Rattle.std.proofs.Common.{◌≡◌, ℕ, ◌-◌, List, ◌∷◌, ◌++◌, length, ◌⊎◌, inl, inr, sym, ap, ◌∙◌, append_assoc}
use Rattle.std.specs.Prelude.{Option, flat_map}
use Rattle.dnw_base.specs.Names.{NameValue}
use Rattle.dnw_data.specs.declared.kind.Kind.{Kind}
use Rattle.dnw_data.specs.Values.{FieldValue}
use Rattle.dnw_zone_data.specs.declared.number_form.NumberForm.{NumberForm}
use Rattle.dnw_zone_data.specs.NumberForms.{first_form, other_forms}
use Rattle.dnw_zone_data.specs.declared.error.DataTextError.{DataTextError}
use Rattle.dnw_zone_data.specs.declared.error.DataTextError.TheVariants.{Memory}
use Rattle.dnw_zone_data.specs.declared.error.Wanted.{Wanted}
use Rattle.dnw_zone_data.specs.Faults.{fault}
use Rattle.dnw_zone_data.specs.Words.{after_spaces}
use Rattle.dnw_zone_data.specs.Parsing.{ReadsField, AreFieldTexts, FailsFields, IsWanted}
use Rattle.dnw_data.specs.FieldWires.{field_wire}
use Rattle.dnw_zone_data.specs.Inside.Reads.{AppendsRest}

-- The text is fields, whose octets are appended.
abbrev pub AreAppended : Option NameValue → List NumberForm → List Kind → List ℕ → List ℕ → List ℕ → Type 0
AreAppended origin ways kinds left old new = (values : List FieldValue) × AreFieldTexts origin ways kinds left values × (new ≡ old ++ flat_map field_wire values)

-- What is left of a text after some fields ends as all of it does.
abbrev pub GoOn : Option NameValue → ℕ → ℕ → List NumberForm → List Kind → List ℕ → List ℕ → List NumberForm → List Kind → List ℕ → List ℕ → Type 0
GoOn origin count len ways kinds text old others left rest mid =
    ((new : List ℕ) → AreAppended origin others left rest mid new → AreAppended origin ways kinds text old new)
    × ((e : DataTextError) → FailsFields origin count len others left rest e → FailsFields origin count len ways kinds text e)

-- a field is read
pub field_more : (origin : Option NameValue) (count len : ℕ) (all : List NumberForm) (first : List Kind) (text old : List ℕ)
    (ways ways_after : List NumberForm) (way : NumberForm) (kinds others : List Kind) (kind : Kind) (left start rest mid new : List ℕ)
    → GoOn origin count len all first text old ways kinds left mid
    → kinds ≡ kind ∷ others → start ≡ after_spaces left → way ≡ first_form ways → ways_after ≡ other_forms ways
    → AppendsRest (ReadsField origin way kind start) mid new rest
    → GoOn origin count len all first text old ways_after others rest new
field_more origin count len all first text old ways ways_after way kinds others kind left start rest mid new so e s f o h =
    let reads : ReadsField origin (first_form ways) kind (after_spaces left) h.0 rest = rw (sym f, sym s) h.1 in (
      λ end are.
          let more : AreFieldTexts origin (other_forms ways) others rest are.0 = rw (sym o) are.1 in
          let here : AreFieldTexts origin ways kinds left (h.0 ∷ are.0) = rw e (rest, reads, more) in
          so.0 end (
            h.0 ∷ are.0,
            here,
            are.2 ∙ ap (λ (xs : List ℕ). xs ++ flat_map field_wire are.0) h.2 ∙ append_assoc mid (field_wire h.0) (flat_map field_wire are.0),
          ),
      λ x fails.
          let more : FailsFields origin count len (other_forms ways) others rest x = rw (sym o) fails in
          let here : FailsFields origin count len ways kinds left x = rw e (inr (h.0, rest, reads, more)) in so.1 x here,
    )

-- a field is missing
pub field_missing : (origin : Option NameValue) (count len : ℕ) (all : List NumberForm) (first : List Kind) (text old : List ℕ)
    (ways : List NumberForm) (way : NumberForm) (kinds others : List Kind) (kind : Kind) (left start mid : List ℕ) (e : DataTextError)
    → GoOn origin count len all first text old ways kinds left mid → kinds ≡ kind ∷ others → start ≡ after_spaces left → way ≡ first_form ways
    → ((value : FieldValue) (rest : List ℕ) → ¬ (ReadsField origin way kind start value rest))
    → (e ≡ Memory) ⊎ ((wanted : Wanted) × IsWanted way kind start wanted × (e ≡ fault (count - length kinds) (len - length start) wanted))
    → (e ≡ Memory) ⊎ FailsFields origin count len all first text e
field_missing origin count len all first text old ways way kinds others kind left start mid e so is s f none (inl memory) = inl memory
field_missing origin count len all first text old ways way kinds others kind left start mid e so is s f none (inr (wanted, wants, same)) =
    inr (so.1 e (rw is (inl (rw (sym f, sym s) none, wanted, rw (sym f, sym s) wants, rw (is, s) at same))))
