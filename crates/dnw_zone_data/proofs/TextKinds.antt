-- A field is read from a text only if its kind has one.
use Rattle.std.proofs.Common.{◌≡◌, ℕ, true, List, [], ◌∷◌, refl}
use Rattle.std.specs.Prelude.{Option}
use Rattle.std.specs.List.{list_all}
use Rattle.dnw_base.specs.Names.{NameValue}
use Rattle.dnw_data.specs.Values.{FieldValue}
use Rattle.dnw_data.specs.declared.kind.Kind.{Kind}
use Rattle.dnw_data.specs.declared.kind.Kind.TheVariants as kinds
use Rattle.dnw_data.specs.declared.kind.Shape.TheVariants.{AddressSuffix}
use Rattle.dnw_data.specs.declared.kind.Shown.TheVariants.{MaybeBase64}
use Rattle.dnw_zone_data.specs.declared.number_form.NumberForm.{NumberForm}
use Rattle.dnw_zone_data.specs.DataTexts.{has_field_text}
use Rattle.dnw_zone_data.specs.NumberForms.{other_forms}
use Rattle.dnw_zone_data.specs.Parsing.{AreFieldTexts, ReadsField}

has_text : (origin : Option NameValue) (way : NumberForm) (kind : Kind) (left rest : List ℕ) (value : FieldValue)
    → ReadsField origin way kind left value rest → has_field_text kind ≡ true
has_text origin way kinds.LongTime left rest value is = absurd is.0
has_text origin way kinds.ChaosAddress left rest value is = absurd is.0
has_text origin way (kinds.LongCounted shown) left rest value is = absurd is.0
has_text origin way (kinds.Shaped AddressSuffix) left rest value is = absurd is.0
has_text origin way (kinds.Octets MaybeBase64) left rest value is = absurd is.0.1.0
has_text origin way kind left rest value is = refl

pub have_texts : (origin : Option NameValue) (ways : List NumberForm) (all : List Kind) (text : List ℕ) (values : List FieldValue)
    → AreFieldTexts origin ways all text values → list_all has_field_text all ≡ true
have_texts origin ways [] text values are = refl
have_texts origin ways (kind ∷ others) text [] are = absurd are
have_texts origin ways (kind ∷ others) text (value ∷ values) (rest, reads, more) =
    rw (has_text origin _ kind _ rest value reads) (have_texts origin (other_forms ways) others rest values more)
