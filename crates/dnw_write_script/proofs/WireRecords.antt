-- Data that are one name, and kinds without a name.
use Rattle.std.proofs.Common.{◌≡◌, ℕ, true, false, List, [], ◌∷◌, ap, ◌∙◌}
use Rattle.std.specs.List.{list_any}
use Rattle.std.proofs.lemmas.List.{append-nil}
use Rattle.dnw_base.specs.Decoder.{Decoder}
use Rattle.dnw_base.specs.Names.{wire}
use Rattle.dnw_data.specs.declared.kind.Kind.{Kind}
use Rattle.dnw_data.specs.declared.kind.Kind.TheVariants.{Name}
use Rattle.dnw_data.specs.declared.kind.NameForm.{NameForm}
use Rattle.dnw_name_read.specs.Reading.{TakesName}
use Rattle.dnw_record.specs.DataPieces.{IsData, name_piece, octets_piece}
use Rattle.dnw_record.specs.DataCopies.{alone}
use Rattle.dnw_write_script.specs.WireRecords.{HaveNoName, is_name}
use Rattle.dnw_record.proofs.Pieces.{whole_pieces}

pub one_name : (form : NameForm) (octets : List ℕ) → IsData (Name form ∷ []) octets
    → (labels : List (List ℕ)) × (after : Decoder) × (k : ℕ) × TakesName (alone octets) after labels k × (octets ≡ wire labels)
one_name form octets ([], has) = absurd has.are
one_name form octets (octets_piece own ∷ others, has) = absurd has.are.0
one_name form octets (name_piece own labels ∷ other ∷ others, has) = absurd has.are.1
one_name form octets (name_piece own labels ∷ [], has) =
    let (after, (found, k, takes, is), _) = whole_pieces (Name form ∷ []) octets (name_piece own labels ∷ []) has in
    let same : labels ≡ found = cc in
    (found, after, k, takes, has.whole ∙ append-nil (wire labels) ∙ ap wire same)

pub no_name : (kinds : List Kind) → list_any is_name kinds ≡ false → HaveNoName kinds
no_name [] none = tt
no_name (Name form ∷ kinds) none = absurd cc
no_name (kind ∷ kinds) none = no_name kinds none

pub some_name : (kinds : List Kind) → list_any is_name kinds ≡ true → HaveNoName kinds → ⊥
some_name [] some none = absurd cc
some_name (Name form ∷ kinds) some none = none
some_name (kind ∷ kinds) some none = some_name kinds some none
