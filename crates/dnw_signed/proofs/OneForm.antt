-- The canonical octets of data are the only ones, and so are those of records in turn.
use Rattle.std.proofs.Common.{◌≡◌, ℕ, List, [], ◌∷◌, ◌⊎◌, inl, inr, refl, sym, ap, ◌∙◌, subst}
use Rattle.std.specs.List.{Contains}
use Rattle.dnw_record.specs.declared.record.Record.{Record}
use Rattle.dnw_record.specs.DataPieces.{DataValue, octets_of}
use Rattle.dnw_record.proofs.Pieces.{data_have_fields}
use Rattle.dnw_signed.specs.CanonicalData.{IsCanonical, canonical_pieces}
use Rattle.dnw_signed.specs.CanonicalLaws.{IsLikeData}
use Rattle.dnw_signed.specs.RecordSets.{AreCanonical}
use Rattle.dnw_signed.proofs.Sets.{cases_of, first_of, later_of, none_of}

pub canonical_one : (x : DataValue) (a b : List ℕ) → IsCanonical x a → IsCanonical x b → a ≡ b
canonical_one x a b (pieces, has, is) (others, has', is') =
    is ∙ ap (λ ps. octets_of (canonical_pieces ps)) ((data_have_fields _ x.octets others has').1 pieces has) ∙ sym is'

pub canonical_like : (x y : DataValue) (a b : List ℕ) → IsLikeData x y → IsCanonical x a → IsCanonical y b → a ≡ b
canonical_like x y a b (pieces, others, has, has', same) of of' =
    canonical_one x a _ of (pieces, has, refl) ∙ ap octets_of same ∙ canonical_one y _ b (others, has', refl) of'

-- octets of all are those of a record, and each record has some
abbrev pub OfRecord : List Record → List ℕ → Type 0
OfRecord records octets = (r : Record) × Contains records r × IsCanonical r.data octets

abbrev pub HasOctets : Record → List (List ℕ) → Type 0
HasOctets r all = (octets : List ℕ) × Contains all octets × IsCanonical r.data octets

of_later : (r : Record) (records : List Record) (octets first : List ℕ) → IsCanonical r.data first → (first ≡ octets) ⊎ OfRecord records octets → OfRecord (r ∷ records) octets
of_later r records octets first one (inl is) = (r, first_of r records, subst (IsCanonical r.data) is one)
of_later r records octets first one (inr (s, has, of)) = (s, later_of r records s has, of)

or_later : {A B C : Type 0} → (B → C) → A ⊎ B → A ⊎ C
or_later f (inl a) = inl a
or_later f (inr b) = inr (f b)

pub of_record : (records : List Record) (all : List (List ℕ)) (octets : List ℕ) → AreCanonical records all → Contains all octets → OfRecord records octets
of_record [] [] octets each h = absurd (none_of octets h)
of_record [] (first ∷ all) octets each h = absurd each
of_record (r ∷ records) [] octets each h = absurd each
of_record (r ∷ records) (first ∷ all) octets (one, each) h =
    of_later r records octets first one (or_later (of_record records all octets each) (cases_of first all octets h))

has_later : (s r : Record) (first : List ℕ) (all : List (List ℕ)) → IsCanonical s.data first → (s ≡ r) ⊎ HasOctets r all → HasOctets r (first ∷ all)
has_later s r first all one (inl is) = (first, first_of first all, subst (λ t. IsCanonical t.data first) is one)
has_later s r first all one (inr (octets, has, of)) = (octets, later_of first all octets has, of)

pub has_octets : (records : List Record) (all : List (List ℕ)) (r : Record) → AreCanonical records all → Contains records r → HasOctets r all
has_octets [] all r each h = absurd (none_of r h)
has_octets (s ∷ records) [] r each h = absurd each
has_octets (s ∷ records) (first ∷ all) r (one, each) h =
    has_later s r first all one (or_later (has_octets records all r each) (cases_of s records r h))
