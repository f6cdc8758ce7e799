-- The names that NSEC and NSEC3 records cover: they prove that there is no such name.
use Rattle.std.specs.Prelude.{◌≡◌, ◌≢◌, ◌⊎◌, ℕ, List}
use Rattle.std.specs.declared.cmp.Ordering.TheVariants.{Less}
use Rattle.dnw_name_form.specs.LabelOrder.{octets_cmp}
use Rattle.dnw_name_order.specs.Order.{IsZoneOf, labels_cmp}

-- An NSEC record covers a name that comes after its owner and before its next name (RFC 4034, sections 4.1.1 and 6.1). The next
-- name of the last record of a zone is the apex, which comes before all other names of the zone: then the record covers each name
-- of the zone that comes after the owner.
pub record NsecCovers (owner next name : List (List ℕ)) : Type 0 where
  pub after : labels_cmp owner name ≡ Less
  pub before : labels_cmp owner next ≡ Less → labels_cmp name next ≡ Less
  pub within : labels_cmp owner next ≢ Less → IsZoneOf next name

-- An NSEC3 record covers a hashed name between its own and the next one (RFC 5155, sections 3.1.7 and 8.3). The next one of the
-- last record of a zone is the first one of the zone: then the record covers what comes after its own or before that one.
pub record Nsec3Covers (own next hash : List ℕ) : Type 0 where
  pub between : octets_cmp own next ≡ Less → (octets_cmp own hash ≡ Less) × (octets_cmp hash next ≡ Less)
  pub outside : octets_cmp own next ≢ Less → (octets_cmp own hash ≡ Less) ⊎ (octets_cmp hash next ≡ Less)
