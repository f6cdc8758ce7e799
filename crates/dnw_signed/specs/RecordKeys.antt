-- Sort keys of records: octets whose plain order is that of records by owner, type, class and data, each in canonical form (RFC 4034,
-- sections 6.1 to 6.3). Records are the same if these are; the time to live makes no difference (RFC 2136, section 1.1.1).
use Rattle.std.specs.Prelude.{◌≡◌, ◌↔◌, ℕ, List, ◌∷◌, ◌++◌}
use Rattle.std.specs.Int.{w16, to_be_bytes}
use Rattle.std.specs.Ordering.{ordering_then}
use Rattle.dnw_base.specs.DnsClasses.{class_code}
use Rattle.dnw_base.specs.Names.{AreLabels, lower}
use Rattle.dnw_base.specs.RecordTypes.{type_code}
use Rattle.dnw_name_form.specs.LabelOrder.{octets_cmp}
use Rattle.dnw_name_order.specs.Order.{labels_cmp}
use Rattle.dnw_name_order.specs.SortKeys.{sort_key}
use Rattle.dnw_record.specs.Records.{RecordValue}
use Rattle.dnw_signed.specs.CanonicalData.{IsCanonicalOf}

-- what decides if the owners are the same: the type, the class, and the data in canonical form
abbrev pub after_owner : RecordValue → List ℕ → List ℕ
after_owner r octets = to_be_bytes w16 (type_code r.record_type) ++ (to_be_bytes w16 (class_code r.class) ++ octets)

-- the sort key of the owner, an octet 0, and these
abbrev pub record_key : RecordValue → List ℕ → List ℕ
record_key r octets = sort_key r.owner ++ (0 ∷ after_owner r octets)

abbrev pub IsRecordKey : RecordValue → List ℕ → Type 0
IsRecordKey r key = (octets : List ℕ) × IsCanonicalOf r octets × (key ≡ record_key r octets)

-- The canonical order of the owners decides, and then these octets.
abbrev pub KeysOrderRecords : Type 0
KeysOrderRecords = (r s : RecordValue) (a b : List ℕ) → AreLabels r.owner → AreLabels s.owner
    → octets_cmp (record_key r a) (record_key s b)
    ≡ ordering_then (labels_cmp r.owner s.owner) (octets_cmp (after_owner r a) (after_owner s b))

-- Keys are equal exactly if the owners are, but for ASCII case, and these octets.
abbrev pub KeysAreOfSame : Type 0
KeysAreOfSame = (r s : RecordValue) (a b : List ℕ) → AreLabels r.owner → AreLabels s.owner
    → (record_key r a ≡ record_key s b) ↔ ((lower r.owner ≡ lower s.owner) × (after_owner r a ≡ after_owner s b))
