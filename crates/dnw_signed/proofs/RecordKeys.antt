-- Sort keys of records decide as records do.
use Rattle.std.proofs.Common.{refl, sym, ◌∙◌}
use Rattle.dnw_name_form.specs.LabelOrder.{octets_cmp}
use Rattle.dnw_name_order.specs.Order.{labels_cmp}
use Rattle.dnw_name_order.specs.SortKeys.{sort_key}
use Rattle.dnw_name_order.proofs.SortKeys.{both_equal, ended_keys_compare, equal_is, keys_are_equal, keys_compare}
use Rattle.dnw_signed.specs.RecordKeys.{KeysAreOfSame, KeysOrderRecords, after_owner, record_key}

pub keys_order_records : KeysOrderRecords
keys_order_records r s a b are others = ended_keys_compare r.owner s.owner (after_owner r a) (after_owner s b) are others

pub keys_are_of_same : KeysAreOfSame
keys_are_of_same r s a b are others = (
  λ e.
      let same = sym (keys_order_records r s a b are others) ∙ (equal_is (record_key r a) (record_key s b)).1 e in
      let (owners, rest) = both_equal (labels_cmp r.owner s.owner) (octets_cmp (after_owner r a) (after_owner s b)) same in
      let keys = (equal_is (sort_key r.owner) (sort_key s.owner)).0 (keys_compare r.owner s.owner ∙ owners) in
      ((keys_are_equal r.owner s.owner).0 keys, (equal_is (after_owner r a) (after_owner s b)).0 rest),
  λ (owners, rest). rw ((keys_are_equal r.owner s.owner).1 owners, rest) refl,
)
