use Rattle.std.proofs.Common.{◌≡◌, ◌+◌, ◌*◌, ◌++◌, length, map, reverse}
use Rattle.dnw_base.specs.Names.{encoded_size}
use Rattle.dnw_name_arpa.specs.Arpa.{nibbles, value_label}
use Rattle.dnw_name_arpa.specs.declared.reading.Family.TheVariants.{Ipv6}
use Rattle.dnw_name_arpa.proofs.writing.push_segments.Given as goal

-- what there is, and the labels of the segments that are left, are what there will be
abbrev pub invariant-segments : goal.invariant-segments
invariant-segments l = record {
  labels : l.form ++ map (value_label Ipv6) (reverse (nibbles l.rest)) ≡ l.fn.form ++ map (value_label Ipv6) (reverse (nibbles l.fn.segments));
  size : encoded_size l.form + 8 * length l.rest ≡ encoded_size l.fn.form + 8 * length l.fn.segments;
}

abbrev pub decreases-segments : goal.decreases-segments
decreases-segments l = length l.rest
