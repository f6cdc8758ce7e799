use Rattle.std.proofs.Common.{◌≡◌, ◌+◌, ◌++◌, List, ℕ, length, take, drop}
use Rattle.dnw_base.specs.Names.{encoded_size, wire}
use Rattle.dnw_message_writer.specs.CompressedNames.{Compresses}
use Rattle.dnw_message_writer.specs.Hints.{slot_of}
use Rattle.dnw_message_writer.proofs.names.spell.Given as goal

abbrev pub invariant-suffixes : goal.invariant-suffixes
invariant-suffixes l = record {
  left : drop l.front (wire l.fn.labels) ≡ wire l.rest;
  size : l.front + encoded_size l.rest ≡ encoded_size l.fn.labels;
  goes_on : (octets after : List ℕ)
      → Compresses slot_of l.message l.gap (length l.message + l.front) l.hints l.rest octets after
      → Compresses slot_of l.message l.gap (length l.message) l.fn.hints l.fn.labels (take l.front (wire l.fn.labels) ++ octets) after;
}

-- a label is written
abbrev pub decreases-suffixes : goal.decreases-suffixes
decreases-suffixes l = length l.rest
