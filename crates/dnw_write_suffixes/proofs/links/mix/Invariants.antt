use Rattle.std.proofs.Common.{◌≡◌, ◌^◌, ◌<◌, length}
use Rattle.dnw_write_suffixes.specs.Inside.Links.{mix}
use Rattle.dnw_write_suffixes.proofs.links.mix.Given as goal

-- what is left makes, after the number so far, what all make
abbrev pub invariant-loop-left : goal.invariant-loop-left
invariant-loop-left l = record {
  small : l.mixed < 2 ^ 32;
  same : mix l.mixed l.left ≡ mix l.fn.first l.octets;
}

abbrev pub decreases-loop-left : goal.decreases-loop-left
decreases-loop-left l = length l.left
