-- The octets of names in the room that a state has for them.
use Rattle.std.proofs.Common.{ℕ, ◌≤◌, List, length, arith}
use Rattle.dnw_base.specs.Limits.{max_name}
use Rattle.dnw_base.specs.Names.{AreLabels, wire}
use Rattle.dnw_base.proofs.Wires.{length_wire}

-- a wire form has at most as many octets as a name
pub few_octets : (ls : List (List ℕ)) → AreLabels ls → length (wire ls) ≤ max_name
few_octets ls h = omega (arith, length_wire ls, h.fit)
