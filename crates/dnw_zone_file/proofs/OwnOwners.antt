-- Owners that words are, by their wire forms.
use Rattle.std.proofs.Common.{◌≡◌, ◌≤◌, ℕ, false, List, Some, length, ap, ◌∙◌, sym, subst}
use Rattle.dnw_base.specs.Limits.{max_name}
use Rattle.dnw_base.specs.Names.{AreLabels, NameValue, wire}
use Rattle.dnw_name_form.specs.Inside.WireBytes.{IsWire, labels_of}
use Rattle.dnw_name_form.proofs.Wires.{IsWire_wire, labels_of_wire}
use Rattle.dnw_name_form.proofs.Wires as wires
use Rattle.dnw_zone_file.specs.Entries.{begins_with, owner_at}
use Rattle.dnw_zone_file.specs.Inside.OwnOwners.{IsNamed}

pub few_octets : (ls : List (List ℕ)) → AreLabels ls → length (wire ls) ≤ max_name
few_octets ls are = wires.few_octets (wire ls) (IsWire_wire ls are)

pub form_of_name : (origin : NameValue) (word octets : List ℕ) → IsNamed origin word octets → IsWire octets
form_of_name origin word octets (labels, are, is, named) = subst IsWire (sym is) (IsWire_wire labels are)

pub owner_named : (origin : NameValue) (word octets : List ℕ) (owner : List (List ℕ)) → begins_with 34 word ≡ false → IsNamed origin word octets
    → owner ≡ labels_of octets → owner_at origin word ≡ Some owner
owner_named origin word octets owner plain (labels, are, is, named) so =
    let same : owner ≡ labels = so ∙ ap labels_of is ∙ labels_of_wire labels are.each in
    rw (plain, same) (rw plain at named)
