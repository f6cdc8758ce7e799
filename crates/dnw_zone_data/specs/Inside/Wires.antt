-- The octets of fields, one after another.
use Rattle.std.specs.Prelude.{◌≡◌, ℕ, Bool, true, false, List, ◌++◌}
use Rattle.dnw_base.specs.Decoder.{Decoder}
use Rattle.dnw_data.specs.declared.kind.Kind.{Kind}
use Rattle.dnw_zone_data.specs.DataTexts.{AreWire, AreNoFields}

-- The octets of the fields are appended, or one cannot be read.
abbrev pub AppendsWires : List Kind → Decoder → List ℕ → List ℕ → Bool → Type 0
AppendsWires kinds d old new true = (own : List ℕ) × AreWire kinds d own × (new ≡ old ++ own)
AppendsWires kinds d old new false = AreNoFields kinds d
