-- What follows from the definition of lines. Each is the clause of a public function, and so proved.
use Rattle.std.specs.Prelude.{◌≡◌, Bool, true, false, ℕ, List, ◌++◌}
use Rattle.dnw_zone_record.specs.declared.scan.Ending.{Ending}
use Rattle.dnw_zone_record.specs.declared.scan.Ending.TheVariants.{Line, Text, Cut, Wrong}
use Rattle.dnw_zone_record.specs.Lines.{line_of}

-- The line ends before the text does.
abbrev pub is_settled_ending : Ending → Bool
is_settled_ending Line = true
is_settled_ending Text = false
is_settled_ending (Cut rule) = false
is_settled_ending (Wrong rule) = true

-- What is found in a part of a text that has a whole line is what is found in all of it.
abbrev pub WindowsAgree : Type 0
WindowsAgree = (text more line : List ℕ) (ending : Ending) → line_of text ≡ (line, ending) → is_settled_ending ending ≡ true → line_of (text ++ more) ≡ (line, ending)
