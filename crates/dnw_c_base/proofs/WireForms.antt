-- Octets that are a name's wire form, whole, are the octets of its labels.
use Rattle.std.proofs.Common.{◌≡◌, ℕ, ◌-◌, Option, List, length, refl, sym, ◌∙◌, arith}
use Rattle.std.proofs.lemmas.List.{take_all}
use Rattle.dnw_base.specs.Names.{wire}
use Rattle.dnw_name_read.specs.Reading.{NameAt, Reads, zero_octet, label, pointer}
use Rattle.dnw_name_read.proofs.Copying.{Reads_plain}

-- in the segment that begins at offset 0 no pointer can be followed
no_pointers : {b : List ℕ} {p e k : ℕ} {limit : Option ℕ} {ls : List (List ℕ)} → Reads b p 0 limit ls e k → k ≡ 0
no_pointers (zero_octet w g) = refl
no_pointers (label c w g one most fit r) = no_pointers r
no_pointers (pointer high low w g least g' prior r) = absurd (omega (arith, prior))

-- so octets that end with the name at their start are its wire form
pub form_is : (form : List ℕ) (ls : List (List ℕ)) (k : ℕ) → NameAt form 0 ls (length form) k → form ≡ wire ls
form_is form ls k name = sym (take_all (length form - 0) form (omega arith)) ∙ Reads_plain name.reads (no_pointers name.reads)
