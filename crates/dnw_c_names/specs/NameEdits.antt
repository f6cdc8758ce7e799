-- Names changed, by their wire forms, and why that fails.
use Rattle.std.specs.Prelude.{◌≡◌, ◌⊎◌, ℕ, List, length, Result, Ok, Err, IsTrue}
use Rattle.dnw_base.specs.Fault.{Fault}
use Rattle.dnw_base.specs.Limits.{max_name}
use Rattle.dnw_base.specs.Names.{NameValue, wire}
use Rattle.dnw_name_form.specs.Edits.{append_name}
use Rattle.dnw_c_base.specs.Failures.{of_fault}
use Rattle.dnw_c_base.specs.Results.{PutsWithin, Refuses}
use Rattle.dnw_c_base.specs.WireForms.{IsFormOf, IsNoForm}
use Rattle.dnw_c_names.specs.NameCalls.{FailsAsForms}
use Rattle.dnw_c_base.specs.declared.failure.Failure.{Failure}

-- The octets are the wire form of this name, whole. A wire form ends at the root.
abbrev pub IsNameOf : List ℕ → NameValue → Type 0
IsNameOf form name = IsTrue name.is_fqdn × IsFormOf form name.labels

-- the wire form of a name is put
abbrev pub PutsName : NameValue → List ℕ → List ℕ → Result ℕ Failure → Type 0
PutsName name old new result = PutsWithin max_name (wire name.labels) (length (wire name.labels)) old new result

-- an edit fails, and that is why
abbrev pub FailsEdit : Result NameValue Fault → Failure → Type 0
FailsEdit edited failure = (fault : Fault) × (edited ≡ Err fault) × (failure ≡ of_fault fault)

-- what comes of an edit is put
abbrev pub PutsEdited : Result NameValue Fault → List ℕ → List ℕ → Result ℕ Failure → Type 0
PutsEdited edited old new result =
    ((name : NameValue) × (edited ≡ Ok name) × PutsName name old new result)
    ⊎ Refuses (FailsEdit edited) old new result

-- Of the name with a wire form this is put.
abbrev pub PutsOfName : (NameValue → List ℕ → List ℕ → Result ℕ Failure → Type 0) → List ℕ → List ℕ → List ℕ → Result ℕ Failure → Type 0
PutsOfName Puts form old new result =
    ((n : NameValue) × IsNameOf form n × Puts n old new result) ⊎ Refuses (IsNoForm form) old new result

-- A name is put with the labels of another after its own.
abbrev pub PutsAppended : List ℕ → List ℕ → List ℕ → List ℕ → Result ℕ Failure → Type 0
PutsAppended form suffix old new result =
    ((n m : NameValue) × IsNameOf form n × IsNameOf suffix m × PutsEdited (append_name n m) old new result)
    ⊎ Refuses (FailsAsForms form suffix) old new result
