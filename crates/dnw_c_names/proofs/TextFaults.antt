-- The failure of a text's fault.
use Rattle.std.proofs.Common.{◌≡◌, Ok, Err, Result, refl, ap}
use Rattle.dnw_base.specs.declared.error.ProtoError.{ProtoError}
use Rattle.dnw_base.specs.declared.error.ProtoError.TheVariants.{Message, Msg, Memory}
use Rattle.dnw_base.specs.Fault.{Fault, EmptyLabel, LabelTooLong, MalformedLabel, NameTooLong, UnrecognizedChar, IllegalChar, UnfinishedEscape, UnconvertedLabels, FailsOr, Reports}
use Rattle.dnw_c_base.specs.Failures.{of_fault, of_proto}

-- an error that reports a fault has the fault's failure
of_reported : (fault : Fault) (e : ProtoError) → Reports fault e → of_proto e ≡ of_fault fault
of_reported EmptyLabel (Message text) h = refl
of_reported EmptyLabel e h = absurd h
of_reported (LabelTooLong bytes) e h = ap of_proto h
of_reported (MalformedLabel text) (Msg own) h = refl
of_reported (MalformedLabel text) e h = absurd h
of_reported (NameTooLong size) e h = ap of_proto h
of_reported (UnrecognizedChar char) (Msg own) h = refl
of_reported (UnrecognizedChar char) e h = absurd h
of_reported (IllegalChar char) (Msg own) h = refl
of_reported (IllegalChar char) e h = absurd h
of_reported UnfinishedEscape (Message text) h = refl
of_reported UnfinishedEscape e h = absurd h
of_reported UnconvertedLabels (Msg own) h = refl
of_reported UnconvertedLabels e h = absurd h

-- an edit that fails, and that allocates nothing
pub edit_failed : {A : Type 0} (edit : Result A Fault) (e : ProtoError) → FailsOr edit ⊥ e → (fault : Fault) × (edit ≡ Err fault) × (of_proto e ≡ of_fault fault)
edit_failed (Ok x) Memory h = absurd h
edit_failed (Ok x) e h = absurd h
edit_failed (Err fault) Memory h = absurd h
edit_failed (Err fault) e h = (fault, refl, of_reported fault e h)
