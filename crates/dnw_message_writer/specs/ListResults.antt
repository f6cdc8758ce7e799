-- What a caller learns of a list that is written, and why one is not.
use Rattle.std.specs.Prelude.{◌≡◌, ℕ, Bool, List, take}
use Rattle.dnw_base.specs.Decoder.{Decoder}
use Rattle.dnw_message_read.specs.Headers.{header_of, header_size}
use Rattle.dnw_message_writer.specs.Items.{ItemPast}
use Rattle.dnw_message_writer.specs.States.{FailsToAdd}
use Rattle.dnw_message_writer.specs.declared.list.ListError.{ListError}
use Rattle.dnw_message_writer.specs.declared.list.ListError.TheVariants as why
use Rattle.dnw_message_writer.specs.declared.listed.DataError.{DataError}
use Rattle.dnw_message_writer.specs.declared.listed.DataError.TheVariants as errors
use Rattle.dnw_message_writer.specs.declared.section.Section.{Section}
use Rattle.dnw_message_writer.specs.declared.section.WriteError.{WriteError}
use Rattle.dnw_message_writer.specs.declared.section.WriteError.TheVariants.{CutOption, NoMessage, NoRoom, OutOfOrder, SecondOpt}
use Rattle.dnw_message_writer.specs.declared.state.WriterState.{WriterState}

-- a decoder at an offset of a message
abbrev pub at_offset : List ℕ → ℕ → Decoder
at_offset message start = record { bytes = message; index = start }

-- bit TC of the header
abbrev pub is_cut : List ℕ → Bool
is_cut message = (header_of (take header_size message)).metadata.truncation

-- why an item of a list is not added
abbrev pub error_of_write : WriteError → ListError
error_of_write NoMessage = why.NoMessage
error_of_write OutOfOrder = why.BadItem
error_of_write NoRoom = why.TooLong
error_of_write SecondOpt = why.SecondOpt
error_of_write CutOption = why.CutOption

-- why a record of a list is not added
abbrev pub error_of_data : DataError → ListError
error_of_data errors.List = why.BadItem
error_of_data errors.Data = why.BadData
error_of_data (errors.Write e) = error_of_write e

-- An item of a list that has a form is not added to a section, and that is why.
abbrev pub FailsToAddForm : Section → ItemPast → WriterState → List ℕ → ListError → Type 0
FailsToAddForm s past w m error = (e : WriteError) × FailsToAdd s past w m e × (error ≡ error_of_write e)

-- The state and the octets of the message are unchanged.
abbrev pub StaysAsItWas : WriterState → List ℕ → WriterState → List ℕ → Type 0
StaysAsItWas before old after new = (after ≡ before) × (take before.end new ≡ take before.end old)
