-- How the functions for C write messages from lists of items, and why one does not. What a list is, what is left out of its message and
-- what comes last, `Lists.antt` of `dnw_message_writer` has.
use Rattle.std.specs.Prelude.{◌≡◌, ℕ, Bool, List, Result, MatchResult}
use Rattle.dnw_message_writer.specs.ListFills.{FailsToFill, FillsFrom}
use Rattle.dnw_message_writer.specs.ListResults.{StaysAsItWas}
use Rattle.dnw_message_writer.specs.Lists.{FailsToWriteList, WritesItems}
use Rattle.dnw_message_writer.specs.declared.list.ListError.{ListError}
use Rattle.dnw_message_writer.specs.declared.list.ListError.TheVariants as errors
use Rattle.dnw_message_writer.specs.declared.list.Written.{Written}
use Rattle.dnw_message_writer.specs.declared.state.WriterState.{WriterState}
use Rattle.dnw_c_base.specs.declared.failure.Failure.{Failure}
use Rattle.dnw_c_base.specs.declared.failure.Failure.TheVariants as why

-- which failure stands for why a list is not written
abbrev pub of_list : ListError → Failure
of_list errors.BadItem = why.BadItem
of_list errors.BadData = why.BadData
of_list errors.NoRoom = why.NoRoom
of_list errors.TooLong = why.MessageTooLong
of_list errors.SecondOpt = why.DuplicateEdns
of_list errors.OwnerNotRoot = why.OwnerNotRoot
of_list errors.CutOption = why.CutOption
of_list errors.NoMessage = why.MessageCut

-- The message of a list is written, or it is not for such a reason.
abbrev pub WritesMessageOr : List ℕ → ℕ → ℕ → ℕ → ℕ → Bool → ℕ → List ℕ → List ℕ → Result Written Failure → Type 0
WritesMessageOr list max_size id flags code is_reply block old new result =
    MatchResult result (WritesItems list max_size id flags code is_reply block old new)
    (λ failure. (error : ListError) × FailsToWriteList list max_size id flags code is_reply block old error × (failure ≡ of_list error))

-- Records of a list are added from an offset on, as many as have room, or the first is not, for such a reason, and the message is
-- unchanged.
abbrev pub FillsListOr : List ℕ → ℕ → WriterState → List ℕ → WriterState → List ℕ → Result ℕ Failure → Type 0
FillsListOr list start before old after new result =
    MatchResult result (FillsFrom list start before old after new)
    (λ failure. (error : ListError) × FailsToFill list start before old error × (failure ≡ of_list error)
    × StaysAsItWas before old after new)
