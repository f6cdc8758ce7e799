-- How the function for C begins a query, and why it does not.
use Rattle.std.specs.Prelude.{◌≡◌, ◌==◌, ◌⊎◌, ℕ, Bool, Option, Some, None, List, Result, MatchResult, max, if◌then◌else◌}
use Rattle.dnw_base.specs.Limits.{min_payload}
use Rattle.dnw_c_base.specs.WireForms.{IsFormOf, IsNoForm}
use Rattle.dnw_c_base.specs.declared.failure.Failure.{Failure}
use Rattle.dnw_message_writer.specs.Queries.{BeginsQuery, FailsToQuery, query_flags}
use Rattle.dnw_message_writer.specs.declared.section.WriteError.{WriteError}
use Rattle.dnw_message_writer.specs.declared.state.WriterState.{WriterState}
use Rattle.dnw_c_messages.specs.WriterCalls.{of_write}

-- the size of messages that a query says: none for 0, and else 512 or more (RFC 6891, section 6.2.5)
abbrev pub size_said : ℕ → Option ℕ
size_said max_payload = if max_payload == 0 then None else Some (max max_payload min_payload)

module _ (id : ℕ) (recursion_desired : Bool) (form : List ℕ) (query_type class max_payload max_size : ℕ) where
  -- A query begins for the name with this wire form.
  abbrev pub BeginsQueryFor : List ℕ → WriterState → List ℕ → Type 0
  BeginsQueryFor old after new =
      (name : List (List ℕ)) × IsFormOf form name
      × BeginsQuery id (query_flags recursion_desired) max_size name query_type class (size_said max_payload) old after new

  -- It does not, for such a reason.
  abbrev pub FailsToQueryFor : List ℕ → Failure → Type 0
  FailsToQueryFor old failure =
      IsNoForm form failure
      ⊎ ((name : List (List ℕ)) × IsFormOf form name × (error : WriteError)
      × FailsToQuery id (query_flags recursion_desired) max_size name query_type class (size_said max_payload) old error
      × (failure ≡ of_write error))

  -- The query begins, or it does not for such a reason, and the state is unchanged.
  abbrev pub QueriesOr : WriterState → List ℕ → WriterState → List ℕ → Result (Unit {0}) Failure → Type 0
  QueriesOr before old after new result =
      MatchResult result (λ _. BeginsQueryFor old after new) (λ failure. FailsToQueryFor old failure × (after ≡ before))
