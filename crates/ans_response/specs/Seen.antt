-- Meanings as code has them: with records of the message.
use Rattle.std.specs.Prelude.{◌&&◌, ℕ, Option, Some, None, Result, Ok, Err, List}
use Rattle.std.specs.List.{filter}
use Rattle.dns_names_wire.specs.Words.{NameValue, RecordValue, type_code}
use Rattle.ans_response.specs.Counted.{AskedValue, counts}
use Rattle.ans_response.specs.Meanings.{Alias, Data, Lame, Means, Meant, NegativeValue, NoAnswer, NoData, NoName, On, Referral, NameStep, is_sought_at}
use Rattle.ans_response.specs.declared.meaning.Meaning.{Meaning}
use Rattle.ans_response.specs.declared.meaning.Meaning.TheVariants as meaning
use Rattle.ans_response.specs.declared.meaning.Negative.{Negative}
use Rattle.ans_response.specs.declared.meaning.Turn.{Turn}
use Rattle.ans_response.specs.declared.meaning.Turn.TheVariants as turn
use Rattle.ans_response.specs.declared.reason.Reason.{Reason}
use Rattle.ans_response.specs.declared.sought.Sought.{Sought}

-- the records that are sought at a name, in turn
abbrev pub sought_in : AskedValue → List (List ℕ) → Sought → List RecordValue → List RecordValue
sought_in asked name what records = filter (λ r. is_sought_at asked name what r.owner (type_code r.record_type) && counts asked r) records

abbrev pub negative_seen : Option Negative → Option NegativeValue
negative_seen None = None
negative_seen (Some said) = Some (record { zone = said.soa.owner; ttl = said.ttl })

abbrev pub meaning_seen : Meaning → Meant
meaning_seen (meaning.NoAnswer why) = NoAnswer why
meaning_seen (meaning.Data name) = Data name.labels
meaning_seen (meaning.NoData name said) = NoData name.labels (negative_seen said)
meaning_seen (meaning.NoName name said) = NoName name.labels (negative_seen said)
meaning_seen (meaning.Referral ns) = Referral ns.owner
meaning_seen (meaning.Alias name) = Alias name.labels
meaning_seen meaning.Lame = Lame

abbrev pub step_seen : Turn → NameStep
step_seen (turn.Means found) = Means (meaning_seen found)
step_seen (turn.On name) = On name.labels

abbrev pub alias_seen : Result (Option NameValue) Reason → Result (Option (List (List ℕ))) Reason
alias_seen (Err why) = Err why
alias_seen (Ok None) = Ok None
alias_seen (Ok (Some name)) = Ok (Some name.labels)
