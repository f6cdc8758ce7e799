use Rattle.std.proofs.Common.{Option, length, inl, inr, subst}
use Rattle.dnw_base.specs.DnsClasses.{class_of_code}
use Rattle.dnw_base.specs.RecordTypes.{type_of_code}
use Rattle.dnw_c_base.proofs.Exits.{refused}
use Rattle.dnw_c_base.specs.Results.{Puts}
use Rattle.dnw_c_zone.specs.ParseCalls.{IsNoOrigin, IsOrigin, LacksDataText}
use Rattle.dnw_base.specs.Names.{NameValue}
use Rattle.dnw_c_zone.proofs.parsing.put_data.Goals as goal

pub returns-in_err-origin : goal.returns-in_err-origin
returns-in_err-origin c =
    inr (inr (refused (IsNoOrigin c.args.form.now) c.args.octets.now c.from_residual.result _ c.from_residual.ensures.1 c.in_err-origin.ensures.err))

pub returns-in_err-own : goal.returns-in_err-own
returns-in_err-own c =
    let exit = c.from_residual-in_err-own in
    inr (inl (refused (λ failure. (origin : Option NameValue) × IsOrigin c.args.form.now origin × LacksDataText origin (class_of_code c.args.class) (type_of_code c.args.record_type) c.args.text.now failure) c.args.octets.now exit.result _ exit.ensures.1
    (c.in_ok-origin.origin, c.in_ok-origin.ensures.ok, c.in_err-own.ensures.err)))

pub returns : goal.returns
returns c =
    let puts = subst (λ own. Puts own (length own) c.args.octets.now c.put.new.buffer c.put.result) c.as_slice.ensures.value c.put.ensures in
    inl (c.in_ok-origin.origin, c.in_ok-own.own.items, c.in_ok-origin.ensures.ok, c.in_ok-own.ensures.ok, puts)
