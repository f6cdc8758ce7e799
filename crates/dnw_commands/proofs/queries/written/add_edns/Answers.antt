use Rattle.std.proofs.Common.{refl}
use Rattle.std.proofs.lemmas.Result.{err_from_is_err_and}
use Rattle.dns_names_wire.specs.declared.message_writer.Edns.{Edns}
use Rattle.dnw_commands.specs.Asking.{SaysEdns, FailsToSayEdns, IsEdnsOf}
use Rattle.dnw_commands.proofs.queries.written.add_edns.Goals as goal

pub returns-in_err-edns-clause-err : goal.returns-in_err-edns-clause-err
unfolding FailsToSayEdns
returns-in_err-edns-clause-err c =
    let asked = c.args.asked.now in
    let edns : Edns = record { max_payload = 1232; rcode_high = 0; version = 0; dnssec_ok = asked.dnssec_ok; options = c.as_slice.result } in
    let says : IsEdnsOf asked edns = (refl, refl, refl, refl, c.as_slice.ensures.value) in
    let exit = c.from_residual in
    let (failure, is, same) = err_from_is_err_and exit.result exit.ensures.1 in
    rw (is, same) (edns, says, c.in_err-edns.ensures.err)

pub returns-clause-ok : goal.returns-clause-ok
unfolding SaysEdns
returns-clause-ok c =
    let asked = c.args.asked.now in
    let edns : Edns = record { max_payload = 1232; rcode_high = 0; version = 0; dnssec_ok = asked.dnssec_ok; options = c.as_slice.result } in
    let says : IsEdnsOf asked edns = (refl, refl, refl, refl, c.as_slice.ensures.value) in
    (edns, says, c.in_ok-edns.ensures.ok)
