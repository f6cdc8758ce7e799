-- What is said by EDNS is added, or not.
use Rattle.std.proofs.Common.{refl}
use Rattle.dnw_message_writer.specs.declared.edns.Edns.{Edns}
use Rattle.dnw_c_messages.specs.SetCalls.{Says}
use Rattle.dnw_c_messages.proofs.sets.add_edns.Goals as goal

pub returns-in-Ok : goal.returns-in-Ok
returns-in-Ok c =
    let e : Edns =
    record { max_payload = c.max.result; rcode_high = c.args.rcode_high; version = c.args.version; dnssec_ok = c.args.dnssec_ok; options = c.args.options } in
    let says : Says c.args.max_payload c.args.rcode_high c.args.version c.args.dnssec_ok c.args.options.now e =
    record { payload = c.max.ensures; high = refl; version_is = refl; wants = refl; others = refl } in
    (e, says, rw (c.min-block.ensures, c.from.ensures) at c.in-Ok.ensures.ok)

pub returns-in-Err : goal.returns-in-Err
returns-in-Err c =
    let e : Edns =
    record { max_payload = c.max.result; rcode_high = c.args.rcode_high; version = c.args.version; dnssec_ok = c.args.dnssec_ok; options = c.args.options } in
    let says : Says c.args.max_payload c.args.rcode_high c.args.version c.args.dnssec_ok c.args.options.now e =
    record { payload = c.max.ensures; high = refl; version_is = refl; wants = refl; others = refl } in
    let fails = rw (c.min-block.ensures, c.from.ensures) at c.in-Err.ensures.err in
    ((e, says, (c.in-Err.error, fails, c.of_write.ensures)), c.in-Err.ensures.same)
