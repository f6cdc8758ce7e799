use Rattle.std.proofs.Common.{◌∙◌, sym, arith}
use Rattle.std.proofs.lemmas.List.{drop_all}
use Rattle.ans_reply.proofs.Once.{addresses_step, no_addresses}
use Rattle.ans_reply.proofs.helping.add_all_addresses.Goals as goal

pub servers-preserved : goal.servers-preserved
servers-preserved c =
    addresses_step c.args.zone.now c.args.is_referral c.servers.records.items c.add_server_addresses.new.records.items c.args.servers.now c.servers.server-index
    c.server-item.result c.servers-test.true c.server-item.is c.in_ok-add_server_addresses.ensures
    ∙ c.servers.invariant

pub returns : goal.returns
returns c =
    sym (no_addresses c.args.zone.now c.args.is_referral c.servers.records.items c.args.servers.now c.servers.server-index
    (drop_all c.servers.server-index c.args.servers.now (omega (arith, c.servers-test.false))))
    ∙ c.servers.invariant
