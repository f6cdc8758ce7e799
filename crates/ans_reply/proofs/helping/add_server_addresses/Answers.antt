use Rattle.ans_answer.specs.Additionals.{addresses}
use Rattle.ans_answer.specs.Answers.{Named}
use Rattle.dns_names_wire.specs.Words.{a_code, aaaa_code}
use Rattle.ans_reply.proofs.Once.{two_parts}
use Rattle.ans_reply.proofs.helping.add_server_addresses.Goals as goal

pub returns : goal.returns
returns c =
    two_parts c.args.records.now.items c.add_addresses.new.records.items c.add_addresses-2.new.records.items
    (Named c.args.server.now.labels (addresses c.args.zone.now c.args.is_referral c.args.server.now.labels a_code))
    (Named c.args.server.now.labels (addresses c.args.zone.now c.args.is_referral c.args.server.now.labels aaaa_code))
    c.in_ok-add_addresses.ensures c.in_ok-add_addresses-2.ensures
