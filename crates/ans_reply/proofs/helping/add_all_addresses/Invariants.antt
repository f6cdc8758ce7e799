use Rattle.std.proofs.Common.{◌≡◌, drop}
use Rattle.ans_reply.specs.Sections.{each_once}
use Rattle.ans_reply.proofs.Once.{addresses_from}
use Rattle.ans_reply.proofs.helping.add_all_addresses.Given as goal

abbrev pub invariant-servers : goal.invariant-servers
invariant-servers l =
    each_once l.records.items (addresses_from l.zone l.is_referral (drop l.server-index l.servers))
    ≡ each_once l.fn.records.items (addresses_from l.zone l.is_referral l.servers)
