use Rattle.std.proofs.Common.{◌≡◌, ◌∙◌, [], Option, ap, refl, sym}
use Rattle.ans_store.specs.declared.lookup.Node.{Node}
use Rattle.ans_answer.specs.Additionals.{addresses}
use Rattle.ans_answer.specs.Answers.{records_of_type}
use Rattle.ans_answer.specs.Seen.{records_seen}
use Rattle.ans_reply.specs.Sections.{each_once}
use Rattle.ans_reply.proofs.helping.add_addresses.Goals as goal

pub returns-in_default : goal.returns-in_default
unfolding each_once records_of_type
returns-in_default c =
    let none : addresses c.args.zone.now c.args.is_referral c.args.server.now.labels c.args.code ≡ [] =
    sym c.addresses_of.ensures.addresses ∙ ap (λ (o : Option Node). records_of_type c.args.code (records_seen c.args.zone.now.records o)) c.in_default.is in
    rw none refl
