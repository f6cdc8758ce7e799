use Rattle.std.proofs.Common.{refl, sym, subst}
use Rattle.ans_answer.specs.Answers.{said}
use Rattle.ans_answer.specs.Inside.Steps.{EndsAs}
use Rattle.ans_answer.specs.Seen.{numbered_name, lead_seen, names_of}
use Rattle.ans_answer.proofs.Steps.{dname_goes, dname_stops, ok_none, ok_some}
use Rattle.ans_answer.proofs.answer.Answer.add.Goals as goal

pub returns-in-Stays-clause-none : goal.returns-in-Stays-clause-none
returns-in-Stays-clause-none c others =
    subst (λ l. EndsAs c.args.zone.now.records c.args.asked.now.labels c.args.self.now c.stay.new.self
    (said others c.args.zone.now c.args.code (names_of c.args.asked.now.labels c.args.self.now) (numbered_name (names_of c.args.asked.now.labels c.args.self.now) c.args.number) (lead_seen c.args.zone.now.records l)))
    (sym c.in-Stays.is) (c.stay.ensures c.args.asked.now.labels)

pub returns-in_ok-link-in-Dname-clause-some : goal.returns-in_ok-link-in-Dname-clause-some
returns-in_ok-link-in-Dname-clause-some c =
    ok_some c.turn-in-Dname.result
    (λ name turn. dname_goes c.args.zone.now c.args.asked.now.labels c.args.code c.args.number c.args.self.now c.link.new.self _ name c.requires.upto.names
    c.link.ensures.names _ turn c.args.lead c.in-Dname.node c.in-Dname.next c.in-Dname.is refl c.in_ok-link-in-Dname.ensures.parts)
    c.turn-in-Dname.ensures.some

pub returns-in_ok-link-in-Dname-clause-none : goal.returns-in_ok-link-in-Dname-clause-none
returns-in_ok-link-in-Dname-clause-none c =
    ok_none c.turn-in-Dname.result
    (λ turn. dname_stops c.args.zone.now c.args.asked.now.labels c.args.code c.args.number c.args.self.now c.link.new.self _ c.requires.upto.names
    c.link.ensures.names _ turn c.args.lead c.in-Dname.node c.in-Dname.next c.in-Dname.is refl c.in_ok-link-in-Dname.ensures.parts)
    c.turn-in-Dname.ensures.none
