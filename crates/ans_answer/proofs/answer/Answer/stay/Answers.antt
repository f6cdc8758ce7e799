use Rattle.std.proofs.Common.{Some, not, List, length, eqb, ap, refl, sym, subst, ◌∙◌}
use Rattle.ans_answer.specs.Answers.{of_outcome}
use Rattle.ans_answer.specs.Inside.Steps.{EndsAs}
use Rattle.ans_answer.specs.Seen.{numbered_name, names_of, outcome_seen}
use Rattle.dns_names_wire.specs.Words.{ns_code}
use Rattle.ans_answer.specs.declared.answer.Part.{Part as FoundPart}
use Rattle.ans_answer.specs.declared.answer.Part.TheVariants as parts
use Rattle.ans_answer.specs.declared.answer.Rcode.TheVariants.{NoError}
use Rattle.ans_answer.proofs.Steps.{referral_ends}
use Rattle.ans_answer.proofs.answer.Answer.stay.Goals as goal

pub returns-in-Referral : goal.returns-in-Referral
returns-in-Referral c asked =
    let new = record c.args.self.now { rcode = NoError; is_authoritative = not c.is_empty.result; authority = Some (parts.Kept c.in-Referral.node ns_code) } in
    subst (λ o. EndsAs c.args.zone.now.records asked c.args.self.now new (of_outcome c.args.zone.now (numbered_name (names_of asked c.args.self.now) c.args.number) c.args.code (outcome_seen c.args.zone.now.records o)))
    (sym c.in-Referral.is)
    (referral_ends c.args.zone.now asked c.in-Referral.node c.is_empty.result c.args.self.now new c.requires.upto.data_none (c.is_empty.ensures ∙ ap (λ (xs : List FoundPart). eqb (length xs) 0) c.as_slice.ensures.value) refl)

pub returns-in-Exact : goal.returns-in-Exact
returns-in-Exact c asked =
    subst (λ o. EndsAs c.args.zone.now.records asked c.args.self.now c.tell.new.self (of_outcome c.args.zone.now (numbered_name (names_of asked c.args.self.now) c.args.number) c.args.code (outcome_seen c.args.zone.now.records o)))
    (sym c.in-Exact.is) (c.tell.ensures asked)

pub returns-in-Synthesised : goal.returns-in-Synthesised
returns-in-Synthesised c asked =
    subst (λ o. EndsAs c.args.zone.now.records asked c.args.self.now c.tell-in-Synthesised.new.self (of_outcome c.args.zone.now (numbered_name (names_of asked c.args.self.now) c.args.number) c.args.code (outcome_seen c.args.zone.now.records o)))
    (sym c.in-Synthesised.is) (c.tell-in-Synthesised.ensures asked)
