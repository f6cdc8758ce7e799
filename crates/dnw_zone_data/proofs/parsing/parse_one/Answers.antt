use Rattle.std.proofs.Common.{List, ℕ, true, false, sym, ◌∙◌, subst}
use Rattle.std.specs.Option.{option_copied}
use Rattle.dnw_zone_data.specs.Parsing.{IsWord}
use Rattle.dnw_zone_data.specs.Words.{word}
use Rattle.dnw_zone_data.proofs.FewDigits.{number_field}
use Rattle.dnw_zone_data.proofs.parsing.parse_one.Goals as goal

pub returns-then-branch-clause-reads : goal.returns-then-branch-clause-reads
returns-then-branch-clause-reads c =
    let one = number_field (option_copied c.args.origin) c.args.form c.args.kind (word c.args.left.now) c.args.out.now.items c.push_number.new.out.items c.in-Some.number true (sym c.is_number.ensures ∙ c.if-is_number.true)
    c.in-Some.ensures.number (rw c.if-branch.true at c.in_ok-push_number.ensures) in
    (one.0, (one.1, c.in-Some.ensures.rest), one.2)

pub returns-else-branch-clause-reads : goal.returns-else-branch-clause-reads
returns-else-branch-clause-reads c =
    let none = number_field (option_copied c.args.origin) c.args.form c.args.kind (word c.args.left.now) c.args.out.now.items c.push_number.new.out.items c.in-Some.number false (sym c.is_number.ensures ∙ c.if-is_number.true)
    c.in-Some.ensures.number (rw c.if-branch.false at c.in_ok-push_number.ensures) in
    λ value rest is. none value is.0

pub returns-else-branch-2-clause-reads : goal.returns-else-branch-2-clause-reads
returns-else-branch-2-clause-reads c =
    let none = rw c.if-branch-2.false at c.in_ok-parse_word.ensures in
    λ value rest is. none value (subst (λ (w : List ℕ). IsWord (option_copied c.args.origin) c.args.form c.args.kind w value) (sym c.split_word.ensures.word) is.0)
