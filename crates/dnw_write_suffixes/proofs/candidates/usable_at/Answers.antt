-- This candidate is the first that is usable; or none is so far.
use Rattle.std.proofs.Common.{suc, take, drop, sym, ◌∙◌, arith}
use Rattle.std.proofs.lemmas.List.{length-take-le}
use Rattle.std.proofs.lemmas.List.Elements.{AllWithin-more, at_read}
use Rattle.dnw_write_suffixes.specs.Candidates.{Candidate}
use Rattle.dnw_write_suffixes.specs.Inside.TagTable.{CannotBe}
use Rattle.dnw_write_suffixes.proofs.CandidateLists.{between, not_before}
use Rattle.dnw_write_suffixes.proofs.candidates.usable_at.Goals as goal

pub returns-then-is_usable-clause-finds : goal.returns-then-is_usable-clause-finds
returns-then-is_usable-clause-finds c =
    let cs = c.args.held.now in
    let i = c.args.index in
    let (has, end, pointers, name) = c.is_usable.ensures.0 c.if-is_usable.true in
    record {
      before = take i cs;
      after = drop (suc i) cs;
      usable = record {
        split = rw (← c.requires.bytes, ← has)
            (between c.get-start.result.1.now cs i c.get-start.result.0 c.requires.index c.get-start.ensures.item);
        end = end;
        pointers = pointers;
        name = name;
      };
      first = λ other earlier later u. omega (arith, not_before i c.requires.passed u, length-take-le i cs);
    }

pub returns-clause-none : goal.returns-clause-none
returns-clause-none c = λ _.
    let own : Candidate = (c.get-start.result.0, c.get-start.result.1.now) in
    let P = CannotBe c.args.message.now c.args.labels in
    let is = c.is_usable.ensures.1 in
    let cannot : P own = λ same end pointers name. let yes = is (same ∙ sym c.requires.bytes, end, pointers, name) in absurd cc in
    AllWithin-more P c.args.held.now 0 c.args.index c.requires.passed
    (at_read c.args.held.now P c.args.index own c.requires.index c.get-start.ensures.item cannot)
