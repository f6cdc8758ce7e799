-- Each suffix in turn, from the longest on, is the first that is usable, or is ruled out.
use Rattle.std.proofs.Common.{◌+◌, ◌≤◌, length, sym, ◌∙◌, subst, arith}
use Rattle.dnw_base.proofs.Wires.{AreLabels_few}
use Rattle.dnw_write.specs.EncoderValue.{value}
use Rattle.dnw_write.specs.EmittedName.{so_far}
use Rattle.dnw_write_suffixes.specs.Candidates.{IsFirstUsable, NoneUsable}
use Rattle.dnw_write.proofs.Suffixes.{drop_next, labels_wire_take, length_all, none_more, nowhere, suffix_found}
use Rattle.dnw_write.proofs.encoder.names.BinEncoder.find_suffix.Goals as goal
use Rattle.dnw_write.proofs.encoder.names.BinEncoder.find_suffix.Goals.{In_default}

pub returns-in_err-label-clause-finds : goal.returns-in_err-label-clause-finds
returns-in_err-label-clause-finds c =
    let (within, rest, size, none) = c.suffixes.invariant in
    rw c.from_residual.ensures (nowhere (value c.args.self.now) c.args.name.now c.suffixes.labels within (sym rest ∙ c.in_err-label.ensures.steps.0) none)

pub returns-in-Some-clause-finds : goal.returns-in-Some-clause-finds
returns-in-Some-clause-finds c =
    let (within, rest, size, none) = c.suffixes.invariant in
    let v = value c.args.self.now in
    let found = subst (λ ls. IsFirstUsable (so_far v) v.candidates ls c.in-Some.target) (c.clone-suffix.ensures.same ∙ rest) c.in-Some.ensures.finds in
    suffix_found v c.args.name.now c.suffixes.labels c.suffixes.size c.in-Some.target c.in_ok-label.label.now c.next.new.self within
    (sym rest ∙ c.in_ok-label.ensures.steps) size none found

-- the labels that were passed, and one more, are among those of the name
within : (c : In_default) → (c.suffixes.labels + 1 ≤ 127) × (c.suffixes.size + 1 + length c.in_ok-label.label.now ≤ 254)
within c =
    let (within, rest, size, none) = c.suffixes.invariant in
    let (more, others, bytes) = drop_next c.args.name.now c.suffixes.labels c.in_ok-label.label.now c.next.new.self (sym rest ∙ c.in_ok-label.ensures.steps) in
    let ls = c.args.name.now in
    let names = c.clone-rest.ensures.labels in
    (omega (arith, more, AreLabels_few ls names), omega (arith, size, bytes, labels_wire_take (c.suffixes.labels + 1) ls, length_all ls, names.fit))

pub overflow_add-labels : goal.overflow_add-labels
overflow_add-labels c = let few = (within c).0 in omega (arith, few)

pub overflow_add-size : goal.overflow_add-size
overflow_add-size c = let few = (within c).1 in omega (arith, few)

pub overflow_add-size-in-suffixes : goal.overflow_add-size-in-suffixes
overflow_add-size-in-suffixes c = let few = (within c).1 in omega (arith, few)

pub suffixes-preserved : goal.suffixes-preserved
suffixes-preserved c =
    let (within, rest, size, none) = c.suffixes.invariant in
    let ls = c.args.name.now in
    let v = value c.args.self.now in
    let (more, others, bytes) = drop_next ls c.suffixes.labels c.in_ok-label.label.now c.next.new.self (sym rest ∙ c.in_ok-label.ensures.steps) in
    let here = subst (λ x. NoneUsable (so_far v) v.candidates x) (c.clone-suffix.ensures.same ∙ rest) c.in_default.ensures.finds in
    (more, sym others, omega (arith, size, bytes), none_more v ls c.suffixes.labels none here)
