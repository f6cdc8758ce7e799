use Rattle.std.proofs.Common.{sym}
use Rattle.std.proofs.lemmas.Bool.{eqb-true}
use Rattle.std.proofs.lemmas.List.{nil_from_length}
use Rattle.dnw_data.proofs.Sets.{empty_set, empty_ascends}
use Rattle.dnw_data.proofs.record_type_set.read_bitmap.Goals as goal

pub invariant_of-result : goal.invariant_of-result
invariant_of-result c = empty_ascends c.new.result.items c.new.ensures.items

pub returns-then-is_empty-clause-types : goal.returns-then-is_empty-clause-types
returns-then-is_empty-clause-types c =
    let none = nil_from_length c.args.bitmap.now (eqb-true _ 0 (sym c.if-is_empty.ensures)) in
    empty_set c.args.bitmap.now c.new.result.items none c.new.ensures.items
