-- The name stands at its offset, and is read there.
use Rattle.std.proofs.Common.{◌≡◌, ◌≤◌, Some, length, slice_get, arith}
use Rattle.uses.proofs.TableNames.{begins_within, is_read, ok_if, value_if}
use Rattle.uses.proofs.table.NameTable.name_at.Goals as goal

pub slice_bounds-new-count : goal.slice_bounds-new-count
slice_bounds-new-count c = begins_within _ _ _ _ c.self.invariant c.self.view_is c.deref.ensures.value _ _ c.requires c.index.ensures

pub slice_bounds-new-start : goal.slice_bounds-new-start
slice_bounds-new-start c =
    let within : c.index.result.now ≤ length c.deref.result.now =
    begins_within _ _ _ _ c.self.invariant c.self.view_is c.deref.ensures.value _ _ c.requires c.index.ensures in
    omega (arith, within)

pub unwrap-requires : goal.unwrap-requires
unwrap-requires c =
    ok_if (λ name. slice_get c.args.self.now c.args.index ≡ Some name) c.read.result
    (is_read _ _ _ _ c.self.invariant c.self.view_is c.deref.ensures.value _ _ c.requires c.index.ensures c.reads_back.ensures _ _ _ c.new-decoder.ensures c.read.ensures.accepts)

pub returns : goal.returns
returns c =
    value_if (λ name. slice_get c.args.self.now c.args.index ≡ Some name) c.read.result c.unwrap.result
    (is_read _ _ _ _ c.self.invariant c.self.view_is c.deref.ensures.value _ _ c.requires c.index.ensures c.reads_back.ensures _ _ _ c.new-decoder.ensures c.read.ensures.accepts)
    c.unwrap.ensures
