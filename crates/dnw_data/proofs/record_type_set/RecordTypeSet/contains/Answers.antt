use Rattle.dnw_data.proofs.Sets.{searched}
use Rattle.dnw_data.proofs.record_type_set.RecordTypeSet.contains.Goals as goal

pub returns : goal.returns
returns c =
    let found = rw c.as_slice.ensures.value at c.binary_search.ensures in
    rw (← c.self.view_is, c.is_ok.ensures.value)
    (searched c.self.inside.types.items c.args.record_type c.binary_search.result c.self.invariant found.bound found.position)
