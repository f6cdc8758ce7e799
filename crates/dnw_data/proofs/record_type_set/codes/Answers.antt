use Rattle.dnw_data.proofs.Sets.{coded, coded_above}
use Rattle.dnw_data.proofs.record_type_set.codes.Goals as goal

pub returns-clause-codes : goal.returns-clause-codes
returns-clause-codes c =
    coded c.args.types.now c.loop-record_type.record_type-index c.loop-record_type.codes.items c.dedup.new.self.items c.loop-record_type.invariant c.loop-record_type-test.false c.dedup.ensures.filtered

pub returns-clause-above : goal.returns-clause-above
returns-clause-above c =
    coded_above c.args.types.now c.loop-record_type.record_type-index c.loop-record_type.codes.items c.dedup.new.self.items c.loop-record_type.invariant c.loop-record_type-test.false c.dedup.ensures.filtered c.requires
