use Rattle.test_calls.specs.TestItems.{then}
use Rattle.test_calls.proofs.items.TestItemBinEncodable.emit.Goals as goal

pub returns-clause-emits : goal.returns-clause-emits
returns-clause-emits c =
    then _ _ _ _ _ _ c.in_ok-emit_u8.ensures.writes (rw (← c.as_slice.ensures.value) c.emit_character_data.ensures.writes)
