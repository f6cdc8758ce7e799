use Rattle.dnw_zone_data.proofs.bitmaps.number_of_word.Goals as goal

pub returns-in-OldTypes : goal.returns-in-OldTypes
returns-in-OldTypes c = rw c.in-OldTypes.is c.old_type_of_word.ensures
