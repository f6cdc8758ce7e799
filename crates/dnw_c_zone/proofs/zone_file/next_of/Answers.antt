use Rattle.dnw_c_zone.proofs.zone_file.next_of.Goals as goal

pub returns : goal.returns
returns c = rw (← c.time_of-number.ensures) c.take_generated.ensures
