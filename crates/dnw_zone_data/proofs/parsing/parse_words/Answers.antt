use Rattle.dnw_zone_data.proofs.parsing.parse_words.Goals as goal

pub returns-in-Shaped : goal.returns-in-Shaped
returns-in-Shaped c = rw c.in-Shaped.is c.parse_shape.ensures
