use Rattle.dnw_zone_data.proofs.parsing.parse_octets.Goals as goal

pub returns-in-Text : goal.returns-in-Text
returns-in-Text c = rw c.in-Text.is c.parse_text.ensures

pub returns-in-Nsap : goal.returns-in-Nsap
returns-in-Nsap c = rw c.in-Nsap.is c.parse_nsap.ensures
