use Rattle.dnw_zone_values.proofs.location.of_sizes.Goals as goal

pub returns-in_default : goal.returns-in_default
returns-in_default c = λ l is. c.in_default.ensures l.altitude is.0

pub returns-in_default-size_of : goal.returns-in_default-size_of
returns-in_default-size_of c = λ l is. c.in_default-size_of.ensures l.size is.1

pub returns-in_default-size_of-2 : goal.returns-in_default-size_of-2
returns-in_default-size_of-2 c = λ l is. c.in_default-size_of-2.ensures l.horizontal is.2

pub returns-in_default-size_of-3 : goal.returns-in_default-size_of-3
returns-in_default-size_of-3 c = λ l is. c.in_default-size_of-3.ensures l.vertical is.3
