-- A character takes at least one byte and at most four, and no more than an escape of four characters does.
use Rattle.std.proofs.Common.{arith}
use Rattle.std.proofs.lemmas.Str.{length-encode, len_utf8_bounds}
use Rattle.dnw_name_text.proofs.ascii.step.Goals as goal

pub returns-in-None-clause-longer : goal.returns-in-None-clause-longer
returns-in-None-clause-longer c = c.bad_digit.ensures.longer _

pub returns-in-Some-octal_digit-clause-longer : goal.returns-in-Some-octal_digit-clause-longer
returns-in-Some-octal_digit-clause-longer c =
    rw c.in-AfterTwo.is
    (omega (arith, length-encode c.octal_char.result, (len_utf8_bounds c.octal_char.result).1, length-encode c.args.c, (len_utf8_bounds c.args.c).0))

pub returns-in-None-octal_digit-clause-longer : goal.returns-in-None-octal_digit-clause-longer
returns-in-None-octal_digit-clause-longer c = c.bad_digit-in-None-octal_digit.ensures.longer _
