use Rattle.std.proofs.Common.{◌≡◌, length, refl, arith}
use Rattle.dnw_name_arpa.specs.Arpa.{NotUtf8, NotANumber, NotOneDigit}
use Rattle.dnw_name_arpa.proofs.Values.{nibble_of_long, nibble_of_bytes, nibble_of_other}
use Rattle.dnw_name_arpa.proofs.reading.read_nibble.Goals as goal

pub returns-then-label-ne1-clause-follows : goal.returns-then-label-ne1-clause-follows
returns-then-label-ne1-clause-follows c = (NotOneDigit, nibble_of_long c.args.label.now (λ (one : length c.args.label.now ≡ 1). omega arith), refl)

pub returns-in_default-clause-follows : goal.returns-in_default-clause-follows
returns-in_default-clause-follows c = (NotUtf8, nibble_of_bytes c.args.label.now (omega arith) c.in_default.ensures, refl)

pub returns-in-None-clause-follows : goal.returns-in-None-clause-follows
returns-in-None-clause-follows c = (NotANumber, nibble_of_other c.args.label.now (omega arith) c.in-Some.ensures.1 (rw c.from.ensures at c.in-None.ensures.value), refl)
