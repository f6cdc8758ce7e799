use Rattle.std.proofs.Common.{arith}
use Rattle.dnw_name_arpa.proofs.Decimals.{one_digit, two_digits, three_digits}
use Rattle.dnw_name_arpa.proofs.writing.push_octet.Goals as goal

pub returns-then-octet-ge100-clause-labels : goal.returns-then-octet-ge100-clause-labels
returns-then-octet-ge100-clause-labels c = rw (three_digits c.args.octet (omega arith) (omega arith)) c.push_label.ensures.labels

pub returns-then-octet-ge10-clause-labels : goal.returns-then-octet-ge10-clause-labels
returns-then-octet-ge10-clause-labels c = rw (two_digits c.args.octet (omega arith) (omega arith)) c.push_label-then-octet-ge10.ensures.labels

pub returns-else-octet-ge10-clause-labels : goal.returns-else-octet-ge10-clause-labels
returns-else-octet-ge10-clause-labels c = rw (one_digit c.args.octet (omega arith)) c.push_label-else-octet-ge10.ensures.labels
