use Rattle.std.proofs.Common.{◌≡◌, sym, subst}
use Rattle.dnw_base.specs.Decoder.{Decoder}
use Rattle.dnw_name_read.specs.Reading.{TakesName}
use Rattle.dnw_zone_checks.specs.Checks.{IsNameAfter}
use Rattle.dnw_zone_checks.proofs.Adding.{none_read}
use Rattle.dnw_zone_checks.proofs.servers.name_after.Goals as goal

pub returns-clause-err : goal.returns-clause-err
returns-clause-err c =
    none_read c.read.result (IsNameAfter c.args.reader.now c.args.offset) (λ labels name. name ≡ labels)
    (λ name (left, after, k, takes). (c.read.ensures.accepts after name k
    (subst (λ (d : Decoder). TakesName d after name k) (sym c.in_ok-skip.ensures.takes.2) takes)).0)
