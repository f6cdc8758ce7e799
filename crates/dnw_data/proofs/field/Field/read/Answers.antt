use Rattle.dnw_data.specs.declared.kind.Kind.TheVariants.{Name}
use Rattle.dnw_data.proofs.Taking.{accepts, rejects, as_field}
use Rattle.dnw_data.proofs.field.Field.read.Goals as goal

pub returns-in-Name-clause-accepts : goal.returns-in-Name-clause-accepts
returns-in-Name-clause-accepts c value after h =
    accepts (Name c.in-Name.field-0) c.args.reader.now _ c.read_name.result c.read_name.ensures.ok c.read_name.ensures.err value after (rw c.in-Name.is at h)

pub returns-in-Name-clause-fails : goal.returns-in-Name-clause-fails
returns-in-Name-clause-fails c error h =
    rejects (Name c.in-Name.field-0) c.args.reader.now _ c.read_name.result c.read_name.ensures.ok c.read_name.ensures.err error (rw c.in-Name.is at h)

pub returns-in_default : goal.returns-in_default
returns-in_default c =
    let (ok, err) = as_field c.args.kind c.in_default.not-Name c.args.reader.now _ c.read_own.result c.read_own.ensures.ok c.read_own.ensures.err in
    record {
      ok = ok;
      err = err;
      same = c.read_own.ensures.same;
      accepts = accepts c.args.kind c.args.reader.now _ c.read_own.result ok err;
      fails = rejects c.args.kind c.args.reader.now c.read_own.new.reader c.read_own.result ok err;
    }
