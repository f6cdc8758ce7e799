use Rattle.dnw_data.proofs.Taking.{own_read}
use Rattle.dnw_data.proofs.field.own_at.Goals as goal

pub returns : goal.returns
returns c =
    let within = rw c.index.ensures.index at c.index.ensures.within in
    let size_is = rw (c.message.ensures, c.index.ensures.index) at c.own_size-size.ensures in
    let few = rw (c.message.ensures, c.index.ensures.index) at c.if-left-size.false in
    let (ok, alone, own) = own_read c.args.kind c.args.reader.now c.own_size-size.result within size_is few in
    rw (c.message.ensures, c.index.ensures.index) (record { ok = ok; size = (alone, own); err = tt })
