use Rattle.std.proofs.Common.{◌≡◌, ◌+◌, refl, ap, ◌∙◌}
use Rattle.dnw_base.specs.Decoder.{Decoder}
use Rattle.dnw_data.specs.Fields.{own_at, size_at}
use Rattle.dnw_record.specs.DataPieces.{octets_piece}
use Rattle.dnw_record.proofs.Copying.{takes_own}
use Rattle.dnw_record.proofs.Followed.{own_follows}
use Rattle.dnw_signed.proofs.fields.put_own.Goals as goal

pub returns-clause-ok : goal.returns-clause-ok
returns-clause-ok c =
    let d = c.args.reader.now in
    let (enough, right, is, there) = takes_own c.args.kind d c.read.new.reader _ c.requires c.in-Ok.ensures.ok in
    let end : c.index.result ≡ d.index + size_at c.args.kind d = c.index.ensures.index ∙ ap (λ (x : Decoder). x.index) there in
    let items = rw (end, c.index-start.ensures.index, c.message-message.ensures) at c.in_ok-extend_from_slice.ensures.items in
    (octets_piece (own_at c.args.kind d), (enough, right, refl, there), items)

pub returns-clause-follows : goal.returns-clause-follows
returns-clause-follows c = own_follows c.args.kind c.args.reader.now c.read.new.reader _ c.requires c.in-Ok.ensures.ok
