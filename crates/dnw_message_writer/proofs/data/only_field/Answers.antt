use Rattle.std.proofs.Common.{◌∙◌, length, refl, sym, ap, arith}
use Rattle.dnw_message_writer.specs.declared.pieces.Piece.TheVariants.{Name, Octets}
use Rattle.dnw_message_writer.proofs.Splitting.{name_alone, own_alone}
use Rattle.dnw_message_writer.proofs.data.only_field.Goals as goal

pub returns-then-is_to_compress : goal.returns-then-is_to_compress
returns-then-is_to_compress c =
    let ls = c.in_ok-labels.labels in
    let (are, split) = c.in_ok-labels.ensures.some in
    name_alone c.args.kind c.args.octets.now ls (Name ls) (sym c.is_to_compress.ensures ∙ c.if-is_to_compress.true) are split
    (omega (arith, c.if-as_wire-octets.false, ap length c.as_wire.ensures.form)) refl (λ at. refl)

pub returns : goal.returns
returns c =
    let own = c.in_ok-own.own in
    own_alone c.args.kind c.args.octets.now own.now (Octets own) (sym c.is_to_compress.ensures ∙ c.if-is_to_compress.false) c.in_ok-own.ensures.some
    (omega (arith, c.if-own-octets.false)) refl (λ at. refl)
