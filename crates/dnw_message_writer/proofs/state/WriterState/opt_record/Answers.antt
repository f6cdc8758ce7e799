use Rattle.std.proofs.Common.{◌≡◌, ◌++◌, ◌∷◌, List, [], ap, refl}
use Rattle.std.specs.List.{flat_map}
use Rattle.std.proofs.lemmas.List.{append-nil}
use Rattle.dnw_data.specs.Table.{fields_of}
use Rattle.dnw_message_writer.specs.Data.{AreOfData, whole_octets}
use Rattle.dnw_message_writer.specs.Listed.{data_form, data_past}
use Rattle.dnw_message_writer.specs.declared.pieces.Piece.{Piece}
use Rattle.dnw_message_writer.specs.declared.pieces.Piece.TheVariants.{Octets}
use Rattle.dnw_message_writer.specs.declared.section.Section.TheVariants.{Additionals}
use Rattle.dnw_message_writer.proofs.Opts.{adds_as, fails_as, if_err_as, on_ok_as, opt_pieces}
use Rattle.dnw_message_writer.proofs.state.WriterState.opt_record.Goals as goal

pub returns-clause-ok : goal.returns-clause-ok
returns-clause-ok c =
    let d = c.args.options.now ++ (c.args.head.now ++ c.args.zeros.now) in
    let xs : List Piece = Octets c.args.options ∷ Octets c.args.head ∷ Octets c.args.zeros ∷ [] in
    let whole : flat_map whole_octets xs ≡ d = ap (λ o. c.args.options.now ++ (c.args.head.now ++ o)) (append-nil c.args.zeros.now) in
    let of : AreOfData (fields_of c.args.class 41 d) d xs = opt_pieces c.args.class d xs whole (λ at. refl) in
    on_ok_as c.record.result
    (adds_as Additionals _ (data_form [] 41 c.args.class c.args.ttl d) c.args.self.now c.args.message.now c.record.new.self c.record.new.message
    refl (λ b near hints octets after is. (xs, of, is)))
    (rw (c.root.ensures, c.code.ensures) at c.record.ensures.ok)

pub returns-clause-err : goal.returns-clause-err
returns-clause-err c =
    let d = c.args.options.now ++ (c.args.head.now ++ c.args.zeros.now) in
    let xs : List Piece = Octets c.args.options ∷ Octets c.args.head ∷ Octets c.args.zeros ∷ [] in
    let whole : flat_map whole_octets xs ≡ d = ap (λ o. c.args.options.now ++ (c.args.head.now ++ o)) (append-nil c.args.zeros.now) in
    let of : AreOfData (fields_of c.args.class 41 d) d xs = opt_pieces c.args.class d xs whole (λ at. refl) in
    if_err_as c.record.result _ _
    (λ e. fails_as Additionals _ (data_past [] 41 c.args.class c.args.ttl d) c.args.self.now c.args.message.now e refl (λ limit b near hints goes. (xs, of, goes)))
    (rw (c.root.ensures, c.code.ensures) at c.record.ensures.err)
