use Rattle.std.proofs.Common.{◌≡◌, ◌+◌, ◌≤◌, ◌++◌, true, false, [], ◌∷◌, length, drop, refl, sym, ap, ◌∙◌, append_assoc, arith}
use Rattle.std.proofs.lemmas.List.{take_rest}
use Rattle.dnw_base.specs.Names.{wire}
use Rattle.dnw_message_writer.specs.Data.{is_to_compress, names_among}
use Rattle.dnw_message_writer.specs.Inside.Splitting.{HasField}
use Rattle.dnw_message_writer.specs.declared.pieces.Piece.TheVariants.{Octets, Name}
use Rattle.dnw_message_writer.proofs.Taken.{takes_all, takes_name, takes_own}
use Rattle.dnw_message_writer.proofs.taking.+take.Goals as goal

pub returns-then-not-are_to_compress : goal.returns-then-not-are_to_compress
returns-then-not-are_to_compress t c = λ found.
    let d = c.args.reader in
    let all = rw (take_rest c.message.result.now c.index.result, c.message.ensures, c.index.ensures.index) at c.split.ensures in
    let (xs, more_is, of) = all.are found in
    (xs, more_is, takes_all c.args.kinds.now d xs (omega (arith, c.index.ensures.within, c.index.ensures.index, ap length c.message.ensures)) of)

pub returns-then-is_to_compress : goal.returns-then-is_to_compress
returns-then-is_to_compress t c = λ found.
    let kind = c.in-Some.kind.now in
    let others = c.in-Some.others.now in
    let ls = c.in-Ok.name in
    let x = Name c.wire_labels.result in
    let (k, takes) = c.in-Ok.ensures.ok in
    let is : is_to_compress kind ≡ true = sym c.is_to_compress.ensures ∙ c.if-is_to_compress.true in
    let (xs, more_is, of) = c.take.ensures found in (
      x ∷ xs,
      more_is ∙ (ap (λ ps. ps ++ xs) c.push.ensures ∙ append_assoc c.args.pieces.now (x ∷ []) xs),
      rw c.in-Some.ensures.cases.0
          (takes_name kind others c.args.reader c.read.new.decoder ls k x xs is takes (ap wire c.wire_labels.ensures)
          (λ at. ap (λ l. (at, l) ∷ names_among (at + length (wire l)) xs) c.wire_labels.ensures) of),
    )

pub returns : goal.returns
returns t c = λ found.
    let d = c.args.reader in
    let kind = c.in-Some.kind.now in
    let others = c.in-Some.others.now in
    let own = c.in-Some-first_field.own in
    let other : is_to_compress kind ≡ false = sym c.is_to_compress.ensures ∙ c.if-is_to_compress.false in
    let within : d.index ≤ length d.bytes = omega (arith, c.index.ensures.within, c.index.ensures.index, ap length c.message.ensures) in
    let has : HasField kind (drop d.index d.bytes) own.now =
    rw (take_rest c.message.result.now c.index.result, c.message.ensures, c.index.ensures.index) at c.in-Some-first_field.ensures.some in
    let moved = (rw c.unwrap.ensures at c.skip.ensures.takes).2 in
    let (xs, more_is, of) = c.take-2.ensures found in (
      Octets own ∷ xs,
      more_is ∙ (ap (λ ps. ps ++ xs) c.push-2.ensures ∙ append_assoc c.args.pieces.now (Octets own ∷ []) xs),
      rw c.in-Some.ensures.cases.0
          (takes_own kind others d c.skip.new.self own.now (Octets own) xs other within has moved refl (λ at. refl) of),
    )
