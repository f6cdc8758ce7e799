use Rattle.std.proofs.Common.{◌≡◌, ◌++◌, true, false, ℕ, List, [], ◌∷◌, length, drop, refl, sym, ap, ◌∙◌, subst, append_assoc}
use Rattle.std.proofs.lemmas.List.{take_rest}
use Rattle.dnw_record.specs.DataPieces.{IsData}
use Rattle.dnw_message_writer.specs.Data.{AreOfData, is_to_compress}
use Rattle.dnw_message_writer.specs.declared.pieces.Piece.TheVariants.{Octets, Name}
use Rattle.dnw_message_writer.proofs.Splitting.{data_after, data_rest, of_name, of_own}
use Rattle.dnw_message_writer.proofs.data.+split.Goals as goal

pub returns-then-is_to_compress-clause-are : goal.returns-then-is_to_compress-clause-are
returns-then-is_to_compress-clause-are t c = λ found.
    let octets = c.args.octets.now in
    let ls = c.in-Some-whole_name.labels in
    let kind = c.in-Some.kind.now in
    let others = c.in-Some.others.now in
    let name = c.in-Some-whole_name.ensures.some in
    let is : is_to_compress kind ≡ true = sym c.is_to_compress.ensures ∙ c.if-is_to_compress.true in
    let more = rw (take_rest octets (length c.as_wire.result.now)) at c.split.ensures in
    let (xs, more_is, of) = more.are found in
    let rest = subst (λ (o : List ℕ). AreOfData others (drop (length o) octets) xs) c.as_wire.ensures.form of in (
      Name ls ∷ xs,
      more_is ∙ (ap (λ ps. ps ++ xs) c.push.ensures ∙ append_assoc c.args.pieces.now (Name ls ∷ []) xs),
      rw c.in-Some.ensures.cases.0 (of_name kind others octets ls (Name ls) xs is name.0 name.1 refl (λ at. refl) rest),
    )

pub returns-then-is_to_compress-clause-none : goal.returns-then-is_to_compress-clause-none
returns-then-is_to_compress-clause-none t c = λ fails h.
    let octets = c.args.octets.now in
    let ls = c.in-Some-whole_name.labels in
    let kind = c.in-Some.kind.now in
    let others = c.in-Some.others.now in
    let name = c.in-Some-whole_name.ensures.some in
    let is : is_to_compress kind ≡ true = sym c.is_to_compress.ensures ∙ c.if-is_to_compress.true in
    let more = rw (take_rest octets (length c.as_wire.result.now)) at c.split.ensures in
    more.none fails
    (subst (λ (o : List ℕ). IsData others (drop (length o) octets)) (sym c.as_wire.ensures.form)
    (data_after kind others octets ls is name.0 name.1 (rw c.in-Some.ensures.cases.0 at h)))

pub returns-clause-are : goal.returns-clause-are
returns-clause-are t c = λ found.
    let octets = c.args.octets.now in
    let own = c.in-Some-first_field.own in
    let kind = c.in-Some.kind.now in
    let others = c.in-Some.others.now in
    let other : is_to_compress kind ≡ false = sym c.is_to_compress.ensures ∙ c.if-is_to_compress.false in
    let more = rw (take_rest octets (length own.now)) at c.split-2.ensures in
    let (xs, more_is, of) = more.are found in (
      Octets own ∷ xs,
      more_is ∙ (ap (λ ps. ps ++ xs) c.push-2.ensures ∙ append_assoc c.args.pieces.now (Octets own ∷ []) xs),
      rw c.in-Some.ensures.cases.0 (of_own kind others octets own.now (Octets own) xs other c.in-Some-first_field.ensures.some refl (λ at. refl) of),
    )

pub returns-clause-none : goal.returns-clause-none
returns-clause-none t c = λ fails h.
    let octets = c.args.octets.now in
    let own = c.in-Some-first_field.own.now in
    let more = rw (take_rest octets (length own)) at c.split-2.ensures in
    more.none fails (data_rest c.in-Some.kind.now c.in-Some.others.now octets own c.in-Some-first_field.ensures.some (rw c.in-Some.ensures.cases.0 at h))
