-- What the decoder takes up to the end of the data is their name, and there is no other.
use Rattle.std.proofs.Common.{◌≡◌, ap, length, sym, true≢false, ◌∙◌}
use Rattle.dns_names_wire.specs.Words.{Decoder}
use Rattle.ans_response.proofs.Readings.{is_target, target_taken}
use Rattle.ans_response.proofs.aliases.target_of.Goals as goal

pub returns-in_default : goal.returns-in_default
returns-in_default c target are =
    sym (are.others c.args.record.now
    (λ name is. (c.in_default.ensures.accepts _ _ _ (target_taken c.args.record.now c.data_decoder-reader.result name c.data_decoder-reader.ensures is)).0))

pub returns-then-is_empty : goal.returns-then-is_empty
returns-then-is_empty c target are =
    let (k, takes) = c.in-Ok.ensures.ok in
    sym (are.named c.args.record.now c.in-Ok.name
    (is_target c.args.record.now c.data_decoder-reader.result c.read.new.decoder c.in-Ok.name k c.data_decoder-reader.ensures takes (c.is_empty.ensures.0 c.if-is_empty.true)))

pub returns-else-is_empty : goal.returns-else-is_empty
returns-else-is_empty c target are =
    sym (are.others c.args.record.now
    (λ name is.
    let (_, moved) = c.in-Ok.ensures.accepts _ _ _ (target_taken c.args.record.now c.data_decoder-reader.result name c.data_decoder-reader.ensures is) in
    let all : c.read.new.decoder.index ≡ length c.read.new.decoder.bytes = ap (λ (d : Decoder). d.index) moved ∙ sym (ap (λ (d : Decoder). length d.bytes) moved) in
    true≢false (sym (c.is_empty.ensures.1 all) ∙ c.if-is_empty.false)))
