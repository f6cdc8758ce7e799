-- A name's wire form is read.
use Rattle.std.proofs.Common.{◌≡◌, ◌∙◌, true, ap, sym, rules}
use Rattle.std.specs.Result.{IsOkAnd}
use Rattle.ans_store.proofs.Reading.{ok_holds}
use Rattle.dns_names_wire.specs.Words.{NameValue, encoded_size}
use Rattle.ans_answer.proofs.Targets.{is_whole, reads_whole}
use Rattle.ans_answer.proofs.target.name_of.Goals as goal

pub unwrap-requires : goal.unwrap-requires
unwrap-requires c =
    let (ls, are, is) = c.requires in
    let takes = reads_whole c.reads_back.ensures ls c.args.octets.now c.new-reader.result are is c.new-reader.ensures in
    let ok = c.read.ensures.accepts (record { bytes = c.args.octets.now; index = encoded_size ls }) ls 0 takes in
    let known : IsOkAnd c.read.result (λ x. x ≡ record { is_fqdn = true; labels = ls }) = ok.0 in
    search rules

pub returns : goal.returns
returns c =
    let (ls, are, is) = c.requires in
    let takes = reads_whole c.reads_back.ensures ls c.args.octets.now c.new-reader.result are is c.new-reader.ensures in
    let ok = c.read.ensures.accepts (record { bytes = c.args.octets.now; index = encoded_size ls }) ls 0 takes in
    ap (λ (x : NameValue). x.labels) (ok_holds (λ (x : NameValue). x ≡ record { is_fqdn = true; labels = ls }) c.read.result c.unwrap.result c.unwrap.ensures ok.0)
    ∙ sym (is_whole ls c.args.octets.now are is)
