-- The data of an RRSIG begin with 18 octets, the signer's name follows, and what is after it is cut off.
use Rattle.std.proofs.Common.{List, ℕ, ap, ◌∙◌, take}
use Rattle.dnw_base.specs.Decoder.{Decoder, advanced}
use Rattle.dnw_data.specs.Signature.{before_signer}
use Rattle.dnw_signed.proofs.Rrsigs.{front_part, is_ok, long_enough, rrsig_parts, signed_made, signer_there, skipped}
use Rattle.dnw_signed.proofs.canonical.cut_signature.Goals as goal

pub unwrap-requires : goal.unwrap-requires
unwrap-requires c =
    let (x, rrsig, is) = c.requires in
    let p = rrsig_parts x _ rrsig is in
    (skipped c.new-reader.result c.skip.new.self before_signer c.skip.result
    (rw (c.new-reader.ensures, c.as_slice.ensures.value) (long_enough p)) c.skip.ensures.takes).0

pub unwrap-requires-2 : goal.unwrap-requires-2
unwrap-requires-2 c =
    let (x, rrsig, is) = c.requires in
    let p = rrsig_parts x _ rrsig is in
    let at = (skipped c.new-reader.result c.skip.new.self before_signer c.skip.result
    (rw (c.new-reader.ensures, c.as_slice.ensures.value) (long_enough p)) c.skip.ensures.takes).1 in
    let (k, takes) = signer_there p c.skip.new.self
    (at ∙ ap (λ d. advanced d before_signer) c.new-reader.ensures ∙ ap (λ (b : List ℕ). record { bytes = b; index = before_signer }) c.as_slice.ensures.value) in
    is_ok c.read.result _ (c.read.ensures.accepts _ _ k takes).0

pub returns : goal.returns
returns c x rrsig is =
    let p = rrsig_parts x _ rrsig is in
    let at = (skipped c.new-reader.result c.skip.new.self before_signer c.skip.result
    (rw (c.new-reader.ensures, c.as_slice.ensures.value) (long_enough p)) c.skip.ensures.takes).1 in
    let (k, takes) = signer_there p c.skip.new.self
    (at ∙ ap (λ d. advanced d before_signer) c.new-reader.ensures ∙ ap (λ (b : List ℕ). record { bytes = b; index = before_signer }) c.as_slice.ensures.value) in
    let there = (c.read.ensures.accepts _ _ k takes).1 in
    signed_made x _ _ rrsig p
    (c.truncate.ensures.items ∙ ap (λ n. take n c.args.fields.now.items) (c.index-end.ensures.index ∙ ap (λ (d : Decoder). d.index) there) ∙ front_part p)
