use Rattle.std.proofs.Common.{◌≡◌, List, ℕ, ◌++◌, refl, ap, ◌∙◌, append_assoc}
use Rattle.dnw_base.specs.Decoder.{next_bytes}
use Rattle.dnw_base.specs.Names.{lower, wire}
use Rattle.dnw_record.specs.DataCopies.{data_start}
use Rattle.dnw_data.specs.Signature.{before_signer}
use Rattle.dnw_signed.proofs.KnownRrsig.{known_rrsig, known_zone}
use Rattle.dnw_signed.proofs.covering.append_known.Goals as goal

pub returns-clause-ok : goal.returns-clause-ok
returns-clause-ok c =
    let signer = c.in-Ok-read.signer in
    let out = c.args.out.now.items in
    let front = next_bytes (data_start c.args.rrsig.now) before_signer in
    let (left, bytes, moved) = rw c.data_decoder-reader.ensures at c.in-Ok.ensures.takes in
    let (k, takes) = rw moved at c.in-Ok-read.ensures.ok in
    let fixed : c.unverified.result.now ≡ front = rw c.unverified.ensures bytes in
    let zone = rw c.owner.ensures at c.is_in_zone.ensures in (
      front ++ wire (lower signer),
      known_rrsig c.args.rrsig.now signer k _ (front ++ wire (lower signer)) c.requires left takes refl,
      known_zone c.args.rrsig.now signer k _ (front ++ wire (lower signer)) c.is_in_zone.result left takes refl zone,
      c.in_ok-append_name.ensures.ok
          ∙ ap (λ (x : List ℕ). x ++ wire (lower signer)) (c.in_ok-extend_from_slice.ensures.items ∙ ap (λ (x : List ℕ). out ++ x) fixed)
          ∙ append_assoc out front (wire (lower signer)),
    )
