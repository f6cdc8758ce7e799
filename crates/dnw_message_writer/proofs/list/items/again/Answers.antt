-- A decoder that skips to an offset is there.
use Rattle.std.proofs.Common.{◌≡◌, ℕ, List}
use Rattle.dnw_base.specs.Decoder.{Decoder}
use Rattle.dnw_record.proofs.RecordReading.{started}
use Rattle.dnw_message_writer.proofs.list.items.again.Goals as goal

at_index : (d : Decoder) (bytes : List ℕ) (index : ℕ) (after : Decoder) → bytes ≡ d.bytes → index ≡ d.index
    → after ≡ record { bytes = bytes; index = index } → after ≡ d
at_index d bytes index after same there is = rw (same, there) at is

pub returns : goal.returns
returns c =
    let within = rw (← c.message.ensures) at c.index.ensures.within in
    at_index c.args.decoder.now _ _ _ c.message.ensures c.index.ensures.index
    (started c.message.result.now c.index.result c.new-again.result c.skip.result c.skip.new.self c.new-again.ensures within c.skip.ensures.takes)
