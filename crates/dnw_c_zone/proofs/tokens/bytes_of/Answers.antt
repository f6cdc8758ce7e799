use Rattle.std.proofs.lemmas.Str.{IsUtf8-string_bytes}
use Rattle.dnw_c_zone.proofs.TokenTexts.{words_step}
use Rattle.dnw_c_zone.proofs.tokens.bytes_of.Goals as goal

pub loop-word-preserved : goal.loop-word-preserved
loop-word-preserved c =
    words_step c.deref-word-items.result.now c.args.words.now.items c.loop-word.word-index c.word-item.result c.loop-word.bytes.items
    c.extend_from_slice.new.self.items c.as_bytes.result.now c.push.new.self.items c.deref-word-items.ensures.value c.loop-word-test.true c.word-item.is
    (IsUtf8-string_bytes c.word-item.result) c.as_bytes.ensures.value c.in_ok-extend_from_slice.ensures.items c.in_ok-push.ensures.items c.loop-word.invariant
