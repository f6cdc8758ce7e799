use Rattle.std.proofs.Common.{[], rules, ap, encode_utf8, flat_map, map-id, sym, ◌∙◌, ◌++◌}
use Rattle.std.proofs.Output.{has_written_of_eq}
use Rattle.std.proofs.lemmas.Grind.{put_two}
use Rattle.std.proofs.lemmas.Iterator.{YieldsList-from_chars}
use Rattle.std.proofs.lemmas.Iterator.Consumers.{YieldsList-end}
use Rattle.std.proofs.lemmas.List.{flat_map_more}
use Rattle.dnw_message_read.specs.Texts.{shown_char}
use Rattle.dnw_message_read.proofs.text.write_chars.Goals as goal

pub loop-c-preserved : goal.loop-c-preserved
loop-c-preserved g c = λ plain.
    let so_far = c.loop-c.invariant plain in
    let more = c.write_char.ensures.writes so_far.plain (search rules) in
    put_two g.W.Write.write_str_gives _ _ _ _ _ _ so_far more
    (ap (λ d. flat_map (λ e. encode_utf8 (shown_char e)) c.loop-c.yielded ++ encode_utf8 d) c.shown_char.ensures ∙ flat_map_more (λ d. encode_utf8 (shown_char d)) [] c.loop-c.yielded c.in-Some.c)

pub returns : goal.returns
returns g c = λ plain ok.
    let end = YieldsList-end (YieldsList-from_chars c.args.text.now c.utf8.text cc) c.loop-c.yielded _ c.loop-c.yielded_by _ _ c.in-None.is c.next.ensures.steps in
    has_written_of_eq _ _ _ _ _ (ap (flat_map (λ d. encode_utf8 (shown_char d))) (sym (map-id c.loop-c.yielded) ∙ end.0)) (c.loop-c.invariant plain)
