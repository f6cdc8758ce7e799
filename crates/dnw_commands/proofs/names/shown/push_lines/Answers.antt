use Rattle.std.specs.String.{string_bytes}
use Rattle.dnw_commands.proofs.Lines.{all_words, one_word}
use Rattle.dnw_commands.proofs.names.shown.push_lines.Goals as goal

pub words-preserved : goal.words-preserved
words-preserved c =
    let (line, is, grown) = c.in_ok-push_line.ensures.ok in
    one_word c.args.shown c.args.words.now c.words.word-index _ (string_bytes c.words.text) line (string_bytes c.push_line.new.text) c.words-test.true c.words.invariant is grown

pub returns-clause-ok : goal.returns-clause-ok
returns-clause-ok c = all_words c.args.shown c.args.words.now c.words.word-index (string_bytes c.words.text) c.words-test.false c.words.invariant
