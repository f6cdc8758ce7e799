use Rattle.std.proofs.Common.{drop}
use Rattle.std.specs.String.{string_bytes}
use Rattle.dnw_commands.specs.Shown.{texts_of}
use Rattle.dnw_commands.proofs.Lines.{HasLines}
use Rattle.dnw_commands.proofs.names.shown.push_lines.Given as goal

abbrev pub invariant-words : goal.invariant-words
invariant-words l = HasLines l.fn.shown (texts_of l.fn.words) (texts_of (drop l.word-index l.fn.words)) (string_bytes l.text)
