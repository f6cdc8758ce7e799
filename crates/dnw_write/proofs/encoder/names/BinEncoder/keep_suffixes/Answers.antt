use Rattle.std.proofs.Common.{◌++◌, sym, ap, ◌∙◌}
use Rattle.std.proofs.lemmas.List.{append-nil}
use Rattle.dnw_write.specs.EncoderValue.{value}
use Rattle.dnw_write.proofs.Suffixes.{kept_zero}
use Rattle.dnw_write.proofs.encoder.names.BinEncoder.keep_suffixes.Goals as goal

pub returns-then-count-eq0-clause-ok : goal.returns-then-count-eq0-clause-ok
returns-then-count-eq0-clause-ok c =
    let v = value c.args.self.now in
    sym (ap (λ cs. record v { candidates = v.candidates ++ cs }) (kept_zero v c.args.name.now c.args.count c.if-count-eq0.true)
    ∙ ap (λ cs. record v { candidates = cs }) (append-nil v.candidates))
