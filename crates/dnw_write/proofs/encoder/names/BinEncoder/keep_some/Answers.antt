-- As many suffixes are kept as the definition says.
use Rattle.std.proofs.Common.{◌≡◌, ◌+◌, ◌-◌, ◌<◌, ◌≤◌, ◌++◌, length, min, sym, ap, ◌∙◌, arith}
use Rattle.std.proofs.lemmas.List.{append-nil}
use Rattle.std.proofs.lemmas.Result.{err_from_is_err_and}
use Rattle.dnw_base.specs.Names.{labels_wire}
use Rattle.dnw_base.proofs.Wires.{length_wire}
use Rattle.dnw_write.specs.EncoderValue.{value}
use Rattle.dnw_write.proofs.Suffixes.{length_all, kept_none, kept_some}
use Rattle.dnw_write.proofs.encoder.names.BinEncoder.keep_some.Goals as goal

pub returns-then-as_wire-min-clause-ok : goal.returns-then-as_wire-min-clause-ok
returns-then-as_wire-min-clause-ok c =
    let v = value c.args.self.now in
    let ls = c.args.name.now in
    let far : 16383 ≤ v.offset + length (labels_wire ls) = omega (arith, c.if-as_wire-min.true, c.min.ensures, ap length c.as_wire.ensures.form, length_wire ls, length_all ls) in
    sym (ap (λ cs. record v { candidates = v.candidates ++ cs }) (kept_none v ls c.args.count far) ∙ ap (λ cs. record v { candidates = cs }) (append-nil v.candidates))

pub push_suffixes-requires : goal.push_suffixes-requires
push_suffixes-requires c =
    let near : c.args.self.now.offset + length (labels_wire c.args.name.now) < 16383 =
    omega (arith, c.if-as_wire-min.false, c.min.ensures, ap length c.as_wire.ensures.form, length_wire c.args.name.now, length_all c.args.name.now) in
    record { reached = rw c.clone.ensures.same near }

pub returns-in_err-push_suffixes-clause-needed : goal.returns-in_err-push_suffixes-clause-needed
returns-in_err-push_suffixes-clause-needed c =
    let v = value c.args.self.now in
    let ls = c.args.name.now in
    let near : v.offset + length (labels_wire ls) < 16383 = omega (arith, c.if-as_wire-min.false, c.min.ensures, ap length c.as_wire.ensures.form, length_wire ls, length_all ls) in
    let count : c.min-2.result ≡ min c.args.count (v.candidate_limit - length v.candidates) = omega (arith, c.min-2.ensures, c.saturating_sub-allowed.ensures, c.len.ensures) in
    let p = err_from_is_err_and c.from_residual.result c.from_residual.ensures.1 in
    rw p.1 (λ none. c.in_err-push_suffixes.ensures.needed (kept_some v ls c.clone.result c.args.count c.min-2.result near count c.clone.ensures.same ∙ none))

pub returns-clause-ok : goal.returns-clause-ok
returns-clause-ok c =
    let v = value c.args.self.now in
    let ls = c.args.name.now in
    let near : v.offset + length (labels_wire ls) < 16383 = omega (arith, c.if-as_wire-min.false, c.min.ensures, ap length c.as_wire.ensures.form, length_wire ls, length_all ls) in
    let count : c.min-2.result ≡ min c.args.count (v.candidate_limit - length v.candidates) = omega (arith, c.min-2.ensures, c.saturating_sub-allowed.ensures, c.len.ensures) in
    let same = kept_some v ls c.clone.result c.args.count c.min-2.result near count c.clone.ensures.same in
    ap (λ cs. record v { candidates = cs }) (c.in_ok-push_suffixes.ensures.ok ∙ ap (λ cs. v.candidates ++ cs) same)
