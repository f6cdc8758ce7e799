use Rattle.std.proofs.Common.{◌==◌, sym, ◌∙◌, arith}
use Rattle.dns_names_wire.specs.Words.{type_code}
use Rattle.ans_store.proofs.Search.{any_found, any_none, none_more}
use Rattle.ans_store.proofs.lookup.have_type.Goals as goal

pub returns-then-has_type : goal.returns-then-has_type
returns-then-has_type c =
    sym (any_found (λ r. type_code r.record_type == c.args.code) c.args.records.now c.args.start c.args.end c.requires.within c.records.number c.get.result
    (omega arith) (omega arith) c.get.ensures (sym c.has_type.ensures ∙ c.if-has_type.true))

pub records-preserved : goal.records-preserved
records-preserved c =
    none_more (λ r. type_code r.record_type == c.args.code) c.args.records.now c.args.start c.records.number c.get.result (omega arith) c.get.ensures
    (sym c.has_type.ensures ∙ c.if-has_type.false) c.records.invariant

pub returns : goal.returns
returns c =
    sym (any_none (λ r. type_code r.record_type == c.args.code) c.args.records.now c.args.start c.args.end c.requires.within
    (λ k d a b. c.records.invariant k d a (omega arith)))
