use Rattle.std.proofs.Common.{◌≡◌, ◌∙◌, ◌-◌, ℕ, List, length, refl, ap, arith}
use Rattle.std.proofs.lemmas.Bool.{both_ways}
use Rattle.dnw_base.specs.Names.{wire}
use Rattle.dnw_name_text.proofs.PlainNames.{none_plain, plain_each, plain_name_size}
use Rattle.dnw_name_text.proofs.printing.put_plain_text.Goals as goal
use Rattle.dnw_name_text.proofs.printing.put_plain_text.Goals.{then-len-eq0-via-then-len-eq0, then-len-eq0-via-else-len-eq0+then-len-out, then-len-eq0-via-else-len-eq0+else-len-out+then-not-are_plain}

pub returns-then-len-eq0-clause-none : goal.returns-then-len-eq0-clause-none
returns-then-len-eq0-clause-none c =
    let size : length c.as_wire-form.result.now - 1 ≡ length (wire c.args.labels) - 1 = ap (λ (form : List ℕ). length form - 1) c.as_wire-form.ensures.form in (
      refl,
      λ plain. elim c.then-len-eq0.branch [
        | then-len-eq0-via-then-len-eq0 w ↦ absurd (none_plain c.args.labels _ size w.if-len-eq0.true plain)
        | then-len-eq0-via-else-len-eq0+then-len-out w ↦ omega (arith, w.if-len-out.true, size, plain_name_size c.args.labels plain)
        | then-len-eq0-via-else-len-eq0+else-len-out+then-not-are_plain w ↦
            let each = plain_each c.args.labels plain in
            absurd (both_ways w.are_plain.result w.if-not-are_plain.true (w.are_plain.ensures.plain ∙ rw w.clone.ensures.same each))
      ],
    )
