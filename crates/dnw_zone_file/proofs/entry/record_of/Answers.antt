use Rattle.std.proofs.Common.{refl, ap, ◌∙◌}
use Rattle.dnw_zone_file.specs.declared.context.Context.{Context}
use Rattle.dnw_zone_file.specs.Contexts.{with_record}
use Rattle.dnw_zone_file.proofs.entry.record_of.Goals as goal

pub returns-in-Ok-clause-ok : goal.returns-in-Ok-clause-ok
returns-in-Ok-clause-ok c = (
  c.in-Ok.head,
  c.in-Ok.found,
  c.in-Ok.ensures.ok,
  refl,
  c.note.ensures ∙ ap (λ (x : Context). with_record x c.args.owner c.in-Ok.head) c.note_minimum.ensures,
)

pub returns-in-Err-clause-err : goal.returns-in-Err-clause-err
returns-in-Err-clause-err c = (c.in-Err.ensures.err, refl)
