use Rattle.std.proofs.Common.{ℕ}
use Rattle.std.proofs.lemmas.List.{get_or-replicate}
use Rattle.dnw_write_suffixes.specs.Inside.TagTable.{tag}
use Rattle.dnw_write_suffixes.proofs.Rings.{none_linked}
use Rattle.dnw_write_suffixes.proofs.tag_table.TagTable.new.Goals as goal

pub returns : goal.returns
returns c = λ cs. none_linked 256 tag _ _ cs (λ t. get_or-replicate {A = ℕ} 256 t 0 0)
