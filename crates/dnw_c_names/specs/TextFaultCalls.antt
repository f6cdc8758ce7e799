-- The failures that stand for the rules of names' texts.
use Rattle.dnw_name_text.specs.declared.error.NameTextRule.{NameTextRule}
use Rattle.dnw_name_text.specs.declared.error.NameTextRule.TheVariants as rule
use Rattle.dnw_c_base.specs.declared.failure.Failure.{Failure}
use Rattle.dnw_c_base.specs.declared.failure.Failure.TheVariants as why

abbrev pub of_rule : NameTextRule → Failure
of_rule rule.EmptyLabel = why.EmptyLabel
of_rule rule.LabelTooLong = why.LabelTooLong
of_rule rule.NameTooLong = why.NameTooLong
of_rule rule.BadEscape = why.BadEscape
of_rule rule.UnfinishedEscape = why.TextCut
