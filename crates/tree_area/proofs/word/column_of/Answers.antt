-- `tree_area::word::column_of`: slot i begins 3 + i * stride words into the node.
use mathlib.Core.Path.{sym, ◌∙◌}
use Rattle.model_laws.specs.Areas.{column_at}
use Rattle.tree_area.proofs.word.column_of.Goals as goal

pub returns : goal.returns
returns c = c.word_of.ensures ∙ sym (column_at c.args.g _ _ c.requires.0.shaped.words _ _ c.requires.2 c.requires.3)
