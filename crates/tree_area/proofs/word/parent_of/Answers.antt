-- `tree_area::word::parent_of`: the second word is the parent.
use mathlib.Core.Path.{sym, ◌∙◌}
use Rattle.model_laws.specs.Areas.{parent_at}
use Rattle.tree_area.proofs.word.parent_of.Goals as goal

pub returns : goal.returns
returns c = c.word_of.ensures ∙ sym (parent_at c.args.g _ _ c.requires.0.shaped.words)
