-- `tree_area::word::at_of`: the third word is the place in the parent.
use mathlib.Core.Path.{sym, ◌∙◌}
use Rattle.model_laws.specs.Areas.{place_at}
use Rattle.tree_area.proofs.word.at_of.Goals as goal

pub returns : goal.returns
returns c = c.word_of.ensures ∙ sym (place_at c.args.g _ _ c.requires.0.shaped.words)
