-- `tree_area::word::len_of`: the first word is the number of slots in use.
use mathlib.Core.Path.{sym, ◌∙◌}
use native.Mathlib.Nat.{add-zero}
use Rattle.model_laws.specs.Areas.{len_at}
use Rattle.tree_area.proofs.word.len_of.Goals as goal

pub returns : goal.returns
returns c = rw add-zero at c.word_of.ensures ∙ sym (len_at c.args.g _ _ c.requires.0.shaped.words)
