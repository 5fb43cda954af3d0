-- `tree_links::parts::word`: word i of a part is the word i further on.
use mathlib.Core.Path.{sym}
use Rattle.model_laws.specs.Words.{get_d_part}
use Rattle.tree_links.proofs.parts.word.Goals as goal

pub returns : goal.returns
returns c = sym (get_d_part _ _ _ _ c.requires.0)
