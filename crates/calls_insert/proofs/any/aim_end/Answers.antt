-- `calls_insert::any::aim_end`: the last slots lead to the leaf, which is one in use with no more slots than it has, or there is none.
use mathlib.Core.Path.{sym, ap, ◌∙◌}
use Rattle.std.specs.Prelude.{Ok}
use Rattle.calls_insert.proofs.TargetLaws.{last_in}
use Rattle.calls_insert.proofs.any.aim_end.Goals as goal

pub len_of-len-requires : goal.len_of-len-requires
len_of-len-requires c = (c.requires.0, last_in c.args.g _ _ _ _ (ap Ok (sym c.in-Some.is) ∙ c.in_ok-k.ensures))
