-- Each turn writes one word that was as before, so that the count grows by that word alone.
use Rattle.std.proofs.Common.{◌≤◌}
use Rattle.tree_words.proofs.TallyLaws.{TallyDone}
use Rattle.tree_words.proofs.write.put.Given as goal

abbrev pub invariant-loop-i : goal.invariant-loop-i
invariant-loop-i l = TallyDone l.p l.i l.count l.src l.initial.ws l.ws × (l.count ≤ l.i)
