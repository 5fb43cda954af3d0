-- `tree_node::read::used_total`: the slots in use are the first len of a node, or all of them where len is past the fan.
use Rattle.std.proofs.Common.{◌≡◌, ℕ, List, get_or, take, min, sym, ap, ◌∙◌}
use Rattle.std.proofs.lemmas.List.{take_min}
use Rattle.model.specs.Node.{slots_from, node_of, used, total}
use Rattle.model_laws.specs.Slots.{slots_length}
use Rattle.tree_node.proofs.read.used_total.Goals as goal

-- no more slots are in use than there are
front : (s fan m : ℕ) (ws : List ℕ) → m ≡ min (get_or ws 0 0) fan → take m (node_of s fan ws).slots ≡ used (node_of s fan ws)
unfolding node_of
front s fan m ws e =
    let slots = slots_from s fan 3 ws in
    ap (λ (n : ℕ). take n slots) (e ∙ ap (min (get_or ws 0 0)) (sym (slots_length s fan 3 ws))) ∙ take_min (get_or ws 0 0) slots

pub returns : goal.returns
returns c = (c.start.ensures.0 ∙ ap (total c.args.view) (front _ _ _ _ c.min.ensures), c.start.ensures.1)
