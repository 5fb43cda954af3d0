-- `tree_finger::search::from_root`: the leaf that the descent comes to is searched; an answer without a leaf is passed on.
use Rattle.std.specs.Prelude.{Ok, Some}
use Rattle.std.proofs.Common.{◌≡◌, sym, ap, ◌∙◌, arith}
use Rattle.model.specs.Locate.{Descent, leaf_of, from_root}
use Rattle.model_laws.specs.Find.{descend_rests, nothing_rests}
use Rattle.model_laws.specs.Examined.{find_counted, root_counted}
use Rattle.tree_finger.proofs.search.from_root.Goals.{In-Ok-Some}
use Rattle.tree_finger.proofs.search.from_root.Goals as goal

-- the end of the descent
arrived : (c : In-Ok-Some) → ◌≡◌ {A = Descent} c.descend-way.result.end (Ok (Some (c.in-Ok-Some.leaf, c.in-Ok-Some.rest, c.in-Ok-Some.effects, c.in-Ok-Some.prepares)))
arrived c = c.in-Ok-Some.is ∙ ap Ok (rw c.in-Ok-Some.is at c.in-Ok-Some.field-0-is)

pub search_leaf-requires : goal.search_leaf-requires
search_leaf-requires c = (
  c.requires.0,
  c.requires.2,
  c.requires.3,
  c.requires.5,
  (descend_rests _ _ c.args.g _ _ _ _ _ _ _ (nothing_rests _)).rest _ _ _ _ (sym c.descend-way.ensures.is ∙ arrived (goal.at.search_leaf-requires c).In-Ok-Some),
  omega (arith, c.descend-way.ensures.few, c.requires.4),
)

pub returns-in-Ok-Some : goal.returns-in-Ok-Some
unfolding from_root
returns-in-Ok-Some c =
    let descend = c.descend-way in
    let way = arrived (goal.at.returns-in-Ok-Some c).In-Ok-Some in
    c.search_leaf.ensures
    ∙ root_counted _ _ _ _ _ _ (ap (leaf_of _ _ c.args.g _ _ _) (sym descend.ensures.is ∙ way)) (descend.ensures.counts _ _ _ _ way _)

pub returns-in-Ok-None : goal.returns-in-Ok-None
unfolding from_root
returns-in-Ok-None c = find_counted _ _ _ (ap (leaf_of _ _ c.args.g _ _ _) (sym c.descend-way.ensures.is ∙ c.in-Ok-None.is ∙ ap Ok (rw c.in-Ok-None.is at c.in-Ok-None.field-0-is)))

pub returns-in-Err : goal.returns-in-Err
unfolding from_root
returns-in-Err c = find_counted _ _ _ (ap (leaf_of _ _ c.args.g _ _ _) (sym c.descend-way.ensures.is ∙ c.in-Err.is))
