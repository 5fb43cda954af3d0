-- A finger that serves stays in its leaf. Assumes nothing.
use Rattle.model.specs.Numbered.{broken}
use Rattle.std.specs.Prelude.{Ok, Err, Some, None, Option}
use Rattle.std.proofs.Common.{◌≡◌, ℕ, ◌-◌, Bool, true, false, cond, ◌&&◌, eqb, ltb, leb, List, drop, sym, ap, arith}
use Rattle.model.specs.Node.{used, find_from, wrap}
use Rattle.model.specs.State.{node_at}
use Rattle.model.specs.Locate.{finger, back, moved_to, walked, served, served_by}
use Rattle.model.specs.declared.shape.Shape.{Shape}
use Rattle.model.specs.Node.{Found}
use Rattle.model.specs.declared.head.Finger.{Finger}
use Rattle.model.specs.Locate.{Search}
use Rattle.calls_read.specs.Lookup.{MovedInLeaf, Stayed}

nothing_apart : (m : Finger) (o : ℕ) → ◌≡◌ {A = Search} (Ok None) (Ok (Some (m, o))) → ⊥
nothing_apart m o q = let z : ◌≡◌ {A = ℕ} 0 1 = cc in omega arith

broken_apart : (m : Finger) (o : ℕ) → ◌≡◌ {A = Search} (Err broken) (Ok (Some (m, o))) → ⊥
broken_apart m o q = let z : ◌≡◌ {A = ℕ} 0 1 = cc in omega arith

-- where a search gives a finger, it is f moved within its leaf
abbrev InLeaf : Finger → Search → Type 0
InLeaf f r = (m : Finger) (o : ℕ) → r ≡ Ok (Some (m, o)) → MovedInLeaf f m

module _ (v e : ℕ) where
  moved_in : (f : Finger) (index : ℕ) (r : Found) → InLeaf f (moved_to v e f index r)
  moved_in f index (Some (j, offset, a, b)) m o q =
      let both : ◌≡◌ {A = Finger × ℕ} (finger f.view f.leaf f.start f.effect j (index - offset) (wrap a) f.prepare (wrap b), offset) (m, o) = cc in
      let z : finger f.view f.leaf f.start f.effect j (index - offset) (wrap a) f.prepare (wrap b) ≡ m = ap (λ (x : Finger × ℕ). x.0) both in
      record {
        view = sym (ap (λ (x : Finger). x.view) z);
        leaf = sym (ap (λ (x : Finger). x.leaf) z);
        start = sym (ap (λ (x : Finger). x.start) z);
        effect = sym (ap (λ (x : Finger). x.effect) z);
        prepare = sym (ap (λ (x : Finger). x.prepare) z);
      }
  moved_in f index None m o q = absurd (nothing_apart m o q)

  walked_in : (f : Finger) (index : ℕ) (slots : List (List ℕ)) → InLeaf f (walked v e f index slots)
  unfolding walked
  walked_in f index slots =
      let b = back v e slots index f.slot f.within f.effect_within f.prepare_within in
      let r = find_from v e b.slot (index - b.within) b.within_effect b.within_prepare (drop b.slot slots) in
      go (ltb index b.within) (moved_to v e f index r) (moved_in f index r)
    where
      go : (t : Bool) (r : Search) → InLeaf f r → InLeaf f (cond t (Err broken) r)
      go true r h m o q = absurd (broken_apart m o q)
      go false r h m o q = h m o q

  module _ (g : Shape) (leaves index : ℕ) (ls : List ℕ) where
    served_in : (f : Finger) → InLeaf f (served v e g f leaves index ls)
    unfolding served
    served_in f =
        let n = node_at g f.leaf ls in
        go (eqb f.view v && leb f.start index) (ltb f.leaf leaves && leb n.len g.fan && ltb f.slot n.len) (walked v e f (index - f.start) (used n))
        (walked_in f (index - f.start) (used n))
      where
        go : (s t : Bool) (r : Search) → InLeaf f r → InLeaf f (cond s (cond t r (Err broken)) (Ok None))
        go true true r h m o q = h m o q
        go true false r h m o q = absurd (broken_apart m o q)
        go false t r h m o q = absurd (nothing_apart m o q)

    pub served_stays : (t : Option Finger) (m : Finger) (o : ℕ) → served_by v e g t leaves index ls ≡ Ok (Some (m, o)) → Stayed t (Some m)
    served_stays None m o q = absurd (nothing_apart m o q)
    served_stays (Some f) m o q = served_in f m o q
