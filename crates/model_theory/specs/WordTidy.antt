-- A tidy node: its parent, its place and the slots in use decide all its words. Every change of a node keeps it tidy. Assumes nothing.
use Rattle.std.specs.Prelude.{◌≡◌, refl, get_or, set}
use Rattle.std.proofs.Common.{sym, ◌∙◌, subst, length-set, take-append-drop, get_or-drop, get_or-append-add, ext_get_or}
use Rattle.std.proofs.Math.Path.{ap}
use mathlib.Core.List.{List, [], ◌∷◌, ◌++◌, append-nil}
use Prim.Native.Nat.{ℕ, suc, ◌+◌, ◌-◌, ◌<◌, ◌≤◌}
use native.Mathlib.Omega.{arith}
use Rattle.std.proofs.Math.ListN.{length, take, drop, replicate, length-append, length-drop, get_or-append}
use Rattle.std.proofs.lemmas.List.{length-replicate, get_or-replicate, set-append_left}
use Rattle.std.proofs.Math.Seq.{length-take-le, take-append_seam, take-append-le, drop-append-le, drop-append-add, take_at}
use Rattle.model.specs.Node.{Node, node, child, used, empty_slot, empty_slots, with_lengths, inserted, lower_half, upper_half, half}
use Rattle.model_laws.specs.Lists.{all_append, all_take}
use Rattle.model_laws.specs.Slots.{Wide}
use Rattle.model_laws.specs.Nodes.{Formed}
use Rattle.model_laws.specs.Formed.{empty_wide}

-- the node of these slots
abbrev pub made : ℕ → ℕ → ℕ → ℕ → List (List ℕ) → Node
made s fan p a rows = node (length rows) p a (rows ++ empty_slots s (fan - length rows))

pub record Tidy (s fan : ℕ) (n : Node) : Type 0 where
  pub is : n ≡ made s fan n.parent n.at (used n)
  pub most : length (used n) ≤ fan
  pub wide : Wide s (used n)

module _ (s fan : ℕ) where
  pub used_made : (p a : ℕ) (rows : List (List ℕ)) → used (made s fan p a rows) ≡ rows
  used_made p a rows = take-append_seam rows (empty_slots s (fan - length rows))

  pub formed_made : (p a : ℕ) (rows : List (List ℕ)) → 0 < s → length rows ≤ fan → Wide s rows → Formed s fan (made s fan p a rows)
  formed_made p a rows pos h w = record {
    count = length-append rows (empty_slots s (fan - length rows)) ∙ (omega (arith, length-replicate (fan - length rows) (empty_slot s)));
    wide = all_append (λ x. length x ≡ s) rows (empty_slots s (fan - length rows)) w (empty_wide s (fan - length rows) pos);
  }

  pub tidy_made : (p a : ℕ) (rows : List (List ℕ)) → length rows ≤ fan → Wide s rows → Tidy s fan (made s fan p a rows)
  tidy_made p a rows h w = record {
    is = ap (made s fan p a) (sym (used_made p a rows));
    most = rw (used_made p a rows) h;
    wide = rw (used_made p a rows) w;
  }

  module _ (n : Node) (t : Tidy s fan n) where
    pub len_used : n.len ≡ length (used n)
    len_used = ap (λ (m : Node). m.len) t.is

    pub tidy_formed : 0 < s → Formed s fan n
    tidy_formed pos = subst (Formed s fan) (sym t.is) (formed_made n.parent n.at (used n) pos t.most t.wide)

    -- what stands before a slot in use, and the slot
    pub slots_before_law : (i : ℕ) → i ≤ length (used n) → take i n.slots ≡ take i (used n)
    slots_before_law i h = ap (λ (m : Node). take i m.slots) t.is ∙ take-append-le i (used n) (empty_slots s (fan - length (used n))) h

    pub slot_used : (i : ℕ) (d : List ℕ) → i < length (used n) → get_or n.slots i d ≡ get_or (used n) i d
    slot_used i d h = ap (λ (m : Node). get_or m.slots i d) t.is ∙ get_or-append (used n) (empty_slots s (fan - length (used n))) d i h

    pub slot_unused : (i : ℕ) → n.len ≤ i → i < fan → get_or n.slots i [] ≡ empty_slot s
    slot_unused i le lt =
        let l : n.len ≡ length (used n) = len_used in
        let e : i ≡ length (used n) + (i - length (used n)) = omega arith in
        ap (λ (m : Node). get_or m.slots i []) t.is ∙ ap (λ (j : ℕ). get_or (used n ++ empty_slots s (fan - length (used n))) j []) e
        ∙ get_or-append-add (used n) (empty_slots s (fan - length (used n))) (i - length (used n)) []
        ∙ get_or-replicate (fan - length (used n)) (i - length (used n)) (empty_slot s) [] (omega arith)

  -- a node whose unused slots are empty
  pub tidy_filled : (n : Node) → Formed s fan n → n.len ≤ fan → ((i : ℕ) → n.len ≤ i → i < fan → get_or n.slots i [] ≡ empty_slot s) → Tidy s fan n
  tidy_filled n f h unused =
      let c : length n.slots ≡ fan = f.count in
      let l : length (used n) ≡ n.len = length-take-le n.len n.slots (omega arith) in
      let ld : length (drop n.len n.slots) ≡ fan - n.len = length-drop n.len n.slots ∙ (omega arith) in
      let e : drop n.len n.slots ≡ empty_slots s (fan - n.len) =
      ext_get_or [] (drop n.len n.slots) (empty_slots s (fan - n.len)) (ld ∙ sym (length-replicate (fan - n.len) (empty_slot s)))
      (λ i lt. get_or-drop n.len n.slots i [] ∙ unused (n.len + i) (omega arith) (omega arith) ∙ sym (get_or-replicate (fan - n.len) i (empty_slot s) [] (omega arith))) in
      record {
        is = ap (λ (ss : List (List ℕ)). node n.len n.parent n.at ss) (sym (take-append-drop n.len n.slots) ∙ ap (λ (ss : List (List ℕ)). used n ++ ss) e)
            ∙ ap (λ (m : ℕ). node m n.parent n.at (used n ++ empty_slots s (fan - m))) (sym l);
        most = omega arith;
        wide = all_take (λ x. length x ≡ s) n.len n.slots f.wide;
      }

  module _ (p a : ℕ) (rows : List (List ℕ)) where
    -- one slot more
    pub inserted_made : (i : ℕ) (x : List ℕ) → i ≤ length rows → length rows < fan → inserted i x (made s fan p a rows) ≡ made s fan p a (take i rows ++ x ∷ drop i rows)
    unfolding inserted
    inserted_made i x le lt =
        let E : List (List ℕ) = empty_slots s (fan - length rows) in
        let ld : length (drop i rows) ≡ length rows - i = length-drop i rows in
        let lt' : length (take i rows) ≡ i = length-take-le i rows le in
        let l : length (take i rows ++ x ∷ drop i rows) ≡ length rows + 1 = length-append (take i rows) (x ∷ drop i rows) ∙ (omega arith) in
        let e1 : take i (rows ++ E) ≡ take i rows = take-append-le i rows E le in
        let e2 : take (length rows - i) (drop i (rows ++ E)) ≡ drop i rows =
        ap (take (length rows - i)) (drop-append-le i rows E le) ∙ take_at (drop i rows) E (length rows - i) ld in
        let e3 : drop (length rows + 1) (rows ++ E) ≡ empty_slots s (fan - (length rows + 1)) =
        drop-append-add rows E 1 ∙ less (fan - length rows) (fan - (length rows + 1)) (omega arith) in
        rw (e1, e2, e3, l) (ap (λ (ss : List (List ℕ)). node (length rows + 1) p a ss) (assoc (take i rows) (x ∷ drop i rows) (empty_slots s (fan - (length rows + 1)))))
      where
        less : (m n : ℕ) → m ≡ suc n → drop 1 (replicate m (empty_slot s)) ≡ replicate n (empty_slot s)
        less m n e = rw e

        assoc : (x y z : List (List ℕ)) → x ++ (y ++ z) ≡ (x ++ y) ++ z
        assoc [] y z = refl
        assoc (w ∷ x) y z = ap {B = List (List ℕ)} (λ l. w ∷ l) (assoc x y z)

    -- other lengths for a slot in use
    pub lengths_made : (i : ℕ) (ls : List ℕ) → i < length rows → with_lengths i ls (made s fan p a rows) ≡ made s fan p a (set rows i (child (get_or rows i []) ∷ ls))
    lengths_made i ls lt =
        let E : List (List ℕ) = empty_slots s (fan - length rows) in
        let y : List ℕ = child (get_or rows i []) ∷ ls in
        ap (λ (z : List ℕ). node (length rows) p a (set (rows ++ E) i (child z ∷ ls))) (get_or-append rows E [] i lt)
        ∙ ap (λ (ss : List (List ℕ)). node (length rows) p a ss) (set-append_left rows E i y lt)
        ∙ ap (λ (m : ℕ). node m p a (set rows i y ++ empty_slots s (fan - m))) (sym (length-set rows i y))

    -- the halves of a full node
    pub lower_made : length rows ≡ fan → lower_half s fan (made s fan p a rows) ≡ made s fan p a (take (half fan) rows)
    unfolding lower_half
    lower_made full =
        let l : length (take (half fan) rows) ≡ half fan = length-take-le (half fan) rows (omega arith) in
        rw l (ap (λ (ss : List (List ℕ)). node (half fan) p a (ss ++ empty_slots s (fan - half fan))) (take-append-le (half fan) rows (empty_slots s (fan - length rows)) (omega arith)))

    pub upper_made : length rows ≡ fan → upper_half s fan (made s fan p a rows) ≡ made s fan p 0 (drop (half fan) rows)
    unfolding upper_half
    upper_made full =
        let l : length (drop (half fan) rows) ≡ fan - half fan = length-drop (half fan) rows ∙ (omega arith) in
        let h : fan - (fan - half fan) ≡ half fan = omega arith in
        let z : fan - length rows ≡ 0 = omega arith in
        let e : drop (half fan) (rows ++ empty_slots s (fan - length rows)) ≡ drop (half fan) rows =
        drop-append-le (half fan) rows (empty_slots s (fan - length rows)) (omega arith)
        ∙ ap (λ (m : ℕ). drop (half fan) rows ++ empty_slots s m) z ∙ append-nil (drop (half fan) rows) in
        rw (l, h) (ap (λ (ss : List (List ℕ)). node (fan - half fan) p 0 (ss ++ empty_slots s (half fan))) e)
