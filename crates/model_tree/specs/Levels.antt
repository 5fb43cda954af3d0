-- The stack of levels: what children say of themselves is what their parents say of them.
use Rattle.std.specs.Prelude.{◌≡◌, refl, ℕ, zero, suc, ◌+◌, length, take}
use Rattle.std.proofs.Common.{sym, ap, ap₂, ◌∙◌, zero-add, add-zero, add-suc, suc-add, arith}
use mathlib.Core.List.{List, [], ◌∷◌, ◌++◌, map, nil≢cons, head-eq_of_cons-eq, tail-eq_of_cons-eq}
use Rattle.model.specs.Lists.{sum_by}
use Rattle.model_tree.specs.Lists.{cat, map_append, InCat, cat_split}

pub record Slot : Type 0 where
  pub child : ℕ
  pub lens : ℕ → ℕ

-- a slot that no node holds
abbrev pub no_slot : Slot
no_slot = record { child = 4294967295; lens = λ v. 0 }

-- the nodes of one area: the slots in use, the parent, the place in the parent
pub record Area : Type 0 where
  pub slots : ℕ → List Slot
  pub parent : ℕ → ℕ
  pub place : ℕ → ℕ

pub record Mark : Type 0 where
  pub num : ℕ
  pub par : ℕ
  pub pos : ℕ
  pub wt : ℕ → ℕ

-- what node p says of its children in the column w; what node c says of itself, its total being t c
abbrev pub marks : ℕ → ℕ → List Slot → List Mark
marks p i [] = []
marks p i (s ∷ ss) = record { num = s.child; par = p; pos = i; wt = s.lens } ∷ marks p (suc i) ss

abbrev pub told : Area → ℕ → List Mark
told a p = marks p 0 (a.slots p)

abbrev pub said : (ℕ → ℕ → ℕ) → Area → ℕ → Mark
said t a c = record { num = c; par = a.parent c; pos = a.place c; wt = t c }

-- the length in column v
abbrev pub len : ℕ → Slot → ℕ
len v s = s.lens v

abbrev pub total : Area → ℕ → ℕ → ℕ
total a p v = sum_by (len v) (a.slots p)

abbrev pub none : ℕ
none = 4294967295

-- C: the nodes of one level in order, whose own words are in `low` and whose totals are t; st: the levels above it, the nearest first
abbrev pub Links : (ℕ → ℕ → ℕ) → Area → Area → ℕ → List ℕ → List (List ℕ) → Type 0
Links t low up root C [] = (C ≡ root ∷ []) × (low.parent root ≡ none) × (low.place root ≡ 0)
Links t low up root C (P ∷ st) = (map (said t low) C ≡ cat (told up) P) × Links (total up) up up root P st

-- rank above the leaf
abbrev pub climb : ℕ → Area → Area → ℕ → ℕ → ℕ
climb v low up zero c = 0
climb v low up (suc d) c = sum_by (len v) (take (low.place c) (up.slots (low.parent c))) + climb v up up d (low.parent c)

pub length_marks : (p i : ℕ) (ss : List Slot) → length (marks p i ss) ≡ length ss
length_marks p i [] = refl
length_marks p i (s ∷ ss) = ap suc (length_marks p (suc i) ss)

pub marks_append : (p i : ℕ) (s t : List Slot) → marks p i (s ++ t) ≡ marks p i s ++ marks p (i + length s) t
marks_append p i [] t = rw add-zero
marks_append p i (x ∷ s) t = ap₂ ◌∷◌ refl (marks_append p (suc i) s t ∙ rw (suc-add, add-suc))

abbrev pub wt_of : ℕ → Mark → ℕ
wt_of v m = m.wt v

pub sum_marks : (v p i : ℕ) (ss : List Slot) → sum_by (wt_of v) (marks p i ss) ≡ sum_by (len v) ss
unfolding sum_by
sum_marks v p i [] = refl
sum_marks v p i (s ∷ ss) = rw (sum_marks v p (suc i) ss)

-- a mark in the middle of the marks of one node
pub record MarkAt (p i : ℕ) (ss : List Slot) (F₁ : List Mark) (m : Mark) (F₂ : List Mark) : Type 0 where
  pub S₁ : List Slot
  pub s : Slot
  pub S₂ : List Slot
  pub row : ss ≡ S₁ ++ s ∷ S₂
  pub first : F₁ ≡ marks p i S₁
  pub num : m.num ≡ s.child
  pub par : m.par ≡ p
  pub pos : m.pos ≡ i + length F₁
  pub wt : m.wt ≡ s.lens
  pub size : length F₁ ≡ length S₁
  pub last : F₂ ≡ marks p (suc (i + length S₁)) S₂

pub mark_at : (p i : ℕ) (ss : List Slot) (F₁ : List Mark) (m : Mark) (F₂ : List Mark) → marks p i ss ≡ F₁ ++ m ∷ F₂ → MarkAt p i ss F₁ m F₂
mark_at p i [] [] m F₂ e = absurd (nil≢cons e)
mark_at p i [] (f ∷ F₁) m F₂ e = absurd (nil≢cons e)
mark_at p i (s ∷ ss) [] m F₂ e =
    let h = head-eq_of_cons-eq e in
    record {
      S₁ = [];
      s = s;
      S₂ = ss;
      row = refl;
      first = refl;
      num = sym (ap (λ (m : Mark). m.num) h);
      par = sym (ap (λ (m : Mark). m.par) h);
      pos = sym (ap (λ (m : Mark). m.pos) h) ∙ sym (add-zero i);
      wt = sym (ap (λ (m : Mark). m.wt) h);
      size = refl;
      last = sym (tail-eq_of_cons-eq e) ∙ rw add-zero;
    }
mark_at p i (s ∷ ss) (f ∷ F₁) m F₂ e = go (mark_at p (suc i) ss F₁ m F₂ (tail-eq_of_cons-eq e))
  where
    go : MarkAt p (suc i) ss F₁ m F₂ → MarkAt p i (s ∷ ss) (f ∷ F₁) m F₂
    go r = record {
      S₁ = s ∷ r.S₁;
      s = r.s;
      S₂ = r.S₂;
      row = ap {B = List Slot} (λ l. s ∷ l) r.row;
      first = ap₂ ◌∷◌ (sym (head-eq_of_cons-eq e)) r.first;
      num = r.num;
      par = r.par;
      pos = omega (arith, r.pos);
      wt = r.wt;
      size = ap suc r.size;
      last = r.last ∙ rw (suc-add, add-suc);
    }

-- a node c of a level and its parent
pub record Parent (t : ℕ → ℕ → ℕ) (low up : Area) (A : List ℕ) (c : ℕ) (B : List ℕ) (P : List ℕ) : Type 0 where
  pub P₁ : List ℕ
  pub P₂ : List ℕ
  pub S₁ : List Slot
  pub s : Slot
  pub S₂ : List Slot
  pub row : P ≡ P₁ ++ low.parent c ∷ P₂
  pub slots : up.slots (low.parent c) ≡ S₁ ++ s ∷ S₂
  pub child : s.child ≡ c
  pub weight : t c ≡ s.lens
  pub place : low.place c ≡ length S₁
  pub before : map (said t low) A ≡ cat (told up) P₁ ++ marks (low.parent c) 0 S₁
  pub after : map (said t low) B ≡ marks (low.parent c) (suc (length S₁)) S₂ ++ cat (told up) P₂

pub find_parent : (t : ℕ → ℕ → ℕ) (low up : Area) (A : List ℕ) (c : ℕ) (B : List ℕ) (P : List ℕ) → map (said t low) (A ++ c ∷ B) ≡ cat (told up) P → Parent t low up A c B P
find_parent t low up A c B P e = go (cat_split (told up) P (map (said t low) A) (said t low c) (map (said t low) B) (sym e ∙ map_append (said t low) A (c ∷ B)))
  where
    go2 : (r : InCat (told up) P (map (said t low) A) (said t low c) (map (said t low) B)) → MarkAt r.p 0 (up.slots r.p) r.F₁ (said t low c) r.F₂ → Parent t low up A c B P
    go2 r q = record {
      P₁ = r.P₁;
      P₂ = r.P₂;
      S₁ = q.S₁;
      s = q.s;
      S₂ = q.S₂;
      row = rw q.par r.row;
      slots = rw q.par q.row;
      child = sym q.num;
      weight = q.wt;
      place = q.pos ∙ omega (arith, q.size);
      before = r.before ∙ rw (q.par, ← q.first);
      after = r.after ∙ rw (q.last, q.par, zero-add);
    }

    go : InCat (told up) P (map (said t low) A) (said t low c) (map (said t low) B) → Parent t low up A c B P
    go r = go2 r (mark_at r.p 0 (up.slots r.p) r.F₁ (said t low c) r.F₂ r.own)
