-- What make and reset write and answer. Assumes nothing.
use Rattle.model.specs.Numbered.{Numbered, refusal_number}
use Rattle.model.specs.declared.refusal.Refusal.{Refusal}
use Rattle.std.specs.Prelude.{Ok, Err, None}
use Rattle.std.proofs.Common.{◌≡◌, ℕ, ◌+◌, ◌-◌, ◌*◌, ◌/◌, ◌<◌, ◌≤◌, Bool, true, false, cond, ltb, List, [], ◌∷◌, ◌++◌, length, get_or, take, set, sym, refl, ap, ◌∙◌, arith, ltb-false}
use borrow.Rule.Slice.PartMut.{put_mid}
use Rattle.model.specs.Kind.{stride, too_many_lines, crossed}
use Rattle.model.specs.Lists.{Cause, refusal, All, put_at}
use Rattle.model.specs.Node.{none, new_node}
use Rattle.model.specs.Length.{lengths_in}
use Rattle.model.specs.State.{State, state, head_of, next_stamp, shape, put_node}
use Rattle.model.specs.Refuse.{shape_of, crossed_bounds}
use Rattle.model.specs.Calls.{reply, begun, area_causes, make_causes, make, reset}
use Rattle.model.specs.declared.shape.Kind.{Kind}
use Rattle.model.specs.declared.shape.Shape.{Shape}
use Rattle.model_laws.specs.Words.{lent_back}
use Rattle.model_laws.specs.Lists.{rows_le}
use Rattle.tree_node.specs.Shaped.{Shaped}
use Rattle.tree_open.proofs.Bools.{or_false}
use Rattle.tree_open.proofs.Causes.{Positive, none_applies, opened_first, opened_next, opened_none, opened_stop, opened_more, opened_why, opened_zero, good_number, good_shape, good_front, good_tail, call_refused, call_good}
use Rattle.tree_open.proofs.OpenLaws.{sized}
use Rattle.tree_open.proofs.ReadyLaws.{shaped}
use Rattle.tree_open.specs.Open.{opened_by}
use Rattle.calls_make.specs.Made.{make_by}

-- node 0 is the area's first words
pub first_node : (g : Shape) (ws xs : List ℕ) → g.size ≤ length ws → length xs ≡ length (take g.size ws) → put_mid 0 g.size ws xs ≡ put_at (0 * g.size) xs ws
first_node g ws xs h e =
    let from : 0 * g.size ≡ 0 = omega arith in
    let to : 0 + g.size - 0 ≡ g.size = omega arith in
    rw from (rw to at (lent_back 0 g.size ws xs (omega (arith, h)) (rw to e)))

-- the first slot's words, in both areas
module _ (K : Kind) (fan limit stamp : ℕ) (g : Shape) (e : g ≡ shape (stride K) fan limit) (ls xs hs : List ℕ) where
  abbrev made : Shape → List ℕ → State
  made y slot =
      state (head_of fan limit 0 1 1 1 1 stamp None) (put_node y 0 (new_node y.stride y.fan 0 (slot ∷ [])) ls) (put_node y 0 (new_node y.stride y.fan none (slot ∷ [])) xs) (set hs 0 0)

  first_slot : (x : List ℕ) → get_or x 0 0 ≡ 0 → length x ≡ 4 → take (stride K) x ≡ 0 ∷ lengths_in K.views x
  first_slot [] z four = absurd (omega arith)
  first_slot (a ∷ x) z four = ap (λ (b : ℕ). b ∷ take K.views x) z

  pub begin_words : (x ls' xs' : List ℕ) → get_or x 0 0 ≡ 0 → length x ≡ 4 → ls' ≡ put_node g 0 (new_node g.stride g.fan 0 (take g.stride x ∷ [])) ls
      → xs' ≡ put_node g 0 (new_node g.stride g.fan none (take g.stride x ∷ [])) xs
      → state (head_of fan limit 0 1 1 1 1 stamp None) ls' xs' (set hs 0 0) ≡ begun K fan limit stamp (lengths_in K.views x) ls xs hs
  unfolding begun
  begin_words x ls' xs' z four el en =
      rw (el, en) (ap (λ (y : Shape). made y (take y.stride x)) e ∙ ap (made (shape (stride K) fan limit)) (first_slot x z four))

-- the areas of make and reset are long enough
pub record MakeAreas (K : Kind) (fan limit : ℕ) (g : Shape) (ls xs hs : List ℕ) : Type 0 where
  pub same : g ≡ shape (stride K) fan limit
  pub shaped : Shaped g
  pub leaf_area : g.nodes * g.size ≤ length ls
  pub inner_area : g.nodes * g.size ≤ length xs
  pub home_area : limit ≤ length hs
  pub leaves : g.size ≤ length ls
  pub inners : g.size ≤ length xs
  pub homes : 0 < length hs

pub area_numbered : (K : Kind) (fan limit : ℕ) (ls xs hs : List ℕ) → Positive (area_causes K fan limit ls xs hs)
unfolding All
area_numbered K fan limit ls xs hs = (omega arith, (omega arith, tt))

one_node : (b : Bool) (n s m : ℕ) → cond b 1 n * s ≤ m → (b ≡ false → 1 ≤ n) → s ≤ m
one_node true n s m h f = omega arith
one_node false n s m h f = omega (arith, rows_le 1 n s (f refl))

module _ (K : Kind) (w : (1 ≤ K.views) × (K.views ≤ 3)) (fan limit : ℕ) (ls xs hs : List ℕ) (o : Numbered Shape) (e : o ≡ opened_by (area_causes K fan limit ls xs hs) (shape (stride K) fan limit)) where
  pub room : (g : Shape) → o ≡ Ok g → MakeAreas K fan limit g ls xs hs
  unfolding All
  room g d =
      let n = none_applies (area_causes K fan limit ls xs hs) (area_numbered K fan limit ls xs hs) (good_number (area_causes K fan limit ls xs hs) (shape (stride K) fan limit) g (sym e ∙ d)) in
      let z = sized fan limit n.0 in
      let short = or_false _ _ n.1.0 in
      let areas = or_false _ _ short.0 in
      let some : ltb (limit / (fan / 2)) 1 ≡ false → 1 ≤ limit / (fan / 2) = ltb-false (limit / (fan / 2)) 1 in
      let at : (ws : List ℕ) → (shape (stride K) fan limit).nodes * (shape (stride K) fan limit).size ≤ length ws → (shape (stride K) fan limit).size ≤ length ws =
      λ ws h. one_node (ltb (limit / (fan / 2)) 1) (limit / (fan / 2)) (3 + fan * stride K) (length ws) h some in
      rw (← good_shape (area_causes K fan limit ls xs hs) (shape (stride K) fan limit) g (sym e ∙ d))
      (record {
        same = refl;
        shaped = shaped K.views fan limit w z;
        leaf_area = ltb-false _ _ areas.0;
        inner_area = ltb-false _ _ areas.1;
        home_area = ltb-false (length hs) limit short.1;
        leaves = at ls (ltb-false _ _ areas.0);
        inners = at xs (ltb-false _ _ areas.1);
        homes = omega (arith, z.limit_least, ltb-false (length hs) limit short.1);
      })

-- the same where `open_make` gives no number
pub make_room_law : (K : Kind) → (1 ≤ K.views) × (K.views ≤ 3) → (fan limit : ℕ) (l ls xs hs : List ℕ) (o : Numbered Shape) → o ≡ opened_by (make_causes K fan limit l ls xs hs) (shape (stride K) fan limit)
    → (g : Shape) → o ≡ Ok g → MakeAreas K fan limit g ls xs hs
make_room_law K w fan limit l ls xs hs o e g d =
    room K w fan limit ls xs hs _ refl g
    (good_front (area_causes K fan limit ls xs hs) (crossed_bounds K l ∷ []) (shape (stride K) fan limit) g
    (good_tail 9 (too_many_lines K l) (area_causes K fan limit ls xs hs ++ crossed_bounds K l ∷ []) (shape (stride K) fan limit) g (sym e ∙ d)))

-- what `open_make` answers where the line ends aren't too many, from what `open_areas` answered
module _ (K : Kind) (fan limit : ℕ) (l ls xs hs : List ℕ) (m : Bool) (em : m ≡ too_many_lines K l) (few : m ≡ false) (o : Numbered Shape) (e : o ≡ opened_by (area_causes K fan limit ls xs hs) (shape (stride K) fan limit)) where
  behind : opened_by (make_causes K fan limit l ls xs hs) (shape (stride K) fan limit) ≡ opened_by (area_causes K fan limit ls xs hs ++ crossed_bounds K l ∷ []) (shape (stride K) fan limit)
  behind = opened_next 10 _ _ _ (sym em ∙ few)

  pub make_closed : (n : ℕ) → o ≡ Err n → Err n ≡ opened_by (make_causes K fan limit l ls xs hs) (shape (stride K) fan limit)
  make_closed n d = sym (behind ∙ opened_stop (area_causes K fan limit ls xs hs) (crossed_bounds K l ∷ []) _ n (sym e ∙ d))

  module _ (g : Shape) (d : o ≡ Ok g) (b : Bool) (eb : b ≡ crossed K l) where
    last : opened_by (make_causes K fan limit l ls xs hs) (shape (stride K) fan limit) ≡ opened_by (crossed_bounds K l ∷ []) (shape (stride K) fan limit)
    last = behind ∙ opened_more (area_causes K fan limit ls xs hs) (crossed_bounds K l ∷ []) _ g (area_numbered K fan limit ls xs hs) (sym e ∙ d)

    pub make_crossed : b ≡ true → Err 20 ≡ opened_by (make_causes K fan limit l ls xs hs) (shape (stride K) fan limit)
    make_crossed h = sym (last ∙ opened_first 19 _ [] _ (sym eb ∙ h))

    pub make_opened : b ≡ false → Ok g ≡ opened_by (make_causes K fan limit l ls xs hs) (shape (stride K) fan limit)
    make_opened h = sym (last ∙ opened_next 20 _ [] _ (sym eb ∙ h) ∙ opened_none _ ∙ ap Ok (good_shape (area_causes K fan limit ls xs hs) _ g (sym e ∙ d)))

-- what `open_new` answers, with more causes behind those of `open_make`
module _ (K : Kind) (fan limit : ℕ) (l ls xs hs : List ℕ) (o : Numbered Shape) (e : o ≡ opened_by (make_causes K fan limit l ls xs hs) (shape (stride K) fan limit)) (more : List Cause) where
  abbrev causes : List Cause
  causes = make_causes K fan limit l ls xs hs

  pub new_stop : (n : ℕ) → o ≡ Err n → Err n ≡ opened_by (causes ++ more) (shape (stride K) fan limit)
  new_stop n d = sym (opened_stop causes more (shape (stride K) fan limit) n (sym e ∙ d))

  module _ (g : Shape) (d : o ≡ Ok g) (high : ℕ) (er : refusal more ≡ high) where
    positive : Positive causes
    unfolding All
    positive = (omega arith, (omega arith, (omega arith, (omega arith, tt))))

    rest : opened_by (causes ++ more) (shape (stride K) fan limit) ≡ opened_by more (shape (stride K) fan limit)
    rest = opened_more causes more (shape (stride K) fan limit) g positive (sym e ∙ d)

    pub new_high : (why : Refusal) → high ≡ refusal_number why → Err (refusal_number why) ≡ opened_by (causes ++ more) (shape (stride K) fan limit)
    new_high why h = sym (rest ∙ opened_why more (shape (stride K) fan limit) why (sym h ∙ sym er))

    pub new_good : high ≡ 0 → Ok g ≡ opened_by (causes ++ more) (shape (stride K) fan limit)
    new_good h = sym (rest ∙ opened_zero more (shape (stride K) fan limit) (er ∙ h) ∙ ap Ok (good_shape causes (shape (stride K) fan limit) g (sym e ∙ d)))

-- make
module _ (K : Kind) (more : List Cause) (fan limit : ℕ) (l ls xs hs : List ℕ) (o : Numbered Shape) (e : o ≡ opened_by (make_causes K fan limit l ls xs hs ++ more) (shape (stride K) fan limit)) where
  pub make_refused : (n : ℕ) → o ≡ Err n → reply (state (head_of 0 0 0 0 0 0 0 0 None) ls xs hs) (Err n) ≡ make_by K more fan limit l ls xs hs
  unfolding make_by
  make_refused n d =
      call_refused (λ (m : ℕ). reply (state (head_of 0 0 0 0 0 0 0 0 None) ls xs hs) (Err m)) (λ (g : Shape). reply (begun K fan limit 1 l ls xs hs) (Ok tt)) _ _ o e n d

  pub make_good : (g : Shape) → o ≡ Ok g → (s : State) → s ≡ begun K fan limit 1 l ls xs hs → reply s (Ok tt) ≡ make_by K more fan limit l ls xs hs
  unfolding make_by
  make_good g d s q =
      call_good (λ (m : ℕ). reply (state (head_of 0 0 0 0 0 0 0 0 None) ls xs hs) (Err m))
      (λ (y : Shape). reply (begun K fan limit 1 l ls xs hs) (Ok tt)) _ _ o e g d _ (ap (λ (t : State). reply t (Ok tt)) q)

  pub new_room : (1 ≤ K.views) × (K.views ≤ 3) → (g : Shape) → o ≡ Ok g → MakeAreas K fan limit g ls xs hs
  new_room w g d = make_room_law K w fan limit l ls xs hs _ refl g (good_front (make_causes K fan limit l ls xs hs) more (shape (stride K) fan limit) g (sym e ∙ d))

-- without more causes
pub no_more : refusal [] ≡ 0
unfolding refusal
no_more = refl

pub make_plain : (K : Kind) (fan limit : ℕ) (l ls xs hs : List ℕ) → make_by K [] fan limit l ls xs hs ≡ make K fan limit l ls xs hs
unfolding make_by make
make_plain K fan limit l ls xs hs = refl

-- reset
module _ (K : Kind) (s : State) (l : List ℕ) (o : Numbered Shape) (e : o ≡ opened_by (make_causes K s.head.fan s.head.limit l s.leaves s.inners s.homes) (shape_of K s.head)) where
  abbrev new : ℕ → State
  new stamp = begun K s.head.fan s.head.limit stamp l s.leaves s.inners s.homes

  abbrev next : State
  next = new (next_stamp s.head.stamp)

  pub reset_refused : (n : ℕ) → o ≡ Err n → reply s (Err n) ≡ reset K s l
  unfolding reset
  reset_refused n d = call_refused (λ (m : ℕ). reply s (Err m)) (λ (g : Shape). reply next (Ok tt)) _ _ o e n d

  pub reset_good : (g : Shape) → o ≡ Ok g → (stamp : ℕ) → stamp ≡ next_stamp s.head.stamp → (t : State) → t ≡ new stamp → reply t (Ok tt) ≡ reset K s l
  unfolding reset
  reset_good g d stamp es t q =
      call_good (λ (m : ℕ). reply s (Err m)) (λ (y : Shape). reply next (Ok tt)) _ _ o e g d _ (ap (λ (u : State). reply u (Ok tt)) (q ∙ ap new es))
