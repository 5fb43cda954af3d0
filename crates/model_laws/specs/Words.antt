-- The laws of `part` and `put_at`: a run of words read, and a run of words written. Assumes nothing.
use Rattle.std.specs.Prelude.{◌≡◌, refl, List, [], ◌∷◌, ◌++◌, ℕ, zero, suc, ◌+◌, ◌-◌, ◌<◌, ◌≤◌, length, get_or, take, drop, set}
use Rattle.std.proofs.Common.{sym, ap, ◌∙◌, append_assoc, arith, add-zero, add_assoc, add-one, length-append, length-take, length-drop, take-append-drop, get_or-take, get_or-drop, length-take-le, take_at, drop_at, take-suc, drop-cons, drop-drop, take-take, take_all, take-add}
use Rattle.std.proofs.Math.Nat.{add-sub_cancel_left}
use Rattle.std.proofs.Math.ListN.{get_or-append}
use Rattle.std.proofs.lemmas.List.{set_split, take-append-le, drop-append-le}
use borrow.Rule.Slice.PartMut.{put_mid}
use Rattle.model.specs.Lists.{part, put_at}
use Rattle.model_laws.specs.Lists.{drop_past}

pub length_part : (p n : ℕ) (ws : List ℕ) → p + n ≤ length ws → length (part p n ws) ≡ n
unfolding part
length_part p n ws h = simp (length-take, length-drop) (omega arith)

pub length_put : (p : ℕ) (xs ws : List ℕ) → p + length xs ≤ length ws → length (put_at p xs ws) ≡ length ws
unfolding put_at
length_put p xs ws h = simp (length-append, length-take, length-drop) (omega arith)

-- the word at place c of a part
pub get_d_part : (p n c : ℕ) (ws : List ℕ) → c < n → get_or (part p n ws) c 0 ≡ get_or ws (p + c) 0
unfolding part
get_d_part p n c ws h = rw (get_or-take, get_or-drop)

-- no word, and one word more in front
pub part_none : (p : ℕ) (ws : List ℕ) → part p 0 ws ≡ []
unfolding part
part_none p ws = refl

pub part_front : (p n : ℕ) (ws : List ℕ) → p < length ws → part p (n + 1) ws ≡ get_or ws p 0 ∷ part (p + 1) n ws
unfolding part
part_front p n ws h = rw (add-one, drop-cons ws p 0, add-one)

-- a part up to the end
pub part_end : (p n : ℕ) (ws : List ℕ) → length ws ≤ p + n → part p n ws ≡ drop p ws
unfolding part
part_end p n ws h = take_all n (drop p ws) (rw length-drop (omega arith))

-- a part of a front, and of a part
within : (q m n : ℕ) (l : List ℕ) → q + m ≤ n → take m (drop q (take n l)) ≡ take m (drop q l)
within zero m n l h = take-take m n l (omega arith)
within (suc q) m zero l h = absurd (omega arith)
within (suc q) m (suc n) [] h = refl
within (suc q) m (suc n) (x ∷ l) h = within q m n l (omega arith)

pub part_part : (p n q m : ℕ) (ws : List ℕ) → q + m ≤ n → part q m (part p n ws) ≡ part (p + q) m ws
unfolding part
part_part p n q m ws h = within q m n (drop p ws) h ∙ ap (take m) (drop-drop q p ws)

-- two parts, one just after the other
pub part_add : (p m n : ℕ) (ws : List ℕ) → part p (m + n) ws ≡ part p m ws ++ part (p + m) n ws
unfolding part
part_add p m n ws = rw (take-add, drop-drop)

-- a write of nothing, of one word, of what is there
pub put_none : (p : ℕ) (ws : List ℕ) → put_at p [] ws ≡ ws
unfolding put_at
put_none p ws = rw (add-zero, take-append-drop)

pub set_put : (i a : ℕ) (ws : List ℕ) → i < length ws → set ws i a ≡ put_at i (a ∷ []) ws
unfolding put_at
set_put i a ws h = rw (set_split, add-one)

parts : (p n : ℕ) (ws : List ℕ) → take p ws ++ (part p n ws ++ drop (p + n) ws) ≡ ws
unfolding part
parts p n ws = rw (← drop-drop n p ws, take-append-drop, take-append-drop)

pub put_same : (p n : ℕ) (ws : List ℕ) → p + n ≤ length ws → put_at p (part p n ws) ws ≡ ws
unfolding put_at
put_same p n ws h = rw (length_part p n ws h) (parts p n ws)

-- a write just after another, just before another, over another
pub put_next : (p q : ℕ) (xs ys ws : List ℕ) → q ≡ p + length xs → q + length ys ≤ length ws → put_at q ys (put_at p xs ws) ≡ put_at p (xs ++ ys) ws
unfolding put_at
put_next p q xs ys ws e h =
    let lp : length (take p ws) ≡ p = length-take-le p ws (omega arith) in
    let lf : length (take p ws ++ xs) ≡ p + length xs = length-append (take p ws) xs ∙ (omega arith) in
    rw (e, ← append_assoc (take p ws) xs (drop (p + length xs) ws), take_at (take p ws ++ xs) _ (p + length xs) lf, drop_past (p + length xs) (length ys) (take p ws ++ xs) _ lf, drop-drop, length-append, ← add_assoc)
    (simp append_assoc)

pub put_prev : (p q : ℕ) (xs ys ws : List ℕ) → q ≡ p + length xs → q + length ys ≤ length ws → put_at p xs (put_at q ys ws) ≡ put_at p (xs ++ ys) ws
unfolding put_at
put_prev p q xs ys ws e h =
    let lq : length (take q ws) ≡ q = length-take-le q ws (omega arith) in
    rw (take-append-le p (take q ws) _ (omega arith), take-take p q ws (omega arith), ← e, drop_at (take q ws) _ q lq, e, length-append, ← add_assoc) (simp append_assoc)

pub put_put : (p : ℕ) (a b ws : List ℕ) → length b ≡ length a → p + length a ≤ length ws → put_at p b (put_at p a ws) ≡ put_at p b ws
unfolding put_at
put_put p a b ws e h =
    let lp : length (take p ws) ≡ p = length-take-le p ws (omega arith) in
    rw (take_at (take p ws) _ p lp, e, drop_past p (length a) (take p ws) _ lp, drop_at a _ (length a) refl)

-- a write from one word earlier on, that word as it is
pub put_keep : (p : ℕ) (xs ws : List ℕ) → p + 1 + length xs ≤ length ws → put_at (p + 1) xs ws ≡ put_at p (get_or ws p 0 ∷ xs) ws
unfolding put_at
put_keep p xs ws h =
    let e : p + 1 + length xs ≡ p + length (get_or ws p 0 ∷ xs) = omega arith in
    rw (e, add-one, take-suc ws p 0 (omega arith)) (simp append_assoc)

-- one word more behind a write, and one more before it
pub put_on : (p q a : ℕ) (xs ws : List ℕ) → q ≡ p + length xs → q < length ws → set (put_at p xs ws) q a ≡ put_at p (xs ++ a ∷ []) ws
put_on p q a xs ws e h =
    let l : length (put_at p xs ws) ≡ length ws = length_put p xs ws (omega arith) in
    set_put q a (put_at p xs ws) (omega arith) ∙ put_next p q xs (a ∷ []) ws e (omega arith)

pub put_back : (p q a : ℕ) (xs ws : List ℕ) → p ≡ q + 1 → p + length xs ≤ length ws → set (put_at p xs ws) q a ≡ put_at q (a ∷ xs) ws
put_back p q a xs ws e h =
    let l : length (put_at p xs ws) ≡ length ws = length_put p xs ws h in
    set_put q a (put_at p xs ws) (omega arith) ∙ put_prev q p (a ∷ []) xs ws e h

-- a part that is written, that lies before, that lies after
pub part_same : (p : ℕ) (xs ws : List ℕ) → p + length xs ≤ length ws → part p (length xs) (put_at p xs ws) ≡ xs
unfolding part put_at
part_same p xs ws h =
    let lp : length (take p ws) ≡ p = length-take-le p ws (omega arith) in
    rw (drop_at (take p ws) _ p lp, take_at xs _ (length xs) refl)

pub part_before : (q n p : ℕ) (xs ws : List ℕ) → q + n ≤ p → p + length xs ≤ length ws → part q n (put_at p xs ws) ≡ part q n ws
unfolding part put_at
part_before q n p xs ws e h =
    let lp : length (take p ws) ≡ p = length-take-le p ws (omega arith) in
    let ld : n ≤ length (drop q (take p ws)) = simp length-drop (omega arith) in
    rw (drop-append-le q (take p ws) _ (omega arith), take-append-le n (drop q (take p ws)) _ ld) (within q n p ws e)

pub part_after : (q n p : ℕ) (xs ws : List ℕ) → p + length xs ≤ q → p + length xs ≤ length ws → part q n (put_at p xs ws) ≡ part q n ws
unfolding part put_at
part_after q n p xs ws e h =
    let lp : length (take p ws) ≡ p = length-take-le p ws (omega arith) in
    let lf : length (take p ws ++ xs) ≡ p + length xs = length-append (take p ws) xs ∙ (omega arith) in
    let r : q ≡ p + length xs + (q - (p + length xs)) = omega arith in
    rw (r, ← append_assoc (take p ws) xs (drop (p + length xs) ws), drop_past (p + length xs) (q - (p + length xs)) (take p ws ++ xs) _ lf, drop-drop)

pub get_d_before : (p i : ℕ) (xs ws : List ℕ) → i < p → p ≤ length ws → get_or (put_at p xs ws) i 0 ≡ get_or ws i 0
unfolding put_at
get_d_before p i xs ws h hp =
    let lp : length (take p ws) ≡ p = length-take-le p ws hp in
    get_or-append (take p ws) _ 0 i (omega arith) ∙ get_or-take p ws i 0 h

pub get_d_after : (p i : ℕ) (xs ws : List ℕ) → p + length xs ≤ i → p + length xs ≤ length ws → get_or (put_at p xs ws) i 0 ≡ get_or ws i 0
get_d_after p i xs ws h g =
    let e : i + 0 ≡ i = add-zero i in
    rw e at (sym (get_d_part i 1 0 (put_at p xs ws) (omega arith)) ∙ ap (λ (l : List ℕ). get_or l 0 0) (part_after i 1 p xs ws h g) ∙ get_d_part i 1 0 ws (omega arith))

-- a write inside a part is a write of the part
drop_split : (k n : ℕ) (l : List ℕ) → k ≤ n → n ≤ length l → drop k l ≡ drop k (take n l) ++ drop n l
drop_split k n l h g =
    let e : length (take n l) ≡ n = length-take-le n l g in
    ap (drop k) (sym (take-append-drop n l)) ∙ drop-append-le k (take n l) (drop n l) (omega arith)

in_front : (c n : ℕ) (xs l : List ℕ) → c + length xs ≤ n → n ≤ length l → put_at c xs (take n l) ++ drop n l ≡ put_at c xs l
unfolding put_at
in_front c n xs l h g = rw (take-take c n l (omega arith), drop_split (c + length xs) n l h g) (simp append_assoc)

after_front : (a c : ℕ) (xs ws : List ℕ) → take a ws ++ put_at c xs (drop a ws) ≡ put_at (a + c) xs ws
unfolding put_at
after_front a c xs ws = rw (drop-drop, take-add a c ws, append_assoc, add_assoc)

put_as : (a n : ℕ) (y ws : List ℕ) → length y ≡ n → put_at a y ws ≡ take a ws ++ (y ++ drop n (drop a ws))
unfolding put_at
put_as a n y ws e = rw (e, drop-drop)

pub put_inside : (a n c : ℕ) (xs ws : List ℕ) → a + n ≤ length ws → c + length xs ≤ n → put_at a (put_at c xs (part a n ws)) ws ≡ put_at (a + c) xs ws
unfolding part
put_inside a n c xs ws h g =
    let l : length (part a n ws) ≡ n = length_part a n ws h in
    let k : n ≤ length (drop a ws) = simp length-drop (omega arith) in
    put_as a n (put_at c xs (part a n ws)) ws (length_put c xs (part a n ws) (omega arith) ∙ l)
    ∙ ap (λ (z : List ℕ). take a ws ++ z) (in_front c n xs (drop a ws) g k) ∙ after_front a c xs ws

-- a write inside a part, seen in the part; a write over what was written inside it
pub part_inside : (a n c : ℕ) (xs ws : List ℕ) → a + n ≤ length ws → c + length xs ≤ n → part a n (put_at (a + c) xs ws) ≡ put_at c xs (part a n ws)
part_inside a n c xs ws h g =
    let l : length (part a n ws) ≡ n = length_part a n ws h in
    let k : length (put_at c xs (part a n ws)) ≡ n = length_put c xs (part a n ws) (omega arith) ∙ l in
    ap (part a n) (sym (put_inside a n c xs ws h g)) ∙ rw k at (part_same a (put_at c xs (part a n ws)) ws (omega arith))

pub put_over : (a c : ℕ) (xs ys ws : List ℕ) → a + length ys ≤ length ws → c + length xs ≤ length ys → put_at a ys (put_at (a + c) xs ws) ≡ put_at a ys ws
put_over a c xs ys ws h g =
    let l : length (part a (length ys) ws) ≡ length ys = length_part a (length ys) ws h in
    let k : length (put_at c xs (part a (length ys) ws)) ≡ length ys = length_put c xs (part a (length ys) ws) (omega arith) ∙ l in
    ap (put_at a ys) (sym (put_inside a (length ys) c xs ws h g)) ∙ put_put a (put_at c xs (part a (length ys) ws)) ys ws (sym k) (omega arith)

-- a part lent from word a up to word a + n, and the whole when it is back as xs
pub lent : (a n : ℕ) (ws : List ℕ) → take (a + n - a) (drop a ws) ≡ part a n ws
unfolding part
lent a n ws = rw add-sub_cancel_left

pub lent_back : (a n : ℕ) (ws xs : List ℕ) → a + n ≤ length ws → length xs ≡ length (take (a + n - a) (drop a ws)) → put_mid a (a + n - a) ws xs ≡ put_at a xs ws
unfolding put_at
lent_back a n ws xs h k =
    let l : length xs ≡ n = k ∙ (rw lent (length_part a n ws h)) in
    rw (add-sub_cancel_left, drop-drop, l)
