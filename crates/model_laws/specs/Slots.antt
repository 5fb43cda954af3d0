-- Slots and their words: a node's words are its three first words and then its slots, one after the other. Assumes nothing.
use Rattle.std.specs.Prelude.{◌≡◌, refl, ℕ, zero, suc, ◌+◌, ◌-◌, ◌*◌, ◌<◌, ◌≤◌, length, get_or, take, drop}
use Rattle.std.proofs.Common.{sym, ap, ap₂, arith, suc-mul, zero-mul, zero-add, add-zero, add-one, length-append, take_at, drop_at, drop-cons}
use mathlib.Core.List.{List, [], ◌∷◌, ◌++◌, append_assoc, append-nil, flat_map}
use Rattle.model.specs.Lists.{All, part}
use Rattle.model.specs.Node.{slots_from}
use Rattle.model_laws.specs.Words.{length_part, get_d_part, part_none, part_add}

-- a slot of s words, slots of s words each, and slots one after the other
abbrev pub Long : ℕ → List ℕ → Type 0
Long s row = length row ≡ s

abbrev pub Wide : ℕ → List (List ℕ) → Type 0
Wide s rows = All (Long s) rows

abbrev pub flat : List (List ℕ) → List ℕ
flat rows = flat_map (λ slot. slot) rows

pub flat_none : flat [] ≡ []
unfolding flat_map
flat_none = refl

pub flat_append : (xs ys : List (List ℕ)) → flat (xs ++ ys) ≡ flat xs ++ flat ys
unfolding flat_map
flat_append [] ys = refl
flat_append (x ∷ xs) ys = rw (flat_append xs ys, append_assoc)

pub flat_one : (x : List ℕ) → flat (x ∷ []) ≡ x
unfolding flat_map
flat_one x = append-nil x

pub flat_two : (x y : List ℕ) → flat (x ∷ y ∷ []) ≡ x ++ y
unfolding flat_map
flat_two x y = ap (λ (l : List ℕ). x ++ l) (append-nil y)

pub length_flat : (s : ℕ) (rows : List (List ℕ)) → Wide s rows → length (flat rows) ≡ length rows * s
unfolding flat_map All
length_flat s [] w = sym (zero-mul s)
length_flat s (x ∷ rows) w =
    let e = w.0 in
    let f = length_flat s rows w.1 in
    rw length-append (omega (arith, suc-mul (length rows) s))

-- the slots that stand in words: how many, how wide, flat again, the first of them, those from slot i on, slot i
pub slots_length : (s n p : ℕ) (ws : List ℕ) → length (slots_from s n p ws) ≡ n
unfolding slots_from
slots_length s zero p ws = refl
slots_length s (suc n) p ws = ap suc (slots_length s n (p + s) ws)

pub slots_wide : (s n p : ℕ) (ws : List ℕ) → p + n * s ≤ length ws → Wide s (slots_from s n p ws)
unfolding slots_from All
slots_wide s zero p ws h = tt
slots_wide s (suc n) p ws h = (length_part p s ws (omega (arith, suc-mul n s)), slots_wide s n (p + s) ws (omega (arith, suc-mul n s)))

pub slots_flat : (s n p : ℕ) (ws : List ℕ) → flat (slots_from s n p ws) ≡ part p (n * s) ws
unfolding slots_from flat_map
slots_flat s zero p ws = rw (zero-mul, part_none)
slots_flat s (suc n) p ws =
    let e : suc n * s ≡ s + n * s = omega (arith, suc-mul n s) in
    rw (slots_flat s n (p + s) ws, e, part_add)

pub slots_take : (s n i p : ℕ) (ws : List ℕ) → i ≤ n → take i (slots_from s n p ws) ≡ slots_from s i p ws
unfolding slots_from
slots_take s n zero p ws h = refl
slots_take s zero (suc i) p ws h = absurd (omega arith)
slots_take s (suc n) (suc i) p ws h = ap (λ (l : List (List ℕ)). part p s ws ∷ l) (slots_take s n i (p + s) ws (omega arith))

pub slots_drop : (s n i p : ℕ) (ws : List ℕ) → i ≤ n → drop i (slots_from s n p ws) ≡ slots_from s (n - i) (p + i * s) ws
unfolding slots_from
slots_drop s n zero p ws h =
    let e : n - 0 ≡ n = omega arith in
    rw (zero-mul, add-zero, e)
slots_drop s zero (suc i) p ws h = absurd (omega arith)
slots_drop s (suc n) (suc i) p ws h =
    let e : suc n - suc i ≡ n - i = omega arith in
    let f : p + suc i * s ≡ p + s + i * s = omega (arith, suc-mul i s) in
    rw (e, f) (slots_drop s n i (p + s) ws (omega arith))

pub slots_at : (s n i p : ℕ) (ws : List ℕ) → i < n → get_or (slots_from s n p ws) i [] ≡ part (p + i * s) s ws
unfolding slots_from
slots_at s zero i p ws h = absurd (omega arith)
slots_at s (suc n) zero p ws h = rw (zero-mul, add-zero)
slots_at s (suc n) (suc i) p ws h =
    let f : p + suc i * s ≡ p + s + i * s = omega (arith, suc-mul i s) in
    rw f (slots_at s n i (p + s) ws (omega arith))

-- n slots and m more, and the slots from slot i on as slot i and those after it
pub slots_add : (s n m p : ℕ) (ws : List ℕ) → slots_from s (n + m) p ws ≡ slots_from s n p ws ++ slots_from s m (p + n * s) ws
unfolding slots_from
slots_add s zero m p ws = rw (zero-add, zero-mul, add-zero)
slots_add s (suc n) m p ws =
    let e : suc n + m ≡ suc (n + m) = omega arith in
    let f : p + suc n * s ≡ p + s + n * s = omega (arith, suc-mul n s) in
    rw (e, f) (ap (λ (l : List (List ℕ)). part p s ws ∷ l) (slots_add s n m (p + s) ws))

pub slots_from_law : (s n i p : ℕ) (ws : List ℕ) → i < n → drop i (slots_from s n p ws) ≡ part (p + i * s) s ws ∷ drop (i + 1) (slots_from s n p ws)
slots_from_law s n i p ws h = rw (add-one, drop-cons (slots_from s n p ws) i [] (rw slots_length h), slots_at)

-- column c of slot i is the word at p + i * s + c
pub column : (s n i p c : ℕ) (ws : List ℕ) → i < n → c < s → get_or (get_or (slots_from s n p ws) i []) c 0 ≡ get_or ws (p + i * s + c) 0
column s n i p c ws h g = rw slots_at (get_d_part (p + i * s) s c ws g)

-- slots that are written one after the other are read again
pub slots_of_law : (s : ℕ) (pre : List ℕ) (rows : List (List ℕ)) (rest : List ℕ) → Wide s rows → slots_from s (length rows) (length pre) (pre ++ (flat rows ++ rest)) ≡ rows
unfolding slots_from flat_map All part
slots_of_law s pre [] rest w = refl
slots_of_law s pre (x ∷ rows) rest w =
    let e : length x ≡ s = w.0 in
    let f : pre ++ ((x ++ flat rows) ++ rest) ≡ (pre ++ x) ++ (flat rows ++ rest) = simp append_assoc in
    let l : length pre + s ≡ length (pre ++ x) = rw length-append (omega arith) in
    let a : take s (drop (length pre) (pre ++ ((x ++ flat rows) ++ rest))) ≡ x = rw (drop_at pre _ (length pre) refl, append_assoc, take_at x _ s e) in
    let b : slots_from s (length rows) (length pre + s) (pre ++ ((x ++ flat rows) ++ rest)) ≡ rows = rw (f, l) (slots_of_law s (pre ++ x) rows rest w.1) in
    ap₂ (λ (y : List ℕ) (l : List (List ℕ)). y ∷ l) a b
