-- Lines written one behind the other. Assumes nothing.
use Rattle.std.proofs.Common.{◌≡◌, ℕ, suc, ◌+◌, ◌*◌, ◌<◌, ◌≤◌, List, [], ◌∷◌, ◌++◌, length, get_or, take, drop, sym, refl, ap, ◌∙◌, add-one, arith, length-append, drop_of_length-le, length-take-le, drop-cons, get_or-take}
use Rattle.model.specs.Lists.{put_at}
use Rattle.model.specs.Node.{child, length_in, wrap}
use Rattle.model.specs.Sheet.{line}
use Rattle.model.specs.Print.{slot_lines}
use Rattle.model.specs.declared.shape.Kind.{Kind}
use Rattle.model_laws.specs.Words.{length_put, put_next}
use Rattle.model_laws.specs.Sheet.{length_line, length_slot_lines}
use Rattle.calls_print.specs.Laid.{Laid, laid, laid_by}

-- one line, with the lengths in view 0 and in view e: the slot's words are read, its line is written and its lengths are added
pub one_slot : (e n i at p q id a b p' q' : ℕ) (xs : List (List ℕ)) (page new : List ℕ) (all : Laid) → i < n → n ≤ length xs
    → id ≡ child (get_or xs i []) → a ≡ length_in 0 (get_or xs i []) → b ≡ length_in e (get_or xs i []) → new ≡ put_at at (line id p q a b) page → p' ≡ wrap (p + a) → q' ≡ wrap (q + b)
    → laid_by e (drop i (take n xs)) (laid at p q page) ≡ all → laid_by e (drop (i + 1) (take n xs)) (laid (at + 55) p' q' new) ≡ all
unfolding laid_by
one_slot e n i at p q id a b p' q' xs page new all h l ei ea eb en ep eq inv =
    let x : List ℕ = get_or xs i [] in
    let d : drop i (take n xs) ≡ x ∷ drop (suc i) (take n xs) = drop-cons (take n xs) i [] (omega (arith, length-take-le n xs l)) ∙ ap (λ (y : List ℕ). y ∷ drop (suc i) (take n xs)) (get_or-take n xs i [] h) in
    rw (add-one, en, ep, eq, ei, ea, eb) (rw d at inv)

pub no_slot : (e n i : ℕ) (xs : List (List ℕ)) (l all : Laid) → n ≤ i → n ≤ length xs → laid_by e (drop i (take n xs)) l ≡ all → l ≡ all
unfolding laid_by
no_slot e n i xs l all h k inv = rw (drop_of_length-le (take n xs) {i = i} (omega (arith, length-take-le n xs k))) at inv

-- where some slots' lines are written, what is left is written behind them
pub laid_all : (K : Kind) (xs ys : List (List ℕ)) (l : Laid) → l.at + 55 * (length xs + length ys) ≤ length l.page
    → put_at (laid_by K.effect xs l).at (slot_lines K (laid_by K.effect xs l).p (laid_by K.effect xs l).q ys) (laid_by K.effect xs l).page ≡ put_at l.at (slot_lines K l.p l.q (xs ++ ys)) l.page
unfolding laid_by slot_lines
laid_all K [] ys l h = refl
laid_all K (x ∷ xs) ys l h =
    let text : List ℕ = line (child x) l.p l.q (length_in 0 x) (length_in K.effect x) in
    let p' : ℕ = wrap (l.p + length_in 0 x) in
    let q' : ℕ = wrap (l.q + length_in K.effect x) in
    let lt : length (line (child x) l.p l.q (length_in 0 x) (length_in K.effect x)) ≡ 55 = length_line (child x) l.p l.q (length_in 0 x) (length_in K.effect x) in
    let lp : length (put_at l.at text l.page) ≡ length l.page = length_put l.at text l.page (omega arith) in
    let la : length (xs ++ ys) ≡ length xs + length ys = length-append xs ys in
    laid_all K xs ys (laid (l.at + 55) p' q' (put_at l.at text l.page)) (omega arith)
    ∙ put_next l.at (l.at + 55) text (slot_lines K p' q' (xs ++ ys)) l.page (ap (λ (k : ℕ). l.at + k) (sym lt)) (omega (arith, length_slot_lines K p' q' (xs ++ ys)))

pub laid_at : (e : ℕ) (xs : List (List ℕ)) (l : Laid) → (laid_by e xs l).at ≡ l.at + 55 * length xs
unfolding laid_by
laid_at e [] l = omega arith
laid_at e (x ∷ xs) l = laid_at e xs (laid (l.at + 55) (wrap (l.p + length_in 0 x)) (wrap (l.q + length_in e x)) (put_at l.at (line (child x) l.p l.q (length_in 0 x) (length_in e x)) l.page)) ∙ omega arith
