-- What bytes say is a call of words. Assumes nothing.
use mathlib.Core.Bool.{Bool, true, false, ◌&&◌}
use mathlib.Core.List.{List, [], ◌∷◌}
use mathlib.Core.Path.{refl}
use Prim.Native.Nat.{ℕ, zero, suc, ◌+◌, ◌*◌, ◌<◌}
use native.Mathlib.Omega.{arith}
use lib.ListN.{get_or, take, drop}
use lib.Dec.{eqb}
use Rattle.model.specs.declared.length.View.{View}
use Rattle.model.specs.declared.length.View.TheVariants as view
use Rattle.model.specs.Length.{list_of, view_number}
use Rattle.model.specs.Kind.{base}
use Rattle.model.specs.Lists.{All}
use Rattle.model.specs.Row as row
use Rattle.model.specs.Row.{Call}
use Rattle.model.specs.Record.{Fields, fields_of, word_at, kinds, only, plain, binary, viewed, no_lengths, view_of, decode, field_lengths}
use Rattle.model.specs.Promise.{Words, IsWord, InWords}
use Rattle.list_row.specs.Run.{records, calls_of}

-- every element is a byte
abbrev pub Bytes : List ℕ → Type 0
Bytes bs = (i : ℕ) → get_or bs i 0 < 256

word_of : (p : ℕ) (bs : List ℕ) → Bytes bs → word_at p bs < 4294967296
word_of p bs h = omega (arith, h p, h (p + 1), h (p + 2), h (p + 3))

lines_of : (bs : List ℕ) → Bytes bs → get_or bs 2 0 + 256 * get_or bs 3 0 < 4294967296
lines_of bs h = omega (arith, h 2, h 3)

only_words : (b : Bool) (c : Call) → InWords base c → InWords base (only b c)
only_words true c h = h
only_words false c h = tt

pick : (cs : List Call) (k : ℕ) → All (InWords base) cs → InWords base (get_or cs k row.malformed)
unfolding All
pick [] k h = tt
pick (c ∷ cs) zero h = h.0
pick (c ∷ cs) (suc k) h = pick cs k h.1

module _ (f : Fields) (a : f.a < 4294967296) (b : f.b < 4294967296) (c : f.c < 4294967296) (n : f.lines < 4294967296) where
  lengths_words : Words base (list_of (field_lengths f))
  unfolding All
  lengths_words = record { long = refl; small = (b, (c, (n, tt))) }

  view_in : (v : View) → view_number v < 3
  view_in view.Prepare = omega arith
  view_in view.Effect = omega arith
  view_in view.Lines = omega arith

  kinds_words : All (InWords base) (kinds f)
  unfolding All kinds
  kinds_words =
      let changing : IsWord f.a × Words base (list_of (field_lengths f)) = (a, lengths_words) in
      let two : IsWord f.a × IsWord f.b = (a, b) in (
        tt,
        (
          only_words (plain f && eqb f.a 0) (row.reset (list_of (field_lengths f))) lengths_words,
          (
            only_words (plain f) (row.insert f.a (list_of (field_lengths f))) changing,
            (
              only_words (plain f) (row.insert f.a (list_of (field_lengths f))) changing,
              (
                only_words (binary f) (row.split (eqb f.flag 1) f.a (list_of (field_lengths f))) changing,
                (
                  only_words (plain f) (row.set_lengths f.a (list_of (field_lengths f))) changing,
                  (
                    only_words (plain f) (row.update f.a (list_of (field_lengths f))) changing,
                    (
                      only_words (viewed f && no_lengths f) (row.lookup (view_number (view_of f.flag)) f.a) (view_in (view_of f.flag), a),
                      (
                        only_words (viewed f && no_lengths f) (row.rank (view_number (view_of f.flag)) f.a) (view_in (view_of f.flag), a),
                        (
                          only_words (plain f && no_lengths f) (row.next f.a) a,
                          (
                            only_words (plain f && eqb f.c 0 && eqb f.lines 0) (row.compare f.a f.b) two,
                            (
                              only_words (plain f && no_lengths f) (row.lengths f.a) a,
                              (
                                only_words (plain f && eqb f.a 0 && no_lengths f) row.count tt,
                                (
                                  only_words (plain f && eqb f.a 0 && no_lengths f) row.first tt,
                                  tt,
                                ),
                              ),
                            ),
                          ),
                        ),
                      ),
                    ),
                  ),
                ),
              ),
            ),
          ),
        ),
      )

pub decoded_words : (bs : List ℕ) → Bytes bs → InWords base (decode bs)
unfolding decode fields_of
decoded_words bs h =
    let f = fields_of bs in
    pick (kinds f) f.kind (kinds_words f (word_of 4 bs h) (word_of 8 bs h) (word_of 12 bs h) (lines_of bs h))

-- the parts of bytes are bytes
take_byte : (n i : ℕ) (bs : List ℕ) → Bytes bs → get_or (take n bs) i 0 < 256
take_byte zero i bs h = omega arith
take_byte (suc n) i [] h = omega arith
take_byte (suc n) zero (b ∷ bs) h = h 0
take_byte (suc n) (suc i) (b ∷ bs) h = take_byte n i bs (λ j. h (suc j))

drop_byte : (n i : ℕ) (bs : List ℕ) → Bytes bs → get_or (drop n bs) i 0 < 256
drop_byte zero i bs h = h i
drop_byte (suc n) i [] h = omega arith
drop_byte (suc n) i (b ∷ bs) h = drop_byte n i bs (λ j. h (suc j))

pub calls_words : (n : ℕ) (bs : List ℕ) → Bytes bs → All (InWords base) (calls_of (records n bs))
unfolding All records
calls_words zero bs h = tt
calls_words (suc n) bs h = (decoded_words (take 16 bs) (λ i. take_byte 16 i bs h), calls_words n (drop 16 bs) (λ i. drop_byte 16 i bs h))
