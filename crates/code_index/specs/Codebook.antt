-- The fixed codebook: the innovation of 80 samples that a 16-bit index selects.
use Rattle.std.specs.Prelude.{ℕ, suc, ◌+◌, ◌-◌, ◌*◌, ◌/◌, ◌%◌, ◌^◌, min, List, Bool, true, ◌&&◌, cond, get_or, set, replicate, eqb, leb, ltb, ℤ, pos, nat_abs, ◌+ℤ◌, ◌-ℤ◌, ◌*ℤ◌}
use Rattle.std.specs.Int.Signed.{mag, shr_z, lt_z}
use Rattle.sequence.specs.First.{first}
use Rattle.sequence.specs.Repeated.{repeated}
use Rattle.sequence.specs.Rewritten.{rewritten}
use Rattle.sequence.specs.Table.{table}
use Rattle.fixed.specs.Fixed.{wrap}
use Rattle.tables.specs.Places.{FCB_PULSES, FCB_SHAPE_SEL, FCB_RADIX, FCB_RADIX_INV, FCB_POSITIONS, FCB_SHAPES, FCB_ALT_A, FCB_ALT_B}
use Rattle.tables.specs.Tables.{word, unsigned_word, limit, base, between}
use Rattle.code_index.specs.declared.Classified.{Classified}
use Rattle.code_index.specs.declared.Innovation.{Innovation}

-- ---- the class
-- the index, cut to the limit less one
unfoldable pub cut : List ℤ → ℕ → ℕ
cut words index = min index (limit words - 1)

-- the class: the first, from 5 down, whose base the index reaches
unfoldable pub class_of : List ℤ → ℕ → ℕ
class_of words index = 5 - first (λ k. leb (base words (5 - k)) index) 6

-- the class, and the place within it
unfoldable pub classify : List ℤ → ℕ → Classified
classify words index =
    let i : ℕ = cut words index in
    record { class = class_of words i; rest = i - base words (class_of words i) }

-- ---- classes 0 to 4: what is left of the index is a sign for each pulse, lowest bit first, and above them a number in mixed radix, whose digits are the pulses'
-- how many pulses a class has
abbrev pub pulses : List ℤ → ℕ → ℕ
pulses words class = unsigned_word words (FCB_PULSES + class)

-- whether pulse k is added, and not subtracted
unfoldable pub added : ℕ → ℕ → Bool
added rest k = eqb (rest / 2 ^ k % 2) 1

-- the radix of digit k, and its inverse, which is 2 ^ 17 by the radix
abbrev pub radix : List ℤ → ℕ → ℕ → ℤ
radix words class k = word words (FCB_RADIX + 3 * class + k)

abbrev pub inverse : List ℤ → ℕ → ℕ → ℤ
inverse words class k = word words (FCB_RADIX_INV + 3 * class + k)

-- x by the radix of digit k, rounded down
unfoldable pub quotient : List ℤ → ℕ → ℕ → ℤ → ℤ
quotient words class k x = shr_z (x *ℤ inverse words class k) 131072

-- and what is left of x, wrapped to 16 bits
unfoldable pub remainder : List ℤ → ℕ → ℕ → ℤ → ℤ
remainder words class k x = wrap 16 (x -ℤ quotient words class k x *ℤ radix words class k)

-- the number without its n lowest digits, which are those of the last pulses
unfoldable pub above : List ℤ → ℕ → ℕ → ℕ → ℤ
above words class rest n = repeated (λ j. quotient words class (pulses words class - suc j)) n (pos (rest / 2 ^ pulses words class))

-- the digit of pulse k
unfoldable pub digit : List ℤ → ℕ → ℕ → ℕ → ℤ
digit words class rest k = remainder words class k (above words class rest (pulses words class - suc k))

-- the digits, with 0 where there is no pulse
unfoldable pub decompose : List ℤ → ℕ → ℕ → List ℤ
decompose words class rest = table (λ k. cond (ltb k (pulses words class)) (digit words class rest k) (pos 0)) 3

-- y added to x, or subtracted; the sum wraps at 16 bits
unfoldable pub sum : Bool → ℤ → ℤ → ℤ
sum add x y = wrap 16 (cond add (x +ℤ y) (x -ℤ y))

-- what a shape's sample n makes of the sample that it falls on
abbrev pub shaped : List ℤ → ℕ → ℕ → Bool → ℕ → List ℤ → ℤ
shaped words shape start add n code = sum add (get_or code (start + n) (pos 0)) (word words (FCB_SHAPES + 20 * shape + n))

-- a shape's 20 samples, from place start on, as far as they are among the 80
unfoldable pub place_shape : List ℤ → ℕ → ℕ → Bool → List ℤ → List ℤ
place_shape words shape start add code = rewritten (shaped words shape start add) start code (min 20 (80 - start))

-- pulse k takes the class's k-th shape, and its digit chooses among its 40 positions
unfoldable pub place_slot : List ℤ → ℕ → ℕ → ℤ → Bool → List ℤ → List ℤ
place_slot words class k slot add code =
    place_shape words (unsigned_word words (FCB_SHAPE_SEL + 3 * class) + k) (unsigned_word words (FCB_POSITIONS + (40 * (3 * class + k) + mag slot))) add code

-- pulse k, with its digit and its sign
abbrev pub place_position : List ℤ → ℕ → List ℤ → ℕ → ℕ → List ℤ → List ℤ
place_position words class positions rest k code = place_slot words class k (get_or positions k (pos 0)) (added rest k) code

-- the pulses of a class, one after the other
unfoldable pub place_shapes : List ℤ → ℕ → List ℤ → ℕ → List ℤ → List ℤ
place_shapes words class positions rest code = repeated (place_position words class positions rest) (pulses words class) code

-- ---- class 5: two rows of five entries
-- a pulse of 8192: an entry's size is its place, counted from 1, and the entry's sign is the pulse's
unfoldable pub place_pulse : ℤ → List ℤ → List ℤ
place_pulse entry code = set code (nat_abs entry - 1) (sum (lt_z (pos 0) entry) (get_or code (nat_abs entry - 1) (pos 0)) (pos 8192))

-- entry k of the row that starts at a word
abbrev pub place_entry : List ℤ → ℕ → ℕ → List ℤ → List ℤ
place_entry words row k code = place_pulse (word words (row + k)) code

-- the five of a row
unfoldable pub place_pulses : List ℤ → ℕ → List ℤ → List ℤ
place_pulses words row code = repeated (place_entry words row) 5 code

-- a row of the first book, and one of the second, which the low seven bits choose
unfoldable pub alternative : List ℤ → ℕ → List ℤ → List ℤ
alternative words rest code = place_pulses words (FCB_ALT_B + 5 * (rest % 128)) (place_pulses words (FCB_ALT_A + 5 * (rest / 128)) code)

-- ---- the whole
-- every sample 0
abbrev pub silence : List ℤ
silence = replicate 80 (pos 0)

-- what a class and a place within it stand for
unfoldable pub innovation : List ℤ → Classified → Innovation
innovation words c =
    record { code = cond (eqb c.class 5) (alternative words c.rest silence) (place_shapes words c.class (decompose words c.class c.rest) c.rest silence); class = c.class }

-- what an index stands for
unfoldable pub decode : List ℤ → ℕ → Innovation
decode words index = innovation words (classify words index)

-- ---- what refusal 7 asks
-- a digit is one of the 40 positions
abbrev pub slot_fits : ℤ → Bool
slot_fits slot = between (pos 0) (pos 39) slot

-- each of the three is; where there is no pulse it is 0
unfoldable pub slots_fit : List ℤ → Bool
slots_fit positions = slot_fits (get_or positions 0 (pos 0)) && slot_fits (get_or positions 1 (pos 0)) && slot_fits (get_or positions 2 (pos 0))

-- in classes 0 to 4 the digits fit, and class 5 has none
unfoldable pub place_fits : List ℤ → Classified → Bool
place_fits words c = cond (eqb c.class 5) true (slots_fit (decompose words c.class c.rest))

-- an index passes
unfoldable pub digits_fit : List ℤ → ℕ → Bool
digits_fit words index = place_fits words (classify words index)
