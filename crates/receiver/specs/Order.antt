-- The order as a table of places: a frame's digits are its bits as they are read there, and bits that are put there are all a frame's bits.
use Rattle.std.specs.Prelude.{◌≡◌, refl, true, not, cond, ◌&&◌, List, ◌++◌, map, ℕ, ◌+◌, ◌-◌, ◌%◌, ◌<◌, ltb, leb, eqb, length, get_or, replicate}
use Rattle.std.proofs.Common.{sym, ap, ap₂, ◌∙◌, append_assoc, arith, ltb-true, eqb-true, ne_eqb}
use Rattle.std.proofs.lemmas.List.{map-append, get_or-replicate, length-map}
use Rattle.std.proofs.lemmas.Simd.{map-map}
use Rattle.std.proofs.Math.Decide.{dec_lt}
use Rattle.std.proofs.lemmas.Bool.{eqb-false, not-false}
use Rattle.std.proofs.Math.ListN.{get_or-map}
use Rattle.sequence.specs.First.{first, first_from, first_before}
use Rattle.sequence.specs.All.{all, all_at}
use Rattle.sequence.specs.Table.{table, table_same, table_of}
use Rattle.bits.specs.Bits as Bits
use Rattle.bits.specs.Bits.{bit_at, read_bit, scatter}
use Rattle.bits.specs.Places.{count}
use Rattle.bits.specs.Bytes.{bit_lt}
use Rattle.bits.specs.Scattered.{scatter_read}
use Rattle.receiver.specs.Receiver.{inverted, receiver_bits, digits, line_of, order}

-- ---- the table

pub order_count : length order ≡ 162
unfolding order table
order_count = refl

below : all (λ i. ltb i 159) order ≡ true
unfolding order table
below = refl

pub order_below : (j : ℕ) → j < 162 → get_or order j 0 < 159
order_below j h = ltb-true (get_or order j 0) 159 (all_at (λ i. ltb i 159) order 0 below j (omega (arith, order_count)))

-- every bit but the last has a digit
each : first (λ i. eqb (count i order) 0) 159 ≡ 159
unfolding order table first_from
each = refl

-- the position of frame bit i, the first reserved one for a padding bit
abbrev pub position : ℕ → ℕ
position i = cond (ltb i 78) (84 + i) (cond (ltb i 158) (i - 78) 80)

-- what stands at a position is looked for there, or at the first reserved one
placed : first (λ j. not (eqb (position (get_or order j 0)) (cond (leb 80 j && ltb j 84) 80 j))) 162 ≡ 162
unfolding order table first_from
placed = refl

pub position_order : (j : ℕ) → j < 162 → position (get_or order j 0) ≡ cond (leb 80 j && ltb j 84) 80 j
position_order j h =
    eqb-true (position (get_or order j 0)) (cond (leb 80 j && ltb j 84) 80 j)
    (not-false _ (first_before (λ k. not (eqb (position (get_or order k 0)) (cond (leb 80 k && ltb k 84) 80 k))) 162 j (rw placed h)))

-- ---- writing

plain : (p : List ℕ) (i : ℕ) → i < 78 → read_bit p i ≡ bit_at p i
unfolding read_bit Bits.inverted
plain p i h =
    rw (ne_eqb i 79 (λ e. omega arith), ne_eqb i 83 (λ e. omega arith), ne_eqb i 85 (λ e. omega arith)) (omega (arith, bit_lt p i))

front : (p : List ℕ) → map (read_bit p) (table (λ j. 78 + j) 80) ≡ table (λ j. (bit_at p (78 + j) + inverted j) % 2) 80
unfolding read_bit Bits.inverted inverted table
front p = refl

back : (p : List ℕ) → map (read_bit p) (table (λ i. i) 78) ≡ table (read_bit p) 78
unfolding table
back p = refl

padding : (p : List ℕ) → bit_at p 158 ≡ 0 → read_bit p 158 ≡ 0
unfolding read_bit Bits.inverted
padding p h = rw h

joined : (p : List ℕ) → table (bit_at p) 78 ≡ table (bit_at p) 74 ++ table (λ j. bit_at p (74 + j)) 4
unfolding table
joined p = refl

-- where no padding bit is set
pub digits_read : (p : List ℕ) → bit_at p 158 ≡ 0 → map (read_bit p) order ≡ digits p
unfolding order digits receiver_bits
digits_read p h =
    map-append (read_bit p) (table (λ j. 78 + j) 80) (replicate 4 158 ++ table (λ i. i) 78)
    ∙ ap₂ ◌++◌ (front p)
    (ap₂ ◌++◌ (ap (replicate 4) (padding p h)) (back p ∙ table_same (read_bit p) (bit_at p) 78 (plain p) ∙ joined p)
    ∙ sym (append_assoc (replicate 4 0) (table (bit_at p) 74) (table (λ j. bit_at p (74 + j)) 4)))
    ∙ sym (append_assoc (table (λ j. (bit_at p (78 + j) + inverted j) % 2) 80) (replicate 4 0 ++ table (bit_at p) 74) (table (λ j. bit_at p (74 + j)) 4))

-- the walk of the places, one after the other
pub table_map : (g : ℕ → ℕ) (l : List ℕ) (n : ℕ) → length l ≡ n → table (λ j. g (get_or l j 0)) n ≡ map g l
table_map g l n e = table_of (λ j. g (get_or l j 0)) (g 0) (map g l) n (length-map l g ∙ e) (λ j h. sym (get_or-map g l j 0))

pub line_walked : (p : List ℕ) → bit_at p 158 ≡ 0 → table (λ j. 48 + read_bit p (get_or order j 0)) 162 ≡ line_of p
unfolding line_of
line_walked p h = table_map (λ i. 48 + read_bit p i) order 162 order_count ∙ sym (map-map (λ d. 48 + d) (read_bit p) order) ∙ ap (map (λ d. 48 + d)) (digits_read p h)

-- ---- reading

-- bits whose readings are put at the places are there, all but the last
pub bits_there : (f : ℕ → ℕ) → ((i : ℕ) → f i < 2) → f 159 ≡ 0 → (i : ℕ) → i < 160
    → get_or (scatter (replicate 160 0) order (map (λ j. (f j + Bits.inverted j) % 2) order)) i 0 ≡ f i
bits_there f b z = scatter_read 160 f (replicate 160 0) order refl b outside
  where
    outside : (i : ℕ) → i < 160 → count i order ≡ 0 → get_or (replicate 160 0) i 0 ≡ f i
    outside i h e = get_or-replicate 160 i 0 0 h ∙ by (dec_lt i 159)
      where
        by : Dec (i < 159) → 0 ≡ f i
        by (yes m) = let t = first_before (λ k. eqb (count k order) 0) 159 i (rw each m) in absurd (eqb-false (count i order) 0 t e)
        by (no m) = let w : i ≡ 159 = omega arith in rw w (sym z)
