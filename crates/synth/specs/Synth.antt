-- The short-term synthesis filter, 1 / A(z), over signals in Q15 with a predictor in Q12.
use Rattle.std.specs.Prelude.{◌≡◌, refl, List, [], ◌∷◌, ◌++◌, ℕ, zero, suc, ◌+◌, ◌-◌, ℤ, pos, negsuc, neg_ℤ, ◌+ℤ◌, ◌*ℤ◌, length, get_or, drop, replicate}
use Rattle.sequence.specs.Count.{count}
use Rattle.sequence.specs.Lists.{tally}
use Rattle.sequence.specs.Table.{table}
use Rattle.sequence.specs.Total.{total}
use Rattle.fixed.specs.Fixed.{residue, signed, wrap, clamp, fold, sat, clips, hi, mul, shift}

-- the term that a coefficient brings into the prediction from the ten outputs h before a sample, h's last being the last
abbrev pub term : List ℤ → List ℤ → ℕ → ℤ
term a h k = neg_ℤ (mul (get_or a (k + 1) (pos 0)) (get_or h (9 - k) (pos 0)))

-- the prediction from those ten, by the coefficients a 1 .. a 10, summed in the accumulator
unfoldable pub prediction : List ℤ → List ℤ → ℤ
prediction a h = total fold (pos 0) (term a h) 10

-- one output, from the ten before it and the input x: the prediction, brought from Q12 to Q15, and the input, rounded
unfoldable pub sample : List ℤ → List ℤ → ℤ → ℤ
sample a h x = hi (sat (fold (shift (prediction a h) (pos 3)) (x *ℤ pos 65536 +ℤ pos 32768)))

-- what is saturated there
unfoldable pub sum : List ℤ → List ℤ → ℤ → ℤ
sum a h x = fold (shift (prediction a h) (pos 3)) (x *ℤ pos 65536 +ℤ pos 32768)

-- the ten outputs m before a block, and after them the first n outputs, each from the ten before it
unfoldable pub window : List ℤ → List ℤ → List ℤ → ℕ → List ℤ
window a m xs zero = m
window a m xs (suc n) = window a m xs n ++ (sample a (drop n (window a m xs n)) (get_or xs n (pos 0)) ∷ [])

-- the outputs of a block, and the last ten outputs, which are the next block's memory
unfoldable pub synthesis : List ℤ → List ℤ → List ℤ → List ℤ
synthesis a m xs = drop 10 (window a m xs (length xs))

unfoldable pub memory : List ℤ → List ℤ → List ℤ → List ℤ
memory a m xs = drop (length xs) (window a m xs (length xs))

-- at how many outputs of a block saturation changes the sum
unfoldable pub clipped : List ℤ → List ℤ → List ℤ → ℕ
clipped a m xs = count (λ n. clips (sum a (drop n (window a m xs n)) (get_or xs n (pos 0)))) (length xs)

pub sample_sum : (a h : List ℤ) (x : ℤ) → sample a h x ≡ hi (sat (sum a h x))
unfolding sample sum
sample_sum a h x = refl

-- ---- worked examples: a predictor that takes off half of the last output (2048 in Q12), a unit pulse of 16384 and a memory of zeros
half_decay : synthesis (pos 4096 ∷ negsuc 2047 ∷ replicate 9 (pos 0)) (replicate 10 (pos 0)) (pos 16384 ∷ pos 0 ∷ pos 0 ∷ []) ≡ pos 16384 ∷ pos 8192 ∷ pos 4096 ∷ []
unfolding synthesis window sample prediction total fold clamp mul shift wrap signed residue
half_decay = refl

half_memory : memory (pos 4096 ∷ negsuc 2047 ∷ replicate 9 (pos 0)) (replicate 10 (pos 0)) (pos 16384 ∷ pos 0 ∷ pos 0 ∷ []) ≡ replicate 7 (pos 0) ++ (pos 16384 ∷ pos 8192 ∷ pos 4096 ∷ [])
unfolding memory window sample prediction total fold clamp mul shift wrap signed residue
half_memory = refl

-- half of the last output again: a tie goes up, of 0.5 to 1 and of -0.5 to 0, and -1.5 to -1; inputs come on top, -0.5 and -7, then -3.5 and -8
ties : (synthesis (pos 4096 ∷ negsuc 2047 ∷ replicate 9 (pos 0)) (replicate 9 (pos 0) ++ (pos 1 ∷ [])) (pos 0 ∷ []) ≡ pos 1 ∷ []) × (synthesis (pos 4096 ∷ negsuc 2047 ∷ replicate 9 (pos 0)) (replicate 9 (pos 0) ++ (negsuc 0 ∷ [])) (pos 0 ∷ []) ≡ pos 0 ∷ []) × (synthesis (pos 4096 ∷ negsuc 2047 ∷ replicate 9 (pos 0)) (replicate 9 (pos 0) ++ (negsuc 2 ∷ [])) (pos 0 ∷ negsuc 6 ∷ negsuc 7 ∷ []) ≡ negsuc 0 ∷ negsuc 6 ∷ negsuc 10 ∷ [])
unfolding synthesis window sample prediction total fold clamp mul shift wrap signed residue
ties = (refl, refl, refl)

-- a predictor that adds the whole last output: 40000 saturates, and so does what lies below -32768
saturated : synthesis (pos 4096 ∷ negsuc 4095 ∷ replicate 9 (pos 0)) (replicate 9 (pos 0) ++ (pos 20000 ∷ [])) (pos 20000 ∷ negsuc 32767 ∷ negsuc 32767 ∷ negsuc 32767 ∷ []) ≡ pos 32767 ∷ negsuc 0 ∷ negsuc 32767 ∷ negsuc 32767 ∷ []
unfolding synthesis window sample prediction total fold clamp mul shift wrap signed residue
saturated = refl

-- of those four the first and the last two are changed, the last at -32768 again; and at either end the next number beyond it is the first that is
three_clipped : clipped (pos 4096 ∷ negsuc 4095 ∷ replicate 9 (pos 0)) (replicate 9 (pos 0) ++ (pos 20000 ∷ [])) (pos 20000 ∷ negsuc 32767 ∷ negsuc 32767 ∷ negsuc 32767 ∷ []) ≡ 3
unfolding clipped count tally table clips sum window sample prediction total fold clamp mul shift wrap signed residue
three_clipped = refl
