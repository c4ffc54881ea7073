-- The predictor's reflection coefficients (Q12) from its LPC numbers: the Levinson recursion backwards.
use Rattle.std.specs.Prelude.{cond, List, ℕ, ◌+◌, ◌-◌, ltb, eqb, get_or, ℤ, pos, negsuc, neg_ℤ, nat_abs, ◌*ℤ◌}
use Rattle.sequence.specs.Table.{table}
use Rattle.sequence.specs.Repeated.{repeated}
use Rattle.sequence.specs.Lists.{tally}
use Rattle.fixed.specs.Fixed.{wrap, acc, fold, sat, hi, mul, mul32x16, shift, normalised_reciprocal}
use Rattle.fixed.specs.Fixed as Fixed
use Rattle.reflection.specs.declared.Reflection.{Reflection}

abbrev pub at : List ℤ → ℕ → ℤ
at l i = get_or l i (pos 0)

-- 1 - k², for a k in Q12, in Q30
unfoldable pub residual : ℤ → ℤ
residual kv = fold (pos 1073741824) (neg_ℤ (shift (acc (mul kv kv)) (pos 5)))

-- its reciprocal: the quotient, halved, and the exponent, which is read as a signed field of 5 bits
unfoldable pub inverse : ℤ → ℤ
inverse kv = hi (shift (Fixed.quotient (normalised_reciprocal (residual kv))) (negsuc 0))

unfoldable pub exponent : ℤ → ℤ
exponent kv = Fixed.exponent (normalised_reciprocal (residual kv))

unfoldable pub scale : ℤ → ℤ
scale kv = wrap 5 (exponent kv)

-- x - y·k, and that by 1 - k²
unfoldable pub difference : ℤ → ℤ → ℤ → ℤ
difference kv x y = sat (fold (x *ℤ pos 65536) (neg_ℤ (shift (acc (mul y kv)) (pos 3))))

unfoldable pub updated : ℤ → ℤ → ℤ → ℤ → ℤ → ℤ
updated kv inv sc x y = hi (shift (mul32x16 (difference kv x y) inv) sc)

-- Each number before place top is updated with the one as far from the other end, both as they stand in k; the others stay.
unfoldable pub update_all : ℕ → ℤ → ℤ → ℤ → List ℤ → List ℤ
update_all top kv inv sc k = table (λ n. cond (ltb n top) (updated kv inv sc (at k n) (at k (top - 1 - n))) (at k n)) 10

-- a step, by the coefficient at place top
unfoldable pub step : ℕ → List ℤ → List ℤ
step top k = update_all top (at k top) (inverse (at k top)) (scale (at k top)) k

-- the LPC numbers after the first
unfoldable pub tail : List ℤ → List ℤ
tail lpc = table (λ n. at lpc (n + 1)) 10

-- nine steps, at places 9 to 1
unfoldable pub reflection_coefficients : List ℤ → List ℤ
reflection_coefficients lpc = repeated (λ n. step (9 - n)) 9 (tail lpc)

-- 1 for a coefficient whose residual is 0, else 0
unfoldable pub zero_residual : ℤ → ℕ
zero_residual kv = cond (eqb (nat_abs (residual kv)) 0) 1 0

-- at how many of the nine steps the residual is 0: that of step n, from 0 to 8, is of the coefficient at place 9 - n, as the steps before it left it
unfoldable pub zero_residuals_of : List ℤ → ℕ
zero_residuals_of lpc = tally (λ n. zero_residual (at (repeated (λ k. step (9 - k)) n (tail lpc)) (9 - n))) (table (λ n. n) 9)

-- both
unfoldable pub reflection : List ℤ → Reflection
reflection lpc = record { coefficients = reflection_coefficients lpc; zero_residuals = zero_residuals_of lpc }
