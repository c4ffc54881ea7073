-- Fixed-point arithmetic on the integers: what each operation of a 16-bit machine with a 40-bit accumulator gives.
use Rattle.std.specs.Prelude.{Bool, cond, not, ℕ, suc, ◌+◌, ◌-◌, ◌%◌, ◌^◌, ◌*◌, ℤ, pos, negsuc, neg_ℤ, nat_abs, ◌+ℤ◌, ◌-ℤ◌, ◌*ℤ◌, ltb, eqb}
use Rattle.std.specs.Int.Count
use Rattle.std.specs.Int.Signed.{mag, shr_z, lt_z, le_z}
use Rattle.sequence.specs.Repeated.{repeated}
use Rattle.fixed.specs.declared.Reciprocal.{Reciprocal}
use Rattle.fixed.specs.declared.Reciprocal.TheVariants.{Zero, Ordinary}

-- z modulo M: the number from 0 to M - 1 that differs from z by a multiple of M
unfoldable pub residue : ℕ → ℤ → ℕ
residue M (pos n) = n % M
residue M (negsuc n) = M - suc (n % M)

-- a residue r modulo M, read with a sign: r itself in the lower half, r - M in the upper
unfoldable pub signed : ℕ → ℕ → ℤ
signed M r = cond (ltb (r + r) M) (pos r) (negsuc (M - suc r))

-- z wrapped to k bits in two's complement: the number from -2 ^ (k - 1) to 2 ^ (k - 1) - 1 that differs from z by a multiple of 2 ^ k
unfoldable pub wrap : ℕ → ℤ → ℤ
wrap k z = signed (2 ^ k) (residue (2 ^ k) z)

-- z clamped into lo .. top
unfoldable pub clamp : ℤ → ℤ → ℤ → ℤ
clamp lo top z = cond (lt_z z lo) lo (cond (lt_z top z) top z)

-- an accumulator: 40 bits, wrapped and not saturated
abbrev pub acc : ℤ → ℤ
acc z = wrap 40 z

-- one term more in a sum that the accumulator holds
unfoldable pub fold : ℤ → ℤ → ℤ
fold sum term = acc (sum +ℤ term)

-- saturated to 32 bits
abbrev pub sat : ℤ → ℤ
sat z = clamp (negsuc 2147483647) (pos 2147483647) z

-- whether saturation changes z
unfoldable pub clips : ℤ → Bool
clips z = not (eqb (nat_abs (sat z -ℤ z)) 0)

-- what a store to 32 bits and a load give
abbrev pub trunc32 : ℤ → ℤ
trunc32 z = wrap 32 z

-- the low 16 bits, and the 16 above them; `shr_z z m` is z / m, rounded down
abbrev pub low : ℤ → ℤ
low z = wrap 16 z

abbrev pub hi : ℤ → ℤ
hi z = wrap 16 (shr_z z 65536)

-- the fractional product of two signed numbers, and of an unsigned one, given by its bits, and a signed one
unfoldable pub mul : ℤ → ℤ → ℤ
mul x y = x *ℤ y *ℤ pos 2

unfoldable pub mul_us : ℤ → ℤ → ℤ
mul_us x y = pos (residue 65536 x) *ℤ y *ℤ pos 2

-- the low 32 bits of x by a number y of 16 bits in Q15: their product over 2 ^ 15, rounded down
unfoldable pub mul32x16 : ℤ → ℤ → ℤ
mul32x16 x y = shr_z (trunc32 x *ℤ y) 32768

-- v times 2 ^ s, rounded down, as an accumulator; of the amount the machine sees the low six bits
unfoldable pub shift : ℤ → ℤ → ℤ
shift v (pos s) = acc (v *ℤ pos (2 ^ (s % 64)))
shift v (negsuc s) = acc (shr_z v (2 ^ (suc s % 64)))

-- the left shift that normalises an accumulator against bit 31: its redundant sign bits, of which 40 bits have 8 more than 32 have. 0 of 0
unfoldable pub exp : ℤ → ℤ
unfolding Count.count_leading_zeros
exp v = cond (eqb (nat_abs (acc v)) 0) (pos 0) (pos (Count.count_leading_zeros 40 (mag (acc v))) -ℤ pos 9)

-- a step of restoring division: the divisor, at bit 15, is taken away where that leaves no negative number, and the quotient's next bit comes in below
unfoldable pub restoring_step : ℤ → ℤ → ℤ
restoring_step num den =
    let alu : ℤ = num -ℤ den *ℤ pos 32768 in
    cond (le_z (pos 0) alu) (fold (alu *ℤ pos 2) (pos 1)) (acc (num *ℤ pos 2))

-- as many steps, one after the other
unfoldable pub restoring_divide : ℤ → ℤ → ℕ → ℤ
unfolding repeated
restoring_divide num den n = repeated (λ k x. restoring_step x den) n num

-- 16383 by the high half of n's size, in 15 steps: the quotient's low 16 bits, moved to the high half
unfoldable pub size_reciprocal : ℤ → ℤ
size_reciprocal n = acc (pos (residue 65536 (restoring_divide (pos (16383 * 65536)) (shr_z (sat (pos (nat_abs n))) 65536) 15)) *ℤ pos 65536)

-- the same with n's sign
unfoldable pub signed_reciprocal : ℤ → ℤ
signed_reciprocal n = cond (lt_z (hi n) (pos 0)) (acc (neg_ℤ (size_reciprocal n))) (size_reciprocal n)

-- value normalised, the reciprocal of that, and the exponent that it takes. Those of an accumulator that holds 0 have a case of their own
unfoldable pub normalised_reciprocal : ℤ → Reciprocal
normalised_reciprocal value =
    let q : ℤ = signed_reciprocal (shift value (exp value)) in
    let e : ℤ = exp value +ℤ pos 1 in
    cond (eqb (nat_abs (acc value)) 0) (Zero q e) (Ordinary q e)

-- the quotient and the exponent of either case; and 1 for the case of 0
unfoldable pub quotient : Reciprocal → ℤ
quotient (Zero q e) = q
quotient (Ordinary q e) = q

unfoldable pub exponent : Reciprocal → ℤ
exponent (Zero q e) = e
exponent (Ordinary q e) = e

unfoldable pub zeros : Reciprocal → ℕ
zeros (Zero q e) = 1
zeros (Ordinary q e) = 0
