-- Line spectral conversions: LSFs (Q13 radians), LSPs (their cosines, Q15) and the predictor's LPC numbers (Q12).
use Rattle.std.specs.Prelude.{cond, List, [], ◌∷◌, ℕ, ◌+◌, ◌-◌, ◌*◌, ◌/◌, ◌%◌, ltb, eqb, get_or, ℤ, pos, negsuc, neg_ℤ, nat_abs, ◌+ℤ◌, ◌*ℤ◌}
use Rattle.std.specs.Int.Signed.{shr_z}
use Rattle.sequence.specs.Table.{table}
use Rattle.sequence.specs.Repeated.{repeated}
use Rattle.fixed.specs.Fixed.{fold, trunc32, low, hi, mul, mul32x16, shift}
use Rattle.tables.specs.Places.{COS, COS_SLOPE}
use Rattle.lsp.specs.declared.Pair.{Pair}

abbrev pub at : List ℤ → ℕ → ℤ
at l i = get_or l i (pos 0)

-- ---- LSF to LSP
-- where an LSF, which is not negative, stands in the cosine table, in 256ths of an entry: its fractional product by 20861, which is 4/π of it, without the low half
unfoldable pub position : ℤ → ℕ
position lsf = nat_abs lsf * 20861 * 2 / 65536

-- the entry, of 64, at or before a position
unfoldable pub entry : ℕ → ℕ
entry p = cond (ltb 63 (p / 256)) 63 (p / 256)

-- the cosine of an LSF: the entry, and its slope for each of the 256ths behind it
unfoldable pub cosine : List ℤ → ℤ → ℤ
cosine words lsf =
    hi (fold (at words (COS + entry (position lsf)) *ℤ pos 65536) (mul (pos (position lsf % 256 * 8)) (at words (COS_SLOPE + entry (position lsf)))))

unfoldable pub lsf_to_lsp : List ℤ → List ℤ → List ℤ
lsf_to_lsp words lsf = table (λ i. cosine words (at lsf i)) 10

-- ---- LSP to LPC
-- minus an LSP, as 16 bits hold it: of -32768 it is that number again
unfoldable pub negated : ℤ → ℤ
negated x = low (neg_ℤ x)

-- Five LSPs q make the polynomial that is the product of their 1 - 2·q·z⁻¹ + z⁻², in Q24. That of i of them has the degree 2i and is symmetric, so coefficients 0 to i stand for it.
-- Coefficient j, at least 2, of a product by 1 + 2·l·z⁻¹ + z⁻², by coefficients j, j - 1 and j - 2 of what is multiplied
unfoldable pub product : ℤ → ℤ → ℤ → ℤ → ℤ
product x y z l = trunc32 (fold (fold x (mul32x16 y l *ℤ pos 2)) z)

-- coefficient 1
unfoldable pub linear : ℤ → ℤ → ℤ
linear x l = trunc32 (fold x (l *ℤ pos 1024))

-- coefficient j of the i - 1 LSPs before, whose polynomial is symmetric about i - 1: coefficient i is coefficient i - 2
unfoldable pub own : ℕ → List ℤ → ℕ → ℤ
own i f j = cond (eqb i j) (at f (j - 2)) (at f j)

-- coefficient j of i LSPs, by those of the i - 1 before and by l, which is minus the i-th; beyond i nothing changes
unfoldable pub coefficient : ℤ → ℕ → List ℤ → ℕ → ℤ
coefficient l i f j =
    cond (eqb j 0) (at f 0)
    (cond (eqb j 1) (linear (at f 1) l)
    (cond (ltb i j) (at f j)
    (product (own i f j) (at f (j - 1)) (at f (j - 2)) l)))

unfoldable pub next_polynomial : ℤ → ℕ → List ℤ → List ℤ
next_polynomial l i f = table (coefficient l i f) 6

-- of one LSP: here the negative is of 64 bits, and that of -32768 is 32768
unfoldable pub first_polynomial : ℤ → List ℤ
first_polynomial x = pos 16777216 ∷ trunc32 (neg_ℤ (x *ℤ pos 1024)) ∷ pos 0 ∷ pos 0 ∷ pos 0 ∷ pos 0 ∷ []

-- of five LSPs: every second one from place first on
unfoldable pub lsp_polynomial : List ℤ → ℕ → List ℤ
lsp_polynomial lsp first = repeated (λ n. next_polynomial (negated (at lsp (first + 2 * (n + 1)))) (n + 2)) 4 (first_polynomial (at lsp first))

-- coefficient i, 1 to 5, of (1 + z⁻¹) times a polynomial, and of (1 - z⁻¹) times it
unfoldable pub plus : List ℤ → ℕ → ℤ
plus f i = trunc32 (fold (at f i) (at f (i - 1)))

unfoldable pub minus : List ℤ → ℕ → ℤ
minus f i = trunc32 (fold (at f i) (neg_ℤ (at f (i - 1))))

-- half of a number in Q24, rounded to Q12
unfoldable pub halved : ℤ → ℤ
halved sum = hi (fold (shift (shift sum (negsuc 0)) (pos 4)) (pos 32768))

-- The predictor is half of f·(1 + z⁻¹) + g·(1 - z⁻¹). The first of these is symmetric and the second antisymmetric, about the middle between places 5 and 6:
-- a coefficient before it is half their sum, and the one as far behind it half their difference
unfoldable pub front : ℤ → ℤ → ℤ
front p m = halved (fold p m)

unfoldable pub back : ℤ → ℤ → ℤ
back p m = halved (fold p (neg_ℤ m))

unfoldable pub predictor : List ℤ → List ℤ → ℕ → ℤ
predictor f g n =
    cond (eqb n 0) (pos 4096)
    (cond (ltb n 6)
    (front (plus f n) (minus g n))
    (back (plus f (11 - n)) (minus g (11 - n))))

unfoldable pub lsp_to_lpc : List ℤ → List ℤ
lsp_to_lpc lsp = table (predictor (lsp_polynomial lsp 0) (lsp_polynomial lsp 1)) 11

-- ---- the midpoint of two LSP sets, each number rounded down
unfoldable pub midway : ℤ → ℤ → ℤ
midway x y = shr_z (x +ℤ y) 2

unfoldable pub midpoint : List ℤ → List ℤ → List ℤ
midpoint first second = table (λ i. midway (at first i) (at second i)) 10

-- the two LPC sets of a half frame: at the midpoint between the LSPs before and the present ones, and at the present ones
unfoldable pub interpolate_pair : List ℤ → List ℤ → Pair
interpolate_pair prev cur = record { first = lsp_to_lpc (midpoint prev cur); second = lsp_to_lpc cur }
