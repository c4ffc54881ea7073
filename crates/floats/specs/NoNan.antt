-- Where no NaN arises.
use Rattle.std.specs.Prelude.{◌≡◌, ℕ, zero, suc, ◌+◌, ◌-◌, ◌*◌, ◌%◌, ◌^◌, ◌<◌, ◌≤◌, Bool, true, false, cond, not, ◌&&◌, T, nat_lt, Float}
use Rattle.std.proofs.Common.{sym, subst, arith, ltb→lt}
use Rattle.std.specs.Bool.{beq}
use Rattle.std.proofs.lemmas.Bool.{false≢true}
use Rattle.std.proofs.Math.Dec.{not_T}
use Rattle.std.specs.Float.Ieee as Ieee
use Rattle.std.specs.Float.{nan, inf, fin, Format, binary32}
use Rattle.std.specs.Float.Ieee.{add, mul, le, nan_bits, is_nan, units, odd, round, sum, unlike}
use Rattle.std.specs.Float.Ieee.Fits.{round_is}
use Rattle.std.specs.Float.Ieee.Bits.{nan_bits_above}
use Rattle.std.specs.Float.Ieee.Scale.{finite}

-- ---- no NaN
-- a pattern up to the infinity's is no NaN's
pub no_nan_bits : (n : ℕ) → n ≤ 0x7f80_0000 → T (not (nan_bits binary32 n))
no_nan_bits n h =
    subst (λ (b : Bool). T (not b)) (sym (nan_bits_above binary32 n))
    (not_T (nat_lt 0x7f80_0000 (n % 0x8000_0000)) (λ (t : T (nat_lt 0x7f80_0000 (n % 0x8000_0000))). let l : 0x7f80_0000 < n % 0x8000_0000 = ltb→lt 0x7f80_0000 (n % 0x8000_0000) t in omega arith))

odd_no_nan : (d : ℕ) (s : Bool) (q k l : ℕ) → T (not (is_nan (odd d s q k l)))
unfolding odd is_nan
odd_no_nan d s zero k l = tt
odd_no_nan d s (suc q) k l = tt

units_no_nan : (f : Format) (s : Bool) (q k : ℕ) → T (not (is_nan (units f s q k)))
unfolding units is_nan
units_no_nan f s q k = go (nat_lt (q * 2 ^ k) (2 ^ (Ieee.low f + suc (Ieee.emax f))))
  where
    go : (b : Bool) → T (not (is_nan (cond b (odd (suc (Ieee.prec f)) s q k (Ieee.low f)) (inf s))))
    go true = odd_no_nan (suc (Ieee.prec f)) s q k (Ieee.low f)
    go false = tt

pub round_no_nan : (f : Format) (s : Bool) (a b : ℕ) → T (not (is_nan (round f s a b)))
round_no_nan f s a b = subst (λ (z : Float). T (not (is_nan z))) (sym (round_is f s a b)) (units_no_nan f s _ _)

sum_no_nan : (f : Format) (s : Bool) (a : ℕ) (t : Bool) (b d : ℕ) → T (not (is_nan (sum f s a t b d)))
unfolding sum
sum_no_nan f s a t b d = go (beq s t) (nat_lt a b)
  where
    go : (p q : Bool) → T (not (is_nan (cond p (round f s (a + b) d) (cond q (round f t (b - a) d) (round f (s && nat_lt b a) (a - b) d)))))
    go true q = round_no_nan f s (a + b) d
    go false true = round_no_nan f t (b - a) d
    go false false = round_no_nan f (s && nat_lt b a) (a - b) d

-- a product of two finite values is no NaN, and neither is a sum of a finite value and one that is no NaN
pub mul_no_nan : (f : Format) (x y : Float) → T (finite x) → T (finite y) → T (not (is_nan (mul f x y)))
unfolding mul
mul_no_nan f nan y p q = absurd p
mul_no_nan f (inf s) y p q = absurd p
mul_no_nan f (fin s m e) nan p q = absurd q
mul_no_nan f (fin s m e) (inf t) p q = absurd q
mul_no_nan f (fin s m e) (fin t n d) p q = round_no_nan f (unlike s t) _ _

pub add_no_nan : (f : Format) (x y : Float) → T (not (is_nan x)) → T (finite y) → T (not (is_nan (add f x y)))
unfolding add is_nan
add_no_nan f nan y p q = absurd p
add_no_nan f (inf s) nan p q = absurd q
add_no_nan f (inf s) (inf t) p q = absurd q
add_no_nan f (inf s) (fin t n d) p q = tt
add_no_nan f (fin s m e) nan p q = absurd q
add_no_nan f (fin s m e) (inf t) p q = absurd q
add_no_nan f (fin s m e) (fin t n d) p q = sum_no_nan f s _ t _ _

-- a finite value is none
pub finite_no_nan : (x : Float) → T (finite x) → T (not (is_nan x))
unfolding is_nan
finite_no_nan nan p = absurd p
finite_no_nan (inf s) p = absurd p
finite_no_nan (fin s m e) p = tt

-- ---- a comparison that holds says that neither side is a NaN
pub above_no_nan : (a x : Float) → le a x ≡ true → T (not (is_nan x))
unfolding le is_nan
above_no_nan nan x h = absurd (false≢true h)
above_no_nan (inf s) nan h = absurd (false≢true h)
above_no_nan (inf s) (inf t) h = tt
above_no_nan (inf s) (fin t n d) h = tt
above_no_nan (fin s m e) nan h = absurd (false≢true h)
above_no_nan (fin s m e) (inf t) h = tt
above_no_nan (fin s m e) (fin t n d) h = tt
