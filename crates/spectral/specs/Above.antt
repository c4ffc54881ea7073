-- Above zero: what the floor and the gaps make of any float.
use Rattle.std.specs.Prelude.{◌≡◌, refl, ◌+◌, ◌*◌, ◌<◌, Bool, true, false, cond, ◌||◌, ◌&&◌, pos, T, eqb, Float}
use Rattle.std.proofs.Common.{sym, ap, ◌∙◌, subst, inl, inr, zero-lt-suc, mul-pos, arith, ltb→lt, ne_eqb}
use Rattle.std.proofs.lemmas.Bool.{false≢true, lt-leb}
use Rattle.std.specs.Float.{nan, inf, fin, binary32}
use Rattle.std.specs.Float.Ieee.{up, down, le, add, round, of_bits}
use Rattle.std.specs.Float.Ieee.Fits.{up_pos, down_pos}
use Rattle.std.specs.Float.Ieee.Exact.{HasValue}
use Rattle.std.specs.Float.Ieee.Order.{round_mono}
use Rattle.std.specs.Float.Ieee.Positive.{above, positive, above_of_le}
use Rattle.floats.specs.Value.{add_at}
use Rattle.floats.specs.Order.{or_eq}
use Rattle.floats.specs.Numbers.{Zero}
use Rattle.spectral.specs.Spectral.{larger, FLOOR, GAP}

above_le : (p x : Float) → T (above p) → le p x ≡ true → T (above x)
unfolding le
above_le nan x a h = absurd a
above_le (inf true) x a h = absurd a
above_le (inf false) nan a h = absurd (false≢true h)
above_le (inf false) (inf true) a h = absurd (false≢true h)
above_le (inf false) (inf false) a h = tt
above_le (inf false) (fin t n d) a h = absurd (false≢true h)
above_le (fin true m e) x a h = absurd a
above_le (fin false m e) x a h = above_of_le (fin false m e) x a (subst T (sym h) tt)

pub larger_above : (x p : Float) → T (above p) → T (above (larger x p))
larger_above x p a = go (le p x) refl
  where
    go : (b : Bool) → le p x ≡ b → T (above (cond b x p))
    go true e = above_le p x a e
    go false e = a

-- a zero is below it, whatever its sign
pub above_zero : (p x : Float) → T (above p) → Zero x → le p x ≡ false
unfolding le
above_zero nan x a z = absurd a
above_zero (inf true) x a z = absurd a
above_zero (inf false) x a (inl e) = ap (le (inf false)) e
above_zero (inf false) x a (inr e) = ap (le (inf false)) e
above_zero (fin true m d) x a z = absurd a
above_zero (fin false m d) x a z = elim z [ inl e ↦ ap (le (fin false m d)) e ∙ like | inr e ↦ ap (le (fin false m d)) e ∙ unlike ]
  where
    more : 0 < m * up d * 1
    more = mul-pos (mul-pos (ltb→lt 0 m a) (up_pos d)) (zero-lt-suc 0)

    like : le (fin false m d) (fin false 0 (pos 0)) ≡ false
    like = or_eq (m * up d * 1) (0 * 1 * down d) ∙ lt-leb (m * up d * 1) (0 * 1 * down d) (omega (arith, more))

    unlike : le (fin false m d) (fin true 0 (pos 0)) ≡ false
    unlike = ap (λ (b : Bool). b && (false || eqb (m * up d * 1) 0)) (ne_eqb (m * up d * 1) (0 * 1 * down d) (λ e. omega (arith, more)))

pub floor_above : T (above FLOOR)
unfolding of_bits
floor_above = tt

gap_value : HasValue GAP false 321 1
unfolding of_bits
gap_value = (refl, refl)

at_321 : T (positive (round binary32 false 321 1))
unfolding round
at_321 = tt

-- and stays so with the gap added
pub gap_above : (p : Float) → T (above p) → T (above (add binary32 p GAP))
unfolding add of_bits
gap_above nan a = absurd a
gap_above (inf true) a = absurd a
gap_above (inf false) a = tt
gap_above (fin true m e) a = absurd a
gap_above (fin false m e) a =
    subst (λ (z : Float). T (above z)) (sym (add_at binary32 (fin false m e) GAP (m * up e) (down e) 321 1 (down_pos e) (zero-lt-suc 0) (refl, refl) gap_value))
    (above_of_le (round binary32 false 321 1) (round binary32 false (m * up e * 1 + 321 * down e) (down e * 1)) at_321
    (round_mono binary32 321 1 (m * up e * 1 + 321 * down e) (down e * 1) (zero-lt-suc 0) (mul-pos (down_pos e) (zero-lt-suc 0)) (omega arith)))
