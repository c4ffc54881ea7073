-- Each call's result as it is defined; the exponent is its own 5-bit field, by `scale-is`, and the residual, which is an accumulator, decides the reciprocal's case.
use borrow.Author.Rules.{rules}
use mathlib.Core.Bool.{cond}
use mathlib.Core.Path.{◌≡◌, ◌∙◌, ap, sym}
use Prim.Native.Nat.{◌≤◌}
use lib.Dec.{eqb}
use lib.IntN.{ℤ, pos, negsuc, nat_abs}
use lib.ListN.{get_or}
use mir.Syntax.{w16, w32, w64}
use mir.Val.{to_z, of_z}
use Rattle.fixed.specs.Fixed as Fixed
use Rattle.fixed.specs.Machine.{back, abs_sfits}
use Rattle.fixed.specs.Reciprocals.{zeros_is}
use Rattle.fixed.specs.Wrap.{wrap_wrap}
use Rattle.reflection.specs.Reflection as Levinson
use Rattle.reflection.specs.Exponent.{scale_is}
use Rattle.levinson.proofs.step.Goals as goal
use Rattle.levinson.proofs.step.Goals.{After-exponent, After-hi-inverse, After-normalised_reciprocal-r, After-residual, Start}

-- the case of 0 is counted where the residual is 0
counted : (kv : ℤ) → Fixed.zeros (Fixed.normalised_reciprocal (Levinson.residual kv)) ≡ Levinson.zero_residual kv
unfolding Levinson.zero_residual Levinson.residual Fixed.fold
counted kv = zeros_is (Levinson.residual kv) ∙ ap (λ (z : ℤ). cond (eqb (nat_abs z) 0) 1 0) (wrap_wrap 40 _)

-- the coefficient that is peeled off, and the reciprocal of its residual
module _ (c : goal.After-normalised_reciprocal-r) where
  abbrev r : goal.After-residual
  r = c.before

  abbrev s : goal.Start
  s = r.before.before

  abbrev kv : ℤ
  kv = get_or s.args.k.now s.args.top (pos 0)

  kv_back : to_z w16 (of_z w16 kv) ≡ kv
  kv_back = back w16 kv (search rules)

  kv_le : nat_abs kv ≤ 32768
  kv_le = abs_sfits w16 kv (record { sfits = (search rules) })

  got_is : c.normalised_reciprocal-r.result ≡ Fixed.normalised_reciprocal (Levinson.residual kv)
  got_is =
      simp (back w64 r.residual.result r.residual.type_inv) at c.normalised_reciprocal-r.ensures
      ∙ ap Fixed.normalised_reciprocal (simp kv_back at r.residual.ensures)

inverse_is : (c : goal.After-hi-inverse) → to_z w16 (of_z w16 c.hi-inverse.result) ≡ Levinson.inverse (kv c.before.before.before)
unfolding Levinson.inverse
inverse_is c =
    let q = c.before.before in
    back w16 c.hi-inverse.result c.hi-inverse.type_inv
    ∙ simp (back w64 c.before.shift.result c.before.shift.type_inv) at c.hi-inverse.ensures
    ∙ ap (λ (z : ℤ). Fixed.hi z) (simp (back w64 q.quotient.result q.quotient.type_inv) at c.before.shift.ensures
    ∙ ap (λ (z : ℤ). Fixed.shift z (negsuc 0)) (q.quotient.ensures ∙ ap Fixed.quotient (got_is q.before)))

scale_got : (c : goal.After-exponent) → to_z w32 (of_z w32 c.exponent.result) ≡ Levinson.scale (kv c.before.before.before.before.before)
unfolding Levinson.exponent
scale_got c =
    let b = c.before.before.before.before.before in
    back w32 c.exponent.result c.exponent.type_inv ∙ c.exponent.ensures ∙ ap Fixed.exponent (got_is b) ∙ sym (scale_is (kv b) (kv_le b))

pub returns : goal.returns
unfolding Levinson.step
returns c =
    let e = c.before.before.before in
    let h = e.before.before in
    let b = h.before.before.before in
    record {
      numbers = simp (kv_back b, inverse_is h, scale_got e) at c.before.before.update_all.ensures;
      zero = c.is_zero.ensures ∙ ap Fixed.zeros (got_is b) ∙ counted (kv b);
    }
