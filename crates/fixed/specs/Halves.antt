-- The high half of an accumulator: no wrap to 32 bits or more is seen in it.
use Rattle.std.proofs.Common.{arith, ap, sym, ◌∙◌}
use Rattle.std.specs.Prelude.{◌≡◌, ℤ, pos, ◌*ℤ◌}
use Rattle.std.proofs.Math.IntN.{+ℤ_idr}
use Rattle.std.specs.Int.Signed.{shr_z}
use Rattle.fixed.specs.Fixed.{residue, wrap, acc, hi, trunc32}
use Rattle.fixed.specs.Quotients.{shr_unique}
use Rattle.fixed.specs.Wrap.{residue_lt, wrap_narrow}
use Rattle.fixed.specs.Products.{halves}

-- it is that of the low 32 bits
hi_is : (z : ℤ) → hi z ≡ shr_z (trunc32 z) 65536
hi_is z = sym (ap (λ (x : ℤ). shr_z x 65536) (halves z) ∙ shr_unique (hi z) (residue 65536 z) 65536 (residue_lt 65536 z (omega arith)))

pub hi_acc : (z : ℤ) → hi (acc z) ≡ hi z
hi_acc z = hi_is (acc z) ∙ ap (λ (x : ℤ). shr_z x 65536) (wrap_narrow 8 32 z) ∙ sym (hi_is z)

-- what is moved to the high half is found there, wrapped to 16 bits
pub hi_high : (z : ℤ) → hi (acc (z *ℤ pos 65536)) ≡ wrap 16 z
hi_high z = hi_acc (z *ℤ pos 65536) ∙ ap (wrap 16) (ap (λ (x : ℤ). shr_z x 65536) (sym (+ℤ_idr (z *ℤ pos 65536))) ∙ shr_unique z 0 65536 (omega arith))
