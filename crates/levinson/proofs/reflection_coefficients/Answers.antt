-- Each turn is the definition's step, and one term more of the count.
use borrow.Author.Rules.{rules}
use native.Mathlib.Omega.{arith}
use mathlib.Core.List.{List}
use mathlib.Core.Path.{◌≡◌, refl, sym, ◌∙◌, ap}
use Prim.Native.Nat.{◌+◌, ◌-◌}
use lib.IntN.{ℤ, pos}
use lib.ListN.{get_or}
use Rattle.sequence.specs.Repeated.{repeated, repeated_again, repeated_end}
use Rattle.reflection.specs.Reflection as Levinson
use Rattle.reflection.specs.Zeros.{zeros_of, zeros_none, zeros_more, zeros_end, zeros_le}
use Rattle.levinson.proofs.reflection_coefficients.Invariants.{turn}
use Rattle.levinson.proofs.reflection_coefficients.Goals as goal
use Rattle.levinson.proofs.reflection_coefficients.Goals.{After-from-zeros}

pub loop-n-init : goal.loop-n-init
unfolding repeated
loop-n-init c = (omega arith, search rules, refl, sym (zeros_none c.tail-k.result))

-- the count after a turn
counted : (c : After-from-zeros) → c.loop-n.zeros + c.from-zeros.result ≡ zeros_of c.tail-k.result (c.loop-n.n + 1)
counted c =
    let n = c.loop-n.n in
    let t : c.from-zeros.result ≡ Levinson.zero_residual (get_or (repeated turn n c.tail-k.result) (9 - n) (pos 0)) = c.from-zeros.ensures ∙ c.step-is_zero.ensures.zero ∙ ap (λ (k : List ℤ). Levinson.zero_residual (get_or k (9 - n) (pos 0))) c.loop-n.invariant.2 in
    omega (arith, c.loop-n.invariant.3, t, zeros_more c.tail-k.result n)

pub overflow_add-zeros : goal.overflow_add-zeros
overflow_add-zeros c = omega (arith, counted c, zeros_le c.tail-k.result (c.loop-n.n + 1))

pub loop-n-preserved : goal.loop-n-preserved
loop-n-preserved c = (omega arith, search rules, repeated_again turn c.loop-n.n _ c.loop-n.invariant.2 c.step-is_zero.ensures.numbers, counted c)

pub returns : goal.returns
unfolding Levinson.reflection Levinson.reflection_coefficients
returns c =
    let l = c.before in
    let t = l.before.tail-k.ensures in
    let k = repeated_end turn _ l.loop-n.invariant.0 (omega arith) l.loop-n.invariant.2 ∙ ap (repeated turn 9) t in
    let z = zeros_end l.before.before.args.lpc l.loop-n.invariant.0 (omega arith) t l.loop-n.invariant.3 in
    λ i. record { coefficients = k i; zero_residuals = z i }
