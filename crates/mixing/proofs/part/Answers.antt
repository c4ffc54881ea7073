-- What was copied is the part.
use mathlib.Core.Path.{◌≡◌, ap, ◌∙◌}
use Prim.Native.Nat.{ℕ, ◌+◌, ◌-◌}
use lib.ListN.{take, drop}
use native.Mathlib.Omega.{arith}
use Rattle.half.specs.Core as Spec
use Rattle.mixing.proofs.part.Goals as goal

pub returns : goal.returns
unfolding Spec.part
returns c =
    let e : c.args.start + 80 - c.args.start ≡ 80 = omega arith in
    c.copy_from_slice.ensures.after ∙ ap (λ (n : ℕ). take n (drop c.args.start c.args.exc.now)) e
