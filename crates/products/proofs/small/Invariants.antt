use mathlib.Core.Path.{◌≡◌}
use Prim.Native.Nat.{◌*◌, ◌≤◌}
use Rattle.products.specs.Runs.{sizes}
use Rattle.products.proofs.small.Given as goal

abbrev pub invariant-loop-tap : goal.invariant-loop-tap
invariant-loop-tap l = (sizes l.taps l.tap-index ≤ 32768 * l.tap-index) × (l.sum ≡ sizes l.taps l.tap-index)
