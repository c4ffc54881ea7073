use mathlib.Core.List.{List}
use mathlib.Core.Path.{◌≡◌}
use Prim.Native.Nat.{ℕ, ◌+◌, ◌*◌, ◌≤◌}
use lib.IntN.{ℤ, pos}
use lib.ListN.{get_or}
use Rattle.sequence.specs.Repeated.{repeated}
use Rattle.lsp.specs.Lsp as Lsp
use Rattle.lsp.proofs.lsp_polynomial.Given as goal

abbrev pub turn : List ℤ → ℕ → ℕ → List ℤ → List ℤ
turn lsp first n = Lsp.next_polynomial (Lsp.negated (get_or lsp (first + 2 * (n + 1)) (pos 0))) (n + 2)

abbrev pub invariant-loop-n : goal.invariant-loop-n
invariant-loop-n l = (l.n ≤ 4) × (l.f ≡ repeated (turn l.lsp l.first) l.n l.initial.f)
