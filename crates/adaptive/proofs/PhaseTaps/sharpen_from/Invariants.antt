use mathlib.Core.Path.{◌≡◌}
use Prim.Native.Nat.{◌+◌, ◌≤◌}
use lib.ListN.{length}
use Rattle.sequence.specs.Rewritten.{rewritten}
use Rattle.adaptive.specs.Window as Window
use Rattle.adaptive.proofs.PhaseTaps.sharpen_from.Given as goal

abbrev pub invariant-loop-n : goal.invariant-loop-n
invariant-loop-n l =
    (l.n ≤ l.count) × (length l.buf ≡ length l.initial.buf) × (l.buf ≡ rewritten (Window.sharpened l.self.window l.first l.gain) (21 + l.first) l.initial.buf l.n)
