use mathlib.Core.Path.{◌≡◌}
use Prim.Native.Nat.{◌≤◌}
use lib.ListN.{length}
use Rattle.sequence.specs.Rewritten.{rewritten}
use Rattle.half.specs.Core as Spec
use Rattle.mixing.proofs.mix.Given as goal

abbrev pub invariant-loop-n : goal.invariant-loop-n
invariant-loop-n l =
    (l.n ≤ 80) × (length l.exc ≡ length l.initial.exc) × (l.exc ≡ rewritten (Spec.mixed_at l.pitch_gain l.code_gain l.innovation l.start) l.start l.initial.exc l.n)
