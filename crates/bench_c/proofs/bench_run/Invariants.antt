use mathlib.Core.Path.{◌≡◌}
use Prim.Native.Nat.{◌-◌, ◌/◌, ◌≤◌}
use lib.ListN.{length}
use Rattle.bench_c.specs.Bench as Bench
use Rattle.bench_c.proofs.bench_run.Given as goal

abbrev pub invariant-loop-k : goal.invariant-loop-k
invariant-loop-k l = (l.n ≡ length l.frames / 20) × (l.k ≤ l.n) × (length l.samples ≡ length l.initial.samples) × (l.state ≡ Bench.after l.words l.bytes l.frames (length l.initial.samples) l.k) × (l.samples ≡ Bench.samples l.words l.bytes l.frames (length l.initial.samples) l.initial.samples l.k)

abbrev pub decreases-loop-k : goal.decreases-loop-k
decreases-loop-k l = l.n - l.k
