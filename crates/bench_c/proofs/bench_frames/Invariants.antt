use Prim.Native.Nat.{◌-◌, ◌≤◌}
use mathlib.Core.Path.{◌≡◌}
use lib.ListN.{length}
use Rattle.bench_c.specs.Bench as Bench
use Rattle.bench_c.proofs.bench_frames.Given as goal

abbrev pub invariant-loop-k : goal.invariant-loop-k
invariant-loop-k l =
    (l.k ≤ l.n) × (length l.samples ≡ length l.initial.samples) × (length l.numbers ≡ length l.initial.numbers) × (l.state ≡ Bench.after_parts l.words l.bytes l.size l.frames (length l.initial.samples) (length l.initial.numbers) l.k)
    × (l.samples ≡ Bench.samples_parts l.words l.bytes l.size l.frames (length l.initial.samples) (length l.initial.numbers) l.initial.samples l.k) × (l.numbers ≡ Bench.numbers_parts l.words l.bytes l.size l.frames (length l.initial.samples) (length l.initial.numbers) l.initial.numbers l.k)

abbrev pub decreases-loop-k : goal.decreases-loop-k
decreases-loop-k l = l.n - l.k
