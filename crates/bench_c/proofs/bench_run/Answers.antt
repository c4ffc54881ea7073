-- The state and the samples after k frames are the definition's.
use borrow.Author.Rules.{rules}
use native.Mathlib.Omega.{arith}
use mathlib.Core.Path.{◌≡◌, refl, ◌∙◌, ap, sym}
use mathlib.Core.List.{List}
use lib.IntN.{ℤ}
use lib.ListN.{take, drop}
use Rattle.sequence.specs.Repeated.{repeated_none, repeated_again, repeated_end}
use Rattle.state.specs.declared.State.{State}
use Rattle.state.specs.declared.Returned.{Returned}
use Rattle.calls.specs.declared.Answer.{Answer}
use Rattle.calls.specs.Celp as Celp
use Prim.Native.Nat.{ℕ, ◌-◌, ◌+◌, ◌*◌, ◌/◌, ◌≤◌}
use lib.ListN.{length}
use Rattle.bench_c.specs.Bench as Bench
use Rattle.bench_c.proofs.bench_run.Goals as goal

module _ (words : List ℤ) (bytes frames : List ℕ) (room k : ℕ) where
  -- the code's part of the recording is the definition's frame
  cut : take (20 * k + 20 - 20 * k) (drop (20 * k) frames) ≡ Bench.frame frames k
  cut = let e : 20 * k + 20 - 20 * k ≡ 20 = omega arith in rw e

  -- a frame more
  after_more : (s t : State) → s ≡ Bench.after words bytes frames room k → t ≡ (Celp.decode words bytes s (take (20 * k + 20 - 20 * k) (drop (20 * k) frames)) room).state → t ≡ Bench.after words bytes frames room (k + 1)
  after_more s t e f = repeated_again _ k _ e (f ∙ ap (λ (p : List ℕ). (Celp.decode words bytes s p room).state) cut)

  samples_more : (xs ys zs : List ℤ) (s : State) → s ≡ Bench.after words bytes frames room k → ys ≡ Bench.samples words bytes frames room xs k → zs ≡ Celp.samples words bytes s (take (20 * k + 20 - 20 * k) (drop (20 * k) frames)) ys → zs ≡ Bench.samples words bytes frames room xs (k + 1)
  samples_more xs ys zs s a e f =
      repeated_again _ k _ e (f ∙ ap (λ (p : List ℕ). Celp.samples words bytes s p ys) cut ∙ ap (λ (t : State). Celp.samples words bytes t (Bench.frame frames k) ys) a)

pub loop-k-init : goal.loop-k-init
loop-k-init c = (refl, omega arith, refl, ap (λ (r : Returned). r.state) c.before.reset-start.ensures ∙ sym (repeated_none _ _), sym (repeated_none _ _))

pub loop-k-preserved : goal.loop-k-preserved
loop-k-preserved c =
    let d = c.before.before.decode-a in
    let l = c.before.before.before.before.before.before in
    let b = l.before.before.before.before.before in
    let ws = b.args.words.now in
    let bs = b.args.bytes.now in
    let fs = b.args.frames.now in
    let xs = b.args.samples.now in
    let k = l.loop-k.k in
    let i = l.loop-k.invariant in (
      refl,
      omega arith,
      search rules,
      after_more ws bs fs (length xs) k l.loop-k.state _ i.3 (ap (λ (a : Answer). a.state) d.ensures.answer ∙ ap (λ (m : ℕ). (Celp.decode ws bs l.loop-k.state (take (20 * k + 20 - 20 * k) (drop (20 * k) fs)) m).state) i.2),
      samples_more ws bs fs (length xs) k xs l.loop-k.samples _ l.loop-k.state i.3 i.4 d.ensures.samples,
    )

pub returns : goal.returns
returns c =
    let l = c.before in
    let i = l.loop-k.invariant in
    let e : l.loop-k.k ≤ length l.before.before.before.before.before.args.frames.now / 20 = omega arith in
    let f : length l.before.before.before.before.before.args.frames.now / 20 ≤ l.loop-k.k = omega arith in
    record {
      mark = ap (λ (s : State). s.mark) (repeated_end _ _ e f i.3);
      samples = repeated_end _ _ e f i.4;
    }
