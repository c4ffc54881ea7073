-- The state and the two rooms after k parts are the definition's.
use Prim.Native.Nat.{ℕ, ◌+◌, ◌-◌, ◌*◌, ◌<◌, ◌≤◌}
use mathlib.Core.Path.{◌≡◌, refl, sym, ap, ◌∙◌}
use mathlib.Core.List.{List}
use native.Mathlib.Nat.{mul-suc, mul-le-mul_left}
use native.Mathlib.Omega.{arith}
use lib.IntN.{ℤ}
use lib.ListN.{length, take, drop}
use Rattle.sequence.specs.Repeated.{repeated_none, repeated_again, repeated_end}
use Rattle.state.specs.declared.State.{State}
use Rattle.state.specs.declared.Returned.{Returned}
use Rattle.calls.specs.Frames as Frames
use Rattle.bench_c.specs.Bench as Bench
use Rattle.bench_c.proofs.bench_frames.Goals as goal

-- a part of n ends within all of them
ends : (size k n : ℕ) → k < n → size * k + size ≤ size * n
ends size k n h = let e = mul-suc size k in let f = mul-le-mul_left size h in omega arith

module _ (words : List ℤ) (bytes : List ℕ) (size : ℕ) (frames : List ℕ) (room answers k : ℕ) where
  -- the code's part of the recording is the definition's
  abbrev cut : List ℕ
  cut = take (size * k + size - size * k) (drop (size * k) frames)

  is_part : cut ≡ Bench.part size frames k
  is_part = let e : size * k + size - size * k ≡ size = omega arith in rw e

  module _ (s : State) (a : s ≡ Bench.after_parts words bytes size frames room answers k) where
    -- a part more
    after_more : (t : State) → t ≡ (Frames.decode_frames words bytes s cut room answers).state → t ≡ Bench.after_parts words bytes size frames room answers (k + 1)
    after_more t f = repeated_again _ k _ a (f ∙ ap (λ (p : List ℕ). (Frames.decode_frames words bytes s p room answers).state) is_part)

    samples_more : (xs ys zs : List ℤ) → ys ≡ Bench.samples_parts words bytes size frames room answers xs k → zs ≡ Frames.frames_samples words bytes s cut ys answers → zs ≡ Bench.samples_parts words bytes size frames room answers xs (k + 1)
    samples_more xs ys zs e f = repeated_again _ k _ e (f ∙ ap (λ (p : List ℕ). Frames.frames_samples words bytes s p ys answers) is_part ∙ ap (λ (t : State). Frames.frames_samples words bytes t (Bench.part size frames k) ys answers) a)

    numbers_more : (ns ms ls : List ℕ) → ms ≡ Bench.numbers_parts words bytes size frames room answers ns k → ls ≡ Frames.frames_numbers words bytes s cut room ms → ls ≡ Bench.numbers_parts words bytes size frames room answers ns (k + 1)
    numbers_more ns ms ls e f = repeated_again _ k _ e (f ∙ ap (λ (p : List ℕ). Frames.frames_numbers words bytes s p room ms) is_part ∙ ap (λ (t : State). Frames.frames_numbers words bytes t (Bench.part size frames k) room ms) a)

pub loop-k-init : goal.loop-k-init
loop-k-init c = (omega arith, refl, refl, ap (λ (r : Returned). r.state) c.before.reset-start.ensures ∙ sym (repeated_none _ _), sym (repeated_none _ _), sym (repeated_none _ _))

pub overflow_mul-at : goal.overflow_mul-at
overflow_mul-at c = let s = c.before.before.before.before.before.before.before in let e = ends s.args.size c.before.loop-k.k s.args.n c.loop-k-test.true in let p = s.requires in omega arith

pub overflow_add-end : goal.overflow_add-end
overflow_add-end c = let s = c.before.before.before.before.before.before.before in let e = ends s.args.size c.before.loop-k.k s.args.n c.loop-k-test.true in let p = s.requires in omega arith

pub slice_bounds-decode_frames-end : goal.slice_bounds-decode_frames-end
slice_bounds-decode_frames-end c = let s = c.before.before.before.before.before.before.before in let e = ends s.args.size c.before.loop-k.k s.args.n c.loop-k-test.true in let p = s.requires in omega arith

pub loop-k-preserved : goal.loop-k-preserved
loop-k-preserved c =
    let d = c.before.before.before.before.before in
    let l = d.before.before.before.before in
    let s = l.before.before.before.before.before.before in
    let ws = s.args.words.now in
    let bs = s.args.bytes.now in
    let fs = s.args.frames.now in
    let z = s.args.size in
    let x = length s.args.samples.now in
    let m = length s.args.numbers.now in
    let k = l.loop-k.k in
    let i = l.loop-k.invariant in
    let a = c.before.before.before.before.decode_frames-a in
    let p = cut ws bs z fs x m k in
    let t = l.loop-k.state in (
      omega arith,
      a.auto.samples ∙ i.1,
      a.auto.numbers ∙ i.2,
      after_more ws bs z fs x m k t i.3 _ (ap (λ (r : Returned). r.state) a.ensures.returned ∙ ap (λ (y : ℕ). (Frames.decode_frames ws bs t p y (length l.loop-k.numbers)).state) i.1 ∙ ap (λ (y : ℕ). (Frames.decode_frames ws bs t p x y).state) i.2),
      samples_more ws bs z fs x m k t i.3 s.args.samples.now l.loop-k.samples _ i.4 (a.ensures.samples ∙ ap (Frames.frames_samples ws bs t p l.loop-k.samples) i.2),
      numbers_more ws bs z fs x m k t i.3 s.args.numbers.now l.loop-k.numbers _ i.5 (a.ensures.numbers ∙ ap (λ (y : ℕ). Frames.frames_numbers ws bs t p y l.loop-k.numbers) i.1),
    )

pub returns : goal.returns
returns c =
    let l = c.before in
    let i = l.loop-k.invariant in
    record {
      mark = ap (λ (s : State). s.mark) (repeated_end _ _ i.0 c.loop-k-test.false i.3);
      samples = repeated_end _ _ i.0 c.loop-k-test.false i.4;
      numbers = repeated_end _ _ i.0 c.loop-k-test.false i.5;
    }
