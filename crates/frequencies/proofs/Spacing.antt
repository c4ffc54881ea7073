-- The loop of `spread`: by place k all before it are written, and the prior is the one just before it.
use mathlib.Core.Path.{◌≡◌, ap, ◌∙◌}
use mathlib.Core.List.{List}
use Prim.Native.Nat.{ℕ, suc, ◌+◌, ◌-◌, ◌≤◌, ◌<◌}
use native.Mathlib.Omega.{arith}
use lib.ListN.{length, get_or, set}
use lib.Ieee.{Float, nan, binary32, add}
use Rattle.sequence.specs.Table.{Written, written_none, written_more, written_end}
use Rattle.spectral.specs.Spectral.{larger, smaller, spaced_at, spread, FLOOR, GAP, CEILING}

abbrev pub Spaced : List Float → List Float → Float → ℕ → Type 0
Spaced l out prior k = (0 < k) × Written (spaced_at l) 10 out k × (prior ≡ spaced_at l (k - 1))

pub spaced_first : (l out : List Float) (v : Float) → length out ≡ 10 → v ≡ larger (get_or l 0 nan) FLOOR → Spaced l (set out 0 v) v 1
unfolding spaced_at
spaced_first l out v h e = (omega arith, written_more (spaced_at l) 10 out 0 v (written_none (spaced_at l) 10 out h) (omega arith) e, e)

next : (l : List Float) (k : ℕ) → 0 < k → larger (get_or l k nan) (add binary32 (spaced_at l (k - 1)) GAP) ≡ spaced_at l k
unfolding spaced_at
next l k h = go (k - 1) (omega arith)
  where
    go : (m : ℕ) → k ≡ suc m → larger (get_or l k nan) (add binary32 (spaced_at l (k - 1)) GAP) ≡ spaced_at l k
    go m e = let w : k - 1 ≡ m = omega arith in rw (w, e)

pub spaced_more : (l out : List Float) (prior v : Float) (k : ℕ) → Spaced l out prior k → k < 10 → v ≡ larger (get_or l k nan) (add binary32 prior GAP) → Spaced l (set out k v) v (k + 1)
spaced_more l out prior v k i h e =
    let s : v ≡ spaced_at l k = e ∙ ap (λ (p : Float). larger (get_or l k nan) (add binary32 p GAP)) i.2 ∙ next l k i.0 in
    let b : k ≡ k + 1 - 1 = omega arith in
    (omega arith, written_more (spaced_at l) 10 out k v i.1 h s, s ∙ ap (spaced_at l) b)

pub spaced_end : (l out : List Float) (prior v : Float) (k : ℕ) → Spaced l out prior k → 10 ≤ k → v ≡ smaller prior CEILING → set out 9 v ≡ spread l
unfolding spread
spaced_end l out prior v k i h e =
    let b : k - 1 ≡ 9 = omega (arith, i.1.0) in
    ap (λ (z : Float). set out 9 z) (e ∙ ap (λ (z : Float). smaller z CEILING) (i.2 ∙ ap (spaced_at l) b)) ∙ ap (λ (z : List Float). set z 9 (smaller (spaced_at l 9) CEILING)) (written_end (spaced_at l) 10 out k i.1 h)
