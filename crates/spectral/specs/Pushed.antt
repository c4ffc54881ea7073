-- The history after a push, place by place: what the code works by.
use Rattle.std.specs.Prelude.{◌≡◌, refl, List, ◌++◌, ℕ, ◌+◌, ◌-◌, ◌≤◌, ◌<◌, Bool, true, false, cond, ltb, length, get_or, take, Float}
use Rattle.std.proofs.Common.{sym, ap, ◌∙◌, arith, ltb-true, ltb-false, length-append, length-take-le, get_or-take, get_or-append-add}
use Rattle.std.proofs.Math.ListN.{get_or-append}
use Rattle.std.specs.Float.{nan}
use Rattle.sequence.specs.Table.{table, table_of}
use Rattle.spectral.specs.Spectral.{push}

abbrev pub pushed_at : List Float → List Float → ℕ → Float
pushed_at history residual k = cond (ltb k 10) (get_or residual k nan) (get_or history (k - 10) nan)

pub push_at : (history residual : List Float) → length residual ≡ 10 → (k : ℕ) → k < 30 → pushed_at history residual k ≡ get_or (push history residual) k nan
unfolding push
push_at h r rl k p = go (ltb k 10) (ltb-true k 10) (ltb-false k 10)
  where
    go : (b : Bool) → (b ≡ true → k < 10) → (b ≡ false → 10 ≤ k) → cond b (get_or r k nan) (get_or h (k - 10) nan) ≡ get_or (r ++ take 20 h) k nan
    go true lo hi = let l = lo refl in sym (get_or-append r (take 20 h) nan k (omega arith))
    go false lo hi =
        let l = hi refl in
        let e : length r + (k - 10) ≡ k = omega arith in
        sym (ap (λ (i : ℕ). get_or (r ++ take 20 h) i nan) (sym e) ∙ get_or-append-add r (take 20 h) (k - 10) nan ∙ get_or-take 20 h (k - 10) nan (omega arith))

push_long : (history residual : List Float) → length history ≡ 30 → length residual ≡ 10 → length (push history residual) ≡ 30
unfolding push
push_long h r hl rl = let tl = length-take-le 20 h (omega arith) in length-append r (take 20 h) ∙ omega arith

pub push_table : (history residual : List Float) → length history ≡ 30 → length residual ≡ 10 → table (pushed_at history residual) 30 ≡ push history residual
push_table h r hl rl = table_of (pushed_at h r) nan (push h r) 30 (push_long h r hl rl) (push_at h r rl)
