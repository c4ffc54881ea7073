-- A predicted sample is made of samples before it, which later stores leave: so the sums may be made again once all 80 are.
use native.Mathlib.Omega.{arith}
use mathlib.Core.Path.{◌≡◌, refl, sym, ap, ◌∙◌}
use mathlib.Core.List.{List}
use Prim.Native.Nat.{ℕ, zero, suc, ◌+◌, ◌-◌, ◌≤◌, ◌<◌}
use lib.IntN.{ℤ, pos}
use lib.ListN.{length, get_or, take, drop}
use lib.Seq.{get_or-set_other}
use Rattle.sequence.specs.Count.{count, count_same}
use Rattle.sequence.specs.Rewritten.{rewritten}
use Rattle.sequence.specs.Total.{total_same}
use Rattle.fixed.specs.Fixed.{fold, sat, clips, hi, mul}
use Rattle.fixed.specs.Clips.{ends}
use Rattle.pitch.specs.Unclipped.{none_clipped}
use Rattle.adaptive.specs.Window.{term, sample, predicted, predicted_sum, clipped}

-- what stands before place start + n is the same after d more stores
earlier : (g : ℕ → List ℤ → ℤ) (start : ℕ) (l : List ℤ) (n d k : ℕ) → k < start + n → get_or (rewritten g start l (n + d)) k (pos 0) ≡ get_or (rewritten g start l n) k (pos 0)
unfolding rewritten
earlier g start l n zero k h = let e : n + 0 ≡ n = omega arith in ap (λ (i : ℕ). get_or (rewritten g start l i) k (pos 0)) e
earlier g start l n (suc d) k h =
    let e : n + suc d ≡ suc (n + d) = omega arith in
    let x : List ℤ = rewritten g start l (n + d) in
    ap (λ (i : ℕ). get_or (rewritten g start l i) k (pos 0)) e
    ∙ get_or-set_other x (start + (n + d)) k (g (n + d) x) (pos 0) (λ p. omega arith)
    ∙ earlier g start l n d k h

module _ (w : List ℤ) (delay start : ℕ) (exc : List ℤ) (p : 20 ≤ delay) (q : delay + 9 ≤ start) where
  abbrev by : ℕ → List ℤ
  by n = rewritten (predicted w delay start) start exc n

  sum_again : (n : ℕ) → n < 80 → predicted_sum w delay start n (by 80) ≡ predicted_sum w delay start n (by n)
  unfolding predicted_sum sample term
  sum_again n h =
      let e : n + (80 - n) ≡ 80 = omega arith in
      let from : ℕ = start + n - delay - 9 in
      ap (λ (z : ℤ). fold z (pos 32768))
      (total_same fold (pos 0) (term w (by 80) from) (term w (by n) from) 24
      (λ k r. ap (λ (z : ℤ). mul z (get_or w k (pos 0))) (ap (λ (i : ℕ). get_or (by i) (from + k) (pos 0)) (sym e) ∙ earlier (predicted w delay start) start exc n (80 - n) (from + k) (omega arith))))

  -- as many are clipped
  pub clipped_again : count (λ (n : ℕ). clips (predicted_sum w delay start n (by 80))) 80 ≡ clipped w delay start exc
  unfolding clipped
  clipped_again = count_same _ _ 80 (λ n h. ap clips (sum_again n h))

  predicted_sum_lem : (k : ℕ) (x : List ℤ) → predicted w delay start k x ≡ hi (sat (predicted_sum w delay start k x))
  unfolding predicted predicted_sum
  predicted_sum_lem k x = refl

  -- none where no predicted sample is at an end
  pub none_predicted : start + 80 ≤ length exc → ends (take 80 (drop start (by 80))) ≡ 0 → clipped w delay start exc ≡ 0
  unfolding clipped
  none_predicted h e = none_clipped (predicted w delay start) (predicted_sum w delay start) predicted_sum_lem start exc 80 h e
