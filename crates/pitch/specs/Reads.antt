-- How far the interpolation reads: ten samples back from its centre, the centre among them, and ten behind it. Two signals that agree that far give the same.
use Rattle.std.proofs.Common.{arith, sym, ◌∙◌, get_or-take}
use Rattle.std.specs.Prelude.{◌≡◌, List, ℕ, ◌+◌, ◌-◌, ◌*◌, ◌<◌, pos, get_or, take}
use Rattle.std.proofs.Math.Path.{ap}
use Rattle.std.proofs.Math.IntN.{ℤ}
use Rattle.sequence.specs.Total.{total, total_same}
use Rattle.fixed.specs.Fixed.{fold, mul}
use Rattle.pitch.specs.Pitch.{before, after, interpolated_sample}

-- x and y agree before place n
abbrev pub Agree : ℕ → List ℤ → List ℤ → Type 0
Agree n x y = take n x ≡ take n y

pub agree_at : (n k : ℕ) (x y : List ℤ) → Agree n x y → k < n → get_or x k (pos 0) ≡ get_or y k (pos 0)
agree_at n k x y e h = sym (get_or-take n x k (pos 0) h) ∙ ap (λ (l : List ℤ). get_or l k (pos 0)) e ∙ get_or-take n y k (pos 0) h

module _ (taps : List ℤ) (phase centre n : ℕ) (x y : List ℤ) (e : Agree n x y) (h : centre + 10 < n) where
  -- from whichever taps the two sides begin
  sums_same : (p q : ℕ) → total fold (total fold (pos 0) (before taps p x centre) 10) (after taps q x centre) 10 ≡ total fold (total fold (pos 0) (before taps p y centre) 10) (after taps q y centre) 10
  unfolding before after
  sums_same p q =
      let s : ℤ = total fold (pos 0) (before taps p y centre) 10 in
      let b : total fold (pos 0) (before taps p x centre) 10 ≡ s =
      total_same fold (pos 0) (before taps p x centre) (before taps p y centre) 10 (λ k g. ap (λ (z : ℤ). mul z (get_or taps (p + 3 * k) (pos 0))) (agree_at n (centre - k) x y e (omega arith))) in
      let a : total fold s (after taps q x centre) 10 ≡ total fold s (after taps q y centre) 10 =
      total_same fold s (after taps q x centre) (after taps q y centre) 10 (λ k g. ap (λ (z : ℤ). mul z (get_or taps (q + 3 * k) (pos 0))) (agree_at n (centre + 1 + k) x y e (omega arith))) in
      ap (λ (z : ℤ). total fold z (after taps q x centre) 10) b ∙ a

  pub interpolated_same : interpolated_sample taps phase x centre ≡ interpolated_sample taps phase y centre
  unfolding interpolated_sample
  interpolated_same = sums_same _ _
