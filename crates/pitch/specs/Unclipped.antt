-- A block of a list that a loop rewrites by saturated sums: where no sample of it is at an end of 16 bits, saturation changed none.
use Rattle.std.proofs.Common.{arith, eq-or-lt_of_le, sym, ◌∙◌, length-take, length-drop, get_or-take, get_or-drop}
use Rattle.std.specs.Prelude.{true, ◌≡◌, pos, length, take, drop, set}
use Rattle.std.proofs.Math.Logic.{⊎_elim}
use Rattle.std.proofs.Math.Path.{ap}
use mathlib.Core.List.{List}
use Prim.Native.Nat.{ℕ, zero, suc, ◌+◌, ◌≤◌, ◌<◌}
use Rattle.std.proofs.Math.IntN.{ℤ}
use Rattle.std.proofs.Math.ListN.{get_or}
use Rattle.std.proofs.Math.Seq.{get_or-set_same, get_or-set_other}
use Rattle.sequence.specs.Count.{count}
use Rattle.sequence.specs.Rewritten.{rewritten, length_rewritten}
use Rattle.fixed.specs.Fixed.{sat, clips, hi}
use Rattle.fixed.specs.Clips.{at_end, ends, changed_at_end, no_end, count_nowhere}

module _ (g sum : ℕ → List ℤ → ℤ) (is : (k : ℕ) (x : List ℤ) → g k x ≡ hi (sat (sum k x))) (start : ℕ) (l : List ℤ) where
  -- sample k as the k-th store put it
  stored : (n k : ℕ) → k < n → start + n ≤ length l → get_or (rewritten g start l n) (start + k) (pos 0) ≡ g k (rewritten g start l k)
  unfolding rewritten
  stored zero k h p = absurd (omega arith)
  stored (suc n) k h p =
      let x : List ℤ = rewritten g start l n in
      ⊎_elim
      (λ (d : k ≡ n). ap (λ (i : ℕ). get_or (set x (start + n) (g n x)) (start + i) (pos 0)) d ∙ get_or-set_same x (start + n) (g n x) (pos 0) (omega (arith, length_rewritten g start l n)) ∙ ap (λ (i : ℕ). g i (rewritten g start l i)) (sym d))
      (λ (d : k < n). get_or-set_other x (start + n) (start + k) (g n x) (pos 0) (λ e. omega arith) ∙ stored n k d (omega arith))
      (eq-or-lt_of_le (omega arith))

  pub none_clipped : (n : ℕ) → start + n ≤ length l → ends (take n (drop start (rewritten g start l n))) ≡ 0 → count (λ (k : ℕ). clips (sum k (rewritten g start l k))) n ≡ 0
  none_clipped n p e = count_nowhere _ n nowhere
    where
      block : List ℤ
      block = take n (drop start (rewritten g start l n))

      sized : length block ≡ n
      sized = simp (length-take, length-drop, length_rewritten) (omega arith)

      nowhere : (k : ℕ) → k < n → clips (sum k (rewritten g start l k)) ≡ true → ⊥
      nowhere k h t =
          let at : get_or block k (pos 0) ≡ hi (sat (sum k (rewritten g start l k))) =
          get_or-take n (drop start (rewritten g start l n)) k (pos 0) h ∙ get_or-drop start (rewritten g start l n) k (pos 0) ∙ stored n k h p ∙ is k (rewritten g start l k) in
          no_end block e k (omega (arith, sized)) (ap at_end at ∙ changed_at_end (sum k (rewritten g start l k)) t)
