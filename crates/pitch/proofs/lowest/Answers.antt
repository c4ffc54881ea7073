-- The lag integer before is a natural number of at least 19, so nothing here is negative.
use native.Mathlib.Omega.{arith}
use mathlib.Core.Bool.{Bool, true, false, cond}
use mathlib.Core.Path.{◌≡◌, refl, ◌∙◌, ap}
use Prim.Native.Nat.{ℕ, ◌+◌, ◌-◌, ◌≤◌, ◌<◌}
use lib.Dec.{ltb}
use lib.IntN.{ℤ, pos, nat_abs, ◌-ℤ◌}
use borrow.Author.Rules.{sfits_of}
use borrow.Author.Tests.{lt-ltb, le-ltb, ltb-true, ltb-false}
use mir.Syntax.{w16}
use mir.Val.{SFits, to_z, of_z}
use mir.ValLaws.{to_z-of_z}
use Rattle.std.specs.Int.{int_min, int_max}
use Rattle.fixed.specs.Integers.{sub_above}
use Rattle.fixed.specs.Machine.{sfits_abs}
use Rattle.pitch.specs.Pitch as Pitch
use Rattle.pitch.proofs.lowest.Goals as goal
use Rattle.pitch.proofs.lowest.Goals.{Start}

-- what is brought to 20..=134 is brought to at least 20, and to 134 where 9 more would pass 143
clamped : (n : ℕ) → int_max (pos 20) (int_min (pos n) (pos 134)) ≡ pos (cond (ltb 143 (cond (ltb n 20) 20 n + 9)) 134 (cond (ltb n 20) 20 n))
clamped n = low (ltb n 20) (ltb-true n 20) (ltb-false n 20)
  where
    high : 20 ≤ n → (t : Bool) → (t ≡ true → 134 < n) → (t ≡ false → n ≤ 134) → int_max (pos 20) (int_min (pos n) (pos 134)) ≡ pos (cond (ltb 143 (n + 9)) 134 n)
    high h true y z = rw (lt-ltb 134 n (y refl), lt-ltb 143 (n + 9) (let l = y refl in omega arith))
    high h false y z = rw (le-ltb 134 n (z refl), le-ltb 143 (n + 9) (let l = z refl in omega arith), le-ltb n 20 h)

    low : (t : Bool) → (t ≡ true → n < 20) → (t ≡ false → 20 ≤ n) → int_max (pos 20) (int_min (pos n) (pos 134)) ≡ pos (cond (ltb 143 (cond t 20 n + 9)) 134 (cond t 20 n))
    low true y z = let l = y refl in rw (le-ltb 134 n (omega arith), lt-ltb n 20 l)
    low false y z = high (z refl) (ltb 134 n) (ltb-true 134 n) (ltb-false 134 n)

module _ (s : goal.Start) where
  abbrev p : ℕ
  p = nat_abs s.args.prev

  m_is : to_z w16 (of_z w16 s.args.prev) -ℤ pos 5 ≡ pos (p - 5)
  m_is = ap (λ (z : ℤ). z -ℤ pos 5) (to_z-of_z w16 s.args.prev s.ranges.prev ∙ s.requires.is) ∙ sub_above p 5 (omega arith)

  m_fits : SFits w16 (pos (p - 5))
  m_fits = sfits_abs w16 _ (omega arith)

  m_back : to_z w16 (of_z w16 (to_z w16 (of_z w16 s.args.prev) -ℤ pos 5)) ≡ pos (p - 5)
  m_back = rw m_is (to_z-of_z w16 _ m_fits)

pub overflow_sub-prev : goal.overflow_sub-prev
overflow_sub-prev c = rw (m_is c) (m_fits c)

pub returns : goal.returns
unfolding Pitch.lowest
returns c = to_z-of_z w16 _ (sfits_of c.clamp.type_inv) ∙ c.clamp.ensures.value ∙ rw (m_back c.before) (clamped (p c.before - 5))
