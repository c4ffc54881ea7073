-- T-14: whether a subframe's excitation is the sender's. A number says how much of the excitation is: 2 for all that a prediction can reach, 1 for the last
-- subframe, 0 for nothing that is known.
use Rattle.std.specs.Prelude.{ℕ, ◌+◌, ◌≤◌, ◌≡◌, refl, Bool, true, false, cond, List, [], ◌∷◌, eqb, ltb, ℤ, pos, nat_abs, get_or, replicate}
use Rattle.std.proofs.Common.{arith, ltb-true}
use Rattle.sure.specs.declared.Sure.{Sure}

-- the number after a subframe, by the one before it and its pitch gain: at 2 it stays; a gain of 0 raises it by 1; any other takes it back to 0
unfoldable pub surer : ℕ → ℤ → ℕ
surer w g = cond (ltb w 2) (cond (eqb (nat_abs g) 0) (w + 1) 0) 2

-- of two gains of 0 the second makes it 2, whatever comes after; one of them alone does not last
worked : (surer 0 (pos 0) ≡ 1) × (surer 1 (pos 0) ≡ 2) × (surer 1 (pos 1) ≡ 0) × (surer 2 (pos 1) ≡ 2)
unfolding surer
worked = (refl, refl, refl, refl)

-- it holds at 2
unfoldable pub holds : ℕ → ℕ
holds w = cond (ltb w 2) 0 1

-- four subframes with these pitch gains: what they leave, and whether it holds at each of them
unfoldable pub through : ℕ → List ℤ → Sure
through w gains =
    let a : ℕ = surer w (get_or gains 0 (pos 0)) in
    let b : ℕ = surer a (get_or gains 1 (pos 0)) in
    let c : ℕ = surer b (get_or gains 2 (pos 0)) in
    let d : ℕ = surer c (get_or gains 3 (pos 0)) in
    record { left = d; subframes = holds a ∷ holds b ∷ holds c ∷ holds d ∷ [] }

-- a frame that came with this mark: with one below 2 it holds nowhere, and nothing is left
unfoldable pub after : ℕ → ℕ → List ℤ → Sure
after mark w gains = cond (ltb mark 2) (record { left = 0; subframes = replicate 4 0 }) (through w gains)

-- the second gain of 0 in a row is the third subframe's
third : after 2 0 (pos 0 ∷ pos 5 ∷ pos 0 ∷ pos 0 ∷ []) ≡ record { left = 2; subframes = 0 ∷ 0 ∷ 0 ∷ 1 ∷ [] }
unfolding after through surer holds
third = refl

-- ---- what is left is at most 2
surer_le : (w : ℕ) (g : ℤ) → surer w g ≤ 2
unfolding surer
surer_le w g = by (ltb w 2) refl (eqb (nat_abs g) 0)
  where
    by : (t : Bool) → ltb w 2 ≡ t → (o : Bool) → cond t (cond o (w + 1) 0) 2 ≤ 2
    by true e true = let l = ltb-true w 2 e in omega arith
    by true e false = omega arith
    by false e o = omega arith

pub left_le : (mark w : ℕ) (gains : List ℤ) → (after mark w gains).left ≤ 2
unfolding after through
left_le mark w gains = by (ltb mark 2)
  where
    by : (t : Bool) → (cond t (record { left = 0; subframes = replicate 4 0 }) (through w gains)).left ≤ 2
    by true = omega arith
    by false = surer_le _ (get_or gains 3 (pos 0))
