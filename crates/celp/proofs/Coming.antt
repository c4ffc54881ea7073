-- Frames one after the other: what is still to come of them, from the state that is reached, decides what comes of all.
use Prim.Native.Nat.{ℕ, suc, ◌+◌, ◌-◌, ◌*◌, ◌/◌, ◌<◌, ◌≤◌}
use mathlib.Core.Path.{◌≡◌, sym, ap, ◌∙◌}
use mathlib.Core.List.{List, ◌∷◌, ◌++◌, append_assoc, append-nil}
use native.Mathlib.Numerals.{add-one}
use native.Mathlib.Omega.{arith}
use borrow.Rule.Slice.PartMut.{mid_of, put_mid, same_len_mid, mid_len, drop_put}
use lib.IntN.{ℤ}
use lib.ListN.{length, take, drop, set, length-set, length-append}
use lib.Seq.{take-suc-set, take_all, take_at, drop-drop, length-take-le}
use Rattle.spectral.specs.Kept.{Words16}
use Rattle.state.specs.declared.State.{State}
use Rattle.calls.specs.declared.Answer.{Answer}
use Rattle.calls.specs.Celp as Celp
use Rattle.calls.specs.Celp.{decode}
use Rattle.calls.specs.Run.{step, run}
use Rattle.calls.specs.StateRule.{Obeying}
use Rattle.calls.proofs.StateRule.{decode_obeying}
use Rattle.calls.specs.Frames.{cut, frames, heards, numbers, samples}

-- the frames from the k-th of n on
abbrev pub rest : ℕ → ℕ → List ℕ → List (List ℕ)
rest n k ps = cut (n - k) (drop (20 * k) ps)

-- the k-th, as the loop cuts it out
abbrev pub at : ℕ → List ℕ → List ℕ
at k ps = mid_of (20 * k) (20 * k + 20 - 20 * k) ps

rest_more : (n k : ℕ) (ps : List ℕ) → k < n → rest n k ps ≡ at k ps ∷ rest n (k + 1) ps
unfolding cut
rest_more n k ps h =
    let d : n - k ≡ suc (n - (k + 1)) = omega arith in
    let e : 20 * k + 20 - 20 * k ≡ 20 = omega arith in
    let f : 20 * k + 20 ≡ 20 * (k + 1) = omega arith in
    rw (d, e) (ap (λ (l : List ℕ). take 20 (drop (20 * k) ps) ∷ cut (n - (k + 1)) l) (drop-drop 20 (20 * k) ps ∙ ap (λ (m : ℕ). drop m ps) f))

module _ (words : List ℤ) (bytes : List ℕ) (s₀ : State) (ps : List ℕ) (xs₀ : List ℤ) (n : ℕ) where
  pub record Coming (s : State) (xs : List ℤ) (ns : List ℕ) (k : ℕ) : Type 0 where
    pub within : k ≤ n
    pub samples_long : length xs ≡ 320 * n
    pub numbers_long : length ns ≡ n
    pub obeying : Obeying s
    pub of_state : run words bytes s₀ (heards (cut n ps)) ≡ run words bytes s (heards (rest n k ps))
    pub of_samples : samples words bytes s₀ (cut n ps) xs₀ ≡ take (320 * k) xs ++ samples words bytes s (rest n k ps) (drop (320 * k) xs)
    pub of_numbers_lem : numbers words bytes s₀ (cut n ps) ≡ take k ns ++ numbers words bytes s (rest n k ps)

  -- where the loop begins
  pub coming_all : (ns : List ℕ) → length xs₀ ≡ 320 * n → length ns ≡ n → Obeying s₀ → Coming s₀ xs₀ ns 0
  coming_all ns x m o =
      let e : n - 0 ≡ n = omega arith in
      record { within = omega arith; samples_long = x; numbers_long = m; obeying = o; of_state = rw e; of_samples = rw e; of_numbers_lem = rw e }

  -- a turn of the loop
  pub coming_less : Words16 words → (s : State) (xs : List ℤ) (ns : List ℕ) (k : ℕ) → Coming s xs ns k → k < n → (a : Answer) (ys : List ℤ)
      → a ≡ decode words bytes s (at k ps) 320 → ys ≡ Celp.samples words bytes s (at k ps) (mid_of (320 * k) (320 * k + 320 - 320 * k) xs)
      → length ys ≡ length (mid_of (320 * k) (320 * k + 320 - 320 * k) xs)
      → Coming a.state (put_mid (320 * k) (320 * k + 320 - 320 * k) xs ys) (set ns k a.number) (k + 1)
  unfolding run step samples numbers
  coming_less w s xs ns k c h a ys e f l =
      let r = rest_more n k ps h in
      let x = c.samples_long in
      let m = c.numbers_long in
      let j : 320 * k + 320 - 320 * k ≡ 320 = omega arith in
      let i : 320 * (k + 1) ≡ 320 * k + 320 = omega arith in
      let y : length ys ≡ 320 * k + 320 - 320 * k = l ∙ mid_len (320 * k) (320 * k + 320) xs (omega arith) in
      let zs = put_mid (320 * k) (320 * k + 320 - 320 * k) xs ys in
      let t : length (take (320 * k) xs) ≡ 320 * k = length-take-le (320 * k) xs (omega arith) in
      let u : length (take (320 * k) xs ++ ys) ≡ 320 * k + 320 = length-append (take (320 * k) xs) ys ∙ omega arith in
      let tail = drop (320 * k + 320 - 320 * k) (drop (320 * k) xs) in
      let front : take (320 * (k + 1)) zs ≡ take (320 * k) xs ++ ys =
      ap (λ (m : ℕ). take m zs) i ∙ ap (take (320 * k + 320)) (sym (append_assoc (take (320 * k) xs) ys tail)) ∙ take_at (take (320 * k) xs ++ ys) tail (320 * k + 320) u in
      let back : drop (320 * (k + 1)) zs ≡ drop 320 (drop (320 * k) xs) =
      ap (λ (m : ℕ). drop m zs) i ∙ drop_put (320 * k) (320 * k + 320) xs ys (omega arith) (omega arith) y ∙ sym (drop-drop 320 (320 * k) xs) in
      record {
        within = omega arith;
        samples_long = same_len_mid (320 * k) (320 * k + 320 - 320 * k) xs ys l ∙ x;
        numbers_long = length-set ns k a.number ∙ m;
        obeying = rw e (decode_obeying words bytes w s (at k ps) 320 c.obeying);
        of_state = c.of_state ∙ rw (r, e);
        of_samples = c.of_samples ∙ rw (r, front, back, e, f, j) (sym (append_assoc (take (320 * k) xs) _ _));
        of_numbers_lem = c.of_numbers_lem ∙ rw (r, add-one k, take-suc-set ns k a.number (omega arith), e) (sym (append_assoc (take k ns) _ _));
      }

  -- where it ends
  pub coming_none : (s : State) (xs : List ℤ) (ns : List ℕ) (k : ℕ) → length ps ≡ 20 * n → Coming s xs ns k → n ≤ k
      → (s ≡ run words bytes s₀ (heards (frames ps))) × (xs ≡ samples words bytes s₀ (frames ps) xs₀) × (ns ≡ numbers words bytes s₀ (frames ps))
  unfolding frames cut run samples numbers
  coming_none s xs ns k p c h =
      let d : n - k ≡ 0 = omega arith in
      let q : length ps / 20 ≡ n = omega arith in
      let w = c.within in
      let x = c.samples_long in
      let m = c.numbers_long in
      rw q (
        sym (c.of_state ∙ rw d),
        sym (c.of_samples ∙ rw d (append-nil (take (320 * k) xs)) ∙ take_all (320 * k) xs (omega arith)),
        sym (c.of_numbers_lem ∙ rw d (append-nil (take k ns)) ∙ take_all k ns (omega arith)),
      )
