-- Why the number says it: two decoders that mix the same innovations by the same gains. At 2 they have the same 154 samples behind them, and prediction reaches no further back.
-- With a pitch gain of 0 a mixed sample is innovation and code gain alone; two such subframes are 160 samples.
use Prim.Native.Nat.{ℕ, zero, suc, ◌+◌, ◌-◌, ◌*◌, ◌≤◌, ◌<◌}
use Rattle.std.specs.Prelude.{◌≡◌, Bool, cond, List, eqb, pos, negsuc, length, take, drop, set}
use Rattle.std.proofs.Math.Path.{refl, sym, ap}
use Rattle.std.proofs.Common.{◌∙◌, arith, length-drop, get_or-set_same, get_or-set_other, get_or-take, get_or-drop, length-take-le, ext_get_or}
use Rattle.std.proofs.Math.Bool.{true, false}
use borrow.Author.Tests.{ltb-true, ltb-false, eqb-true, eqb-false}
use Rattle.std.proofs.Math.Dec.{ltb}
use Rattle.std.proofs.Math.IntN.{ℤ, nat_abs}
use Rattle.std.proofs.Math.ListN.{get_or}
use Rattle.sequence.specs.Total.{total, total_same}
use Rattle.sequence.specs.Rewritten.{rewritten, length_rewritten, take_rewritten}
use Rattle.fixed.specs.Fixed.{fold, sat, hi, mul}
use Rattle.pitch.specs.declared.Lag.{Lag}
use Rattle.pitch.specs.Pitch as Pitch
use Rattle.pitch.specs.Lags.{sane_delay}
use Rattle.pitch.specs.Kept.{length_predict}
use Rattle.half.specs.Core as Spec
use Rattle.sure.specs.Sure.{surer}

-- x and y have the same samples from place lo on, up to hi
abbrev pub Same : ℕ → ℕ → List ℤ → List ℤ → Type 0
Same lo hi x y = (k : ℕ) → lo ≤ k → k < hi → get_or x k (pos 0) ≡ get_or y k (pos 0)

-- what the number says of two excitations before a place
pub record Agreed (w at : ℕ) (x y : List ℤ) : Type 0 where
  pub one : 1 ≤ w → Same (at - 80) at x y
  pub two : 2 ≤ w → Same (at - 154) at x y

-- ---- stores one after the other, from a place on
module _ (g : ℕ → List ℤ → ℤ) (lo start : ℕ) (x y : List ℤ) where
  -- one more store
  stored : (N hi : ℕ) (u v : List ℤ) (a b : ℤ) → start + N < length u → start + N < length v → a ≡ b
      → ((k : ℕ) → lo ≤ k → k < hi → (k ≡ start + N → ⊥) → get_or u k (pos 0) ≡ get_or v k (pos 0))
      → Same lo hi (set u (start + N) a) (set v (start + N) b)
  stored N hi u v a b p q e s k l h = by (eqb k (start + N)) refl
    where
      by : (t : Bool) → eqb k (start + N) ≡ t → get_or (set u (start + N) a) k (pos 0) ≡ get_or (set v (start + N) b) k (pos 0)
      by true z =
          let i : k ≡ start + N = eqb-true k (start + N) z in
          rw i (get_or-set_same u (start + N) a (pos 0) p ∙ e ∙ sym (get_or-set_same v (start + N) b (pos 0) q))
      by false z =
          let n : k ≡ start + N → ⊥ = eqb-false k (start + N) z in
          get_or-set_other u (start + N) k a (pos 0) n ∙ s k l h n ∙ sym (get_or-set_other v (start + N) k b (pos 0) n)

  -- that read only what stands before them, from lo on
  grown : ((n : ℕ) (u v : List ℤ) → Same lo (start + n) u v → g n u ≡ g n v) → (N : ℕ) → start + N ≤ length x → start + N ≤ length y → Same lo start x y
      → Same lo (start + N) (rewritten g start x N) (rewritten g start y N)
  unfolding rewritten
  grown reads zero a b s = λ k l h. s k l (omega arith)
  grown reads (suc N) a b s =
      let u = rewritten g start x N in
      let v = rewritten g start y N in
      let r : Same lo (start + N) u v = grown reads N (omega arith) (omega arith) s in
      stored N (start + suc N) u v (g N u) (g N v) (omega (arith, length_rewritten g start x N)) (omega (arith, length_rewritten g start y N)) (reads N u v r) (λ k l h n. r k l (omega (arith, n)))

  -- that read what stands before place m, within which they are
  held : (m : ℕ) → ((n : ℕ) (u v : List ℤ) → start + n < m → Same lo m u v → g n u ≡ g n v) → (N : ℕ) → start + N ≤ m → m ≤ length x → m ≤ length y → Same lo m x y
      → Same lo m (rewritten g start x N) (rewritten g start y N)
  unfolding rewritten
  held m reads zero h a b s = s
  held m reads (suc N) h a b s =
      let u = rewritten g start x N in
      let v = rewritten g start y N in
      let r : Same lo m u v = held m reads N (omega arith) a b s in
      stored N m u v (g N u) (g N v) (omega (arith, length_rewritten g start x N)) (omega (arith, length_rewritten g start y N)) (reads N u v (omega arith) r) (λ k l i n. r k l i)

-- what stands before them stays
before_rewritten : (g : ℕ → List ℤ → ℤ) (start N : ℕ) (x : List ℤ) (k : ℕ) → k < start → get_or (rewritten g start x N) k (pos 0) ≡ get_or x k (pos 0)
before_rewritten g start N x k h =
    sym (get_or-take start (rewritten g start x N) k (pos 0) h) ∙ ap (λ (l : List ℤ). get_or l k (pos 0)) (take_rewritten g start x N) ∙ get_or-take start x k (pos 0) h

-- ---- prediction reads 153 samples back, and none that is nearer than 10
module _ (taps : List ℤ) (l : Lag) (sane : Pitch.Sane l) (start n : ℕ) (far : 154 ≤ start) (x y : List ℤ) (s : Same (start - 154) (start + n) x y) where
  abbrev centre : ℕ
  centre = start + n - Pitch.delay l

  predicted_same : Pitch.predicted taps (Pitch.phase l) (Pitch.delay l) start n x ≡ Pitch.predicted taps (Pitch.phase l) (Pitch.delay l) start n y
  unfolding Pitch.predicted Pitch.interpolated_sample Pitch.before Pitch.after
  predicted_same =
      let d = sane_delay l sane in
      let tap = Pitch.phase l in
      let t : ℤ = total fold (pos 0) (Pitch.before taps tap y centre) 10 in
      let b : total fold (pos 0) (Pitch.before taps tap x centre) 10 ≡ t =
      total_same fold (pos 0) (Pitch.before taps tap x centre) (Pitch.before taps tap y centre) 10 (λ k g. ap (λ (z : ℤ). mul z (get_or taps (tap + 3 * k) (pos 0))) (s (centre - k) (omega arith) (omega arith))) in
      let a : total fold t (Pitch.after taps (3 - tap) x centre) 10 ≡ total fold t (Pitch.after taps (3 - tap) y centre) 10 =
      total_same fold t (Pitch.after taps (3 - tap) x centre) (Pitch.after taps (3 - tap) y centre) 10 (λ k g. ap (λ (z : ℤ). mul z (get_or taps (3 - tap + 3 * k) (pos 0))) (s (centre + 1 + k) (omega arith) (omega arith))) in
      ap (λ (z : ℤ). hi (sat (fold z (pos 32768)))) (ap (λ (z : ℤ). total fold z (Pitch.after taps (3 - tap) x centre) 10) b ∙ a)

-- ---- with a pitch gain of 0 a mixed sample does not see the predicted one
mul_none : (a : ℤ) → mul a (pos 0) ≡ pos 0
unfolding mul
mul_none (pos n) = let z : n * 0 * 2 ≡ 0 = omega arith in ap pos z
mul_none (negsuc n) = let z : suc n * 0 ≡ 0 = omega arith in rw z

unmixed : (g code_gain_of a b c : ℤ) → nat_abs g ≡ 0 → Spec.mixed g code_gain_of a c ≡ Spec.mixed g code_gain_of b c
unfolding Spec.mixed
unmixed (pos n) code_gain_of a b c z = rw (z, mul_none a, mul_none b)
unmixed (negsuc n) code_gain_of a b c z = absurd (omega arith)

-- ---- a subframe from place start on
pub length_excited : (words : List ℤ) (start : ℕ) (z : List ℤ) (l : Lag) (pitch_gain_of code_gain_of : ℤ) (innovation : List ℤ) → length (Spec.excited words z start l pitch_gain_of code_gain_of innovation) ≡ length z
unfolding Spec.excited Spec.mix
length_excited words start z l pitch_gain_of code_gain_of innovation = length_rewritten _ start _ 80 ∙ length_predict (Pitch.interp words) z start l

module _ (words : List ℤ) (start : ℕ) (x y : List ℤ) (far : 154 ≤ start) (p : start + 80 ≤ length x) (q : start + 80 ≤ length y) (l : Lag) (gain code_gain_of : ℤ) (innovation : List ℤ) where
  abbrev made : List ℤ → List ℤ
  made z = Spec.excited words z start l gain code_gain_of innovation

  abbrev taps : List ℤ
  taps = Pitch.interp words

  predicted_long : (z : List ℤ) → length (Pitch.predict taps z start l) ≡ length z
  predicted_long z = length_predict taps z start l

  -- what stands before it stays
  past : (z : List ℤ) (k : ℕ) → k < start → get_or (made z) k (pos 0) ≡ get_or z k (pos 0)
  unfolding Spec.excited Spec.mix Pitch.predict
  past z k h = before_rewritten _ start 80 _ k h ∙ before_rewritten _ start 80 z k h

  -- out of the same 154 samples comes the same
  reached : Pitch.Sane l → Same (start - 154) start x y → Same (start - 154) (start + 80) (made x) (made y)
  unfolding Spec.excited Spec.mix Pitch.predict
  reached sane s =
      held _ (start - 154) start _ _ (start + 80) (λ n u v h r. ap (λ (z : ℤ). Spec.mixed gain code_gain_of z (get_or innovation n (pos 0))) (r (start + n) (omega arith) h)) 80 (omega arith)
      (omega (arith, predicted_long x)) (omega (arith, predicted_long y))
      (grown (Pitch.predicted taps (Pitch.phase l) (Pitch.delay l) start) (start - 154) start x y (λ n u v r. predicted_same taps l sane start n far u v r) 80 p q s)

  -- with a gain of 0 out of any
  alone : nat_abs gain ≡ 0 → Same start (start + 80) (made x) (made y)
  unfolding Spec.excited Spec.mix
  alone z =
      grown (Spec.mixed_at gain code_gain_of innovation start) start start _ _ (λ n u v r. unmixed gain code_gain_of (get_or u (start + n) (pos 0)) (get_or v (start + n) (pos 0)) (get_or innovation n (pos 0)) z) 80
      (omega (arith, predicted_long x)) (omega (arith, predicted_long y)) (λ k a b. absurd (omega arith))

  -- so after it the number says the same of the place behind it
  pub subframe_again : (w : ℕ) → Pitch.Sane l → Agreed w start x y → Agreed (surer w gain) (start + 80) (made x) (made y)
  unfolding surer
  subframe_again w sane a = by (ltb w 2) (eqb (nat_abs gain) 0) refl refl
    where
      joined : 1 ≤ w → nat_abs gain ≡ 0 → (k : ℕ) → start - 80 ≤ k → k < start + 80 → (t : Bool) → ltb k start ≡ t → get_or (made x) k (pos 0) ≡ get_or (made y) k (pos 0)
      joined i z k lo hi true e = let h = ltb-true k start e in past x k h ∙ a.one i k lo h ∙ sym (past y k h)
      joined i z k lo hi false e = alone z k (ltb-false k start e) hi

      by : (t o : Bool) → ltb w 2 ≡ t → eqb (nat_abs gain) 0 ≡ o → Agreed (cond t (cond o (w + 1) 0) 2) (start + 80) (made x) (made y)
      by false o e f =
          let s = reached sane (a.two (ltb-false w 2 e)) in
          record { one = λ i k lo hi. s k (omega arith) hi; two = λ i k lo hi. s k (omega arith) hi }
      by true true e f =
          let z = eqb-true (nat_abs gain) 0 f in
          record { one = λ i k lo hi. alone z k (omega arith) hi; two = λ i k lo hi. joined (omega arith) z k (omega arith) hi (ltb k start) refl }
      by true false e f = record { one = λ i. absurd (omega arith); two = λ i. absurd (omega arith) }

-- ---- the 80 samples of a subframe, as a list
pub part_long : (at : ℕ) (x : List ℤ) → at + 80 ≤ length x → length (Spec.part x at) ≡ 80
unfolding Spec.part
part_long at x p = length-take-le 80 (drop at x) (omega (arith, length-drop at x))

pub part_same : (at : ℕ) (x y : List ℤ) → at + 80 ≤ length x → at + 80 ≤ length y → Same at (at + 80) x y → Spec.part x at ≡ Spec.part y at
unfolding Spec.part
part_same at x y p q s =
    let a : length (take 80 (drop at x)) ≡ 80 = part_long at x p in
    let b : length (take 80 (drop at y)) ≡ 80 = part_long at y q in
    ext_get_or (pos 0) (take 80 (drop at x)) (take 80 (drop at y)) (a ∙ sym b)
    (λ i h. get_or-take 80 (drop at x) i (pos 0) (omega arith) ∙ get_or-drop at x i (pos 0) ∙ s (at + i) (omega arith) (omega arith) ∙ sym (get_or-take 80 (drop at y) i (pos 0) (omega arith) ∙ get_or-drop at y i (pos 0)))
