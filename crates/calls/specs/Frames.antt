-- 1 to 64 frames in one call: their single calls, one after the other.
use Prim.Native.Nat.{ℕ, zero, suc, ◌*◌, ◌/◌}
use Rattle.std.specs.Prelude.{◌≡◌, List, [], ◌∷◌, ◌++◌, map, Bool, true, false, not, cond, ◌&&◌, eqb, leb, ℤ, length, take, drop}
use Rattle.std.proofs.Math.Path.{refl}
use Rattle.std.proofs.Common.{arith, eqb-true}
use Rattle.std.proofs.lemmas.Bool.{not-false}
use Rattle.sequence.specs.All.{and_left, and_right}
use Rattle.state.specs.declared.State.{State}
use Rattle.state.specs.declared.Returned.{Returned}
use Rattle.state.specs.State.{fallen, fault}
use Rattle.calls.specs.Celp as Celp
use Rattle.calls.specs.Celp.{decode}
use Rattle.calls.specs.Run.{Event, heard, run}
use Rattle.calls.specs.Accepted.{passed}
use Rattle.calls.specs.Checks.{checked}

-- ---- refusals: 1, then 3, 2, 4 and 5
-- payloads, samples and numbers that are not those of 1 to 64 frames; 3 is tried before 2
unfoldable pub frames_sizes : ℕ → ℕ → ℕ → ℕ
frames_sizes payloads room answers =
    cond (not (eqb payloads (20 * (payloads / 20)) && (leb 1 (payloads / 20) && leb (payloads / 20) 64))) 3
    (cond (not (eqb room (320 * (payloads / 20)) && eqb answers (payloads / 20))) 2 0)

unfoldable pub frames_refusal : List ℤ → List ℕ → State → List ℕ → ℕ → ℕ → ℕ
frames_refusal words bytes s payloads room answers = checked words bytes s (frames_sizes (length payloads) room answers)

-- one frame and 64, none and 65, a byte too few and too many; each with samples and numbers of its size, and a sample or a number too few
sizes_tried :
    (frames_sizes 20 320 1 ≡ 0) × (frames_sizes 1280 20480 64 ≡ 0)
    × (frames_sizes 0 0 0 ≡ 3) × (frames_sizes 1300 20800 65 ≡ 3) × (frames_sizes 19 0 0 ≡ 3) × (frames_sizes 1281 20480 64 ≡ 3)
    × (frames_sizes 20 319 1 ≡ 2) × (frames_sizes 20 320 0 ≡ 2) × (frames_sizes 19 319 0 ≡ 3)
unfolding frames_sizes
sizes_tried = (refl, refl, refl, refl, refl, refl, refl, refl, refl)

-- what right sizes are: those of as many frames as there is room for numbers
pub frames_right : (payloads room answers : ℕ) → frames_sizes payloads room answers ≡ 0 → (payloads ≡ 20 * answers) × (room ≡ 320 * answers)
unfolding frames_sizes
frames_right payloads room answers e =
    let n = payloads / 20 in
    let p = eqb payloads (20 * n) in
    let c = leb 1 n && leb n 64 in
    let r = eqb room (320 * n) in
    let t = eqb answers n in
    let a = passed (not (p && c)) 2 _ e in
    let b = passed (not (r && t)) 1 _ a.1 in
    let g = eqb-true payloads (20 * n) (and_left p c (not-false (p && c) a.0)) in
    let h = eqb-true room (320 * n) (and_left r t (not-false (r && t) b.0)) in
    let i = eqb-true answers n (and_right r t (not-false (r && t) b.0)) in
    (rw i g, rw i h)

-- 4 is none of their numbers
pub frames_not_four : (payloads room answers : ℕ) → frames_sizes payloads room answers ≡ 4 → ⊥
unfolding frames_sizes
frames_not_four payloads room answers e =
    by (not (eqb payloads (20 * (payloads / 20)) && (leb 1 (payloads / 20) && leb (payloads / 20) 64))) (not (eqb room (320 * (payloads / 20)) && eqb answers (payloads / 20))) e
  where
    by : (a b : Bool) → ◌≡◌ {A = ℕ} (cond a 3 (cond b 2 0)) 4 → ⊥
    by true b e = omega arith
    by false true e = omega arith
    by false false e = omega arith

-- ---- the frames of a list of payloads laid end to end, and the single calls that they are handed to
unfoldable pub cut : ℕ → List ℕ → List (List ℕ)
cut zero payloads = []
cut (suc n) payloads = take 20 payloads ∷ cut n (drop 20 payloads)

unfoldable pub frames : List ℕ → List (List ℕ)
frames payloads = cut (length payloads / 20) payloads

abbrev pub heards : List (List ℕ) → List Event
heards fs = map (λ (f : List ℕ). heard f 320) fs

module _ (words : List ℤ) (bytes : List ℕ) where
  -- each call's number
  unfoldable pub numbers : State → List (List ℕ) → List ℕ
  numbers s [] = []
  numbers s (f ∷ fs) = (decode words bytes s f 320).number ∷ numbers (decode words bytes s f 320).state fs

  -- the samples, 320 for each, as its call leaves them
  unfoldable pub samples : State → List (List ℕ) → List ℤ → List ℤ
  samples s [] old = []
  samples s (f ∷ fs) old = Celp.samples words bytes s f (take 320 old) ++ samples (decode words bytes s f 320).state fs (drop 320 old)

  -- ---- the call: what it returns, and the two rooms, which a refusal leaves as they were
  unfoldable pub returned : ℕ → State → List ℕ → Returned
  returned zero s payloads = record { number = 0; rule = 0; place = 0; state = run words bytes s (heards (frames payloads)) }
  returned (suc n) s payloads = record { number = suc n; rule = (fault (suc n) words bytes).rule; place = (fault (suc n) words bytes).place; state = fallen s }

  unfoldable pub decode_frames : State → List ℕ → ℕ → ℕ → Returned
  decode_frames s payloads room answers = returned (frames_refusal words bytes s payloads room answers) s payloads

  unfoldable pub samples_by : ℕ → State → List ℕ → List ℤ → List ℤ
  samples_by zero s payloads old = samples s (frames payloads) old
  samples_by (suc n) s payloads old = old

  unfoldable pub frames_samples : State → List ℕ → List ℤ → ℕ → List ℤ
  frames_samples s payloads old answers = samples_by (frames_refusal words bytes s payloads (length old) answers) s payloads old

  unfoldable pub numbers_by : ℕ → State → List ℕ → List ℕ → List ℕ
  numbers_by zero s payloads old = numbers s (frames payloads)
  numbers_by (suc n) s payloads old = old

  unfoldable pub frames_numbers : State → List ℕ → ℕ → List ℕ → List ℕ
  frames_numbers s payloads room old = numbers_by (frames_refusal words bytes s payloads room (length old)) s payloads old

-- ---- the two ways that the call goes
module _ (words : List ℤ) (bytes : List ℕ) (s : State) (payloads : List ℕ) (old : List ℤ) (told : List ℕ) where
  pub frames_refused : (n : ℕ) → n ≡ frames_refusal words bytes s payloads (length old) (length told) → (n ≡ 0 → ⊥)
      → (record { number = n; rule = (fault n words bytes).rule; place = (fault n words bytes).place; state = fallen s } ≡ decode_frames words bytes s payloads (length old) (length told))
      × (old ≡ frames_samples words bytes s payloads old (length told)) × (told ≡ frames_numbers words bytes s payloads (length old) told)
  unfolding decode_frames returned frames_samples samples_by frames_numbers numbers_by
  frames_refused zero e h = absurd (h refl)
  frames_refused (suc n) e h = rw (← e) (refl, refl, refl)

  pub frames_accepted : frames_refusal words bytes s payloads (length old) (length told) ≡ 0
      → (record { number = 0; rule = 0; place = 0; state = run words bytes s (heards (frames payloads)) } ≡ decode_frames words bytes s payloads (length old) (length told))
      × (samples words bytes s (frames payloads) old ≡ frames_samples words bytes s payloads old (length told)) × (numbers words bytes s (frames payloads) ≡ frames_numbers words bytes s payloads (length old) told)
  unfolding decode_frames returned frames_samples samples_by frames_numbers numbers_by
  frames_accepted e = rw e (refl, refl, refl)
