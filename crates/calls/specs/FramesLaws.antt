-- What holds of frames in one call as it does of their single calls: the state is that of a sequence of calls, two calls are one call over the frames of both, and
-- the marks follow from the mark that the first came with and from the numbers.
use Prim.Native.Nat.{ℕ, zero, suc, ◌+◌, ◌*◌}
use Rattle.std.specs.Prelude.{◌≡◌, ℤ, take}
use Rattle.std.proofs.Math.Path.{refl, sym, ap}
use Rattle.std.proofs.Common.{◌∙◌}
use mathlib.Core.List.{List, [], ◌∷◌, ◌++◌, append_assoc}
use native.Mathlib.Omega.{arith}
use Rattle.std.proofs.Math.ListN.{length, drop}
use Rattle.std.proofs.Math.Seq.{drop-drop}
use Rattle.state.specs.declared.State.{State}
use Rattle.state.specs.State.{missed_frame}
use Rattle.calls.specs.Celp as Celp
use Rattle.calls.specs.Celp.{refusal, raised, accepted, refused, next, answer, decode}
use Rattle.calls.specs.Run.{Event, missed, step, run}
use Rattle.calls.specs.Frames.{frames_refusal, frames, heards, numbers, samples, returned, decode_frames}

-- the calls that it stands for: its frames', or where it is refused a missed frame
unfoldable pub events : ℕ → List ℕ → List Event
events zero payloads = heards (frames payloads)
events (suc n) payloads = missed ∷ []

-- the mark that each frame is answered with: where it is accepted, the mark that it came with
unfoldable pub marks : ℕ → List ℕ → List ℕ
marks m [] = []
marks m (zero ∷ ns) = m ∷ marks (raised m) ns
marks m (suc n ∷ ns) = 0 ∷ marks 0 ns

-- from a cold start, with the fourth frame refused
cold_marks : marks 0 (0 ∷ 0 ∷ 0 ∷ 6 ∷ 0 ∷ 0 ∷ 0 ∷ []) ≡ 0 ∷ 1 ∷ 2 ∷ 0 ∷ 0 ∷ 1 ∷ 2 ∷ []
unfolding marks raised
cold_marks = refl

module _ (words : List ℤ) (bytes : List ℕ) where
  -- so all that is proved of sequences of calls (Mark, StateRule, Receiver) is proved of sequences with this call in them
  pub frames_run : (s : State) (payloads : List ℕ) (room answers : ℕ) → (decode_frames words bytes s payloads room answers).state ≡ run words bytes s (events (frames_refusal words bytes s payloads room answers) payloads)
  unfolding decode_frames returned events run step missed_frame
  frames_run s payloads room answers = by (frames_refusal words bytes s payloads room answers)
    where
      by : (n : ℕ) → (returned words bytes n s payloads).state ≡ run words bytes s (events n payloads)
      by zero = refl
      by (suc n) = refl

  -- frames that are cut into two calls
  pub numbers_after : (s : State) (fs gs : List (List ℕ)) → numbers words bytes s (fs ++ gs) ≡ numbers words bytes s fs ++ numbers words bytes (run words bytes s (heards fs)) gs
  unfolding numbers run step
  numbers_after s [] gs = refl
  numbers_after s (f ∷ fs) gs = ap (λ (l : List ℕ). (decode words bytes s f 320).number ∷ l) (numbers_after (decode words bytes s f 320).state fs gs)

  pub samples_after : (s : State) (fs gs : List (List ℕ)) (old : List ℤ)
      → samples words bytes s (fs ++ gs) old ≡ samples words bytes s fs old ++ samples words bytes (run words bytes s (heards fs)) gs (drop (320 * length fs) old)
  unfolding samples run step
  samples_after s [] gs old = refl
  samples_after s (f ∷ fs) gs old =
      let own = Celp.samples words bytes s f (take 320 old) in
      let t = (decode words bytes s f 320).state in
      let n : 320 + 320 * length fs ≡ 320 * length (f ∷ fs) = omega arith in
      let d = drop-drop (320 * length fs) 320 old ∙ ap (λ (m : ℕ). drop m old) n in
      ap (λ (l : List ℤ). own ++ l) (samples_after t fs gs (drop 320 old))
      ∙ (ap (λ (l : List ℤ). own ++ (samples words bytes t fs (drop 320 old) ++ samples words bytes (run words bytes t (heards fs)) gs l)) d
      ∙ sym (append_assoc own (samples words bytes t fs (drop 320 old)) (samples words bytes (run words bytes t (heards fs)) gs (drop (320 * length (f ∷ fs)) old))))

  -- the marks of the single calls
  unfoldable pub answered_marks : State → List (List ℕ) → List ℕ
  answered_marks s [] = []
  answered_marks s (f ∷ fs) = (decode words bytes s f 320).mark ∷ answered_marks (decode words bytes s f 320).state fs

  pub marks_follow : (s : State) (fs : List (List ℕ)) → answered_marks s fs ≡ marks s.mark (numbers words bytes s fs)
  unfolding answered_marks marks numbers decode answer accepted refused next
  marks_follow s [] = refl
  marks_follow s (f ∷ fs) = by (refusal words bytes s f 320) (marks_follow (decode words bytes s f 320).state fs)
    where
      by : (n : ℕ) → answered_marks (answer n words bytes s f).state fs ≡ marks (answer n words bytes s f).state.mark (numbers words bytes (answer n words bytes s f).state fs)
          → (answer n words bytes s f).mark ∷ answered_marks (answer n words bytes s f).state fs ≡ marks s.mark ((answer n words bytes s f).number ∷ numbers words bytes (answer n words bytes s f).state fs)
      by zero e = ap (λ (l : List ℕ). s.mark ∷ l) e
      by (suc n) e = ap (λ (l : List ℕ). 0 ∷ l) e
