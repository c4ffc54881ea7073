-- What a receiver may rely on, proved: at each place its state is as near to the sender's as its mark says.
use Prim.Native.Nat.{ℕ, zero, suc, ◌≤◌}
use Rattle.std.specs.Prelude.{◌≡◌, List, [], ◌∷◌, ◌++◌, true, leb, ℤ}
use Rattle.std.proofs.Math.Path.{refl}
use Rattle.std.proofs.Common.{◌∙◌}
use native.Mathlib.Omega.{arith}
use Rattle.tables.specs.Tables.{check}
use Rattle.bits.specs.Bits.{fields_of}
use Rattle.spectral.specs.Kept.{Words16}
use Rattle.observation.specs.Depends as Frame
use Rattle.state.specs.declared.State.{State}
use Rattle.state.specs.State.{started_by, started, cold_start, missed_frame, initial, all_zero}
use Rattle.calls.specs.Celp.{refusal, raised, carried, decoded, next, accepted, answer, refused, decode}
use Rattle.state.specs.Start.{started_accepted}
use Rattle.calls.specs.Run.{Event, heard, missed, step, run}
use Rattle.calls.specs.Mark.{mark_answered, mark_rises, mark_refused, mark_missed}
use Rattle.calls.specs.Accepted.{accepted_means, refusal_same}
use Rattle.calls.specs.StateRule.{Obeying, initial_obeying}
use Rattle.calls.proofs.StateRule.{run_obeying}
use Rattle.calls.specs.Near.{Near, near_zero, near_self}
use Rattle.calls.specs.Receiver.{after, after_all, Call, START, Joins, at_first, anywhere, Follows, begun, whole, between, without, MayRely}

module _ (words : List ℤ) (bytes : List ℕ) where
  -- ---- a call in two parts
  pub after_append : (t : State) (a b : List (List ℕ)) → after_all words bytes t (a ++ b) ≡ after_all words bytes (after_all words bytes t a) b
  after_append t [] b = refl
  after_append t (x ∷ a) b = after_append (after words bytes t x) a b

  pub call_first : (t : State) (a b : List (List ℕ)) → Call words bytes t (a ++ b) → Call words bytes t a
  call_first t [] b c = tt
  call_first t (x ∷ a) b c = (c.0, call_first (after words bytes t x) a b c.1)

  pub call_rest : (t : State) (a b : List (List ℕ)) → Call words bytes t (a ++ b) → Call words bytes (after_all words bytes t a) b
  call_rest t [] b c = c
  call_rest t (x ∷ a) b c = call_rest (after words bytes t x) a b c.1

  -- ---- along both
  pub joined : (before : List (List ℕ)) (s : State) → Joins words bytes before s → Near s (after_all words bytes (START words bytes) before)
  joined before s at_first = near_self s
  joined before s (anywhere b r z) = near_zero s _ z

  module _ (s t : State) (frame : List ℕ) (room : ℕ) (n : Near s t) where
    -- the same frame, accepted by both, leaves states that are near
    near_next : refusal words bytes s frame room ≡ 0 → refusal words bytes t frame room ≡ 0 → Near (decode words bytes s frame room).state (decode words bytes t frame room).state
    unfolding decode answer accepted next carried decoded raised
    near_next a b =
        let x = Frame.frame_one words bytes (fields_of frame) (carried s) (carried t) s.residuals t.residuals in
        let y = Frame.frame_two words bytes (fields_of frame) (carried s) (carried t) s.residuals t.residuals in
        rw (a, b) (record {
          one = λ h. record { fixed = x.fixed; lag = x.lag; gains = x.gains; residuals = x.residuals };
          two = λ (h : 2 ≤ raised s.mark).
              let z = y (n.one (omega arith)) in
              record { alike = record { lsp = z.alike.lsp; fixed = z.alike.fixed; lag = z.alike.lag; gains = z.alike.gains }; residuals = z.residuals };
        })

    -- and if the receiver answers with mark 2 what it reports is what the sender reports
    near_reports : refusal words bytes t frame room ≡ 0 → (decode words bytes s frame room).mark ≡ 2 → (decode words bytes s frame room).subframes ≡ (decode words bytes t frame room).subframes
    unfolding decode answer accepted refused decoded
    near_reports b = by (refusal words bytes s frame room)
      where
        by : (k : ℕ) → (answer k words bytes s frame).mark ≡ 2 → (answer k words bytes s frame).subframes ≡ (decode words bytes t frame room).subframes
        by zero m = rw b (Frame.frame_figures words bytes (fields_of frame) (carried s) (carried t) s.residuals t.residuals (n.two (omega arith)))
        by (suc k) m = absurd (omega arith)

  -- a frame as it was sent, whether it is accepted or not
  pub near_whole : (s t : State) (frame : List ℕ) → Near s t → refusal words bytes t frame 320 ≡ 0 → Near (step words bytes s (heard frame 320)) (after words bytes t frame)
  unfolding step
  near_whole s t frame n a = by (refusal words bytes s frame 320) refl
    where
      by : (k : ℕ) → refusal words bytes s frame 320 ≡ k → Near (step words bytes s (heard frame 320)) (after words bytes t frame)
      by zero z = near_next s t frame 320 n z a
      by (suc k) z = near_zero _ _ (mark_refused words bytes s frame 320 (λ q. omega arith))

  followed : (s t : State) (frames : List (List ℕ)) (es : List Event) → Near s t → Call words bytes t frames → Follows words bytes s frames es → Near (run words bytes s es) (after_all words bytes t frames)
  unfolding run
  followed s t frames es n c begun = n
  followed s t frames es n c (whole f) = followed _ _ _ _ (near_whole s t _ n c.0) c.1 f
  followed s t frames es n c (between {e = d} z f) = let e : (step words bytes s d).mark ≡ 0 = omega arith in followed _ _ _ _ (near_zero (step words bytes s d) t e) c f
  followed s t frames es n c (without z f) = let e : s.mark ≡ 0 = omega arith in followed _ _ _ _ (near_zero s _ e) c.1 f

  -- ---- the theorem
  pub receiver_may_rely : MayRely words bytes
  unfolding step missed_frame
  receiver_may_rely = record {
    figures = λ before since frame s es c j f m.
        let t = after_all words bytes (START words bytes) before in
        let d = call_rest (START words bytes) before since (call_first (START words bytes) (before ++ since) (frame ∷ []) c) in
        let n = followed s t since es (joined before s j) d f in
        near_reports (run words bytes s es) (after_all words bytes (START words bytes) (before ++ since)) frame 320 (rw (after_append (START words bytes) before since) n) (call_rest (START words bytes) (before ++ since) (frame ∷ []) c).0 m;
    two_in_a_row = λ s one two frame a b c.
        let x = mark_rises words bytes s one 320 a in
        let y = mark_rises words bytes (after words bytes s one) two 320 b in
        mark_answered words bytes (after words bytes (after words bytes s one) two) frame 320 c ∙ omega arith;
    reported = λ s. refl;
    refused = mark_refused words bytes;
  }

  -- ---- in a frame's place
  -- a loss that is reported there, and a payload that is refused there
  pub lost : (s : State) {frame : List ℕ} {frames : List (List ℕ)} {es : List Event} → Follows words bytes (step words bytes s missed) frames es → Follows words bytes s (frame ∷ frames) (missed ∷ es)
  lost s f = between (mark_missed words bytes s) (without (mark_missed words bytes s) f)

  pub spoilt : (s : State) (payload : List ℕ) (room : ℕ) {frame : List ℕ} {frames : List (List ℕ)} {es : List Event} → (refusal words bytes s payload room ≡ 0 → ⊥)
      → Follows words bytes (step words bytes s (heard payload room)) frames es → Follows words bytes s (frame ∷ frames) (heard payload room ∷ es)
  spoilt s payload room h f = between (mark_refused words bytes s payload room h) (without (mark_refused words bytes s payload room h) f)

  -- ---- states to join in
  -- reset and a cold start of an accepted set obey the state rule
  pub started_obeying : Words16 words → check words bytes ≡ 0 → (m : ℕ) → leb m 2 ≡ true → Obeying (started words bytes m).state
  started_obeying w c m l = rw (← started_accepted words bytes m c) (initial_obeying words bytes w c m l)

  -- the cold state is one to join in
  pub cold_joins : (before : List (List ℕ)) → Joins words bytes before (cold_start words bytes).state
  unfolding cold_start started started_by initial all_zero
  cold_joins before = anywhere before _ (by (check words bytes))
    where
      by : (n : ℕ) → (started_by n words bytes 0).state.mark ≡ 0
      by zero = refl
      by (suc n) = refl

  -- what the sender accepts its receiver accepts too, if the state that it joined in obeys the rule
  pub accepts_too : Words16 words → (frames : List (List ℕ)) (frame : List ℕ) (s : State) (es : List Event)
      → Call words bytes (START words bytes) (frames ++ frame ∷ [])
      → Obeying s
      → refusal words bytes (run words bytes s es) frame 320 ≡ 0
  accepts_too w frames frame s es c o =
      let t = after_all words bytes (START words bytes) frames in
      let a = (call_rest (START words bytes) frames (frame ∷ []) c).0 in
      refusal_same words bytes (run words bytes s es) t frame 320 (run_obeying words bytes w s es o).rule (accepted_means words bytes t frame 320 a).state_obeys ∙ a
