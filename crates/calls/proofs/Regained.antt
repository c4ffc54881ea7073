-- When excitation is sure again, proved: at each place, while a receiver's mark is 2, its excitation is the sender's as far as its number says.
use Prim.Native.Nat.{ℕ, zero, suc, ◌*◌, ◌≤◌, ◌<◌}
use Rattle.std.specs.Prelude.{◌≡◌, List, [], ◌∷◌, ◌++◌, ℤ}
use Rattle.std.proofs.Math.Path.{refl, sym, subst}
use Rattle.std.proofs.Common.{ap, ◌∙◌, lt-ltb}
use native.Mathlib.Omega.{arith}
use Rattle.std.proofs.Math.ListN.{length, get_or, replicate, get_or-replicate}
use Rattle.tables.specs.Tables.{check}
use Rattle.tables.specs.Rules as Rules
use Rattle.bits.specs.Bits.{fields_of}
use Rattle.bits.specs.Widths.{within_names, fields_within}
use Rattle.half.specs.Core.{part}
use Rattle.observation.specs.declared.Decoded.{Decoded}
use Rattle.sure.specs.Sure.{surer, holds, through, after}
use Rattle.sure.specs.Again.{Agreed}
use Rattle.sure.specs.AgainFrame.{FrameAgain, frame_long, frame_again, after_same, after_left}
use Rattle.state.specs.declared.State.{State}
use Rattle.calls.specs.declared.Answer.{Answer}
use Rattle.state.specs.State.{all_zero, initial, started_by, started, reset, missed_frame}
use Rattle.calls.specs.Celp as Celp
use Rattle.calls.specs.Celp.{refusal, raised, carried, decoded, next, answer, decode}
use Rattle.calls.specs.Cases.{decode_accepted}
use Rattle.calls.specs.Run.{Event, heard, missed, step, run}
use Rattle.calls.specs.Mark.{mark_refused}
use Rattle.calls.specs.Accepted.{accepted_means}
use Rattle.calls.specs.Near.{Near, near_zero}
use Rattle.calls.specs.Receiver as Receiver
use Rattle.calls.specs.Receiver.{after_all, Call, START, Joins, at_first, anywhere, Follows, begun, whole, between, without}
use Rattle.calls.proofs.Relied.{after_append, call_first, call_rest, near_whole, joined}
use Rattle.calls.specs.SureAgain.{SureAgain}

-- a receiver's state and the sender's
record Surely (s t : State) : Type 0 where
  near : Near s t
  sure : 2 ≤ s.mark → Agreed s.sure 154 s.excitation t.excitation
  long : length s.excitation ≡ 154
  long' : length t.excitation ≡ 154

-- a mark of 0 says nothing
surely_zero : (s t : State) → s.mark ≡ 0 → length s.excitation ≡ 154 → length t.excitation ≡ 154 → Surely s t
surely_zero s t z l m = record { near = near_zero s t z; sure = λ h. absurd (omega arith); long = l; long' = m }

module _ (words : List ℤ) (bytes : List ℕ) where
  -- ---- every state has 154 samples
  decode_long : (s : State) (payload : List ℕ) (room : ℕ) → length s.excitation ≡ 154 → length (decode words bytes s payload room).state.excitation ≡ 154
  unfolding decode answer Celp.accepted Celp.refused next decoded carried
  decode_long s payload room l = by (refusal words bytes s payload room)
    where
      by : (n : ℕ) → length (answer n words bytes s payload).state.excitation ≡ 154
      by zero = frame_long words bytes (fields_of payload) (carried s) s.residuals l
      by (suc n) = l

  step_long : (s : State) (e : Event) → length s.excitation ≡ 154 → length (step words bytes s e).excitation ≡ 154
  unfolding step missed_frame
  step_long s (heard payload room) l = decode_long s payload room l
  step_long s missed l = l

  all_long : (t : State) (frames : List (List ℕ)) → length t.excitation ≡ 154 → length (after_all words bytes t frames).excitation ≡ 154
  all_long t [] l = l
  all_long t (f ∷ fs) l = all_long (Receiver.after words bytes t f) fs (decode_long t f 320 l)

  start_long : length (START words bytes).excitation ≡ 154
  unfolding reset started started_by initial all_zero
  start_long = by (check words bytes)
    where
      by : (n : ℕ) → length (started_by n words bytes 2).state.excitation ≡ 154
      by zero = refl
      by (suc n) = refl

  -- ---- along both
  abbrev accepted : State → List ℕ → Answer
  accepted s frame = Celp.accepted s.mark s.sure (decoded words bytes s frame)

  joined_surely : (before : List (List ℕ)) (s : State) → Joins words bytes before s → length s.excitation ≡ 154 → Surely s (after_all words bytes (START words bytes) before)
  joined_surely before s at_first l = record { near = joined words bytes before s at_first; sure = λ h. record { one = λ i k lo hi. refl; two = λ i k lo hi. refl }; long = l; long' = l }
  joined_surely before s (anywhere b r z) l = surely_zero s _ z l (all_long (START words bytes) before start_long)

  module _ (s t : State) (frame : List ℕ) (u : Surely s t) where
    -- while its mark is 2 the frame of both decoders is as the law says
    agree : 2 ≤ s.mark → FrameAgain s.sure (decoded words bytes s frame) (decoded words bytes t frame)
    unfolding decoded carried
    agree h =
        let i = within_names (fields_of frame) (fields_within frame) in
        frame_again words bytes (fields_of frame) i.0 i.1 (carried s) (carried t) s.residuals t.residuals (u.near.two h) u.long u.long' s.sure (u.sure h)

    accepted_agreed : Agreed (accepted s frame).state.sure 154 (accepted s frame).state.excitation (accepted t frame).state.excitation
    unfolding Celp.accepted next
    accepted_agreed = after_left s.mark s.sure (decoded words bytes s frame) (decoded words bytes t frame) agree

    surely_next : refusal words bytes s frame 320 ≡ 0 → refusal words bytes t frame 320 ≡ 0 → Surely (step words bytes s (heard frame 320)) (Receiver.after words bytes t frame)
    unfolding step
    surely_next a b = record {
      near = near_whole words bytes s t frame u.near b;
      sure = λ h.
          subst (λ (x : Answer). Agreed x.state.sure 154 x.state.excitation (Receiver.after words bytes t frame).excitation) (decode_accepted words bytes s frame 320 a)
          (subst (λ (y : Answer). Agreed (accepted s frame).state.sure 154 (accepted s frame).state.excitation y.state.excitation) (decode_accepted words bytes t frame 320 b) accepted_agreed);
      long = step_long s (heard frame 320) u.long;
      long' = decode_long t frame 320 u.long';
    }

    -- where its answer says so, the excitation is the sender's
    surely_same : refusal words bytes t frame 320 ≡ 0 → (i : ℕ) → i < 4 → get_or (decode words bytes s frame 320).sure i 0 ≡ 1 → part (decode words bytes s frame 320).excitation (80 * i) ≡ part (decode words bytes t frame 320).excitation (80 * i)
    unfolding decode answer Celp.accepted Celp.refused
    surely_same b i h = by (refusal words bytes s frame 320)
      where
        by : (k : ℕ) → get_or (answer k words bytes s frame).sure i 0 ≡ 1 → part (answer k words bytes s frame).excitation (80 * i) ≡ part (decode words bytes t frame 320).excitation (80 * i)
        by zero e = rw b (after_same s.mark s.sure (decoded words bytes s frame) (decoded words bytes t frame) agree i h e)
        by (suc k) e = absurd (omega (arith, get_or-replicate {A = ℕ} 4 i 0 0 h))

  -- a frame as it was sent, whether it is accepted or not
  surely_whole : (s t : State) (frame : List ℕ) → Surely s t → refusal words bytes t frame 320 ≡ 0 → Surely (step words bytes s (heard frame 320)) (Receiver.after words bytes t frame)
  surely_whole s t frame u a = by (refusal words bytes s frame 320) refl
    where
      by : (k : ℕ) → refusal words bytes s frame 320 ≡ k → Surely (step words bytes s (heard frame 320)) (Receiver.after words bytes t frame)
      by zero z = surely_next s t frame u z a
      by (suc k) z = surely_zero _ _ (mark_refused words bytes s frame 320 (λ q. omega arith)) (step_long s (heard frame 320) u.long) (decode_long t frame 320 u.long')

  followed : (s t : State) (frames : List (List ℕ)) (es : List Event) → Surely s t → Call words bytes t frames → Follows words bytes s frames es → Surely (run words bytes s es) (after_all words bytes t frames)
  unfolding run
  followed s t frames es u c begun = u
  followed s t frames es u c (whole f) = followed _ _ _ _ (surely_whole s t _ u c.0) c.1 f
  followed s t frames es u c (between {e = d} z f) = let e : (step words bytes s d).mark ≡ 0 = omega arith in followed _ _ _ _ (surely_zero (step words bytes s d) t e (step_long s d u.long) u.long') c f
  followed s t frames es u c (without {frame = g} z f) = let e : s.mark ≡ 0 = omega arith in followed _ _ _ _ (surely_zero s (Receiver.after words bytes t g) e u.long (decode_long t g 320 u.long')) c.1 f

  -- ---- what leaves 0
  refused_zero : (s : State) (payload : List ℕ) (room : ℕ) → (refusal words bytes s payload room ≡ 0 → ⊥) → ((step words bytes s (heard payload room)).sure ≡ 0) × ((decode words bytes s payload room).sure ≡ replicate 4 0)
  unfolding step decode answer Celp.refused
  refused_zero s payload room h = by (refusal words bytes s payload room) h
    where
      by : (n : ℕ) → (n ≡ 0 → ⊥) → ((answer n words bytes s payload).state.sure ≡ 0) × ((answer n words bytes s payload).sure ≡ replicate 4 0)
      by zero g = absurd (g refl)
      by (suc n) g = (refl, refl)

  unsure : (s : State) (payload : List ℕ) → s.mark < 2 → ((accepted s payload).state.sure ≡ 0) × ((accepted s payload).sure ≡ replicate 4 0)
  unfolding Celp.accepted next after
  unsure s payload h = rw (lt-ltb s.mark 2 h) (refl, refl)

  below_zero : (s : State) (payload : List ℕ) (room : ℕ) → refusal words bytes s payload room ≡ 0 → s.mark < 2 → ((step words bytes s (heard payload room)).sure ≡ 0) × ((decode words bytes s payload room).sure ≡ replicate 4 0)
  unfolding step
  below_zero s payload room a h =
      let e = decode_accepted words bytes s payload room a in
      let z = unsure s payload h in
      (sym (ap (λ (x : Answer). x.state.sure) e) ∙ z.0, sym (ap (λ (x : Answer). x.sure) e) ∙ z.1)

  -- ---- from reset, with nothing lost
  kept : (d : Decoded) → ((Celp.accepted 2 2 d).sure ≡ replicate 4 1) × ((Celp.accepted 2 2 d).state.mark ≡ 2) × ((Celp.accepted 2 2 d).state.sure ≡ 2)
  unfolding Celp.accepted next raised after through surer holds
  kept d = (refl, refl, refl)

  -- a state that is sure, at a frame that it accepts
  still : (t : State) (frame : List ℕ) → refusal words bytes t frame 320 ≡ 0 → t.mark ≡ 2 → t.sure ≡ 2
      → ((decode words bytes t frame 320).sure ≡ replicate 4 1) × ((Receiver.after words bytes t frame).mark ≡ 2) × ((Receiver.after words bytes t frame).sure ≡ 2)
  still t frame a m w =
      let d = decoded words bytes t frame in
      let e : Celp.accepted 2 2 d ≡ decode words bytes t frame 320 = (λ i. Celp.accepted (sym m i) (sym w i) d) ∙ decode_accepted words bytes t frame 320 a in
      let k = kept d in
      (sym (ap (λ (x : Answer). x.sure) e) ∙ k.0, sym (ap (λ (x : Answer). x.state.mark) e) ∙ k.1, sym (ap (λ (x : Answer). x.state.sure) e) ∙ k.2)

  all_still : (t : State) (frames : List (List ℕ)) (frame : List ℕ) → Call words bytes t (frames ++ frame ∷ []) → t.mark ≡ 2 → t.sure ≡ 2 → (decode words bytes (after_all words bytes t frames) frame 320).sure ≡ replicate 4 1
  all_still t [] frame c m w = (still t frame c.0 m w).0
  all_still t (f ∷ fs) frame c m w = let k = still t f c.0 m w in all_still (Receiver.after words bytes t f) fs frame c.1 k.1 k.2

  -- a set of which a frame is accepted is accepted
  set_accepted : (t : State) (frames : List (List ℕ)) (frame : List ℕ) → Call words bytes t (frames ++ frame ∷ []) → check words bytes ≡ 0
  set_accepted t frames frame c =
      let k = (accepted_means words bytes (after_all words bytes t frames) frame 320 (call_rest words bytes t frames (frame ∷ []) c).0).set_sound in
      Rules.accepted words bytes k.of_words.words_long k.of_bytes.bytes_long (record { of_words = k.of_words.rules; floats_within = k.of_bytes.floats_within })

  start_sure : check words bytes ≡ 0 → ((START words bytes).mark ≡ 2) × ((START words bytes).sure ≡ 2)
  unfolding reset started started_by initial
  start_sure e = by (check words bytes) e
    where
      by : (n : ℕ) → n ≡ 0 → ((started_by n words bytes 2).state.mark ≡ 2) × ((started_by n words bytes 2).state.sure ≡ 2)
      by zero z = (refl, refl)
      by (suc n) z = absurd (omega arith)

  -- ---- the theorem
  pub sure_again : SureAgain words bytes
  unfolding step missed_frame
  sure_again = record {
    excitation = λ before since frame s es c j l f.
        let t = after_all words bytes (START words bytes) before in
        let d = call_rest words bytes (START words bytes) before since (call_first words bytes (START words bytes) (before ++ since) (frame ∷ []) c) in
        let u = followed s t since es (joined_surely before s j l) d f in
        surely_same (run words bytes s es) (after_all words bytes (START words bytes) (before ++ since)) frame (rw (after_append words bytes (START words bytes) before since) u) (call_rest words bytes (START words bytes) (before ++ since) (frame ∷ []) c).0;
    from_start = λ frames frame c.
        let k = start_sure (set_accepted (START words bytes) frames frame c) in
        all_still (START words bytes) frames frame c k.0 k.1;
    reported = λ s. refl;
    refused = refused_zero;
    below_two = below_zero;
  }
