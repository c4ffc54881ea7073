-- Demand 3 for each channel: the statement is `Relied`, below. A channel is a receiver that joins its sender's call at any frame, begun cold (celp, Receiver; recording, Late).
use Rattle.std.specs.Prelude.{ℕ, true, ℤ}
use Rattle.std.proofs.Math.Path.{◌≡◌, refl, ap}
use mathlib.Core.List.{List, [], ◌∷◌, ◌++◌}
use Rattle.std.proofs.Common.{arith}
use Rattle.std.proofs.Math.ListN.{drop, get_or}
use Rattle.state.specs.declared.State.{State}
use Rattle.state.specs.State.{cold_start}
use Rattle.calls.specs.Celp.{decode}
use Rattle.calls.specs.Mark.{mark_missed}
use Rattle.calls.specs.Receiver.{after_all, Call, START, Follows, begun, between}
use Rattle.calls.proofs.Relied.{receiver_may_rely, cold_joins}
use Rattle.calls.specs.Run.{missed}
use Rattle.calls.specs.Run as Run
use Rattle.hex_lines.specs.Text.{is_frame, payload, frame_text, refused_text}
use Rattle.heard.specs.Recording.{line_step, line_text}
use Rattle.recording.specs.Late.{two_line, goes_without, sent_follows, lost_follows}
use Rattle.channel_lines.specs.declared.Pair.{Pair}
use Rattle.channel_lines.specs.declared.Whose.{Whose}
use Rattle.channel_lines.specs.declared.Whose.TheVariants.{A, B, Neither}
use Rattle.channel_lines.specs.Channels.{whose, lettered, step_by, text_by, step, text, cold}
use Rattle.channels.specs.Apart.{Channel, a, b, state_of, Share, own, other, either, share_by, share, call_by, calls, leaves, state_all}

abbrev pub letter : Channel → ℕ
letter a = 97
letter b = 98

module _ (words : List ℤ) (bytes : List ℕ) where
  -- lines from the channels p on, while the sender of channel c sends these frames
  pub data Heard (c : Channel) : Pair → List (List ℕ) → List (List ℕ) → Type 0 where
    done : {p : Pair} → Heard c p [] []
    -- a line of its own that is the frame as it was sent
    sent : {p : Pair} {line : List ℕ} {frames lines : List (List ℕ)} → share c line ≡ own → is_frame (drop 2 line) ≡ true → Heard c (step words bytes p line) frames lines → Heard c p (payload (drop 2 line) ∷ frames) (line ∷ lines)
    -- a line that is answered with its letter and `refused N`, in the place of the frames that are lost there: one, or several, or none
    lost : {p : Pair} {line : List ℕ} {frames lines : List (List ℕ)} (gone : List (List ℕ)) (n : ℕ) → text words bytes p line ≡ lettered (letter c) (refused_text n) → Heard c (step words bytes p line) frames lines → Heard c p (gone ++ frames) (line ∷ lines)
    -- a line that may have been either's: in the place of the frames that are lost there, or of none, where it was the other's
    stray : {p : Pair} {line : List ℕ} {frames lines : List (List ℕ)} (gone : List (List ℕ)) → share c line ≡ either → Heard c (step words bytes p line) frames lines → Heard c p (gone ++ frames) (line ∷ lines)
    -- any line of the other's
    others : {p : Pair} {line : List ℕ} {frames lines : List (List ℕ)} → share c line ≡ other → Heard c (step words bytes p line) frames lines → Heard c p frames (line ∷ lines)

  pub record Relied (c : Channel) : Type 0 where
    -- A line that is answered with the channel's letter and mark 2 has its sender's figures, from whatever frame of a call on the recording was made.
    pub figures : (before since lines : List (List ℕ)) (line : List ℕ) (samples : List ℤ)
        → Call words bytes (START words bytes) ((before ++ since) ++ payload (drop 2 line) ∷ [])
        → Heard c (cold words bytes) since lines
        → text words bytes (leaves words bytes (cold words bytes) lines) line ≡ lettered (letter c) (frame_text 2 samples)
        → (decode words bytes (state_of c (leaves words bytes (cold words bytes) lines)) (payload (drop 2 line)) 320).subframes ≡ (decode words bytes (after_all words bytes (START words bytes) (before ++ since)) (payload (drop 2 line)) 320).subframes

  -- ---- a text's letter tells whose line it answers, and its call's text stands behind it
  told_by : (c : Channel) (w : Whose) (p : Pair) (rest t : List ℕ) → text_by words bytes w p rest ≡ lettered (letter c) t → (share_by c w ≡ own) × (line_text words bytes (state_of c p) rest ≡ t)
  unfolding text_by share_by lettered
  told_by a A p rest t e = (refl, ap (λ (l : List ℕ). drop 2 l) e)
  told_by a B p rest t e = let n : ◌≡◌ {A = ℕ} 98 97 = ap (λ (l : List ℕ). get_or l 0 0) e in absurd (omega arith)
  told_by a Neither p rest t e = let n : ◌≡◌ {A = ℕ} 63 97 = ap (λ (l : List ℕ). get_or l 0 0) e in absurd (omega arith)
  told_by b A p rest t e = let n : ◌≡◌ {A = ℕ} 97 98 = ap (λ (l : List ℕ). get_or l 0 0) e in absurd (omega arith)
  told_by b B p rest t e = (refl, ap (λ (l : List ℕ). drop 2 l) e)
  told_by b Neither p rest t e = let n : ◌≡◌ {A = ℕ} 63 98 = ap (λ (l : List ℕ). get_or l 0 0) e in absurd (omega arith)

  told : (c : Channel) (p : Pair) (line t : List ℕ) → text words bytes p line ≡ lettered (letter c) t → (share c line ≡ own) × (line_text words bytes (state_of c p) (drop 2 line) ≡ t)
  unfolding text share
  told c p line t e = told_by c (whose line) p (drop 2 line) t e

  -- ---- the state that a line leaves a channel in, by what the line is to it
  unfoldable step_of : Share → State → List ℕ → State
  step_of own s rest = line_step words bytes s rest
  step_of other s rest = s
  step_of either s rest = Run.step words bytes s missed

  steps_by : (c : Channel) (w : Whose) (p : Pair) (rest : List ℕ) → state_of c (step_by words bytes w p rest) ≡ step_of (share_by c w) (state_of c p) rest
  unfolding step_of share_by step_by Run.step
  steps_by a A p rest = refl
  steps_by a B p rest = refl
  steps_by a Neither p rest = refl
  steps_by b A p rest = refl
  steps_by b B p rest = refl
  steps_by b Neither p rest = refl

  steps : (c : Channel) (p : Pair) (line : List ℕ) (s : Share) → share c line ≡ s → state_of c (step words bytes p line) ≡ step_of s (state_of c p) (drop 2 line)
  unfolding share step
  steps c p line s e = rw (← e) (steps_by c (whose line) p (drop 2 line))

  -- ---- so the lines are a receiver's calls
  follows : {c : Channel} {p : Pair} {frames lines : List (List ℕ)} → Heard c p frames lines → Follows words bytes (state_of c p) frames (calls c lines)
  unfolding calls call_by step_of
  follows done = begun
  follows {c} {p} (sent {line = line} e f h) = rw e (sent_follows words bytes (drop 2 line) f (rw (steps c p line own e) at (follows h)))
  follows {c} {p} (lost {line = line} gone n e h) =
      let o = told c p line (refused_text n) e in
      rw o.0 (lost_follows words bytes (state_of c p) (drop 2 line) gone n o.1 (rw (steps c p line own o.0) at (follows h)))
  follows {c} {p} (stray {line = line} gone e h) =
      let z = mark_missed words bytes (state_of c p) in
      rw e (between z (goes_without words bytes gone z (rw (steps c p line either e) at (follows h))))
  follows {c} {p} (others {line = line} e h) = rw e (rw (steps c p line other e) at (follows h))

  cold_of : (c : Channel) → state_of c (cold words bytes) ≡ (cold_start words bytes).state
  unfolding cold
  cold_of a = refl
  cold_of b = refl

  pub relied : (c : Channel) → Relied c
  relied c = record {
    figures = λ before since lines line samples call h m.
        let r = state_all words bytes c (cold words bytes) lines in
        let o = told c (leaves words bytes (cold words bytes) lines) line (frame_text 2 samples) m in
        rw r
        ((receiver_may_rely words bytes).figures before since (payload (drop 2 line)) (state_of c (cold words bytes)) (calls c lines) call (rw (cold_of c) (cold_joins words bytes before)) (follows h) (rw (← r) (two_line words bytes (state_of c (leaves words bytes (cold words bytes) lines)) (drop 2 line) samples o.1)));
  }
