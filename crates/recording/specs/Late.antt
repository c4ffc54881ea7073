-- Why a recording that may have started late begins cold: the statement is `Late`, below. Such a recording is a receiver that joins a call at any frame (celp,
-- Receiver), and begun cold it says mark 2 only where it has the sender's figures. Begun at reset it would say so of its first frames, over a past that is not theirs.
use Prim.Native.Nat.{ℕ, zero, suc, ◌+◌}
use Rattle.std.proofs.Math.Path.{◌≡◌, refl, ap}
use Rattle.std.proofs.Common.{sym}
use mathlib.Core.List.{List, [], ◌∷◌, ◌++◌}
use Rattle.std.specs.Prelude.{Bool, cond, ℤ}
use Rattle.std.proofs.Math.Bool.{true, false}
use native.Mathlib.Omega.{arith}
use Rattle.std.proofs.Math.Dec.{ltb}
use Rattle.std.proofs.Math.ListN.{get_or}
use borrow.Author.Tests.{ne_eqb}
use Rattle.stream.specs.Told as Told
use Rattle.state.specs.declared.State.{State}
use Rattle.calls.specs.Celp.{refusal, decode, answer, accepted, refused}
use Rattle.calls.specs.Mark.{mark_missed, mark_refused}
use Rattle.calls.specs.Receiver.{after_all, Call, START, Joins, at_first, Follows, begun, between, without}
use Rattle.calls.specs.Receiver as Receiver
use Rattle.calls.proofs.Relied.{receiver_may_rely, cold_joins}
use Rattle.calls.specs.Run.{Event, heard, missed, step, run}
use Rattle.hex_lines.specs.Text.{digit, is_frame, payload, frame_text, refused_text}
use Rattle.heard.specs.Recording.{event, answer_text, text, line_step, line_text, is_start, opening}

-- the recording has no first `+`
abbrev pub NoStart : List (List ℕ) → Type 0
NoStart [] = Unit
NoStart (line ∷ more) = is_start line ≡ false

-- a recording, and the frames that its call had before it: none; or any, where it has no first `+`
pub data Before : List (List ℕ) → List (List ℕ) → Type 0 where
  none : {recording : List (List ℕ)} → Before [] recording
  any : (before : List (List ℕ)) {recording : List (List ℕ)} → NoStart recording → Before before recording

module _ (words : List ℤ) (bytes : List ℕ) where
  -- the state that lines leave
  abbrev pub leaves : State → List (List ℕ) → State
  leaves = Told.after (line_step words bytes)

  -- lines from the state s on, while the sender sends these frames
  pub data Heard : State → List (List ℕ) → List (List ℕ) → Type 0 where
    done : {s : State} → Heard s [] []
    -- a line that is the frame as it was sent
    sent : {s : State} {line : List ℕ} {frames lines : List (List ℕ)} → is_frame line ≡ true → Heard (line_step words bytes s line) frames lines → Heard s (payload line ∷ frames) (line ∷ lines)
    -- a line that decode answers with `refused N`, in the place of the frames that are lost there: one, as with a spoilt line, or several, or none
    lost : {s : State} {line : List ℕ} {frames lines : List (List ℕ)} (gone : List (List ℕ)) (n : ℕ) → line_text words bytes s line ≡ refused_text n → Heard (line_step words bytes s line) frames lines → Heard s (gone ++ frames) (line ∷ lines)

  pub record Late : Type 0 where
    -- A line that decode answers with mark 2 has the sender's figures, from whatever frame of a call on the recording was made.
    pub figures : (recording before since lines more : List (List ℕ)) (line : List ℕ) (samples : List ℤ)
        → Before before recording
        → Call words bytes (START words bytes) ((before ++ since) ++ payload line ∷ [])
        → (opening words bytes recording).lines ≡ lines ++ line ∷ more
        → Heard (opening words bytes recording).state since lines
        → line_text words bytes (leaves (opening words bytes recording).state lines) line ≡ frame_text 2 samples
        → (decode words bytes (leaves (opening words bytes recording).state lines) (payload line) 320).subframes ≡ (decode words bytes (after_all words bytes (START words bytes) (before ++ since)) (payload line) 320).subframes

  -- ---- a line is a call
  events : List (List ℕ) → List Event
  events [] = []
  events (line ∷ more) = event line ∷ events more

  runs : (s : State) (lines : List (List ℕ)) → leaves s lines ≡ run words bytes s (events lines)
  unfolding events run Told.after line_step
  runs s [] = refl
  runs s (line ∷ more) = runs (step words bytes s (event line)) more

  -- the second byte of a text tells a refusal
  no_frame : (m n : ℕ) (xs : List ℤ) → frame_text m xs ≡ refused_text n → ⊥
  unfolding frame_text refused_text
  no_frame m n xs e = let b : ◌≡◌ {A = ℕ} 32 101 = ap (λ (l : List ℕ). get_or l 1 0) e in absurd (omega arith)

  module _ (s : State) (line : List ℕ) where
    -- a line is answered with its frame's mark and samples, or with a refusal that leaves mark 0
    refused_heard : (n : ℕ) → text words bytes s (heard (payload line) 320) ≡ refused_text n → (step words bytes s (heard (payload line) 320)).mark ≡ 0
    unfolding text answer_text decode answer accepted
    refused_heard n h = by (refusal words bytes s (payload line) 320) refl
      where
        by : (k : ℕ) → refusal words bytes s (payload line) 320 ≡ k → (step words bytes s (heard (payload line) 320)).mark ≡ 0
        by zero e = absurd (no_frame _ n _ (rw e at h))
        by (suc k) e = mark_refused words bytes s (payload line) 320 (λ q. omega arith)

    pub refused_line : (n : ℕ) → line_text words bytes s line ≡ refused_text n → (line_step words bytes s line).mark ≡ 0
    unfolding line_text line_step event
    refused_line n h = by (is_frame line) refl
      where
        by : (t : Bool) → is_frame line ≡ t → (step words bytes s (cond (is_frame line) (heard (payload line) 320) missed)).mark ≡ 0
        by true e = rw e (refused_heard n (rw e at h))
        by false e = rw e (mark_missed words bytes s)

    -- the digit of a mark tells it
    two : (m : ℕ) → digit m ≡ digit 2 → m ≡ 2
    unfolding digit
    two m h = by (ltb m 10) refl
      where
        by : (t : Bool) → ltb m 10 ≡ t → m ≡ 2
        by true e = let k : 48 + m ≡ 50 = rw e at h in omega arith
        by false e = let k : 87 + m ≡ 50 = rw e at h in absurd (omega arith)

    two_heard : (xs : List ℤ) → text words bytes s (heard (payload line) 320) ≡ frame_text 2 xs → (decode words bytes s (payload line) 320).mark ≡ 2
    unfolding text answer_text decode answer accepted refused frame_text
    two_heard xs h = by (refusal words bytes s (payload line) 320) refl
      where
        by : (k : ℕ) → refusal words bytes s (payload line) 320 ≡ k → (decode words bytes s (payload line) 320).mark ≡ 2
        by zero e = rw e (two s.mark (ap (λ (l : List ℕ). get_or l 0 0) (rw e at h)))
        by (suc k) e = absurd (no_frame 2 (suc k) xs (sym (rw (e, ne_eqb (suc k) 0 (λ z. omega arith)) at h)))

    pub two_line : (xs : List ℤ) → line_text words bytes s line ≡ frame_text 2 xs → (decode words bytes s (payload line) 320).mark ≡ 2
    unfolding line_text event text
    two_line xs h = by (is_frame line) refl
      where
        by : (t : Bool) → is_frame line ≡ t → (decode words bytes s (payload line) 320).mark ≡ 2
        by true e = two_heard xs (rw e at h)
        by false e = absurd (no_frame 2 9 xs (sym (rw e at h)))

  -- ---- so the lines are a receiver's calls
  pub goes_without : {s : State} {frames : List (List ℕ)} {es : List Event} (gone : List (List ℕ)) → s.mark ≡ 0 → Follows words bytes s frames es → Follows words bytes s (gone ++ frames) es
  goes_without [] z f = f
  goes_without (frame ∷ more) z f = without z (goes_without more z f)

  pub sent_follows : {s : State} (line : List ℕ) {frames : List (List ℕ)} {es : List Event} → is_frame line ≡ true → Follows words bytes (line_step words bytes s line) frames es → Follows words bytes s (payload line ∷ frames) (event line ∷ es)
  unfolding line_step event
  sent_follows line e f = rw e (Receiver.whole (rw e at f))

  pub lost_follows : (s : State) (line : List ℕ) {frames : List (List ℕ)} {es : List Event} (gone : List (List ℕ)) (n : ℕ) → line_text words bytes s line ≡ refused_text n → Follows words bytes (line_step words bytes s line) frames es → Follows words bytes s (gone ++ frames) (event line ∷ es)
  unfolding line_step
  lost_follows s line gone n e f = let z = refused_line s line n e in between z (goes_without gone z f)

  follows : {s : State} {frames lines : List (List ℕ)} → Heard s frames lines → Follows words bytes s frames (events lines)
  unfolding events
  follows done = begun
  follows (sent {line = line} e h) = sent_follows line e (follows h)
  follows (lost {s = s} {line = line} gone n e h) = lost_follows s line gone n e (follows h)

  -- one that was heard from its first frame joins there, whether it begins at reset or cold
  joins_first : (recording : List (List ℕ)) → Joins words bytes [] (opening words bytes recording).state
  unfolding opening
  joins_first [] = cold_joins words bytes []
  joins_first (line ∷ more) = by (is_start line) refl
    where
      by : (t : Bool) → is_start line ≡ t → Joins words bytes [] (opening words bytes (line ∷ more)).state
      by true e = rw e at_first
      by false e = rw e (cold_joins words bytes [])

  joins_cold : (before recording : List (List ℕ)) → NoStart recording → Joins words bytes before (opening words bytes recording).state
  unfolding opening
  joins_cold before [] n = cold_joins words bytes before
  joins_cold before (line ∷ more) n = rw n (cold_joins words bytes before)

  joins : {before recording : List (List ℕ)} → Before before recording → Joins words bytes before (opening words bytes recording).state
  joins (none {recording}) = joins_first recording
  joins (any before {recording} n) = joins_cold before recording n

  pub late : Late
  late = record {
    figures = λ recording before since lines more line samples b c o h m.
        rw (runs (opening words bytes recording).state lines)
        ((receiver_may_rely words bytes).figures before since (payload line) (opening words bytes recording).state (events lines) c (joins b) (follows h) (rw (← (runs (opening words bytes recording).state lines)) (two_line _ line samples m)));
  }
