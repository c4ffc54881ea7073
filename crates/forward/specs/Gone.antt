-- A recording gone through by places: the state that it begins in, and by each frame the state that those before it leave.
use Prim.Native.Nat.{ℕ, zero, suc, ◌+◌, ◌-◌, ◌<◌, ◌≤◌, min}
use Rattle.std.specs.Prelude.{◌≡◌, Bool, true, false, cond, eqb, ℤ}
use Rattle.std.proofs.Math.Path.{refl, sym, ap}
use Rattle.std.proofs.Common.{◌∙◌, ne_eqb}
use mathlib.Core.List.{List, [], ◌∷◌}
use native.Mathlib.Omega.{arith}
use Rattle.std.proofs.Math.ListN.{length, take, drop}
use Rattle.std.proofs.Math.Seq.{take-nil, drop-nil}
use Rattle.stream.specs.Lines.{pieces, lines}
use Rattle.stream.specs.Held.{zeros, shown_same}
use Rattle.stream.specs.Told.{after}
use Rattle.state.specs.declared.State.{State}
use Rattle.state.specs.State.{reset, cold_start}
use Rattle.calls.specs.Run.{step}
use Rattle.hex_lines.specs.Text.{is_frame}
use Rattle.hex_lines.specs.Held.{kept, held_line}
use Rattle.heard.specs.Recording.{event, is_start, Opening, opening, line_step}
use Rattle.places.specs.Frames.{frames}
use Rattle.places.specs.Places.{line_end, start_of, lines_none, lines_cons, start_nil, At, frame_at, at_more, none_at}
use Rattle.forward.specs.Forward.{forward}

-- the start tells which state a recording begins in
pub opens : (words : List ℤ) (bytes recording : List ℕ) → (opening words bytes (lines recording)).state ≡ cond (eqb (start_of recording) 0) (cold_start words bytes).state (reset words bytes).state
unfolding opening start_of
opens words bytes [] = rw (lines_none, start_nil)
opens words bytes (b ∷ bs) = rw (lines_cons b bs) (by (is_start (pieces (b ∷ bs)).first))
  where
    by : (t : Bool) → (cond {A = Opening} t (record { state = (reset words bytes).state; lines = lines (drop (suc (line_end (b ∷ bs))) (b ∷ bs)) }) (record { state = (cold_start words bytes).state; lines = (pieces (b ∷ bs)).first ∷ lines (drop (suc (line_end (b ∷ bs))) (b ∷ bs)) })).state ≡ cond (eqb (cond t (min (line_end (b ∷ bs) + 1) (length (b ∷ bs))) 0) 0) (cold_start words bytes).state (reset words bytes).state
    by true = rw (ne_eqb (min (line_end (b ∷ bs) + 1) (length (b ∷ bs))) 0 (λ e. omega arith))
    by false = refl

-- ---- some of a list
drop_take : {A : Type 0} (l : List A) (n k : ℕ) → drop n (take k l) ≡ take (k - n) (drop n l)
drop_take {A} l zero k = let e : k - 0 ≡ k = omega arith in rw e
drop_take {A} [] (suc n) k = rw (take-nil {A = A} k, drop-nil {A = A} (suc n), take-nil {A = A} (k - suc n))
drop_take {A} (x ∷ l) (suc n) zero = let e : 0 - suc n ≡ 0 = omega arith in rw e
drop_take {A} (x ∷ l) (suc n) (suc k) = let e : suc k - suc n ≡ k - n = omega arith in rw e (drop_take l n k)

-- ---- what is held of a line
-- a line of more than 40 bytes is missed, whichever it is
pub event_long : (line : List ℕ) → 40 < length line → event line ≡ event (zeros 41)
unfolding event is_frame
event_long line h = rw (ne_eqb (length line) 40 (λ e. omega arith))

module _ (words : List ℤ) (bytes : List ℕ) (recording : List ℕ) where
  -- what is held of a line does as well as the line
  pub step_held : (s : State) (line : List ℕ) → line_step words bytes s (held_line (kept line)) ≡ line_step words bytes s line
  unfolding held_line kept line_step
  step_held s line = shown_same 40 line (λ l. step words bytes s (event l)) long
    where
      long : 40 < length line → step words bytes s (event line) ≡ step words bytes s (event (zeros 41))
      long h = ap (step words bytes s) (event_long line h)

  -- by frame n, at place a, the state is s; what is left up to k gives what is looked for
  pub record Gone (s₀ : State) (j k : ℕ) (s : State) (a n : ℕ) : Type 0 where
    pub at : At recording a n
    pub state : forward words bytes s₀ recording j k ≡ after (line_step words bytes) s (drop n (take k (frames recording)))

  pub gone_none : (s : State) (j k a : ℕ) → At recording a j → Gone s j k s a j
  unfolding forward
  gone_none s j k a h = record { at = h; state = refl }

  module _ {s₀ : State} {j k : ℕ} {s : State} {a n : ℕ} (g : Gone s₀ j k s a n) where
    left : drop n (take k (frames recording)) ≡ take (k - n) (drop n (frames recording))
    left = drop_take (frames recording) n k

    -- k is reached
    pub gone_all : k ≤ n → s ≡ forward words bytes s₀ recording j k
    unfolding after
    gone_all h = let e : k - n ≡ 0 = omega arith in sym (g.state ∙ rw (left, e))

    -- the recording ends
    pub gone_end : length recording ≤ a → s ≡ forward words bytes s₀ recording j k
    unfolding after
    gone_end h = sym (g.state ∙ rw (left, none_at recording a n g.at h, take-nil {A = List ℕ} (k - n)))

    -- a frame more
    pub gone_more : n < k → a < length recording → (e r : ℕ) (s' : State) → e ≡ a + line_end (drop a recording) → r ≡ min (e + 1) (length recording) → s' ≡ line_step words bytes s (held_line (kept (take (e - a) (drop a recording)))) → Gone s₀ j k s' r (n + 1)
    unfolding after
    gone_more h i e r s' p q w =
        let l = take (line_end (drop a recording)) (drop a recording) in
        let d : k - n ≡ suc (k - (n + 1)) = omega arith in
        let m : e - a ≡ line_end (drop a recording) = omega arith in
        let t : s' ≡ line_step words bytes s l = w ∙ rw m (step_held s l) in
        let c : drop n (take k (frames recording)) ≡ l ∷ drop (n + 1) (take k (frames recording)) = rw (left, frame_at recording a n g.at i, d, drop_take (frames recording) (n + 1) k) in
        record { at = at_more recording a n g.at i e r p q; state = g.state ∙ rw (c, t) }
