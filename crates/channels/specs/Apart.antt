-- Each channel on its own: the statement is `Apart`, below. What a channel answers is what the calls answer for its own lines, with a missed frame in the place of
-- each line that is neither's; the other's lines do not enter.
use Rattle.std.specs.Prelude.{ℕ, ◌≡◌, ℤ, drop}
use Rattle.std.proofs.Math.Path.{refl, ap}
use Rattle.std.proofs.Common.{sym, ◌∙◌}
use mathlib.Core.List.{List, [], ◌∷◌}
use Rattle.stream.specs.Lines.{lines}
use Rattle.stream.specs.Told.{after}
use Rattle.state.specs.declared.State.{State}
use Rattle.calls.specs.Run.{Event, missed, run}
use Rattle.calls.specs.Run as Run
use Rattle.heard.specs.Recording.{event, line_step, line_text}
use Rattle.heard.specs.Recording as Recording
use Rattle.channel_lines.specs.declared.Pair.{Pair}
use Rattle.channel_lines.specs.declared.Whose.{Whose}
use Rattle.channel_lines.specs.declared.Whose.TheVariants.{A, B, Neither}
use Rattle.channel_lines.specs.Channels.{whose, lettered, step_by, text_by, step, text, cold}

pub data Channel : Type 0 where
  a : Channel
  b : Channel

abbrev pub state_of : Channel → Pair → State
state_of a p = p.a
state_of b p = p.b

-- what a line is to a channel: its own, the other's, or it may have been either's
pub data Share : Type 0 where
  own : Share
  other : Share
  either : Share

unfoldable pub share_by : Channel → Whose → Share
share_by a A = own
share_by a B = other
share_by b A = other
share_by b B = own
share_by c Neither = either

unfoldable pub share : Channel → List ℕ → Share
share c line = share_by c (whose line)

-- ---- a channel's calls: one for each line of its own, and a missed frame for each that may have been either's
unfoldable pub call_by : Share → List ℕ → List Event → List Event
call_by own rest es = event rest ∷ es
call_by other rest es = es
call_by either rest es = missed ∷ es

unfoldable pub calls : Channel → List (List ℕ) → List Event
calls c [] = []
calls c (line ∷ more) = call_by (share c line) (drop 2 line) (calls c more)

-- ---- what is left of some lines when the other's are taken out; of anything that there is one of for each line, too
unfoldable pub keep_by : {T : Type 0} → Share → T → List T → List T
keep_by own t ts = t ∷ ts
keep_by other t ts = ts
keep_by either t ts = t ∷ ts

unfoldable pub left : Channel → List (List ℕ) → List (List ℕ)
left c [] = []
left c (line ∷ more) = keep_by (share c line) line (left c more)

module _ (words : List ℤ) (bytes : List ℕ) where
  -- the texts of calls, each given the state that the one before returned
  unfoldable pub told : State → List Event → List (List ℕ)
  told s [] = []
  told s (e ∷ es) = Recording.text words bytes s e ∷ told (Run.step words bytes s e) es

  -- what a channel answers: of the texts of all lines those that are not the other's, without letter and blank
  unfoldable pub answers : Channel → Pair → List (List ℕ) → List (List ℕ)
  answers c p [] = []
  answers c p (line ∷ more) = keep_by (share c line) (drop 2 (text words bytes p line)) (answers c (step words bytes p line) more)

  -- the channels that lines leave
  abbrev pub leaves : Pair → List (List ℕ) → Pair
  leaves = after (step words bytes)

  pub record Apart (c : Channel) : Type 0 where
    -- from any states on, and so from the cold start: a channel's answers are its calls', and so is the state that they leave it in
    pub answered : (p : Pair) (ls : List (List ℕ)) → answers c p ls ≡ told (state_of c p) (calls c ls)
    pub stands : (p : Pair) (ls : List (List ℕ)) → state_of c (leaves p ls) ≡ run words bytes (state_of c p) (calls c ls)
    -- the other's lines may be changed, added or removed: of two inputs that agree in what is left when its lines are taken out the channel answers the same
    pub same_answers : (input changed : List ℕ) → left c (lines input) ≡ left c (lines changed) → answers c (cold words bytes) (lines input) ≡ answers c (cold words bytes) (lines changed)
    pub same_state : (input changed : List ℕ) → left c (lines input) ≡ left c (lines changed) → state_of c (leaves (cold words bytes) (lines input)) ≡ state_of c (leaves (cold words bytes) (lines changed))

  -- ---- a line at a time
  answered_by : (c : Channel) (w : Whose) (p : Pair) (rest : List ℕ) (ts : State → List (List ℕ)) (es : List Event) → ((s : State) → ts s ≡ told s es) → keep_by (share_by c w) (drop 2 (text_by words bytes w p rest)) (ts (state_of c (step_by words bytes w p rest))) ≡ told (state_of c p) (call_by (share_by c w) rest es)
  unfolding keep_by share_by text_by step_by lettered told call_by line_text line_step Run.step Recording.text
  answered_by a A p rest ts es h = ap (λ (l : List (List ℕ)). line_text words bytes p.a rest ∷ l) (h _)
  answered_by a B p rest ts es h = h _
  answered_by a Neither p rest ts es h = ap (λ (l : List (List ℕ)). Recording.text words bytes p.a missed ∷ l) (h _)
  answered_by b A p rest ts es h = h _
  answered_by b B p rest ts es h = ap (λ (l : List (List ℕ)). line_text words bytes p.b rest ∷ l) (h _)
  answered_by b Neither p rest ts es h = ap (λ (l : List (List ℕ)). Recording.text words bytes p.b missed ∷ l) (h _)

  answered_all : (c : Channel) (p : Pair) (ls : List (List ℕ)) → answers c p ls ≡ told (state_of c p) (calls c ls)
  unfolding answers calls told share step text
  answered_all c p [] = refl
  answered_all c p (line ∷ more) =
      rw (answered_all c (step words bytes p line) more) (answered_by c (whose line) p (drop 2 line) (λ s. told s (calls c more)) (calls c more) (λ s. refl))

  pub state_by : (c : Channel) (w : Whose) (p : Pair) (rest : List ℕ) (es : List Event) → run words bytes (state_of c (step_by words bytes w p rest)) es ≡ run words bytes (state_of c p) (call_by (share_by c w) rest es)
  unfolding share_by step_by call_by line_step run Run.step
  state_by a A p rest es = refl
  state_by a B p rest es = refl
  state_by a Neither p rest es = refl
  state_by b A p rest es = refl
  state_by b B p rest es = refl
  state_by b Neither p rest es = refl

  pub state_all : (c : Channel) (p : Pair) (ls : List (List ℕ)) → state_of c (leaves p ls) ≡ run words bytes (state_of c p) (calls c ls)
  unfolding after calls share step run
  state_all c p [] = refl
  state_all c p (line ∷ more) = state_all c (step words bytes p line) more ∙ state_by c (whose line) p (drop 2 line) (calls c more)

  -- the other's lines are no calls
  kept_by : (c : Channel) (line : List ℕ) (ls : List (List ℕ)) (s : Share) → share c line ≡ s → calls c (keep_by s line ls) ≡ call_by s (drop 2 line) (calls c ls)
  unfolding calls keep_by call_by
  kept_by c line ls own e = rw e
  kept_by c line ls other e = refl
  kept_by c line ls either e = rw e

  calls_left : (c : Channel) (ls : List (List ℕ)) → calls c (left c ls) ≡ calls c ls
  unfolding left calls
  calls_left c [] = refl
  calls_left c (line ∷ more) = kept_by c line (left c more) (share c line) refl ∙ rw (calls_left c more)

  same_calls : (c : Channel) (ls ms : List (List ℕ)) → left c ls ≡ left c ms → calls c ls ≡ calls c ms
  same_calls c ls ms e = sym (calls_left c ls) ∙ ap (calls c) e ∙ calls_left c ms

  pub apart : (c : Channel) → Apart c
  apart c = record {
    answered = answered_all c;
    stands = state_all c;
    same_answers = λ input changed e. answered_all c _ (lines input) ∙ rw (same_calls c (lines input) (lines changed) e) (sym (answered_all c _ (lines changed)));
    same_state = λ input changed e. state_all c _ (lines input) ∙ rw (same_calls c (lines input) (lines changed) e) (sym (state_all c _ (lines changed)));
  }
