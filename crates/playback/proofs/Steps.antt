-- What the functions' answers come to, one by one.
use Prim.Native.Nat.{ℕ, suc, ◌+◌, ◌-◌, ◌<◌, ◌≤◌, min}
use mathlib.Core.Path.{◌≡◌, refl, sym, ap, ◌∙◌}
use mathlib.Core.List.{List, [], ◌∷◌}
use mathlib.Core.Bool.{Bool, true, false}
use native.Mathlib.Omega.{arith}
use lib.Dec.{ltb}
use lib.IntN.{ℤ}
use lib.ListN.{length, take, drop, length-take, drop_of_length-le}
use lib.Seq.{take-nil}
use borrow.Author.Tests.{eq-eqb, ne_eqb, lt-ltb, le-ltb, ltb-true, ltb-false}
use Rattle.stream.specs.Lines.{pieces, of_pieces, lines}
use Rattle.stream.specs.Held.{shown_same}
use Rattle.stream.specs.Machine.{fed_all}
use Rattle.stream.specs.Room.{over, over_none}
use Rattle.stream.specs.Decimal.{figure}
use Rattle.state.specs.declared.State.{State}
use Rattle.hex_lines.specs.declared.Line.{Line}
use Rattle.hex_lines.specs.Held.{kept, push, held_line}
use Rattle.heard.specs.declared.Said.{Said}
use Rattle.heard.specs.Recording.{event, text, line_step, line_text}
use Rattle.heard.specs.Start.{called}
use Rattle.slots.specs.declared.Slot.{Slot}
use Rattle.slot_users.specs.Users.{SLOTS}
use Rattle.shelf.specs.Shelf.{number, slots_after}
use Rattle.shelf.specs.Shelf as Calls
use Rattle.shelf.specs.Run.{Shelf, after}
use Rattle.places.specs.Frames.{frames}
use Rattle.places.specs.Places.{line_end, line_at_lem, lines_at, behind_is}
use Rattle.forward.specs.Forward.{before}
use Rattle.forward.specs.Gone.{event_long, step_held}
use Rattle.best_save.specs.Best.{best}
use Rattle.seek.specs.Seek.{Sought, not_sought}
use Rattle.commands.specs.Commands.{Command, command}
use Rattle.replies.specs.declared.Cue.{Cue}
use Rattle.playback.specs.declared.Player.{Player}
use Rattle.playback.specs.declared.Played.{Played}
use Rattle.replies.specs.declared.Obeyed.{Obeyed}
use Rattle.playback.specs.declared.Turned.{Turned}
use Rattle.replies.specs.Replies.{held_word, let_go_word, unknown_line, answered, frame_mark, save_left, save_said}
use Rattle.playback.specs.Playback.{sought, found, left, said}
use Rattle.replies.specs.Promised.{silent, silence, ahead, ahead_of, shelf, cued, Quiet, Cues, put_as}
use Rattle.playback.specs.Turns.{seen, Turning, to_play, at_once, ends, takes, turn, Obeys, line_at, Plays, Took, takes_more, takes_line, turn_takes, turn_plays}

-- ---- what is left to play
lines_none : lines [] ≡ []
unfolding lines pieces of_pieces
lines_none = refl

module _ (recording : List ℕ) (c : Cue) where
  pub none_left : c.left ≡ 0 → false ≡ ltb 0 (length (ahead recording c))
  unfolding ahead
  none_left e = rw e

  at_end_lem : length recording ≤ c.place → ahead recording c ≡ []
  unfolding ahead
  at_end_lem h = rw (drop_of_length-le recording {i = c.place} h, lines_none, take-nil {A = List ℕ} c.left)

  pub some_left : (c.left ≡ 0 → ⊥) → ltb c.place (length recording) ≡ ltb 0 (length (ahead recording c))
  unfolding ahead
  some_left z = by (ltb c.place (length recording)) refl
    where
      by : (t : Bool) → ltb c.place (length recording) ≡ t → ltb c.place (length recording) ≡ ltb 0 (length (ahead recording c))
      by true e =
          let l = ap length (lines_at recording c.place (ltb-true c.place (length recording) e)) in
          let t = length-take c.left (lines (drop c.place recording)) in
          e ∙ sym (lt-ltb 0 (length (ahead recording c)) (omega arith))
      by false e = rw (at_end_lem (ltb-false c.place (length recording) e)) e

  -- where there is a frame, it is asked for and there
  pub ahead_some : ltb 0 (length (ahead recording c)) ≡ true → (0 < c.left) × (c.place < length recording)
  unfolding ahead
  ahead_some e = by (ltb c.place (length recording)) refl
    where
      by : (t : Bool) → ltb c.place (length recording) ≡ t → (0 < c.left) × (c.place < length recording)
      by true p =
          let t = length-take c.left (lines (drop c.place recording)) in
          let h = ltb-true 0 (length (ahead recording c)) e in
          (omega arith, ltb-true c.place (length recording) p)
      by false p =
          let h = ltb-true 0 (length (ahead recording c)) e in
          let z = ap length (at_end_lem (ltb-false c.place (length recording) p)) in
          absurd (omega arith)

  ahead_none : ltb 0 (length (ahead recording c)) ≡ false → ahead recording c ≡ []
  ahead_none e = by (ahead recording c) (ltb-false 0 (length (ahead recording c)) e)
    where
      by : (l : List (List ℕ)) → length l ≤ 0 → l ≡ []
      by [] h = refl
      by (x ∷ xs) h = absurd (omega arith)

-- ---- a frame
module _ (words : List ℤ) (bytes recording : List ℕ) (c : Cue) where
  text_held : (line : List ℕ) → line_text words bytes c.state (held_line (kept line)) ≡ line_text words bytes c.state line
  unfolding held_line kept line_text
  text_held line = shown_same 40 line (λ l. text words bytes c.state (event l)) (λ h. ap (text words bytes c.state) (event_long line h))

  first_is : 0 < c.left → c.place < length recording → (e r : ℕ) (s : State) → e ≡ c.place + line_end (drop c.place recording) → r ≡ min (e + 1) (length recording) → ahead recording c ≡ line_at recording c ∷ ahead recording (record { state = s; place = r; left = c.left - 1 })
  unfolding ahead
  first_is h i e r s p q =
      let n : c.left ≡ suc (c.left - 1) = omega arith in
      let b = behind_is recording c.place r (rw p at q) in
      ap (λ (l : List (List ℕ)). take c.left l) (lines_at recording c.place i)
      ∙ ap (λ (k : ℕ). take k ((pieces (drop c.place recording)).first ∷ lines (drop (suc (line_end (drop c.place recording))) (drop c.place recording)))) n
      ∙ rw (line_at_lem recording c.place i, b)

  pub plays : (room now : List ℕ) (e r : ℕ) (line : Line) (s : Said) → 0 < c.left → c.place < length recording → e ≡ c.place + line_end (drop c.place recording) → r ≡ min (e + 1) (length recording) → line ≡ kept (take (e - c.place) (drop c.place recording)) → s ≡ called words bytes c.state (event (held_line line)) → now ≡ over (line_text words bytes c.state (held_line line)) room → s.n ≤ 1283
      → Plays words bytes recording c room (record { cue = record { state = s.state; place = r; left = c.left - 1 }; n = s.n }) now
  unfolding called line_step line_text
  plays room now e r line s h i p q l w t f =
      let m : e - c.place ≡ line_end (drop c.place recording) = omega arith in
      let k : line ≡ kept (line_at recording c) = l ∙ ap (λ (n : ℕ). kept (take n (drop c.place recording))) m in
      let x : line_text words bytes c.state (held_line line) ≡ line_text words bytes c.state (line_at recording c) = ap (λ (j : Line). line_text words bytes c.state (held_line j)) k ∙ text_held (line_at recording c) in
      record {
        first = first_is h i e r s.state p q;
        state = ap (λ (a : Said). a.state) w ∙ ap (λ (j : Line). line_step words bytes c.state (held_line j)) k ∙ step_held words bytes recording c.state (line_at recording c);
        long = ap (λ (a : Said). a.n) w ∙ ap length x;
        fits = f;
        put = t ∙ ap (λ (a : List ℕ). over a room) x;
      }

-- ---- a save
module _ (words : List ℤ) (bytes recording : List ℕ) (h : Shelf) (k : ℕ) where
  pub found_save : best h.slots k < SLOTS → (s : Sought) → s ≡ sought words bytes recording h k → s ≡ found words bytes recording h k
  unfolding found
  found_save e s w = rw (lt-ltb (best h.slots k) SLOTS e) w

  pub found_frame : SLOTS ≤ best h.slots k → true ≡ ltb k (length (frames recording)) → (s : State) → s ≡ before words bytes recording k → record { number = 0; state = s } ≡ found words bytes recording h k
  unfolding found
  found_frame e f s w = rw (le-ltb (best h.slots k) SLOTS e, ← f, w)

  pub found_none : SLOTS ≤ best h.slots k → false ≡ ltb k (length (frames recording)) → not_sought 15 ≡ found words bytes recording h k
  unfolding found
  found_none e f = rw (le-ltb (best h.slots k) SLOTS e, ← f)

-- ---- any command
module _ (words : List ℤ) (bytes recording : List ℕ) (h : Shelf) (c : Command) (room : List ℕ) (r : Obeyed) (images now : List ℕ) where
  silent_ahead : r.cue ≡ silence → ahead_of recording r.cue ≡ silent
  unfolding ahead
  silent_ahead e = rw e

  other : (c.kind ≡ 5 → ⊥) → (to_play words bytes recording h c ≡ silent) × (at_once words bytes recording h c ≡ said words bytes recording h c)
  unfolding to_play at_once
  other z = rw (ne_eqb c.kind 5 z) (refl, refl)

  by_quiet : {l : List Slot} {text : List ℕ} → (c.kind ≡ 5 → ⊥) → Quiet l text room r now → shelf l images ≡ left words bytes recording h c → said words bytes recording h c ≡ text → Obeys words bytes recording h c room r images now
  by_quiet z q e f = record { shelf = ap (λ (x : List Slot). shelf x images) q.slots ∙ e; cue = silent_ahead q.silent ∙ sym (other z).0; put = put_as ((other z).1 ∙ f) q.put }

  pub obeys_save : c.kind ≡ 1 → Quiet (save_left h c.k (found words bytes recording h c.k)).slots (save_said h c.k (found words bytes recording h c.k)) room r now → images ≡ (save_left h c.k (found words bytes recording h c.k)).images → Obeys words bytes recording h c room r images now
  unfolding left said
  obeys_save e q m = by_quiet (λ z. omega arith) q (rw (eq-eqb c.kind 1 e, m)) (rw (eq-eqb c.kind 1 e))

  module _ (same : images ≡ h.images) (not-save : c.kind ≡ 1 → ⊥) where
    pub obeys_hold : c.kind ≡ 2 → Quiet (slots_after (Calls.hold h.slots (length h.images) c.k) h.slots) (answered (number (Calls.hold h.slots (length h.images) c.k)) (figure held_word c.k)) room r now → Obeys words bytes recording h c room r images now
    unfolding left said after
    obeys_hold e q = by_quiet (λ z. omega arith) q (rw (ne_eqb c.kind 1 not-save, eq-eqb c.kind 2 e, same)) (rw (ne_eqb c.kind 1 not-save, eq-eqb c.kind 2 e))

    module _ (not-hold : c.kind ≡ 2 → ⊥) where
      pub obeys_let_go : c.kind ≡ 3 → Quiet (slots_after (Calls.let_go h.slots (length h.images) c.k) h.slots) (answered (number (Calls.let_go h.slots (length h.images) c.k)) (figure let_go_word c.k)) room r now → Obeys words bytes recording h c room r images now
      unfolding left said after
      obeys_let_go e q = by_quiet (λ z. omega arith) q (rw (ne_eqb c.kind 1 not-save, ne_eqb c.kind 2 not-hold, eq-eqb c.kind 3 e, same)) (rw (ne_eqb c.kind 1 not-save, ne_eqb c.kind 2 not-hold, eq-eqb c.kind 3 e))

      module _ (not-let-go : c.kind ≡ 3 → ⊥) where
        as_was : shelf h.slots images ≡ left words bytes recording h c
        unfolding left
        as_was = rw (ne_eqb c.kind 1 not-save, ne_eqb c.kind 2 not-hold, ne_eqb c.kind 3 not-let-go, same)

        pub obeys_seek : c.kind ≡ 4 → (s : Sought) → s ≡ sought words bytes recording h c.k → Quiet h.slots (answered s.number (frame_mark c.k s.state.mark)) room r now → Obeys words bytes recording h c room r images now
        unfolding said
        obeys_seek e s w q = by_quiet (λ z. omega arith) q as_was (rw (ne_eqb c.kind 1 not-save, ne_eqb c.kind 2 not-hold, ne_eqb c.kind 3 not-let-go, eq-eqb c.kind 4 e, w))

        pub obeys_play : c.kind ≡ 5 → (s : Sought) → s ≡ sought words bytes recording h c.k → Cues h.slots recording (cued recording s c.k c.n) (answered s.number []) room r now → Obeys words bytes recording h c room r images now
        unfolding to_play at_once
        obeys_play e s w q = record {
          shelf = ap (λ (x : List Slot). shelf x images) q.slots ∙ as_was;
          cue = q.cue ∙ rw (eq-eqb c.kind 5 e, w);
          put = put_as (rw (eq-eqb c.kind 5 e, w)) q.put;
        }

        pub obeys_none : (c.kind ≡ 4 → ⊥) → (c.kind ≡ 5 → ⊥) → Quiet h.slots unknown_line room r now → Obeys words bytes recording h c room r images now
        unfolding said
        obeys_none x z q = by_quiet z q as_was (rw (ne_eqb c.kind 1 not-save, ne_eqb c.kind 2 not-hold, ne_eqb c.kind 3 not-let-go, ne_eqb c.kind 4 x, ne_eqb c.kind 5 z))

-- ---- turns
module _ (words : List ℤ) (bytes recording : List ℕ) where
  pub took_ends : (h : Shelf) (line : Line) (used : ℕ) (room : List ℕ) (o : Obeyed) (c : Command) (e : Line) (images now : List ℕ) → c ≡ command (held_line line) → e ≡ kept [] → Obeys words bytes recording h c room o images now
      → Took recording (ends words bytes recording h line used) room (record { player = record { slots = o.slots; line = e; cue = o.cue; told = false }; used = used; n = o.n }) images now
  unfolding ends
  took_ends h line used room o c e images now w k d =
      let g : Obeys words bytes recording h (command (held_line line)) room o images now = rw w at d in
      let s = g.shelf in
      let a = g.cue in
      let f = g.put.fits in
      record { stand = λ i. record { shelf = s i; line = k i; ahead = a i; told = false }; used = refl; long = g.put.long; fits = omega arith; put = g.put.put }

-- a turn that is given by an equation
pub took_as : (recording : List ℕ) {t u : Turning} {room : List ℕ} {r : Turned} {images now : List ℕ} → t ≡ u → Took recording u room r images now → Took recording t room r images now
took_as recording e p = rw e p

module _ (words : List ℤ) (bytes recording : List ℕ) (p : Player) (images chunk room : List ℕ) where
  -- no newline is there yet, or one is
  module _ (k : ℕ) (more : Line) (some : length chunk ≡ 0 → ⊥) (is : k ≡ 0 + line_end chunk) (w : more ≡ fed_all push p.line (take k chunk)) where
    pushed : more ≡ fed_all push p.line (take (line_end chunk) chunk)
    pushed = let e : k ≡ line_end chunk = omega arith in rw e at w

    pub took_part : k ≡ length chunk → Took recording (takes words bytes recording (seen recording p images) chunk) room (record { player = record { slots = p.slots; line = more; cue = p.cue; told = false }; used = k; n = 0 }) images room
    took_part e =
        let l = pushed in
        took_as recording (takes_more words bytes recording (seen recording p images) chunk some (omega arith))
        (record { stand = λ i. record { shelf = shelf p.slots images; line = l i; ahead = ahead_of recording p.cue; told = false }; used = omega arith; long = refl; fits = omega arith; put = over_none room })

    pub took_line : (k ≡ length chunk → ⊥) → {r : Turned} {after now : List ℕ} → Took recording (ends words bytes recording (shelf p.slots images) more (k + 1)) room r after now → Took recording (takes words bytes recording (seen recording p images) chunk) room r after now
    took_line z d =
        let e : k ≡ line_end chunk = omega arith in
        took_as recording (takes_line words bytes recording (seen recording p images) chunk some (λ q. z (omega arith)) ∙ rw (← pushed, ← e)) d

  pub took_frame : (f : Played) (now : List ℕ) → Plays words bytes recording p.cue room f now → Took recording (turn words bytes recording (seen recording p images) chunk) room (record { player = record { slots = p.slots; line = p.line; cue = f.cue; told = false }; used = 0; n = f.n }) images now
  took_frame f now d =
      let e = d.state in
      took_as recording (turn_plays words bytes recording (seen recording p images) chunk (line_at recording p.cue) (ahead recording f.cue) d.first)
      (record { stand = λ i. record { shelf = shelf p.slots images; line = p.line; ahead = record { state = e i; frames = ahead recording f.cue }; told = false }; used = refl; long = d.long; fits = d.fits; put = d.put })

  pub took_input : {r : Turned} {after now : List ℕ} → ltb 0 (length (ahead recording p.cue)) ≡ false → Took recording (takes words bytes recording (seen recording p images) chunk) room r after now → Took recording (turn words bytes recording (seen recording p images) chunk) room r after now
  took_input e d = took_as recording (turn_takes words bytes recording (seen recording p images) chunk (ahead_none recording p.cue e)) d
