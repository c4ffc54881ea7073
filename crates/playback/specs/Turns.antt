-- A turn of the player, as its call promises it: a frame's line or, where none is left to play, the input up to the end of one line.
use Rattle.std.specs.Prelude.{ℕ, ◌+◌, ◌-◌, ◌≤◌, ◌≡◌, List, [], ◌∷◌, Bool, true, false, cond, eqb, ℤ, length, take, drop, replicate}
use borrow.Author.Tests.{eq-eqb, ne_eqb}
use Rattle.stream.specs.Machine.{fed_all}
use Rattle.stream.specs.Room.{over}
use Rattle.hex_lines.specs.declared.Line.{Line}
use Rattle.hex_lines.specs.Held.{kept, push, held_line}
use Rattle.table_file.specs.File as File
use Rattle.heard.specs.Recording.{line_step, line_text}
use Rattle.slots.specs.Slots.{no_slot}
use Rattle.slot_users.specs.Users.{SLOTS}
use Rattle.shelf.specs.Run.{Shelf}
use Rattle.places.specs.Places.{line_end}
use Rattle.commands.specs.Commands.{Command, command}
use Rattle.replies.specs.declared.Cue.{Cue}
use Rattle.playback.specs.declared.Player.{Player}
use Rattle.playback.specs.declared.Played.{Played}
use Rattle.replies.specs.declared.Obeyed.{Obeyed}
use Rattle.playback.specs.declared.Turned.{Turned}
use Rattle.replies.specs.Replies.{answered}
use Rattle.replies.specs.Promised.{Ahead, silent, silence, ahead, ahead_of, shelf, cued, Put}
use Rattle.playback.specs.Playback.{sought, left, said}

-- ---- where the player stands
pub record Stand : Type 0 where
  pub shelf : Shelf
  pub line : Line
  pub ahead : Ahead
  pub told : Bool

abbrev pub start : Player
start = record { slots = replicate SLOTS no_slot; line = kept []; cue = silence; told = false }

abbrev pub seen : List ℕ → Player → List ℕ → Stand
seen recording p images = record { shelf = shelf p.slots images; line = p.line; ahead = ahead_of recording p.cue; told = p.told }

-- with another line, and whether all is told
abbrev pub still : Stand → Line → Bool → Stand
still s line told = record { shelf = s.shelf; line = line; ahead = s.ahead; told = told }

-- what a turn leaves, how many bytes of the input it used, and its text
pub record Turning : Type 0 where
  pub stand : Stand
  pub used : ℕ
  pub text : List ℕ

module _ (words : List ℤ) (bytes recording : List ℕ) where
  -- ---- a command: what it leaves to play, and the text that it is answered at once
  unfoldable pub to_play : Shelf → Command → Ahead
  to_play h c = cond (eqb c.kind 5) (cued recording (sought words bytes recording h c.k) c.k c.n) silent

  unfoldable pub at_once : Shelf → Command → List ℕ
  at_once h c = cond (eqb c.kind 5) (answered (sought words bytes recording h c.k).number []) (said words bytes recording h c)

  -- the end of a line, with so many bytes used
  unfoldable pub ends : Shelf → Line → ℕ → Turning
  ends h line used = record {
    stand = record { shelf = left words bytes recording h (command (held_line line)); line = kept []; ahead = to_play h (command (held_line line)); told = false };
    used = used;
    text = at_once h (command (held_line line));
  }

  -- ---- what is unread of the input, nothing being its end
  unfoldable pub takes : Stand → List ℕ → Turning
  takes s chunk =
      let k : ℕ = line_end chunk in
      let more : Line = fed_all push s.line (take k chunk) in
      cond (eqb (length chunk) 0)
      (cond (eqb s.line.n 0) (record { stand = still s s.line true; used = 0; text = [] }) (ends s.shelf s.line 0))
      (cond (eqb k (length chunk)) (record { stand = still s more false; used = k; text = [] }) (ends s.shelf more (k + 1)))

  -- ---- a turn
  unfoldable pub turn_by : List (List ℕ) → Stand → List ℕ → Turning
  turn_by [] s chunk = takes s chunk
  turn_by (line ∷ more) s chunk = record {
    stand = record { shelf = s.shelf; line = s.line; ahead = record { state = line_step words bytes s.ahead.state line; frames = more }; told = false };
    used = 0;
    text = line_text words bytes s.ahead.state line;
  }

  unfoldable pub turn : Stand → List ℕ → Turning
  turn s chunk = turn_by s.ahead.frames s chunk

-- ---- what the functions promise: any command, on the shelf h
pub record Obeys (words : List ℤ) (bytes recording : List ℕ) (h : Shelf) (c : Command) (room : List ℕ) (r : Obeyed) (images now : List ℕ) : Type 0 where
  pub shelf : shelf r.slots images ≡ left words bytes recording h c
  pub cue : ahead_of recording r.cue ≡ to_play words bytes recording h c
  pub put : Put (at_once words bytes recording h c) room r.n now

-- the next frame's line, and what is left behind it
abbrev pub line_at : List ℕ → Cue → List ℕ
line_at recording c = take (line_end (drop c.place recording)) (drop c.place recording)

pub record Plays (words : List ℤ) (bytes recording : List ℕ) (c : Cue) (room : List ℕ) (r : Played) (now : List ℕ) : Type 0 where
  pub first : ahead recording c ≡ line_at recording c ∷ ahead recording r.cue
  pub state : r.cue.state ≡ line_step words bytes c.state (line_at recording c)
  pub long : r.n ≡ length (line_text words bytes c.state (line_at recording c))
  pub fits : r.n ≤ 1283
  pub put : now ≡ over (line_text words bytes c.state (line_at recording c)) room

-- a turn
pub record Took (recording : List ℕ) (t : Turning) (room : List ℕ) (r : Turned) (images now : List ℕ) : Type 0 where
  pub stand : seen recording r.player images ≡ t.stand
  pub used : r.used ≡ t.used
  pub long : r.n ≡ length t.text
  pub fits : r.n ≤ 1283
  pub put : now ≡ over t.text room

-- a turn of the program, given what is unread of a chunk, from one place to another: where it leaves the player, how far it used the chunk and, unless that failed, how much was sent
abbrev pub turn_of : List ℕ → List ℕ → List ℕ → Player → List ℕ → ℕ → ℕ → Turning
turn_of file recording chunk p images at to = turn (File.words file) (File.bytes file) recording (seen recording p images) (take (to - at) (drop at chunk))

pub record Sent (recording : List ℕ) (t : Turning) (at : ℕ) (next : Player) (images : List ℕ) (behind sent : ℕ) (failed : Bool) : Type 0 where
  pub stand : seen recording next images ≡ t.stand
  pub used : behind ≡ at + t.used
  pub all_sent : failed ≡ false → sent ≡ length t.text

-- ---- laws: which turn it is
module _ (words : List ℤ) (bytes recording : List ℕ) where
  module _ (s : Stand) (chunk : List ℕ) where
    pub takes_told : length chunk ≡ 0 → s.line.n ≡ 0 → takes words bytes recording s chunk ≡ record { stand = still s s.line true; used = 0; text = [] }
    unfolding takes
    takes_told e f = rw (eq-eqb (length chunk) 0 e, eq-eqb s.line.n 0 f)

    pub takes_open : length chunk ≡ 0 → (s.line.n ≡ 0 → ⊥) → takes words bytes recording s chunk ≡ ends words bytes recording s.shelf s.line 0
    unfolding takes
    takes_open e f = rw (eq-eqb (length chunk) 0 e, ne_eqb s.line.n 0 f)

    pub takes_more : (length chunk ≡ 0 → ⊥) → line_end chunk ≡ length chunk → takes words bytes recording s chunk ≡ record { stand = still s (fed_all push s.line (take (line_end chunk) chunk)) false; used = line_end chunk; text = [] }
    unfolding takes
    takes_more e f = rw (ne_eqb (length chunk) 0 e, eq-eqb (line_end chunk) (length chunk) f)

    pub takes_line : (length chunk ≡ 0 → ⊥) → (line_end chunk ≡ length chunk → ⊥) → takes words bytes recording s chunk ≡ ends words bytes recording s.shelf (fed_all push s.line (take (line_end chunk) chunk)) (line_end chunk + 1)
    unfolding takes
    takes_line e f = rw (ne_eqb (length chunk) 0 e, ne_eqb (line_end chunk) (length chunk) f)

    pub turn_takes : s.ahead.frames ≡ [] → turn words bytes recording s chunk ≡ takes words bytes recording s chunk
    unfolding turn turn_by
    turn_takes e = rw e

    pub turn_plays : (l : List ℕ) (ls : List (List ℕ)) → s.ahead.frames ≡ l ∷ ls → turn words bytes recording s chunk ≡ record { stand = record { shelf = s.shelf; line = s.line; ahead = record { state = line_step words bytes s.ahead.state l; frames = ls }; told = false }; used = 0; text = line_text words bytes s.ahead.state l }
    unfolding turn turn_by
    turn_plays l ls e = rw e
