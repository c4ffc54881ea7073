-- However the input is cut into reads: the texts of the turns, joined, are the program's.
use Prim.Native.Nat.{ℕ, zero, suc, ◌+◌, ◌*◌, ◌<◌, ◌≤◌}
use Rattle.std.specs.Prelude.{◌≡◌, Bool, cond, not, ◌&&◌, ltb, ℤ}
use Rattle.std.proofs.Math.Path.{refl, ap}
use Rattle.std.proofs.Common.{◌∙◌, add-one, mul-suc, mul-le-mul_left, ne_eqb, eqb-true, le-leb, ltb-true, ltb-false}
use mathlib.Core.List.{List, [], ◌∷◌, ◌++◌, append_assoc, append-nil}
use Rattle.std.proofs.Math.Bool.{true, false}
use native.Mathlib.Omega.{arith}
use Rattle.std.proofs.Math.Dec.{eqb}
use Rattle.std.proofs.Math.ListN.{length, take, drop, length-append, length-take, length-drop, drop_of_length-le}
use Rattle.std.proofs.Math.Seq.{take_all}
use Rattle.std.proofs.lemmas.Bool.{eqb-false, lt-leb}
use Rattle.stream.specs.Lines.{pieces, of_pieces, lines, plain, line_first, line_last}
use Rattle.stream.specs.Held.{count, shown, zeros, start_take}
use Rattle.stream.specs.Machine.{fed_all}
use Rattle.stream.specs.Reads.{Read, bytes, input_of}
use Rattle.stream.specs.Told.{texts}
use Rattle.hex_lines.specs.declared.Line.{Line}
use Rattle.hex_lines.specs.Held.{kept, push, held_line}
use Rattle.table_file.specs.File as File
use Rattle.state.specs.declared.State.{State}
use Rattle.heard.specs.Recording.{line_step, line_text, tables_text}
use Rattle.heard.specs.Start as Start
use Rattle.shelf.specs.Run.{Shelf}
use Rattle.shelf.specs.Run as Run
use Rattle.places.specs.Frames.{frames}
use Rattle.places.specs.Places.{line_end, end_nil, end_newline, end_other, kept_more}
use Rattle.commands.specs.Commands.{Command, command, argument, starts, unknown}
use Rattle.replies.specs.Replies.{answered}
use Rattle.replies.specs.Promised.{Ahead, silent, ahead, cued}
use Rattle.playback.specs.Playback.{says, sought, played, left, said, line_left, line_said, transcript, output, program}
use Rattle.playback.specs.Turns.{Stand, start, seen, Turning, to_play, at_once, ends, still, turn, takes_told, takes_open, takes_more, takes_line, turn_takes, turn_plays}

-- ---- what is unread: of the last read, and the reads that are to come
pub record Unread : Type 0 where
  pub chunk : List ℕ
  pub reads : List Read

abbrev pub unread : Unread → List ℕ
unread u = u.chunk ++ input_of u.reads

-- a read is made where no frame is left to play and all of the one before it was used; behind the last it gives nothing
unfoldable pub refilled : List ℕ → List Read → Unread
refilled (b ∷ bs) rs = record { chunk = b ∷ bs; reads = rs }
refilled [] (r ∷ rs) = record { chunk = bytes r; reads = rs }
refilled [] [] = record { chunk = []; reads = [] }

unfoldable pub wanted : List (List ℕ) → Unread → Unread
wanted (l ∷ ls) u = u
wanted [] u = refilled u.chunk u.reads

-- turn by turn, until all is told or n turns are made
unfoldable pub spoken : List ℤ → List ℕ → List ℕ → ℕ → Stand → Unread → List ℕ
spoken words tables recording zero s u = []
spoken words tables recording (suc n) s u =
    let v : Unread = wanted s.ahead.frames u in
    let t : Turning = turn words tables recording s v.chunk in
    cond s.told [] (t.text ++ spoken words tables recording n t.stand (record { chunk = drop t.used v.chunk; reads = v.reads }))

-- THE PROGRAM, as its calls promise it: the start's text and, where that is no refusal, those of the turns
unfoldable pub talked : List ℕ → List ℕ → ℕ → List Read → List ℕ
talked file recording n reads =
    Start.start_text file
    ++ cond (eqb (Start.started file).number 0) (spoken (File.words file) (File.bytes file) recording n (seen recording start (Run.zeros).images) (record { chunk = []; reads = reads })) []

-- ---- a chunk up to its first newline
pub record Cut (chunk : List ℕ) : Type 0 where
  pub plain_first : plain (take (line_end chunk) chunk) ≡ true
  pub within : line_end chunk ≤ length chunk
  pub split : line_end chunk < length chunk → chunk ≡ take (line_end chunk) chunk ++ (10 ∷ drop (suc (line_end chunk)) chunk)

cut : (chunk : List ℕ) → Cut chunk
cut [] = record { plain_first = rw end_nil; within = omega (arith, end_nil); split = λ h. absurd (omega arith) }
cut (b ∷ bs) = by (eqb b 10) refl (cut bs)
  where
    by : (t : Bool) → eqb b 10 ≡ t → Cut bs → Cut (b ∷ bs)
    by true e c =
        let n = end_newline b bs (eqb-true b 10 e) in
        record { plain_first = rw n; within = omega arith; split = λ h. rw (n, eqb-true b 10 e) }
    by false e c =
        let n = end_other b bs (eqb-false b 10 e) in
        let w = c.within in
        record { plain_first = rw (n, e) c.plain_first; within = omega arith; split = λ h. rw n (ap (λ (l : List ℕ). b ∷ l) (c.split (omega arith))) }

plain_append : (xs ys : List ℕ) → plain xs ≡ true → plain ys ≡ true → plain (xs ++ ys) ≡ true
plain_append [] ys e f = f
plain_append (x ∷ xs) ys e f = by (not (eqb x 10)) e (λ g. plain_append xs ys g f)
  where
    by : (t : Bool) → t && plain xs ≡ true → (plain xs ≡ true → plain (xs ++ ys) ≡ true) → t && plain (xs ++ ys) ≡ true
    by true e g = g e
    by false e g = e

-- ---- what is held of a line
kept_all : (line part : List ℕ) → fed_all push (kept line) part ≡ kept (line ++ part)
unfolding fed_all
kept_all line [] = rw append-nil
kept_all line (b ∷ bs) = rw (kept_more line b) (kept_all (line ++ (b ∷ [])) bs ∙ rw append_assoc)

-- a line of more than 40 bytes is held as zeros, which say nothing that is known
zeros_unknown : command (zeros 41) ≡ unknown
unfolding command argument starts
zeros_unknown = refl

says_held : (line : List ℕ) → command (held_line (kept line)) ≡ says line
unfolding held_line kept shown says
says_held line = by (ltb 40 (length line)) refl
  where
    by : (t : Bool) → ltb 40 (length line) ≡ t → command (held_line (kept line)) ≡ says line
    by true e = let h = ltb-true 40 (length line) e in rw (e, lt-leb (count 40 line) 40 (omega arith)) zeros_unknown
    by false e =
        let h = ltb-false 40 (length line) e in
        let n : count 40 line ≡ length line = omega arith in
        rw (e, le-leb (count 40 line) 40 (omega arith), n, start_take 40 line h)

-- a number that is one less, times w
below : (w x y : ℕ) → x < y → w * x + w ≤ w * y
below w x y h = let m : w * suc x ≤ w * y = mul-le-mul_left w h in let e = mul-suc w x in omega arith

module _ (words : List ℤ) (tables recording : List ℕ) where
  abbrev frame_texts : State → List (List ℕ) → List ℕ
  frame_texts = texts (line_step words tables) (line_text words tables)

  abbrev command_texts : Shelf → List (List ℕ) → List ℕ
  command_texts = texts (line_left words tables recording) (line_said words tables recording)

  abbrev most : ℕ
  most = length (frames recording)

  -- ---- a command's text is what is said at once and what is left to play
  played_parts : (h : Shelf) (c : Command) (t : Bool) → eqb (sought words tables recording h c.k).number 0 ≡ t
      → answered (sought words tables recording h c.k).number (played words tables recording (sought words tables recording h c.k).state c.k c.n)
      ≡ answered (sought words tables recording h c.k).number [] ++ frame_texts (cued recording (sought words tables recording h c.k) c.k c.n).state (cued recording (sought words tables recording h c.k) c.k c.n).frames
  unfolding answered played cued texts
  played_parts h c true e = rw e
  played_parts h c false e = rw (e, append-nil)

  said_parts : (h : Shelf) (c : Command) → said words tables recording h c ≡ at_once words tables recording h c ++ frame_texts (to_play words tables recording h c).state (to_play words tables recording h c).frames
  unfolding said at_once to_play texts
  said_parts h c = by (eqb c.kind 5) refl
    where
      by : (t : Bool) → eqb c.kind 5 ≡ t → said words tables recording h c ≡ at_once words tables recording h c ++ frame_texts (to_play words tables recording h c).state (to_play words tables recording h c).frames
      by true e = rw (eqb-true c.kind 5 e) (played_parts h c (eqb (sought words tables recording h c.k).number 0) refl)
      by false e = rw (e, append-nil)

  play_most : (h : Shelf) (c : Command) → length (to_play words tables recording h c).frames ≤ most
  unfolding to_play cued
  play_most h c = by (eqb c.kind 5) (eqb (sought words tables recording h c.k).number 0)
    where
      by : (a b : Bool) → length (cond {A = Ahead} a (cond b (record { state = (sought words tables recording h c.k).state; frames = take c.n (drop c.k (frames recording)) }) silent) silent).frames ≤ most
      by true true = let t = length-take c.n (drop c.k (frames recording)) in let d = length-drop c.k (frames recording) in omega arith
      by true false = omega arith
      by false b = omega arith

  -- the end of a line
  ended : (h : Shelf) (line : List ℕ) (l : Line) (more : List (List ℕ)) → l ≡ kept line
      → at_once words tables recording h (command (held_line l)) ++ (frame_texts (to_play words tables recording h (command (held_line l))).state (to_play words tables recording h (command (held_line l))).frames ++ command_texts (left words tables recording h (command (held_line l))) more)
      ≡ command_texts h (line ∷ more)
  unfolding texts line_left line_said
  ended h line l more e = rw (e, says_held line, said_parts h (says line), append_assoc)

  -- ---- where the player stands: with a line open, and not all told
  pub record Open (s : Stand) (line : List ℕ) : Type 0 where
    pub held : s.line ≡ kept line
    pub plain_line : plain line ≡ true
    pub untold : s.told ≡ false

  -- what is to be written from there
  rest : Stand → List ℕ → List ℕ → List ℕ
  rest s line input = frame_texts s.ahead.state s.ahead.frames ++ command_texts s.shelf (lines (line ++ input))

  -- and in how many turns: one for each frame, each byte and the end, and each line has no more frames than the recording
  pending : List ℕ → ℕ
  pending [] = 0
  pending (b ∷ bs) = most + 1

  cost : Stand → List ℕ → List ℕ → ℕ
  cost s line input = length s.ahead.frames + pending line + (most + 2) * length input + 1

  abbrev Told : ℕ → Type 0
  Told n = (s : Stand) (u : Unread) (line : List ℕ) → Open s line → cost s line (unread u) ≤ n → spoken words tables recording n s u ≡ rest s line (unread u)

  pending_most : (line : List ℕ) → pending line ≤ most + 1
  unfolding pending
  pending_most [] = omega arith
  pending_most (b ∷ bs) = omega arith

  -- a turn
  spoken_turn : (n : ℕ) (s : Stand) (u v : Unread) (t : Turning) → s.told ≡ false → wanted s.ahead.frames u ≡ v → turn words tables recording s v.chunk ≡ t → spoken words tables recording (suc n) s u ≡ t.text ++ spoken words tables recording n t.stand (record { chunk = drop t.used v.chunk; reads = v.reads })
  unfolding spoken
  spoken_turn n s u v t z w e = rw (w, e, z)

  spoken_told : (n : ℕ) (s : Stand) (u : Unread) → s.told ≡ true → spoken words tables recording n s u ≡ []
  unfolding spoken
  spoken_told zero s u e = refl
  spoken_told (suc n) s u e = rw e

  module _ (n : ℕ) (then : Told n) (s : Stand) (line : List ℕ) (o : Open s line) where
    -- a frame is played
    plays : (u : Unread) (l : List ℕ) (ls : List (List ℕ)) → s.ahead.frames ≡ l ∷ ls → cost s line (unread u) ≤ suc n → spoken words tables recording (suc n) s u ≡ rest s line (unread u)
    unfolding wanted rest cost texts
    plays u l ls e m =
        let t : Turning = record { stand = record { shelf = s.shelf; line = s.line; ahead = record { state = line_step words tables s.ahead.state l; frames = ls }; told = false }; used = 0; text = line_text words tables s.ahead.state l } in
        let k = ap length e in
        spoken_turn n s u u t o.untold (rw e) (turn_plays words tables recording s u.chunk l ls e)
        ∙ ap (λ (x : List ℕ). t.text ++ x) (then t.stand u line (record { held = o.held; plain_line = o.plain_line; untold = refl }) (omega arith))
        ∙ rw (e, append_assoc)

    module _ (none : s.ahead.frames ≡ []) where
      -- a line ends
      ends_line : (u v : Unread) (whole : List ℕ) (l : Line) (used : ℕ) (more : List ℕ) → l ≡ kept whole → wanted s.ahead.frames u ≡ v → turn words tables recording s v.chunk ≡ ends words tables recording s.shelf l used → drop used v.chunk ++ input_of v.reads ≡ more → most + (most + 2) * length more + 1 ≤ n
          → lines (line ++ unread u) ≡ whole ∷ lines more
          → spoken words tables recording (suc n) s u ≡ rest s line (unread u)
      unfolding ends rest cost pending texts
      ends_line u v whole l used more k w t d m is =
          let c = command (held_line l) in
          let p = play_most s.shelf c in
          let s' : Stand = (ends words tables recording s.shelf l used).stand in
          let u' : Unread = record { chunk = drop used v.chunk; reads = v.reads } in
          let q : cost s' [] (unread u') ≤ n = rw d (omega arith) in
          spoken_turn n s u v (ends words tables recording s.shelf l used) o.untold w t
          ∙ ap (λ (x : List ℕ). at_once words tables recording s.shelf c ++ x) (then s' u' [] (record { held = refl; plain_line = refl; untold = refl }) q)
          ∙ rw (d, none, is) (ended s.shelf whole l (lines more) k)

      -- some bytes are taken in
      module _ (u : Unread) (b : ℕ) (bs : List ℕ) (rs : List Read) (w : wanted s.ahead.frames u ≡ record { chunk = b ∷ bs; reads = rs }) (same : unread u ≡ (b ∷ bs) ++ input_of rs) (m : cost s line (unread u) ≤ suc n) where
        pushed : fed_all push s.line (take (line_end (b ∷ bs)) (b ∷ bs)) ≡ kept (line ++ take (line_end (b ∷ bs)) (b ∷ bs))
        pushed = rw o.held (kept_all line (take (line_end (b ∷ bs)) (b ∷ bs)))

        long : length (unread u) ≡ suc (length bs) + length (input_of rs)
        long = ap length same ∙ length-append (b ∷ bs) (input_of rs)

        part : line_end (b ∷ bs) ≡ length (b ∷ bs) → spoken words tables recording (suc n) s u ≡ rest s line (unread u)
        unfolding rest cost
        part e =
            let more : Line = fed_all push s.line (take (line_end (b ∷ bs)) (b ∷ bs)) in
            let t : Turning = record { stand = still s more false; used = line_end (b ∷ bs); text = [] } in
            let u' : Unread = record { chunk = drop (line_end (b ∷ bs)) (b ∷ bs); reads = rs } in
            let a = take_all (line_end (b ∷ bs)) (b ∷ bs) (omega arith) in
            let d = drop_of_length-le (b ∷ bs) {i = line_end (b ∷ bs)} (omega arith) in
            let l = long in
            let f = below (most + 2) (length (input_of rs)) (length (unread u)) (omega arith) in
            let g = pending_most (line ++ (b ∷ bs)) in
            let z = ap length none in
            let q : cost t.stand (line ++ (b ∷ bs)) (unread u') ≤ n = rw d (omega arith) in
            spoken_turn n s u _ t o.untold w (turn_takes words tables recording s (b ∷ bs) none ∙ takes_more words tables recording s (b ∷ bs) (λ y. omega arith) e)
            ∙ then t.stand u' (line ++ (b ∷ bs)) (record { held = pushed ∙ ap (λ (x : List ℕ). kept (line ++ x)) a; plain_line = plain_append line (b ∷ bs) o.plain_line (rw a at (cut (b ∷ bs)).plain_first); untold = refl }) q
            ∙ rw (d, same, append_assoc)

        newline : (line_end (b ∷ bs) ≡ length (b ∷ bs) → ⊥) → spoken words tables recording (suc n) s u ≡ rest s line (unread u)
        unfolding cost
        newline z =
            let h = (cut (b ∷ bs)).within in
            let more : List ℕ = drop (line_end (b ∷ bs) + 1) (b ∷ bs) ++ input_of rs in
            let i : b ∷ bs ≡ take (line_end (b ∷ bs)) (b ∷ bs) ++ (10 ∷ drop (line_end (b ∷ bs) + 1) (b ∷ bs)) = rw (add-one (line_end (b ∷ bs))) ((cut (b ∷ bs)).split (omega arith)) in
            let l = long in
            let x = length-append (drop (line_end (b ∷ bs) + 1) (b ∷ bs)) (input_of rs) in
            let y = length-drop (line_end (b ∷ bs) + 1) (b ∷ bs) in
            let f = below (most + 2) (length more) (length (unread u)) (omega arith) in
            let g : line ++ unread u ≡ (line ++ take (line_end (b ∷ bs)) (b ∷ bs)) ++ (10 ∷ more) = rw same (ap (λ (v : List ℕ). line ++ (v ++ input_of rs)) i ∙ rw (append_assoc, append_assoc)) in
            ends_line u (record { chunk = b ∷ bs; reads = rs }) (line ++ take (line_end (b ∷ bs)) (b ∷ bs)) (fed_all push s.line (take (line_end (b ∷ bs)) (b ∷ bs))) (line_end (b ∷ bs) + 1) more pushed w
            (turn_takes words tables recording s (b ∷ bs) none ∙ takes_line words tables recording s (b ∷ bs) (λ v. omega arith) z)
            refl (omega arith)
            (ap lines g ∙ line_first (line ++ take (line_end (b ∷ bs)) (b ∷ bs)) more (plain_append line (take (line_end (b ∷ bs)) (b ∷ bs)) o.plain_line (cut (b ∷ bs)).plain_first))

        takes_in : spoken words tables recording (suc n) s u ≡ rest s line (unread u)
        takes_in = by (eqb (line_end (b ∷ bs)) (length (b ∷ bs))) refl
          where
            by : (t : Bool) → eqb (line_end (b ∷ bs)) (length (b ∷ bs)) ≡ t → spoken words tables recording (suc n) s u ≡ rest s line (unread u)
            by true e = part (eqb-true (line_end (b ∷ bs)) (length (b ∷ bs)) e)
            by false e = newline (eqb-false (line_end (b ∷ bs)) (length (b ∷ bs)) e)

  -- the input is at its end
  module _ (n : ℕ) (then : Told n) (s : Stand) where
    abbrev over : Unread
    over = record { chunk = []; reads = [] }

    at_end_lem : (line : List ℕ) → Open s line → s.ahead.frames ≡ [] → cost s line [] ≤ suc n → spoken words tables recording (suc n) s (record { chunk = []; reads = [] }) ≡ rest s line []
    unfolding wanted refilled input_of rest texts kept lines pieces of_pieces cost pending
    at_end_lem [] o none m =
        spoken_turn n s over over (record { stand = still s s.line true; used = 0; text = [] }) o.untold (rw none) (turn_takes words tables recording s [] none ∙ takes_told words tables recording s [] refl (ap (λ (l : Line). l.n) o.held))
        ∙ spoken_told n (still s s.line true) over refl
        ∙ rw none
    at_end_lem (b ∷ bs) o none m =
        let k = ap (λ (l : Line). l.n) o.held in
        ends_line n then s (b ∷ bs) o none over over (b ∷ bs) s.line 0 [] o.held (rw none) (turn_takes words tables recording s [] none ∙ takes_open words tables recording s [] refl (λ z. omega arith)) refl (fits m)
        (ap lines (append-nil (b ∷ bs)) ∙ line_last b bs o.plain_line ∙ refl)
      where
        fits : cost s (b ∷ bs) [] ≤ suc n → most + (most + 2) * length {A = ℕ} [] + 1 ≤ n
        fits m = omega arith

  -- ---- any turns
  one_more : (n : ℕ) → Told n → Told (suc n)
  unfolding wanted refilled input_of
  one_more n then s u line o m = by s.ahead.frames refl
    where
      taking : s.ahead.frames ≡ [] → (c : List ℕ) (rs : List Read) → cost s line (c ++ input_of rs) ≤ suc n → spoken words tables recording (suc n) s (record { chunk = c; reads = rs }) ≡ rest s line (c ++ input_of rs)
      taking e (b ∷ bs) rs q = takes_in n then s line o e (record { chunk = b ∷ bs; reads = rs }) b bs rs (rw e) refl q
      taking e [] (r ∷ rs) q = takes_in n then s line o e (record { chunk = []; reads = r ∷ rs }) r.head r.tail rs (rw e) refl q
      taking e [] [] q = at_end_lem n then s line o e q

      by : (fs : List (List ℕ)) → s.ahead.frames ≡ fs → spoken words tables recording (suc n) s u ≡ rest s line (unread u)
      by (l ∷ ls) e = plays n then s line o u l ls e m
      by [] e = taking e u.chunk u.reads m

  any_turns : (n : ℕ) → Told n
  unfolding cost
  any_turns zero s u line o m = absurd (omega arith)
  any_turns (suc n) s u line o m = one_more n (any_turns n) s u line o m

-- ---- THE THEOREM: with a turn for each byte, as many more as the recording has frames and one, and the last, the text is the definition's
module _ (file recording : List ℕ) (n : ℕ) (reads : List Read) (enough : (length (frames recording) + 2) * length (input_of reads) + 1 ≤ n) where
  spoken_whole : (words : List ℤ) (tables : List ℕ) → spoken words tables recording n (seen recording start (Run.zeros).images) (record { chunk = []; reads = reads }) ≡ transcript words tables recording (input_of reads)
  unfolding transcript rest cost pending texts ahead Run.zeros
  spoken_whole words tables = any_turns words tables recording n (seen recording start (Run.zeros).images) (record { chunk = []; reads = reads }) [] (record { held = refl; plain_line = refl; untold = refl }) (omega arith)

  by_number : (k : ℕ) → Start.start_text_by k file ++ cond (eqb (Start.started_by k file).number 0) (spoken (File.words file) (File.bytes file) recording n (seen recording start (Run.zeros).images) (record { chunk = []; reads = reads })) [] ≡ output k file recording (input_of reads)
  unfolding Start.start_text_by Start.started_by output
  by_number zero = spoken_whole (File.words file) (File.bytes file)
  by_number (suc k) = rw (ne_eqb (suc k) 0 (λ e. omega arith)) (append-nil (tables_text (suc k) file))

  pub program_told : talked file recording n reads ≡ program file recording (input_of reads)
  unfolding talked program Start.start_text Start.started
  program_told = by_number (File.check_file file)
