-- The calls over lent memory: the number that each answers, and each buffer after it, by the calls on states. The tables are the table file's bytes.
use Rattle.std.specs.Prelude.{ℕ, ◌*◌, ◌/◌, List, map, not, cond, ◌&&◌, eqb, leb, ℤ, pos, length, drop, set, replicate}
use Rattle.tables.specs.Places.{WORDS}
use Rattle.state.specs.declared.State.{State}
use Rattle.state.specs.State.{initial, reset, cold_start, missed_frame}
use Rattle.calls.specs.Celp as Celp
use Rattle.calls.specs.Frames as Frames
use Rattle.image.specs.Parts.{numbers_at, bytes_of_all}
use Rattle.image.specs.Image.{SIZE, signed, unsigned, image, state}

-- ---- the lent memory
-- how many bytes the tables are, and how many the samples of a frame; where an image has its mark, and how sure it is
abbrev pub TABLES : ℕ
TABLES = 15834

abbrev pub ROOM : ℕ
ROOM = 640

abbrev pub MARK : ℕ
MARK = 524

abbrev pub SURE : ℕ
SURE = 525

-- an image with 0 in both
abbrev pub lowered : List ℕ → List ℕ
lowered b = set (set b MARK 0) SURE 0

-- the tables' words, two bytes each, the low one first, and the bytes behind them
unfoldable pub words : List ℕ → List ℤ
words tables = map (signed 2) (numbers_at 2 WORDS tables 0)

abbrev pub bytes : List ℕ → List ℕ
bytes tables = drop (2 * WORDS) tables

-- samples as bytes, the low one first
abbrev pub sample_bytes : List ℤ → List ℕ
sample_bytes samples = bytes_of_all 2 (map (unsigned 2) samples)

abbrev pub zeros : ℕ → List ℕ
zeros n = replicate n 0

-- ---- refusals
-- 11 for an image of another length, before all others; then 1 for tables of another length; then n
unfoldable pub barred : List ℕ → List ℕ → ℕ → ℕ
barred tables b n = cond (not (eqb (length b) SIZE)) 11 (cond (not (eqb (length tables) TABLES)) 1 n)

-- what a refused call that takes a state leaves of its image: with 11 all of it, else all but the last two bytes, which become 0
unfoldable pub unmarked : ℕ → List ℕ → List ℕ
unmarked n b = cond (eqb n 11) b (lowered b)

-- ---- reset and cold start: the image is the state's that a call starts from; with 11 it stays, and with any other number it becomes all zero
unfoldable pub begun : ℕ → State → List ℕ → List ℕ
begun n s b = cond (eqb n 0) (image s) (cond (eqb n 11) b (zeros SIZE))

unfoldable pub reset_number : List ℕ → List ℕ → ℕ
reset_number tables b = barred tables b (reset (words tables) (bytes tables)).number

unfoldable pub reset_image : List ℕ → List ℕ → List ℕ
reset_image tables b = begun (reset_number tables b) (initial (words tables) (bytes tables) 2) b

unfoldable pub cold_number : List ℕ → List ℕ → ℕ
cold_number tables b = barred tables b (cold_start (words tables) (bytes tables)).number

unfoldable pub cold_image : List ℕ → List ℕ → List ℕ
cold_image tables b = begun (cold_number tables b) (initial (words tables) (bytes tables) 0) b

-- ---- a frame, with room for so many bytes of samples; a room of another length is 2, and behind that document 01's numbers come in their order
unfoldable pub decode_number : List ℕ → List ℕ → List ℕ → ℕ → ℕ
decode_number tables b payload room = barred tables b (cond (not (eqb room ROOM)) 2 (Celp.refusal (words tables) (bytes tables) (state b) payload 320))

unfoldable pub decode_image : List ℕ → List ℕ → List ℕ → ℕ → List ℕ
decode_image tables b payload room =
    cond (eqb (decode_number tables b payload room) 0) (image (Celp.decode (words tables) (bytes tables) (state b) payload 320).state)
    (unmarked (decode_number tables b payload room) b)

-- old is what stood in the room
unfoldable pub decode_samples : List ℕ → List ℕ → List ℕ → List ℕ → List ℕ
decode_samples tables b payload old =
    cond (eqb (decode_number tables b payload (length old)) 0) (sample_bytes (Celp.samples (words tables) (bytes tables) (state b) payload (replicate 320 (pos 0)))) old

-- ---- 1 to 64 frames, with room for so many bytes of samples and for so many numbers
-- how many samples a room has: 320 for each 640 bytes, of 64 frames at most; a room of another length has none, which no frames could go to
unfoldable pub samples_in : ℕ → ℕ
samples_in room = cond (eqb room (ROOM * (room / ROOM)) && leb (room / ROOM) 64) (320 * (room / ROOM)) 0

-- the samples that stand in a room
unfoldable pub standing : List ℕ → List ℤ
standing old = map (signed 2) (numbers_at 2 (samples_in (length old)) old 0)

unfoldable pub frames_number : List ℕ → List ℕ → List ℕ → ℕ → ℕ → ℕ
frames_number tables b payloads room answers = barred tables b (Frames.frames_refusal (words tables) (bytes tables) (state b) payloads (samples_in room) answers)

unfoldable pub frames_image : List ℕ → List ℕ → List ℕ → ℕ → ℕ → List ℕ
frames_image tables b payloads room answers =
    cond (eqb (frames_number tables b payloads room answers) 0) (image (Frames.decode_frames (words tables) (bytes tables) (state b) payloads (samples_in room) answers).state)
    (unmarked (frames_number tables b payloads room answers) b)

-- a frame that is refused writes back what stood there
unfoldable pub frames_samples : List ℕ → List ℕ → List ℕ → List ℕ → ℕ → List ℕ
frames_samples tables b payloads old answers =
    cond (eqb (frames_number tables b payloads (length old) answers) 0) (sample_bytes (Frames.frames_samples (words tables) (bytes tables) (state b) payloads (standing old) answers)) old

unfoldable pub frames_numbers : List ℕ → List ℕ → List ℕ → ℕ → List ℕ → List ℕ
frames_numbers tables b payloads room old =
    cond (eqb (frames_number tables b payloads room (length old)) 0) (Frames.frames_numbers (words tables) (bytes tables) (state b) payloads (samples_in room) old) old

-- ---- a missed frame
unfoldable pub missed_number : List ℕ → ℕ
missed_number b = cond (not (eqb (length b) SIZE)) 11 (missed_frame (state b)).number

unfoldable pub missed_image : List ℕ → List ℕ
missed_image b = unmarked (missed_number b) b
