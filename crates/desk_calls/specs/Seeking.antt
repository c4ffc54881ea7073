-- Seeking over lent memory: the number that it answers, and the image after it, by the call on states.
use Rattle.std.specs.Prelude.{ℕ, List, not, cond, eqb, length}
use Rattle.image.specs.Image.{SIZE, image}
use Rattle.desk_records.specs.Records.{records}
use Rattle.seek.specs.Seek.{Sought}
use Rattle.seek.specs.Seek as Seek
use Rattle.desk_calls.specs.Desk.{words, bytes}

-- the call on states: tables of another length are refused with 1, in its place
abbrev pub sought : List ℕ → List ℕ → List ℕ → List ℕ → ℕ → Sought
sought tables b m recording k = Seek.seek (words tables) (bytes tables) (records b) m recording k

-- an image of another length is 11, before all others, and stays; refused with another number it becomes the all-zero state's
unfoldable pub seek_number : List ℕ → List ℕ → List ℕ → List ℕ → ℕ → ℕ → ℕ
seek_number tables b m recording k room = cond (not (eqb room SIZE)) 11 (sought tables b m recording k).number

unfoldable pub seek_image : List ℕ → List ℕ → List ℕ → List ℕ → ℕ → List ℕ → List ℕ
seek_image tables b m recording k old = cond (not (eqb (length old) SIZE)) old (image (sought tables b m recording k).state)
