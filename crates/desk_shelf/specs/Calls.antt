-- The shelf's calls over lent bytes: what each decides, by the shelf's call on the records that the bytes stand for, and each buffer after it.
use Rattle.std.specs.Prelude.{ℕ, not, cond, List, [], ◌∷◌, eqb, length, set}
use Rattle.image.specs.Image as Image
use Rattle.image.specs.Image.{SIZE}
use Rattle.slot_users.specs.Users.{Decision, refuse, change}
use Rattle.shelf.specs.Shelf as Shelf
use Rattle.desk_records.specs.Records.{records, bytes_of_records}

-- ---- of a decision: the records b after it, and what stands in the room for a slot's number
unfoldable pub records_after : Decision → List ℕ → List ℕ
records_after (refuse n) b = b
records_after (change k s) b = bytes_of_records (set (records b) k s)

unfoldable pub slot_after : Decision → List ℕ → List ℕ
slot_after (refuse n) old = old
slot_after (change k s) old = k ∷ []

-- ---- the calls on the records b, beside so many bytes of images, or the images m
unfoldable pub hold : List ℕ → ℕ → ℕ → Decision
hold b room k = Shelf.hold (records b) room k

unfoldable pub let_go : List ℕ → ℕ → ℕ → Decision
let_go b room k = Shelf.let_go (records b) room k

-- an image i of another length is 11, before all others; then a room of so many bytes for the slot, if it is not one byte, 12
unfoldable pub save : List ℕ → ℕ → List ℕ → ℕ → ℕ → Decision
save b room i f answers = cond (not (eqb (length i) SIZE)) (refuse 11) (cond (not (eqb answers 1)) (refuse 12) (Shelf.save (records b) room (Image.state i) f))

-- the image that a save writes: of the state that it was lent
abbrev pub saved_image : List ℕ → List ℕ
saved_image i = Image.image (Image.state i)

-- into an image of another length nothing is fetched; refused, the image is the all-zero state's
unfoldable pub fetch_number : List ℕ → List ℕ → ℕ → ℕ → ℕ
fetch_number b m k room = cond (not (eqb room SIZE)) 11 (Shelf.fetch (records b) m k).number

unfoldable pub fetch_image : List ℕ → List ℕ → ℕ → List ℕ → List ℕ
fetch_image b m k old = cond (not (eqb (length old) SIZE)) old (Image.image (Shelf.fetch (records b) m k).state)
