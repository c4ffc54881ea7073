-- A frame's fields as bytes that a player in C lends: of each number the lowest byte first.
use Rattle.std.specs.Prelude.{ℕ, ◌/◌, ◌%◌, ◌≡◌, refl, List, cond, eqb, get_or}
use Rattle.sequence.specs.Table.{table}
use Rattle.bits.specs.declared.FrameParams.{FrameParams}
use Rattle.bits.specs.Bits.{frame_params, list}
use Rattle.image.specs.Bytes.{bytes_of}
use Rattle.image.specs.Parts.{bytes_of_all, numbers_at}

-- ---- the 24 fields, in their order in Bits, two bytes each
abbrev pub FIELDS : ℕ
FIELDS = 48

unfoldable pub bytes_of_fields : FrameParams → List ℕ
bytes_of_fields f = bytes_of_all 2 (list f)

unfoldable pub fields_of_bytes : List ℕ → FrameParams
fields_of_bytes b = frame_params (numbers_at 2 24 b 0)

-- ---- byte k of the fields, as the code makes it
unfoldable pub byte_of : List ℕ → ℕ → ℕ
byte_of fs k = cond (eqb (k % 2) 0) (get_or fs (k / 2) 0 % 256) (get_or fs (k / 2) 0 / 256 % 256)

pub bytes_are : (f : FrameParams) → table (byte_of (list f)) FIELDS ≡ bytes_of_fields f
unfolding table byte_of bytes_of_fields bytes_of_all bytes_of
bytes_are f = refl
