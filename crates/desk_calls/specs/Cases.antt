-- Worked calls: which number comes first, what is written, and the order of a sample's bytes.
use Rattle.std.specs.Prelude.{ℕ, ◌≡◌, refl, List, [], ◌∷◌, ◌++◌, pos, negsuc, replicate}
use Rattle.std.specs.Float.Ieee.{of_bits}
use Rattle.floats.specs.Floats.{within}
use Rattle.state.specs.State.{obeys, missed_frame}
use Rattle.image.specs.Bytes.{bytes_of, number_at}
use Rattle.image.specs.Parts.{bytes_of_all, numbers_at, cut}
use Rattle.image.specs.Image.{signed, unsigned, layout, of_numbers, state}
use Rattle.sequence.specs.Table.{table}
use Rattle.desk_calls.specs.Desk.{zeros, sample_bytes, barred, unmarked, begun, reset_number, reset_image, cold_number, decode_number, decode_image, decode_samples, samples_in, standing, frames_number, frames_image, frames_samples, frames_numbers, missed_number, missed_image}

-- 1,000 is 3 · 256 + 232, and -2 is 65,534
two_samples : sample_bytes (pos 1000 ∷ negsuc 1 ∷ []) ≡ 232 ∷ 3 ∷ 254 ∷ 255 ∷ []
unfolding bytes_of_all bytes_of unsigned
two_samples = refl

-- with nothing lent it is 11, and nothing is written
nothing_lent : (decode_number [] [] [] 0 ≡ 11) × (decode_image [] [] [] 0 ≡ []) × (reset_number [] [] ≡ 11) × (reset_image [] [] ≡ []) × (cold_number [] [] ≡ 11) × (missed_number [] ≡ 11)
unfolding decode_number decode_image reset_number reset_image cold_number missed_number barred begun unmarked
nothing_lent = (refl, refl, refl, refl, refl, refl)

-- an image a byte short, and one a byte long
short_and_long : (missed_number (zeros 525) ≡ 11) × (missed_number (zeros 527) ≡ 11) × (missed_image (2 ∷ zeros 526) ≡ 2 ∷ zeros 526)
unfolding missed_number missed_image unmarked
short_and_long = (refl, refl, refl)

-- an image and no tables: 1. A reset makes it all zero, a decode takes the last two bytes alone
no_tables : (payload samples : List ℕ) → (reset_number [] (replicate 526 7) ≡ 1) × (reset_image [] (replicate 526 7) ≡ zeros 526) × (decode_image [] (replicate 526 7) payload 640 ≡ replicate 524 7 ++ (0 ∷ 0 ∷ [])) × (decode_samples [] (replicate 526 7) payload samples ≡ samples)
unfolding reset_number reset_image decode_number decode_image decode_samples barred begun unmarked
no_tables payload samples = (refl, refl, refl, refl)

-- room for 641 bytes is 2, and so is none
wrong_room : (payload : List ℕ) → (decode_number (zeros 15834) (zeros 526) payload 641 ≡ 2) × (decode_number (zeros 15834) (zeros 526) payload 0 ≡ 2)
unfolding decode_number barred
wrong_room payload = (refl, refl)

-- a missed frame on an image whose last bytes are 2 and 1, and on one whose mark, and one whose last byte, is 3, which is broken
missed_frames : (missed_number (zeros 524 ++ (2 ∷ 1 ∷ [])) ≡ 0) × (missed_image (zeros 524 ++ (2 ∷ 1 ∷ [])) ≡ zeros 526) × (missed_number (zeros 524 ++ (3 ∷ 0 ∷ [])) ≡ 5) × (missed_number (zeros 524 ++ (2 ∷ 3 ∷ [])) ≡ 5) × (missed_image (zeros 524 ++ (2 ∷ 3 ∷ [])) ≡ zeros 526)
unfolding missed_number missed_image unmarked missed_frame obeys state of_numbers cut layout numbers_at table number_at signed of_bits within
missed_frames = (refl, refl, refl, refl, refl)

-- and on one whose first residual has a NaN's pattern: its bytes stay
a_nan : (missed_number (zeros 388 ++ (1 ∷ 2 ∷ 192 ∷ 127 ∷ zeros 132) ++ (2 ∷ 2 ∷ [])) ≡ 5) × (missed_image (zeros 388 ++ (1 ∷ 2 ∷ 192 ∷ 127 ∷ zeros 132) ++ (2 ∷ 2 ∷ [])) ≡ zeros 388 ++ (1 ∷ 2 ∷ 192 ∷ 127 ∷ zeros 132) ++ (0 ∷ 0 ∷ []))
unfolding missed_number missed_image unmarked missed_frame obeys state of_numbers cut layout numbers_at table number_at signed of_bits within
a_nan = (refl, refl)

-- ---- 1 to 64 frames
-- 640 bytes are a frame's samples, 40,960 those of 64; a byte less or more, none, and those of 65 are no room
rooms : (samples_in 640 ≡ 320) × (samples_in 40960 ≡ 20480) × (samples_in 639 ≡ 0) × (samples_in 641 ≡ 0) × (samples_in 0 ≡ 0) × (samples_in 41600 ≡ 0)
unfolding samples_in
rooms = (refl, refl, refl, refl, refl, refl)

-- what stood in a room of bytes 255: samples of -1
stood : standing (replicate 640 255) ≡ replicate 320 (negsuc 0)
unfolding standing samples_in numbers_at table number_at signed
stood = refl

-- with nothing lent it is 11; with an image and no tables 1, and the last two bytes alone are written
no_frames : (payloads samples numbers : List ℕ) → (frames_number [] [] payloads 0 0 ≡ 11) × (frames_image [] [] payloads 0 0 ≡ []) × (frames_number [] (replicate 526 7) payloads 640 1 ≡ 1) × (frames_image [] (replicate 526 7) payloads 640 1 ≡ replicate 524 7 ++ (0 ∷ 0 ∷ [])) × (frames_samples [] (replicate 526 7) payloads samples 1 ≡ samples) × (frames_numbers [] (replicate 526 7) payloads 640 numbers ≡ numbers)
unfolding frames_number frames_image frames_samples frames_numbers barred unmarked
no_frames payloads samples numbers = (refl, refl, refl, refl, refl, refl)
