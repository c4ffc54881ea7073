-- Worked calls: which number comes first, and what is written.
use Rattle.std.specs.Prelude.{◌≡◌, refl, [], replicate}
use Rattle.state.specs.State.{fault}
use Rattle.image.specs.Bytes.{bytes_of}
use Rattle.desk_tables.specs.Check.{bytes_of_fault, check_number, check_told}

-- with nothing lent it is 1; with room for what is told, 0 and 0 are told
no_tables : (check_number [] 0 ≡ 1) × (check_told [] [] ≡ []) × (check_number [] 5 ≡ 1) × (check_told [] (replicate 5 7) ≡ replicate 5 0)
unfolding check_number check_told fault bytes_of_fault bytes_of
no_tables = (refl, refl, refl, refl)

-- tables and a room a byte short, or a byte long: 2, and the room stays
wrong_room : (check_number (replicate 15834 0) 4 ≡ 2) × (check_number (replicate 15834 0) 6 ≡ 2) × (check_told (replicate 15834 0) (replicate 4 7) ≡ replicate 4 7)
unfolding check_number check_told
wrong_room = (refl, refl, refl)
