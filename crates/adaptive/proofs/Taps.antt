-- The taps are 31.
use mathlib.Core.Path.{◌≡◌}
use mathlib.Core.List.{List}
use lib.IntN.{ℤ}
use lib.ListN.{length, length-take, length-drop}
use Rattle.tables.specs.Places.{WORDS}
use Rattle.pitch.specs.Pitch.{interp}

pub length_interp : (words : List ℤ) → length words ≡ WORDS → length (interp words) ≡ 31
unfolding interp
length_interp words h = simp (length-take, length-drop, h)
