-- What a digit is worth.
use Prim.Native.Nat.{ℕ, ◌<◌}
use mathlib.Core.Path.{◌≡◌}
use mathlib.Core.List.{List}
use mathlib.Core.Bool.{true}
use lib.ListN.{length, get_or}
use borrow.Author.Tests.{ltb-true}
use Rattle.sequence.specs.All.{all, all_at}
use Rattle.hex_lines.specs.Text.{value, is_digit}

pub worth : (text : List ℕ) → all is_digit text ≡ true → (k : ℕ) → k < length text → value (get_or text k 0) < 16
unfolding is_digit
worth text e k h = ltb-true (value (get_or text k 0)) 16 (all_at is_digit text 0 e k h)
