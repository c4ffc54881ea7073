-- What is held tells whose line it is.
use Prim.Native.Nat.{ℕ, zero, suc, ◌<◌, ◌≤◌}
use mathlib.Core.Path.{◌≡◌, refl}
use mathlib.Core.Bool.{cond, ◌&&◌}
use native.Mathlib.Omega.{arith}
use lib.Dec.{eqb}
use Rattle.channel_lines.specs.declared.Held.{Held}
use Rattle.channel_lines.specs.declared.Whose.TheVariants.{A, B, Neither}
use Rattle.channel_lines.specs.Channels.{begins, whose}
use Rattle.channel_lines.specs.Feed.{held_by, held_line}

pub short : (l : Held) → l.n < 2 → Neither ≡ whose (held_line l)
unfolding held_line held_by whose begins
short l h = by l.n refl
  where
    by : (n : ℕ) → l.n ≡ n → Neither ≡ whose (held_by l.n l)
    by zero e = rw e
    by (suc zero) e = rw e
    by (suc (suc k)) e = absurd (omega arith)

pub long : (l : Held) → 2 ≤ l.n → whose (held_line l) ≡ cond (eqb l.second 32 && eqb l.first 97) A (cond (eqb l.second 32 && eqb l.first 98) B Neither)
unfolding held_line held_by whose begins
long l h = by l.n refl
  where
    by : (n : ℕ) → l.n ≡ n → whose (held_by l.n l) ≡ cond (eqb l.second 32 && eqb l.first 97) A (cond (eqb l.second 32 && eqb l.first 98) B Neither)
    by zero e = absurd (omega arith)
    by (suc zero) e = absurd (omega arith)
    by (suc (suc k)) e = rw e
