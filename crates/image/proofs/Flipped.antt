-- The library's two's complement is the definition's.
use Rattle.std.specs.Prelude.{◌≡◌, Bool, true, false, ltb, ℕ, negsuc}
use Rattle.std.proofs.Common.{refl, ap, arith}
use mir.Syntax.{w16, w32}
use mir.Val.{to_z}
use Rattle.image.specs.Image.{signed}

pub signed16 : (n : ℕ) → to_z w16 n ≡ signed 2 n
unfolding signed
signed16 n = by (ltb n 32768) refl
  where
    by : (b : Bool) → ltb n 32768 ≡ b → to_z w16 n ≡ signed 2 n
    by true p = rw p
    by false p = rw p (ap negsuc (omega arith))

pub signed32 : (n : ℕ) → to_z w32 n ≡ signed 4 n
unfolding signed
signed32 n = by (ltb n 2147483648) refl
  where
    by : (b : Bool) → ltb n 2147483648 ≡ b → to_z w32 n ≡ signed 4 n
    by true p = rw p
    by false p = rw p (ap negsuc (omega arith))
