-- Where the accumulator cannot wrap: what a step that shifts or sums is, of numbers that fit. The modules Plain of the other crates say so of each sum of theirs.
use Rattle.std.specs.Prelude.{List, ◌≡◌, ℕ, suc, ◌^◌, ◌≤◌, ◌<◌, ℤ, pos, negsuc, nat_abs, ◌*ℤ◌, get_or}
use Rattle.std.proofs.Common.{◌∙◌, div-le_self, lt_of_le_of_lt}
use Rattle.std.specs.Int.Signed.{mag, shr_z}
use Rattle.fixed.specs.Fixed.{mul, shift}
use Rattle.fixed.specs.Abs.{mag_shr_is}
use Rattle.fixed.specs.Bounds.{abs_mul_by}
use Rattle.fixed.specs.Wrap.{REACH, wrap_id, acc_fits}
use Rattle.fixed.specs.Shifts.{shift_up, shift_down}

-- a number of 16 bits, as far as a bound says it, and a list of them
abbrev pub Short : ℤ → Type 0
Short z = nat_abs z ≤ 32768

abbrev pub AllShort : List ℤ → Type 0
AllShort l = (k : ℕ) → Short (get_or l k (pos 0))

-- their fractional product
pub short_mul : (x y : ℤ) → Short x → Short y → nat_abs (mul x y) ≤ 2147483648
short_mul x y p q = abs_mul_by x y 32768 32768 p q

-- a shift up whose result fits, and any shift down of an accumulator
pub shift_fits : (v : ℤ) (s : ℕ) → s < 64 → nat_abs (v *ℤ pos (2 ^ s)) < REACH → shift v (pos s) ≡ v *ℤ pos (2 ^ s)
shift_fits v s h f = shift_up v s h ∙ acc_fits (v *ℤ pos (2 ^ s)) f

pub shift_down_plain : (v : ℤ) (s : ℕ) → suc s < 64 → mag v < REACH → shift v (negsuc s) ≡ shr_z v (2 ^ suc s)
shift_down_plain v s h f = shift_down v s h ∙ wrap_id 39 (shr_z v (2 ^ suc s)) (rw (mag_shr_is v (2 ^ suc s)) (lt_of_le_of_lt (div-le_self (mag v) (2 ^ suc s)) f))
