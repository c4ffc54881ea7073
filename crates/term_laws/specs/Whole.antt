-- Nothing is rounded where a whole number of 0..=32,767 is read back from the f32 that it is reported as.
use Rattle.std.specs.Prelude.{ℕ, ◌*◌, ◌≤◌, ◌≡◌, true, false, pos, Float}
use Rattle.std.proofs.Common.{◌∙◌, zero-lt-suc, div-one, arith}
use Rattle.std.proofs.Math.Nat.{mod-one}
use Rattle.std.specs.Float.{nan, inf, fin, binary32}
use Rattle.std.specs.Float.Ieee.{up, down, of_int}
use Rattle.std.specs.Float.Ieee.Fits.{down_pos}
use Rattle.std.specs.Float.Ieee.Exact.{HasValue}
use Rattle.std.specs.Float.Ieee.Nearest.{closest, closest_same}
use Rattle.floats.specs.Floats.{nearest_even, quantise}
use Rattle.floats.specs.Within.{held}
use Rattle.tally.specs.Figures.{whole}

itself : (n : ℕ) → closest n 1 ≡ n
itself n = rw (div-one n, mod-one n)

by_value : (x : Float) (n : ℕ) → n ≤ 32767 → HasValue x false n 1 → quantise 32767 x ≡ n
unfolding quantise nearest_even
by_value nan n h v = absurd v
by_value (inf s) n h v = absurd v
by_value (fin true m e) n h v = let z : true ≡ false = v.0 in let y : ◌≡◌ {A = ℕ} 0 1 = cc in absurd (omega arith)
by_value (fin false m e) n h v = let c = closest_same (m * up e) (down e) n 1 (down_pos e) (zero-lt-suc 0) v.1 ∙ itself n in omega arith

pub whole_back : (n : ℕ) → n ≤ 32767 → whole (of_int binary32 (pos n)) ≡ n
unfolding whole of_int
whole_back n h = by_value (of_int binary32 (pos n)) n h (held n (omega arith))
