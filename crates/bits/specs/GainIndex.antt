-- The gain index: always below 128, and within the widths the two parts joined as they are.
use Rattle.std.specs.Prelude.{◌≡◌, Bool, true, false, cond, ℕ, ◌+◌, ◌*◌, ◌<◌, eqb}
use Rattle.std.proofs.Common.{mod-eq_of_lt, arith}
use Rattle.bits.specs.declared.HalfParams.{HalfParams}
use Rattle.bits.specs.Bits.{joined, gain_index_of}
use Rattle.bits.specs.Widths.{InWidths}

joined_lt : (high low : ℕ) → joined high low < 128
joined_lt high low = omega arith

pub gain_index_lt : (h : HalfParams) (sub : ℕ) → gain_index_of h sub < 128
unfolding gain_index_of
gain_index_lt h sub = by (eqb sub 0)
  where
    by : (b : Bool) → cond b (joined h.gain_high0 h.gain_low0) (joined h.gain_high1 h.gain_low1) < 128
    by true = joined_lt h.gain_high0 h.gain_low0
    by false = joined_lt h.gain_high1 h.gain_low1

pub gain_index_first : (h : HalfParams) → InWidths h → gain_index_of h 0 ≡ h.gain_high0 * 16 + h.gain_low0
unfolding gain_index_of
gain_index_first h w = rw (mod-eq_of_lt w.gain_high0, mod-eq_of_lt w.gain_low0)

pub gain_index_second : (h : HalfParams) → InWidths h → gain_index_of h 1 ≡ h.gain_high1 * 16 + h.gain_low1
unfolding gain_index_of
gain_index_second h w = rw (mod-eq_of_lt w.gain_high1, mod-eq_of_lt w.gain_low1)
