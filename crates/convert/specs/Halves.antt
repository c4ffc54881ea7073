-- Bytes in hexadecimal, digit by digit; and a frame's line with its bytes in hexadecimal again.
use Rattle.std.specs.Prelude.{ℕ, ◌+◌, ◌*◌, ◌/◌, ◌%◌, ◌<◌, ◌≡◌, refl, List, map, Bool, length, get_or}
use Rattle.std.proofs.Common.{sym, ◌∙◌}
use Rattle.std.proofs.Math.Path.{ap}
use Rattle.std.proofs.Math.Bool.{true, false, cond}
use Rattle.std.proofs.Math.Decide.{dec_lt}
use native.Mathlib.Omega.{arith}
use Rattle.std.proofs.Math.Dec.{eqb}
use Rattle.std.proofs.Math.ListN.{get_or-eq_default}
use borrow.Author.Tests.{eqb-true, eqb-false, ltb-true}
use Rattle.sequence.specs.All.{all, all_at, and_left, and_right}
use Rattle.sequence.specs.Table.{table, table_of, table_same, length_table, get_or_table}
use Rattle.hex_lines.specs.Text.{digit, value, is_digit, is_frame, byte_at, payload}
use Rattle.receiver.specs.Order.{table_map}
use Rattle.convert.specs.Convert.{hexadecimal}

-- of a byte, the half for place k
unfoldable pub half : ℕ → ℕ → ℕ
half b k = cond (eqb (k % 2) 0) (b / 16) (b % 16)

-- the digit at place k
unfoldable pub digit_at : List ℕ → ℕ → ℕ
digit_at p k = digit (half (get_or p (k / 2) 0) k)

each : (f : ℕ → ℕ) → table (digit_at (table f 20)) 40 ≡ hexadecimal (table f 20)
unfolding table digit_at half hexadecimal
each f = refl

pub by_digits : (p : List ℕ) → length p ≡ 20 → table (digit_at p) 40 ≡ hexadecimal p
by_digits p e =
    let t = table_of (λ k. get_or p k 0) 0 p 20 e (λ k h. refl) in
    ap (λ (q : List ℕ). table (digit_at q) 40) (sym t) ∙ each (λ k. get_or p k 0) ∙ ap hexadecimal t

-- ---- of a frame's line
module _ (line : List ℕ) (e : is_frame line ≡ true) where
  pub frame_long : length line ≡ 40
  unfolding is_frame
  frame_long = eqb-true (length line) 40 (and_left (eqb (length line) 40) (all is_digit line) e)

  worth : (k : ℕ) → k < 40 → value (get_or line k 0) < 16
  unfolding is_frame is_digit
  worth k h = ltb-true (value (get_or line k 0)) 16 (all_at is_digit line 0 (and_right (eqb (length line) 40) (all is_digit line) e) k (omega (arith, frame_long)))

  byte_at_lem : (j : ℕ) → j < 20 → get_or (payload line) j 0 ≡ 16 * value (get_or line (2 * j) 0) + value (get_or line (2 * j + 1) 0)
  unfolding payload byte_at
  byte_at_lem j h = get_or_table (byte_at line) 20 j 0 h

  pub payload_long : length (payload line) ≡ 20
  unfolding payload
  payload_long = length_table (byte_at line) 20

  pub payload_bytes : (j : ℕ) → get_or (payload line) j 0 < 256
  payload_bytes j = by (dec_lt j 20)
    where
      by : Dec (j < 20) → get_or (payload line) j 0 < 256
      by (yes h) = let b = byte_at_lem j h in let v = worth (2 * j) (omega arith) in let w = worth (2 * j + 1) (omega arith) in omega arith
      by (no h) = let b = get_or-eq_default (payload line) 0 {n = j} (omega (arith, payload_long)) in omega arith

  -- the digit that comes back
  same_digit : (k : ℕ) → k < 40 → digit_at (payload line) k ≡ digit (value (get_or line k 0))
  unfolding digit_at half
  same_digit k h = ap digit (by (eqb (k % 2) 0) refl)
    where
      by : (t : Bool) → eqb (k % 2) 0 ≡ t → cond t (get_or (payload line) (k / 2) 0 / 16) (get_or (payload line) (k / 2) 0 % 16) ≡ value (get_or line k 0)
      by true p =
          let o = eqb-true (k % 2) 0 p in
          let n : 2 * (k / 2) ≡ k = omega arith in
          let b = rw n at (byte_at_lem (k / 2) (omega arith)) in
          let w = rw n at (worth (2 * (k / 2) + 1) (omega arith)) in
          omega arith
      by false p =
          let o = eqb-false (k % 2) 0 p in
          let n : 2 * (k / 2) + 1 ≡ k = omega arith in
          let b = rw n at (byte_at_lem (k / 2) (omega arith)) in
          let w = worth k h in
          omega arith

  -- lower-case
  pub lower_case : hexadecimal (payload line) ≡ map (λ c. digit (value c)) line
  lower_case =
      sym (by_digits (payload line) payload_long)
      ∙ table_same (digit_at (payload line)) (λ k. digit (value (get_or line k 0))) 40 same_digit
      ∙ table_map (λ c. digit (value c)) line 40 frame_long
