-- What is written is read back, and what is read is written back.
use Rattle.std.specs.Prelude.{◌≡◌, Bool, true, false, cond, ◌&&◌, leb, ltb, eqb, length, take, drop, replicate}
use Rattle.std.proofs.Math.Path.{refl, ap}
use Rattle.std.proofs.Common.{Err, sym, ◌∙◌, arith, eqb-true, le-leb, leb-true, ltb-true, lit<, lit≤}
use mathlib.Core.List.{List, map, map-map, map-id}
use Prim.Native.Nat.{ℕ, ◌+◌, ◌%◌, ◌<◌}
use Rattle.std.proofs.Math.Nat.{mod-lt}
use Rattle.std.specs.Int.Bits.{bit_and}
use Rattle.std.proofs.Math.ListN.{get_or, get_or-map}
use Rattle.sequence.specs.All.{all, all_of}
use Rattle.sequence.specs.Table.{table, table_same, length_table}
use Rattle.bits.specs.Bits as Bits
use Rattle.bits.specs.Bits.{bit_at, read_bit, byte_of, scatter}
use Rattle.bits.specs.Bytes.{bit_lt, bit_of_bytes, bytes_of_bits, mask_bits, bits_mask}
use Rattle.bits.specs.Digits.{Digits}
use Rattle.bits.specs.Widths.{read_bit_lt}
use Rattle.bits.specs.Scattered.{scatter_digits}
use Rattle.bits.specs.RoundTrips.{map_same, zeros_digits}
use Rattle.refusal.specs.declared.Refusal.TheVariants.{FrameLength, Padding, NoReceiverLine}
use Rattle.receiver.specs.Receiver.{accepted, receiver_bits, digits, line_of, up_to, is_line, order, values, bits_of, frame_of, write_number, write, written, read_number, read, taken}
use Rattle.receiver.specs.Order.{position, position_order, order_count, order_below, digits_read, line_walked, table_map, bits_there}
use Rattle.receiver.specs.Lines.{line_length, line_digit, line_reserved}

-- ---- an accepted frame, written and read

pub write_accepted : (p : List ℕ) → write p ≡ accepted → (length p ≡ 20) × (bit_and (get_or p 19 0) 192 ≡ 0)
unfolding write
write_accepted p e =
    let t = by (eqb (length p) 20) (eqb (bit_and (get_or p 19 0) 192) 0) e in
    (eqb-true (length p) 20 t.0, eqb-true (bit_and (get_or p 19 0) 192) 0 t.1)
  where
    by : (s t : Bool) → cond s (cond t accepted (Err Padding)) (Err FrameLength) ≡ accepted → (s ≡ true) × (t ≡ true)
    by true true e = (refl, refl)
    by true false e = (refl, cc)
    by false t e = (cc, cc)

pub write_accepts : (p : List ℕ) → length p ≡ 20 → bit_and (get_or p 19 0) 192 ≡ 0 → write_number p ≡ 0
unfolding write_number
write_accepts p l m = simp (l, m)

write_answers : (p : List ℕ) → length p ≡ 20 → bit_and (get_or p 19 0) 192 ≡ 0 → write p ≡ accepted
unfolding write
write_answers p l m = simp (l, m)

module _ (p : List ℕ) (z : bit_at p 158 ≡ 0) where
  values_line : values (line_of p) ≡ map (read_bit p) order
  unfolding line_of
  values_line =
      ap (λ (ds : List ℕ). values (map (λ d. 48 + d) ds)) (sym (digits_read p z))
      ∙ ap values (map-map (λ d. 48 + d) (read_bit p) order)
      ∙ map-map (λ c. c % 2) (λ i. 48 + read_bit p i) order
      ∙ map_same (λ i. (48 + read_bit p i) % 2) (read_bit p) order (λ k h. omega (arith, read_bit_lt p (get_or order k 0)))

  -- its line is one
  zeros : all (up_to 48) (take 4 (drop 80 (line_of p))) ≡ true
  unfolding line_of digits receiver_bits table
  zeros = refl

  ones : all (up_to 49) (line_of p) ≡ true
  ones =
      rw (sym (line_walked p z), table_map (λ i. 48 + read_bit p i) order 162 order_count)
      (all_of (up_to 49) (map (λ i. 48 + read_bit p i) order) (48 + read_bit p 0)
      (λ k h. rw (get_or-map (λ i. 48 + read_bit p i) order k 0) (digit (read_bit p (get_or order k 0)) (read_bit_lt p (get_or order k 0)))))
    where
      digit : (d : ℕ) → d < 2 → up_to 49 (48 + d) ≡ true
      digit d h = rw (le-leb 48 (48 + d) (omega arith), le-leb (48 + d) 49 (omega arith))

  long : length (line_of p) ≡ 162
  unfolding line_of digits receiver_bits table
  long = refl

  is_line_lem : is_line (line_of p) ≡ true
  unfolding is_line
  is_line_lem = simp (long, ones, zeros)

  frame_back : length p ≡ 20 → ((k : ℕ) → get_or p k 0 < 256) → bit_at p 159 ≡ 0 → frame_of (line_of p) ≡ p
  unfolding frame_of bits_of read_bit
  frame_back l h y =
      bytes_of_bits (scatter (replicate 160 0) order (values (line_of p))) p 20 l h (λ i s. rw values_line (bits_there (bit_at p) (bit_lt p) y i s))

-- p is a list of bytes, as a payload is
pub read_written : (p line out : List ℕ) → ((k : ℕ) → get_or p k 0 < 256) → write p ≡ accepted → (read (written p line) ≡ accepted) × (taken (written p line) out ≡ p)
unfolding written read read_number taken
read_written p line out h e =
    let a = write_accepted p e in
    let n : write_number p ≡ 0 = write_accepts p a.0 a.1 in
    let b = mask_bits p a.1 in
    let i : is_line (line_of p) ≡ true = is_line_lem p b.0 in
    (simp (n, i), simp (n, i) (frame_back p b.0 a.0 h b.1))

-- ---- an accepted line, read and written

pub read_accepted : (l : List ℕ) → read l ≡ accepted → is_line l ≡ true
unfolding read
read_accepted l e = by (is_line l) e
  where
    by : (b : Bool) → cond b accepted (Err NoReceiverLine) ≡ accepted → b ≡ true
    by true e = refl
    by false e = cc

pub line_bits : (l : List ℕ) → Digits (bits_of l)
unfolding bits_of
line_bits l = scatter_digits (replicate 160 0) order (values l) (zeros_digits 160)

module _ (l : List ℕ) (e : is_line l ≡ true) where
  -- the digit of frame bit i, and the bit
  abbrev digit_of : ℕ → ℕ
  digit_of i = get_or l (position i) 0 % 2

  abbrev bit_of : ℕ → ℕ
  bit_of i = (digit_of i + Bits.inverted i) % 2

  digit_at : (j : ℕ) → j < 162 → digit_of (get_or order j 0) ≡ get_or l j 0 % 2
  digit_at j h = rw (position_order j h) (by (leb 80 j) (ltb j 84) refl refl)
    where
      by : (s t : Bool) → leb 80 j ≡ s → ltb j 84 ≡ t → get_or l (cond (s && t) 80 j) 0 % 2 ≡ get_or l j 0 % 2
      by true true p q = rw (line_reserved l e 80 (lit≤ tt) (lit< tt), line_reserved l e j (leb-true 80 j p) (ltb-true j 84 q))
      by true false p q = refl
      by false t p q = refl

  digits_placed : map digit_of order ≡ values l
  digits_placed =
      sym (table_map digit_of order 162 order_count)
      ∙ table_same (λ j. digit_of (get_or order j 0)) (λ j. get_or l j 0 % 2) 162 digit_at
      ∙ table_map (λ c. c % 2) l 162 (line_length l e)

  bits_placed : (i : ℕ) → i < 160 → get_or (bits_of l) i 0 ≡ bit_of i
  unfolding bits_of Bits.inverted
  bits_placed i h =
      ap (λ (ds : List ℕ). get_or (scatter (replicate 160 0) order ds) i 0)
      (sym (map_same (λ j. (bit_of j + Bits.inverted j) % 2) digit_of order (λ k s. omega (arith, mod-lt (get_or l (position (get_or order k 0)) 0) {m = 2} (lit< tt))) ∙ digits_placed))
      ∙ bits_there bit_of (λ k. mod-lt (digit_of k + Bits.inverted k) (lit< tt)) (rw (line_reserved l e 80 (lit≤ tt) (lit< tt))) i h

  frame_bit : (i : ℕ) → i < 160 → bit_at (frame_of l) i ≡ bit_of i
  unfolding frame_of
  frame_bit i h = bit_of_bytes (bits_of l) (line_bits l) 20 i h ∙ bits_placed i h

  -- the frame's bits, as they are read, are the line's digits
  pub digits_back : map (read_bit (frame_of l)) order ≡ values l
  unfolding read_bit
  digits_back =
      map_same (read_bit (frame_of l)) digit_of order
      (λ k s.
      let i : ℕ = get_or order k 0 in
      rw (frame_bit i (omega (arith, order_below k (omega (arith, order_count))))) (omega (arith, mod-lt (get_or l (position i) 0) {m = 2} (lit< tt))))
      ∙ digits_placed

  pub frame_length : length (frame_of l) ≡ 20
  unfolding frame_of
  frame_length = length_table (byte_of (bits_of l)) 20

  pub frame_padding : (bit_at (frame_of l) 158 ≡ 0) × (bit_at (frame_of l) 159 ≡ 0)
  unfolding Bits.inverted
  frame_padding =
      let z = line_reserved l e 80 (lit≤ tt) (lit< tt) in
      (frame_bit 158 (lit< tt) ∙ rw z, frame_bit 159 (lit< tt) ∙ rw z)

  pub frame_accepted : write_number (frame_of l) ≡ 0
  frame_accepted = write_accepts (frame_of l) frame_length (bits_mask (frame_of l) frame_padding.0 frame_padding.1)

  frame_answered : write (frame_of l) ≡ accepted
  frame_answered = write_answers (frame_of l) frame_length (bits_mask (frame_of l) frame_padding.0 frame_padding.1)

  line_back : line_of (frame_of l) ≡ l
  unfolding line_of
  line_back =
      ap (map (λ d. 48 + d)) (sym (digits_read (frame_of l) frame_padding.0) ∙ digits_back)
      ∙ map-map (λ d. 48 + d) (λ c. c % 2) l
      ∙ map_same (λ c. 48 + c % 2) (λ c. c) l (λ k h. omega (arith, line_digit l e k (omega (arith, line_length l e))))
      ∙ map-id l

pub written_read : (l out line : List ℕ) → read l ≡ accepted → (write (taken l out) ≡ accepted) × (written (taken l out) line ≡ l)
unfolding written read_number taken
written_read l out line r =
    let e = read_accepted l r in
    let n = frame_accepted l e in
    (simp e (frame_answered l e), simp (e, n) (line_back l e))
