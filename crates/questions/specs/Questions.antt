-- Numbers out of a line of text: decimal digits, with a minus in front or none; a byte that sorts before the digits ends a number.
use Rattle.std.specs.Prelude.{ℕ, suc, ◌+◌, ◌*◌, ◌%◌, ◌<◌, ◌≤◌, ◌≡◌, refl, List, [], ◌∷◌, Bool, true, false, cond, eqb, ltb, leb, ℤ, pos, negsuc, ◌-ℤ◌, length, get_or, set, drop, replicate, Float}
use Rattle.std.proofs.Math.Numerals.{add-one}
use Rattle.std.proofs.Common.{arith, drop_of_length-le, drop-cons}
use Rattle.std.specs.Int.Signed.{mag}
use Rattle.std.specs.Float.{binary32}
use Rattle.std.specs.Float.Ieee.{of_bits}
use Rattle.sequence.specs.Repeated.{repeated}
use Rattle.fixed.specs.Fixed.{low, shift, wrap, signed as signedIn, residue}
use Rattle.questions.specs.declared.Question.{Question}
use Rattle.questions.specs.declared.Reading.{Reading}

-- a number of 64 bits with a sign; one that is wider is the smallest or the largest
unfoldable pub signed : ℕ → Bool → ℤ
signed digits negative =
    cond (ltb digits 9223372036854775808) (cond negative (pos 0 -ℤ pos digits) (pos digits)) (cond negative (negsuc 9223372036854775807) (pos 9223372036854775807))

-- the number that was being read is complete; behind the 128th there is no place
unfoldable pub ended : Reading → Reading
ended r =
    cond (ltb r.count 128) (record {
      count = r.count + 1;
      numbers = set r.numbers r.count (signed r.digits r.negative);
      digits = 0;
      negative = false;
    })
    (record { count = r.count; numbers = r.numbers; digits = 0; negative = false })

-- a byte more: one from the digit 0 on goes on with the number, a minus is kept, anything else ends it
unfoldable pub step : Reading → ℕ → Reading
step r b =
    cond (leb 48 b) (record {
      count = r.count;
      numbers = r.numbers;
      digits = r.digits % 1000000000000000000 * 10 + b % 16;
      negative = r.negative;
    })
    (cond (eqb b 45) (record { count = r.count; numbers = r.numbers; digits = r.digits; negative = true }) (ended r))

-- what was read, and where the next line begins
abbrev pub asked : Reading → ℕ → Question
asked r next = record { count = r.count; numbers = r.numbers; next = next }

-- the rest of a line, from place i on
unfoldable pub line_from : Reading → List ℕ → ℕ → Question
line_from r [] i = asked r i
line_from r (b ∷ s) i = cond (eqb b 10) (asked (step r b) (i + 1)) (line_from (step r b) s (i + 1))

-- nothing read
unfoldable pub none : Reading
none = record { count = 0; numbers = replicate 128 (pos 0); digits = 0; negative = false }

-- the line of s that begins at a place
unfoldable pub line : List ℕ → ℕ → Question
line s from = line_from none (drop from s) from

-- a number cut to a word
unfoldable pub word_at : List ℤ → ℕ → ℕ → ℤ
word_at n from k = low (get_or n (from + k) (pos 0))

-- the bits that a number says, and the float that has them
unfoldable pub bits : ℤ → ℕ
bits x = mag x % 4294967296

unfoldable pub float_at : List ℤ → ℕ → ℕ → Float
float_at n from k = of_bits binary32 (bits (get_or n (from + k) (pos 0)))

-- ---- samples that a seed gives: x' = (x * 31 + 7) mod 65536, from the seed on, each read with a sign, every third divided by 16
unfoldable pub next : ℕ → ℕ
next x = (x * 31 + 7) % 65536

unfoldable pub sample : ℕ → ℕ → ℤ
sample k x = cond (eqb (k % 3) 0) (low (shift (low (pos x)) (negsuc 3))) (low (pos x))

unfoldable pub sample_at : ℕ → ℕ → ℤ
unfolding repeated
sample_at seed k = sample k (repeated (λ n x. next x) (suc k) (seed % 65536))

-- of the seed 2 the first number is 69, the second 2,146, the third 997
example_samples : (sample_at 2 0 ≡ pos 4) × (sample_at 2 1 ≡ pos 2146) × (sample_at 2 2 ≡ pos 997)
unfolding sample_at sample next shift wrap signedIn residue
example_samples = (refl, refl, refl)

-- ---- a byte more, the line's end, the text's end: place i of a text that begins at place n of the whole
module _ (r : Reading) (s : List ℕ) (n i : ℕ) where
  pub line_more : i < length s → eqb (get_or s i 0) 10 ≡ false → line_from r (drop i s) (n + i) ≡ line_from (step r (get_or s i 0)) (drop (i + 1) s) (n + (i + 1))
  unfolding line_from
  line_more h e =
      let q : n + (i + 1) ≡ n + i + 1 = omega arith in
      rw (q, drop-cons s i 0 h, e, add-one i)

  pub line_ended_lem : i < length s → eqb (get_or s i 0) 10 ≡ true → line_from r (drop i s) (n + i) ≡ asked (step r (get_or s i 0)) (n + i + 1)
  unfolding line_from
  line_ended_lem h e = rw (drop-cons s i 0 h, e)

  pub line_none : length s ≤ i → line_from r (drop i s) (n + i) ≡ asked r (n + i)
  unfolding line_from
  line_none h = rw (drop_of_length-le s h)
