-- An accepted set, as the one premise that what is built on the tables carries, and what it gives.
use Rattle.std.specs.Prelude.{ℕ, ◌+◌, ◌*◌, ◌<◌, ◌≡◌, List, length, T, ℤ}
use Rattle.std.proofs.Common.{arith, eqb-true}
use Rattle.floats.specs.Floats.{float_at, within}
use Rattle.tables.specs.Places.{WORDS, BYTES}
use Rattle.tables.specs.Tables.{log_gain, gain_bias, low, high, ma, limit_bad, float_bad, bad, broken, check}
use Rattle.tables.specs.Rules.{BytesObey, limits, floats, offends, offended, obeying, tests}
use Rattle.tables.specs.SoundWords.{SoundWords}

-- the bytes of an accepted set
pub record SoundBytes (bytes : List ℕ) : Type 0 where
  pub bytes_long : length bytes ≡ BYTES
  pub floats_within : BytesObey bytes

-- an accepted set
pub record Sound (words : List ℤ) (bytes : List ℕ) : Type 0 where
  pub of_words : SoundWords words
  pub of_bytes : SoundBytes bytes

pub sound : (words : List ℤ) (bytes : List ℕ) → check words bytes ≡ 0 → Sound words bytes
unfolding limits floats offends offended limit_bad float_bad bad broken
sound words bytes e =
    let t = tests words bytes e in
    let o = obeying words bytes t.2 in
    record {
      of_words = record { words_long = eqb-true (length words) WORDS t.0; rules = o.of_words };
      of_bytes = record { bytes_long = eqb-true (length bytes) BYTES t.1; floats_within = o.floats_within };
    }

-- ---- floats: each that config.rs reads is within 65,536, hence finite and no NaN (floats.specs.Within)
module _ {bytes : List ℕ} (s : SoundBytes bytes) where
  -- the float at byte place 4 * k, however the place is written
  pub float_within : (at k : ℕ) → at ≡ 4 * k → k < 977 → T (within 65536 (float_at bytes at))
  float_within at k e h = rw e (s.floats_within k h)

  pub log_gain_within : (i : ℕ) → i < 128 → T (within 65536 (log_gain bytes i))
  log_gain_within i h = float_within (512 + 4 * i) (128 + i) (omega arith) (omega arith)

  pub gain_bias_within : T (within 65536 (gain_bias bytes))
  gain_bias_within = s.floats_within 256 (omega arith)

  pub low_within : (i k : ℕ) → i < 64 → k < 5 → T (within 65536 (low bytes i k))
  low_within i k h g = float_within (1028 + 4 * (5 * i + k)) (257 + 5 * i + k) (omega arith) (omega arith)

  pub high_within : (i k : ℕ) → i < 64 → k < 5 → T (within 65536 (high bytes i k))
  high_within i k h g = float_within (2308 + 4 * (5 * i + k)) (577 + 5 * i + k) (omega arith) (omega arith)

  pub ma_within : (mode tap k : ℕ) → mode < 2 → tap < 4 → k < 10 → T (within 65536 (ma bytes mode tap k))
  ma_within mode tap k h g l = float_within (3588 + 4 * (mode * 40 + tap * 10 + k)) (897 + mode * 40 + tap * 10 + k) (omega arith) (omega arith)
