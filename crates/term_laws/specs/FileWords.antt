-- The premise on the words that the sums ask for is met by every file, whatever its bytes are.
use Rattle.std.specs.Prelude.{ℕ, ◌-◌, ◌<◌, ◌≤◌, ◌≡◌, refl, List, Bool, true, false, cond, ltb, ℤ, pos, negsuc, length}
use Rattle.std.proofs.Common.{sym, subst, arith, ltb-true, ltb-false}
use Rattle.std.proofs.Math.ListN.{get_or-eq_default}
use Rattle.std.specs.Int.Signed.{mag}
use Rattle.sequence.specs.Table.{length_table, get_or_table}
use Rattle.tables.specs.Places.{WORDS}
use Rattle.tables.specs.Tables.{word}
use Rattle.spectral.specs.Kept.{Words16}
use Rattle.table_file.specs.File as File

signed_16 : (n : ℕ) → mag (File.signed n) < 32768
unfolding File.signed
signed_16 n = by (ltb n 32768) (ltb-true n 32768) (ltb-false n 32768)
  where
    by : (b : Bool) → (b ≡ true → n < 32768) → (b ≡ false → 32768 ≤ n) → mag (cond b (pos n) (negsuc (65535 - n))) < 32768
    by true y z = y refl
    by false y z = let h = z refl in omega arith

pub file_words_16 : (file : List ℕ) → Words16 (File.words file)
unfolding File.words File.word_at
file_words_16 file k = by (ltb k WORDS) (ltb-true k WORDS) (ltb-false k WORDS)
  where
    by : (b : Bool) → (b ≡ true → k < WORDS) → (b ≡ false → WORDS ≤ k) → mag (word (File.words file) k) < 32768
    by true y n = subst (λ (x : ℤ). mag x < 32768) (sym (get_or_table (File.word_at file) WORDS k (pos 0) (y refl))) (signed_16 _)
    by false y n =
        let h = n refl in
        let long = length_table (File.word_at file) WORDS in
        let past : length (File.words file) ≤ k = omega arith in
        rw (get_or-eq_default (File.words file) (pos 0) past) (omega arith)
