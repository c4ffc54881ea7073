-- The table file: its words, two bytes each, the low one first; then its bytes.
use Rattle.std.specs.Prelude.{ℕ, ◌+◌, ◌-◌, ◌*◌, ◌<◌, ◌≡◌, refl, List, Bool, true, false, ◌&&◌, cond, ltb, eqb, ℤ, pos, negsuc, length, get_or, drop}
use Rattle.std.proofs.Common.{arith, eqb-true, eq-eqb}
use Rattle.sequence.specs.Table.{table}
use Rattle.tables.specs.Places.{WORDS, BYTES}
use Rattle.sequence.specs.First.{some}
use Rattle.tables.specs.Tables.{broken, check}

-- a number of 16 bits as a signed word: the sign is its top bit
unfoldable pub signed : ℕ → ℤ
signed n = cond (ltb n 32768) (pos n) (negsuc (65535 - n))

ends : (signed 32767 ≡ pos 32767) × (signed 32768 ≡ negsuc 32767) × (signed 65535 ≡ negsuc 0)
unfolding signed
ends = (refl, refl, refl)

-- word k
unfoldable pub word_at : List ℕ → ℕ → ℤ
word_at file k = signed (get_or file (2 * k) 0 + 256 * get_or file (2 * k + 1) 0)

unfoldable pub words : List ℕ → List ℤ
words file = table (word_at file) WORDS

abbrev pub bytes : List ℕ → List ℕ
bytes file = drop (2 * WORDS) file

-- the file's refusal number: 1 for another length than 15,834, as for a file that is missing, else that of its set
unfoldable pub check_file : List ℕ → ℕ
check_file file = cond (eqb (length file) (2 * WORDS + BYTES)) (check (words file) (bytes file)) 1

-- its words, or for another length what stood there before
unfoldable pub words_or : List ℕ → List ℤ → List ℤ
words_or file old = cond (eqb (length file) (2 * WORDS + BYTES)) (words file) old

-- ---- laws
below : (b : Bool) (n x : ℕ) → n < 10 → x < 10 → cond b n x < 10
below true n x p q = p
below false n x p q = q

small : (file : List ℕ) → check_file file < 10
unfolding check_file check
small file =
    below (eqb (length file) 15834) _ 1
    (below (eqb (length (words file)) WORDS && eqb (length (bytes file)) BYTES) _ 1 (below (some (broken (words file) (bytes file)) 7) 4 0 (omega arith) (omega arith)) (omega arith))
    (omega arith)

-- the number has one digit
pub file_number_small : {n : ℕ} (file : List ℕ) → n ≡ check_file file → n < 10
file_number_small file e = let h = small file in omega arith

-- a file whose number is not 1 has the right length; its number is its set's, and its words are put
pub long_file : (file : List ℕ) → (check_file file ≡ 1 → ⊥) → length file ≡ 15834
unfolding check_file
long_file file h = by (eqb (length file) 15834) refl
  where
    by : (t : Bool) → eqb (length file) 15834 ≡ t → length file ≡ 15834
    by true p = eqb-true (length file) 15834 p
    by false p = absurd (h (rw p))

pub long_check : (file : List ℕ) → length file ≡ 15834 → check_file file ≡ check (words file) (bytes file)
unfolding check_file
long_check file h = rw (eq-eqb (length file) 15834 h)

pub long_words : (file : List ℕ) (old : List ℤ) → length file ≡ 15834 → words_or file old ≡ words file
unfolding words_or
long_words file old h = rw (eq-eqb (length file) 15834 h)

-- so has one that is accepted
pub accepted_long : (file : List ℕ) → check_file file ≡ 0 → length file ≡ 15834
accepted_long file e = long_file file (λ z. omega arith)

pub accepted_words : (file : List ℕ) (old : List ℤ) → check_file file ≡ 0 → words_or file old ≡ words file
accepted_words file old e = long_words file old (accepted_long file e)
