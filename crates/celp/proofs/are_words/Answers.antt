-- Each word that was read is a 16-bit number, and past the end `word` is 0.
use Prim.Native.Nat.{ℕ, ◌+◌, ◌<◌, ◌≤◌}
use mathlib.Core.Path.{◌≡◌, refl}
use mathlib.Core.List.{List}
use mathlib.Core.Bool.{Bool, true, false}
use native.Mathlib.Omega.{arith}
use borrow.Author.Tests.{ltb-true, ltb-false}
use lib.Dec.{ltb}
use lib.IntN.{ℤ, pos}
use lib.Signed.{mag}
use lib.ListN.{length, get_or-eq_default}
use Rattle.tables.specs.Tables.{word}
use Rattle.spectral.specs.Kept.{Words16}
use Rattle.celp.proofs.are_words.Goals as goal

-- one word more
more : (words : List ℤ) (i : ℕ) → ((k : ℕ) → k < i → mag (word words k) < 32768) → (z : ℤ) → z ≡ word words i → mag z < 32768 → (k : ℕ) → k < i + 1 → mag (word words k) < 32768
more words i h z e b k l = by (ltb k i) (ltb-true k i) (ltb-false k i)
  where
    by : (t : Bool) → (t ≡ true → k < i) → (t ≡ false → i ≤ k) → mag (word words k) < 32768
    by true y n = h k (y refl)
    by false y n = let g = n refl in let q : k ≡ i = omega arith in rw (q, ← e) b

-- all of them
all_of : (words : List ℤ) (i : ℕ) → length words ≤ i → ((k : ℕ) → k < i → mag (word words k) < 32768) → Words16 words
all_of words i l h k = by (ltb k i) (ltb-true k i) (ltb-false k i)
  where
    by : (t : Bool) → (t ≡ true → k < i) → (t ≡ false → i ≤ k) → mag (word words k) < 32768
    by true y n = h k (y refl)
    by false y n = let g = n refl in rw (get_or-eq_default words (pos 0) {n = k} (omega arith)) (omega arith)

pub loop-i-init : goal.loop-i-init
loop-i-init c = (omega arith, λ k h. absurd (omega arith))

pub loop-i-preserved : goal.loop-i-preserved
loop-i-preserved c = let l = c.before.before.loop-i in (omega arith, more c.before.before.before.args.words.now l.i l.invariant.1 c.word.result c.word.ensures c.word.type_inv)

pub returns : goal.returns
returns c = let l = c.before.loop-i in all_of c.before.before.args.words.now l.i c.loop-i-test.false l.invariant.1
