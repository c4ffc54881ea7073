-- The state rule is kept: a residual, the history at reset and a pushed one hold floats that are finite and within 131,072.
use Rattle.std.specs.Prelude.{◌≡◌, refl, List, ℕ, ◌+◌, ◌-◌, ◌*◌, ◌%◌, ◌≤◌, ◌<◌, Bool, true, false, cond, ℤ, T, ltb, length, get_or, Float}
use Rattle.std.proofs.Common.{sym, subst, arith, lit≤, ltb-true, ltb-false}
use Rattle.std.specs.Int.Signed.{mag}
use Rattle.std.specs.Float.{nan, binary32}
use Rattle.std.specs.Float.Ieee.{add, of_int}
use Rattle.floats.specs.Floats.{within}
use Rattle.floats.specs.Within.{Bounded, within→, →within, wider, held, add_within, int_within}
use Rattle.tables.specs.Places.{LSF_MEAN, LSF_CB1}
use Rattle.tables.specs.Tables.{word, low, high}
use Rattle.tables.specs.Sound.{SoundBytes, low_within, high_within}
use Rattle.sequence.specs.Table.{table, length_table, get_or_table}
use Rattle.spectral.specs.Pushed.{push_at}
use Rattle.spectral.specs.Spectral.{initial_at, initial, stage2_at, residual_at, residual, push}

-- each word is a 16-bit number
abbrev pub Words16 : List ℤ → Type 0
Words16 words = (k : ℕ) → mag (word words k) < 32768

of_table : (f : ℕ → Float) (B n : ℕ) → ((k : ℕ) → k < n → T (within B (f k))) → Bounded B n (table f n)
of_table f B n h k l = subst (λ (x : Float). T (within B x)) (sym (get_or_table f n k nan l)) (h k l)

-- ---- a residual: a word's float is within 32,768, and the other within 65,536
pub sum_kept : (w : ℤ) (y : Float) → mag w < 32768 → T (within 65536 y) → T (within 131072 (add binary32 (of_int binary32 w) y))
sum_kept w y p q =
    →within 131072 (add binary32 (of_int binary32 w) y) (add_within binary32 (of_int binary32 w) y 32768 65536 131072 (held 131072 (lit≤ tt)) (lit≤ tt) (int_within w p) (within→ 65536 y q))

stage2_within : (bytes : List ℕ) → SoundBytes bytes → (lo hi k : ℕ) → lo < 64 → hi < 64 → k < 10 → T (within 65536 (stage2_at bytes lo hi k))
unfolding stage2_at
stage2_within bytes s lo hi k p q h = go (ltb k 5) (ltb-true k 5) (ltb-false k 5)
  where
    go : (b : Bool) → (b ≡ true → k < 5) → (b ≡ false → 5 ≤ k) → T (within 65536 (cond b (low bytes lo k) (high bytes hi (k - 5))))
    go true y n = low_within s lo k p (y refl)
    go false y n = let l = n refl in high_within s hi (k - 5) q (omega arith)

pub residual_kept : (words : List ℤ) (bytes : List ℕ) → Words16 words → SoundBytes bytes → (stage1 lo hi : ℕ) → lo < 64 → hi < 64 → Bounded 131072 10 (residual words bytes stage1 lo hi)
unfolding residual residual_at
residual_kept words bytes w s stage1 lo hi p q =
    of_table (residual_at words bytes stage1 lo hi) 131072 10 (λ k h. sum_kept (word words (LSF_CB1 + (stage1 * 10 + k))) (stage2_at bytes lo hi k) (w (LSF_CB1 + (stage1 * 10 + k))) (stage2_within bytes s lo hi k p q h))

pub length_residual : (words : List ℤ) (bytes : List ℕ) (stage1 lo hi : ℕ) → length (residual words bytes stage1 lo hi) ≡ 10
unfolding residual
length_residual words bytes stage1 lo hi = length_table (residual_at words bytes stage1 lo hi) 10

-- ---- at reset
pub initial_kept : (words : List ℤ) → Words16 words → Bounded 131072 30 (initial words)
unfolding initial initial_at
initial_kept words w =
    of_table (initial_at words) 131072 30 (λ k h. →within 131072 (initial_at words k) (wider 32768 131072 (initial_at words k) (lit≤ tt) (int_within (word words (LSF_MEAN + k % 10)) (w (LSF_MEAN + k % 10)))))

-- ---- a push
pub push_kept : (history residual : List Float) → length residual ≡ 10 → Bounded 131072 30 history → Bounded 131072 10 residual → Bounded 131072 30 (push history residual)
push_kept history residual e p q k h = subst (λ (x : Float). T (within 131072 x)) (push_at history residual e k h) (go (ltb k 10) (ltb-true k 10) (ltb-false k 10))
  where
    go : (b : Bool) → (b ≡ true → k < 10) → (b ≡ false → 10 ≤ k) → T (within 131072 (cond b (get_or residual k nan) (get_or history (k - 10) nan)))
    go true y n = q k (y refl)
    go false y n = let l = n refl in p (k - 10) (omega arith)
