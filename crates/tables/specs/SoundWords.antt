-- The words of an accepted set, as the premise of what reads words alone, and what it gives.
use Rattle.std.specs.Prelude.{ℕ, zero, suc, ◌+◌, ◌-◌, ◌*◌, ◌≤◌, ◌<◌, ◌≡◌, refl, List, length, ℤ, pos, negsuc, nat_abs, ◌≤ℤ◌}
use Rattle.std.proofs.Common.{ap, ⊎_elim, arith, leb→le}
use Rattle.tables.specs.Places.{WORDS, FCB_PULSES, FCB_SHAPE_SEL, FCB_ALT_A, LSF_CB1}
use Rattle.tables.specs.Tables.{word, unsigned, unsigned_word, pulses, selector, entry}
use Rattle.tables.specs.Rules.{WordsObey}

pub record SoundWords (words : List ℤ) : Type 0 where
  pub words_long : length words ≡ WORDS
  pub rules : WordsObey words

at_most : (x : ℤ) (b : ℕ) → pos 0 ≤ℤ x → x ≤ℤ pos b → unsigned x ≤ b
at_most (pos n) b h g = leb→le n b g.le
at_most (negsuc n) b h g = absurd h.le

sized : (x : ℤ) → (negsuc 79 ≤ℤ x) × (x ≤ℤ pos 80) × (x ≡ pos 0 → ⊥) → (1 ≤ nat_abs x) × (nat_abs x ≤ 80)
sized (pos zero) h = absurd (h.2 refl)
sized (pos (suc n)) h = (omega arith, leb→le (suc n) 80 h.1.le)
sized (negsuc n) h = let g = leb→le n 79 h.0.le in (omega arith, omega arith)

module _ {words : List ℤ} (s : SoundWords words) where
  pub pulses_within : (k : ℕ) → k < 5 → (2 ≤ unsigned_word words (FCB_PULSES + k)) × (unsigned_word words (FCB_PULSES + k) ≤ 3)
  pulses_within k h =
      ⊎_elim (λ (e : pulses words k ≡ pos 2). let q : unsigned_word words (FCB_PULSES + k) ≡ 2 = ap unsigned e in (omega arith, omega arith))
      (λ (e : pulses words k ≡ pos 3). let q : unsigned_word words (FCB_PULSES + k) ≡ 3 = ap unsigned e in (omega arith, omega arith))
      (s.rules.pulses_are k h)

  pub selector_le : (k : ℕ) → k < 5 → unsigned_word words (FCB_SHAPE_SEL + 3 * k) ≤ 29
  selector_le k h = let p = s.rules.selectors_within k h in at_most (selector words k) 29 p.0 p.1

  -- an entry's size is a place counted from 1
  pub entry_size : (k : ℕ) → k < 3200 → (1 ≤ nat_abs (entry words k)) × (nat_abs (entry words k) ≤ 80)
  entry_size k h = sized (entry words k) (s.rules.entries_within k h)

  -- an entry by its place among the words
  pub entry_at : (i : ℕ) → FCB_ALT_A ≤ i → i < LSF_CB1 → (1 ≤ nat_abs (word words i)) × (nat_abs (word words i) ≤ 80)
  entry_at i l g =
      let e : FCB_ALT_A + (i - FCB_ALT_A) ≡ i = omega arith in
      rw e at (entry_size (i - FCB_ALT_A) (omega arith))
