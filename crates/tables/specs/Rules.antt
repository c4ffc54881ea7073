-- The set rules in document 01's words, and that the tests of Tables decide them.
use Prim.Native.Nat.{ℕ, zero, suc, ◌+◌, ◌-◌, ◌*◌, ◌≤◌, ◌<◌}
use Rattle.std.specs.Prelude.{◌≡◌, List, [], ◌∷◌, Bool, true, false, ◌&&◌, cond, ◌⊎◌, length, get_or, T, eqb, leb, ltb, ℤ, pos, negsuc, ◌≤ℤ◌}
use Rattle.std.proofs.Math.Path.{refl, ap}
use Rattle.std.proofs.Common.{sym, true≢false, inl, inr}
use Rattle.std.proofs.Math.Bool.{not}
use native.Mathlib.Omega.{arith}
use Rattle.std.specs.Int.Signed.{le_z, lt_z, le_z_yes, lt_z_no}
use borrow.Author.Tests.{leb-true, le-leb, ltb-false, le-ltb, eqb-true, eqb-false, eq-eqb, ne_eqb, not-false}
use Rattle.floats.specs.Floats.{float_at, within}
use Rattle.sequence.specs.All.{is_true, holds, and_left, and_right}
use Rattle.sequence.specs.First.{some, some_at, some_all}
use Rattle.tables.specs.Places.{WORDS, BYTES, FCB_INDEX_LIMIT}
use Rattle.tables.specs.Tables.{unsigned_word, limit, base, pulses, selector, position, entry, between, limit_bad, pulses_bad, selector_bad, position_bad, entry_bad, float_bad, count, bad, broken, check}

-- rules 1 to 5, which are of the words
pub record WordsObey (words : List ℤ) : Type 0 where
  -- 1: limit at least 1; base 0 is 0 and bases never fall
  pub limit_positive : 1 ≤ limit words
  pub base_zero : base words 0 ≡ 0
  pub bases_rise : (k : ℕ) → k < 5 → base words k ≤ base words (k + 1)
  -- 2: pulses 2 or 3
  pub pulses_are : (k : ℕ) → k < 5 → (pulses words k ≡ pos 2) ⊎ (pulses words k ≡ pos 3)
  -- 3: shape selectors at 0, 3, 6, 9, 12 within 0..=29
  pub selectors_within : (k : ℕ) → k < 5 → (pos 0 ≤ℤ selector words k) × (selector words k ≤ℤ pos 29)
  -- 4: no position negative
  pub positions_not_negative : (k : ℕ) → k < 600 → pos 0 ≤ℤ position words k
  -- 5: ALT entries within -80..=80 and not 0
  pub entries_within : (k : ℕ) → k < 3200 → (negsuc 79 ≤ℤ entry words k) × (entry words k ≤ℤ pos 80) × (entry words k ≡ pos 0 → ⊥)

-- 6: every f32 finite and within ±65,536
abbrev pub BytesObey : List ℕ → Type 0
BytesObey bytes = (k : ℕ) → k < 977 → T (within 65536 (float_at bytes (4 * k)))

pub record Obeys (words : List ℤ) (bytes : List ℕ) : Type 0 where
  pub of_words : WordsObey words
  pub floats_within : BytesObey bytes

-- ---- each test and what it says
between→ : (a b x : ℤ) → between a b x ≡ true → (a ≤ℤ x) × (x ≤ℤ b)
between→ a b x e = (le_z_yes (holds (and_left (le_z a x) (le_z x b) e)), le_z_yes (holds (and_right (le_z a x) (le_z x b) e)))

→between : (a b x : ℤ) → a ≤ℤ x → x ≤ℤ b → between a b x ≡ true
→between a b x p q = rw (is_true (le_z a x) p.le) (is_true (le_z x b) q.le)

two_three : (n : ℕ) → 2 ≤ n → n ≤ 3 → (pos n ≡ pos 2) ⊎ (pos n ≡ pos 3)
two_three zero p q = absurd (omega arith)
two_three (suc zero) p q = absurd (omega arith)
two_three (suc (suc zero)) p q = inl refl
two_three (suc (suc (suc zero))) p q = inr refl
two_three (suc (suc (suc (suc n)))) p q = absurd (omega arith)

two_or_three : (x : ℤ) → between (pos 2) (pos 3) x ≡ true → (x ≡ pos 2) ⊎ (x ≡ pos 3)
two_or_three (pos n) e = two_three n (leb-true 2 n (and_left (leb 2 n) (leb n 3) e)) (leb-true n 3 (and_right (leb 2 n) (leb n 3) e))
two_or_three (negsuc n) e = absurd (true≢false (sym e))

is_two_or_three : (x : ℤ) → (x ≡ pos 2) ⊎ (x ≡ pos 3) → between (pos 2) (pos 3) x ≡ true
is_two_or_three x (inl e) = rw e
is_two_or_three x (inr e) = rw e

not_negative : (x : ℤ) → lt_z x (pos 0) ≡ false → pos 0 ≤ℤ x
not_negative x e = lt_z_no (holds (ap not e))

is_not_negative : (x : ℤ) → pos 0 ≤ℤ x → lt_z x (pos 0) ≡ false
is_not_negative (pos n) h = le-ltb n 0 (omega arith)
is_not_negative (negsuc n) h = absurd h.le

sided : ℤ → Bool
sided x = not (between (negsuc 79) (negsuc 0) x) && not (between (pos 1) (pos 80) x)

entry→ : (x : ℤ) → sided x ≡ false → (negsuc 79 ≤ℤ x) × (x ≤ℤ pos 80) × (x ≡ pos 0 → ⊥)
unfolding sided
entry→ (pos n) e =
    let b = not-false (leb 1 n && leb n 80) e in
    let l : 1 ≤ n = leb-true 1 n (and_left (leb 1 n) (leb n 80) b) in
    (le_z_yes tt, le_z_yes (holds (and_right (leb 1 n) (leb n 80) b)), λ z. let q : n ≡ 0 = cc in omega arith)
entry→ (negsuc n) e =
    (le_z_yes (holds (le-leb n 79 (let q = by (leb n 79) (leb 0 n) refl e in leb-true n 79 q))), le_z_yes tt, λ z. let q : ◌≡◌ {A = ℕ} 0 1 = cc in omega arith)
  where
    by : (a b : Bool) → leb n 79 ≡ a → (not (a && b) && true) ≡ false → leb n 79 ≡ true
    by true b p q = p
    by false b p q = absurd (true≢false q)

→entry : (x : ℤ) → (negsuc 79 ≤ℤ x) × (x ≤ℤ pos 80) × (x ≡ pos 0 → ⊥) → sided x ≡ false
unfolding sided
→entry (pos zero) h = absurd (h.2 refl)
→entry (pos (suc n)) h = rw (is_true (leb (suc n) 80) h.1.le, le-leb 1 (suc n) (omega arith))
→entry (negsuc n) h = rw (is_true (leb n 79) h.0.le, le-leb 0 n (omega arith))

float→ : (x : Bool) → not x ≡ false → T x
float→ x e = holds (not-false x e)

-- ---- the rules of a list of words and a list of bytes
module _ (words : List ℤ) (bytes : List ℕ) where
  -- the tests of rules 1 and 6, written out
  unfoldable pub limits : ℕ → Bool
  limits k =
      cond (eqb k 0) (eqb (unsigned_word words (FCB_INDEX_LIMIT + k)) 0)
      (cond (eqb k 1) (not (eqb (unsigned_word words (FCB_INDEX_LIMIT + k)) 0))
      (ltb (unsigned_word words (FCB_INDEX_LIMIT + k)) (unsigned_word words (FCB_INDEX_LIMIT + k - 1))))

  unfoldable pub floats : ℕ → Bool
  floats k = not (within 65536 (float_at bytes (4 * k)))

  -- each test, and whether one offends
  unfoldable pub offends : ℕ → ℕ → Bool
  offends r k = get_or (false ∷ limits k ∷ pulses_bad words k ∷ selector_bad words k ∷ position_bad words k ∷ entry_bad words k ∷ floats k ∷ []) r false

  unfoldable pub offended : ℕ → Bool
  offended r = some (offends r) (count r)

  -- no place of any rule offends
  all_fine : some offended 7 ≡ false → (r k : ℕ) → r < 7 → k < count r → offends r k ≡ false
  unfolding offended
  all_fine e r k h q = some_at (offends r) (count r) k (some_at offended 7 r e h) q

  rising : (k : ℕ) → limits (k + 2) ≡ false → base words k ≤ base words (k + 1)
  unfolding limits
  rising k e =
      let a : 186 + (k + 2) ≡ 187 + (k + 1) = omega arith in
      let b : 186 + (k + 2) - 1 ≡ 187 + k = omega arith in
      ltb-false (base words (k + 1)) (base words k)
      (rw (← a, ← b) (rw (ne_eqb (k + 2) 0 (λ z. omega arith), ne_eqb (k + 2) 1 (λ z. omega arith)) at e))

  is_rising : (k : ℕ) → base words k ≤ base words (k + 1) → limits (k + 2) ≡ false
  unfolding limits
  is_rising k h =
      let a : 186 + (k + 2) ≡ 187 + (k + 1) = omega arith in
      let b : 186 + (k + 2) - 1 ≡ 187 + k = omega arith in
      rw (ne_eqb (k + 2) 0 (λ z. omega arith), ne_eqb (k + 2) 1 (λ z. omega arith), b, a) (le-ltb (base words (k + 1)) (base words k) h)

  positive : limits 0 ≡ false → 1 ≤ limit words
  unfolding limits
  positive e = let h = eqb-false (limit words) 0 e in omega arith

  zero_base : limits 1 ≡ false → base words 0 ≡ 0
  unfolding limits
  zero_base e = eqb-true (base words 0) 0 (not-false (eqb (base words 0) 0) e)

  limit_fine : WordsObey words → (k : ℕ) → k < 7 → limits k ≡ false
  unfolding limits
  limit_fine o zero h = let p = o.limit_positive in ne_eqb (limit words) 0 (λ z. omega arith)
  limit_fine o (suc zero) h = ap not (eq-eqb (base words 0) 0 o.base_zero)
  limit_fine o (suc (suc k)) h = let e : suc (suc k) ≡ k + 2 = omega arith in rw e (is_rising k (o.bases_rise k (omega arith)))

  pub obeying : some offended 7 ≡ false → Obeys words bytes
  unfolding count offends pulses_bad selector_bad position_bad entry_bad floats sided
  obeying e = record {
    of_words = record {
      limit_positive = positive (all_fine e 1 0 (omega arith) (omega arith));
      base_zero = zero_base (all_fine e 1 1 (omega arith) (omega arith));
      bases_rise = λ k h. rising k (all_fine e 1 (k + 2) (omega arith) (omega arith));
      pulses_are = λ k h. two_or_three (pulses words k) (not-false (between (pos 2) (pos 3) (pulses words k)) (all_fine e 2 k (omega arith) h));
      selectors_within = λ k h. between→ (pos 0) (pos 29) (selector words k) (not-false (between (pos 0) (pos 29) (selector words k)) (all_fine e 3 k (omega arith) h));
      positions_not_negative = λ k h. not_negative (position words k) (all_fine e 4 k (omega arith) h);
      entries_within = λ k h. entry→ (entry words k) (all_fine e 5 k (omega arith) h);
    };
    floats_within = λ k h. float→ (within 65536 (float_at bytes (4 * k))) (all_fine e 6 k (omega arith) h);
  }

  none_bad : Obeys words bytes → (r k : ℕ) → k < count r → offends r k ≡ false
  unfolding count offends pulses_bad selector_bad position_bad entry_bad floats sided
  none_bad o zero k h = refl
  none_bad o (suc zero) k h = limit_fine o.of_words k h
  none_bad o (suc (suc zero)) k h = ap not (is_two_or_three (pulses words k) (o.of_words.pulses_are k h))
  none_bad o (suc (suc (suc zero))) k h = let p = o.of_words.selectors_within k h in ap not (→between (pos 0) (pos 29) (selector words k) p.0 p.1)
  none_bad o (suc (suc (suc (suc zero)))) k h = is_not_negative (position words k) (o.of_words.positions_not_negative k h)
  none_bad o (suc (suc (suc (suc (suc zero))))) k h = →entry (entry words k) (o.of_words.entries_within k h)
  none_bad o (suc (suc (suc (suc (suc (suc zero)))))) k h = ap not (is_true (within 65536 (float_at bytes (4 * k))) (o.floats_within k h))
  none_bad o (suc (suc (suc (suc (suc (suc (suc r))))))) k h = refl

  pub none_offended : Obeys words bytes → some offended 7 ≡ false
  unfolding offended
  none_offended o = some_all offended 7 (λ r h. some_all (offends r) (count r) (λ k q. none_bad o r k q))

  -- what the tests say
  pub obeys : some (broken words bytes) 7 ≡ false → Obeys words bytes
  unfolding offended offends limits floats broken bad limit_bad float_bad
  obeys e = obeying e

  -- and how they are passed
  pub not_broken : Obeys words bytes → some (broken words bytes) 7 ≡ false
  unfolding offended offends limits floats broken bad limit_bad float_bad
  not_broken o = none_offended o

  -- ---- the check
  -- its three tests
  opened : (a b c : Bool) → ◌≡◌ {A = ℕ} (cond (a && b) (cond c 4 0) 1) 0 → (a ≡ true) × (b ≡ true) × (c ≡ false)
  opened true true false e = (refl, refl, refl)
  opened true true true e = absurd (omega arith)
  opened true false c e = absurd (omega arith)
  opened false b c e = absurd (omega arith)

  pub tests : check words bytes ≡ 0 → (eqb (length words) WORDS ≡ true) × (eqb (length bytes) BYTES ≡ true) × (some (broken words bytes) 7 ≡ false)
  unfolding check
  tests e = opened (eqb (length words) WORDS) (eqb (length bytes) BYTES) (some (broken words bytes) 7) e

  -- a set is accepted exactly when its lengths are right and it obeys the rules
  pub accepted : length words ≡ WORDS → length bytes ≡ BYTES → Obeys words bytes → check words bytes ≡ 0
  unfolding check offended offends limits floats broken bad limit_bad float_bad
  accepted w b o =
      let n : some (broken words bytes) 7 ≡ false = none_offended o in
      rw (eq-eqb (length words) WORDS w, eq-eqb (length bytes) BYTES b, n)

  pub accepted_only : check words bytes ≡ 0 → (length words ≡ WORDS) × (length bytes ≡ BYTES) × Obeys words bytes
  unfolding offended offends limits floats broken bad limit_bad float_bad
  accepted_only e = let t = tests e in (eqb-true (length words) WORDS t.0, eqb-true (length bytes) BYTES t.1, obeying t.2)
