-- Saturation changes just the numbers beyond the ends of 32 bits; and a sample that it changed is at an end of 16.
use Rattle.std.proofs.Common.{arith, add-one, ap, sym, ◌∙◌, subst, eq-eqb, ne_eqb}
use Rattle.std.specs.Prelude.{Bool, true, false, not, cond, ◌||◌, ◌≡◌, refl, List, ℕ, zero, suc, ◌+◌, ◌-◌, ◌≤◌, ◌<◌, T, eqb, length, get_or, ℤ, pos, negsuc, nat_abs, ◌+ℤ◌, ◌-ℤ◌}
use Rattle.std.proofs.lemmas.Bool.{false≢true}
use Rattle.std.proofs.Math.IntN.{+ℤ_idl, +ℤ_invr, -ℤ-+ℤ_cancel}
use Rattle.std.specs.Int.{from_bool, int_max, int_min}
use Rattle.std.specs.Int.Signed.{lt_z, lt_z_yes, <ℤ_irrefl}
use Rattle.sequence.specs.Count.{one, count, count_none, count_more}
use Rattle.fixed.specs.Fixed.{residue, signed, wrap, clamp, sat, clips, hi}

-- ---- the test for two numbers that differ
none : (z : ℤ) → nat_abs z ≡ 0 → z ≡ pos 0
none (pos n) e = ap pos e
none (negsuc n) e = absurd (omega (arith, e))

no_difference : (a b : ℤ) → nat_abs (a -ℤ b) ≡ 0 → a ≡ b
no_difference a b e = sym (-ℤ-+ℤ_cancel a b) ∙ ap (λ (z : ℤ). z +ℤ b) (none (a -ℤ b) e) ∙ +ℤ_idl b

differ : (a b : ℤ) → (a ≡ b → ⊥) → not (eqb (nat_abs (a -ℤ b)) 0) ≡ true
differ a b h = ap not (ne_eqb (nat_abs (a -ℤ b)) 0 (λ e. h (no_difference a b e)))

alike : (a : ℤ) → not (eqb (nat_abs (a -ℤ a)) 0) ≡ false
alike a = ap not (eq-eqb (nat_abs (a -ℤ a)) 0 (ap nat_abs (+ℤ_invr a)))

never_below : (a : ℤ) → lt_z a a ≡ true → ⊥
never_below a e = <ℤ_irrefl {a = a} (lt_z_yes (subst T (sym e) tt))

-- ---- what a test that is passed adds to a count
pub one_of : (b : Bool) → from_bool b ≡ one b
one_of true = refl
one_of false = refl

-- ---- between two ends, of which one is below 0
pub clamped : (a b : ℕ) (z : ℤ) → int_max (negsuc a) (int_min z (pos b)) ≡ clamp (negsuc a) (pos b) z
unfolding clamp
clamped a b (negsuc n) = refl
clamped a b (pos n) = go (lt_z (pos b) (pos n))
  where
    go : (t : Bool) → cond (lt_z (cond t (pos b) (pos n)) (negsuc a)) (negsuc a) (cond t (pos b) (pos n)) ≡ cond t (pos b) (pos n)
    go true = refl
    go false = refl

-- ---- beyond the ends
pub clips_beyond : (z : ℤ) → clips z ≡ (lt_z z (negsuc 2147483647) || lt_z (pos 2147483647) z)
unfolding clips clamp
clips_beyond z = go (lt_z z (negsuc 2147483647)) (lt_z (pos 2147483647) z) refl refl
  where
    go : (s t : Bool) → lt_z z (negsuc 2147483647) ≡ s → lt_z (pos 2147483647) z ≡ t → not (eqb (nat_abs (cond s (negsuc 2147483647) (cond t (pos 2147483647) z) -ℤ z)) 0) ≡ (s || t)
    go true t e f = differ (negsuc 2147483647) z (λ h. never_below z (ap (lt_z z) (sym h) ∙ e))
    go false true e f = differ (pos 2147483647) z (λ h. never_below z (ap (λ (x : ℤ). lt_z x z) (sym h) ∙ f))
    go false false e f = alike z

-- ---- what was changed is at an end
-- of a difference that is told
end_of : (P : ℤ → Type 0) → P (pos 32767) → P (negsuc 32767) → (z : ℤ) → not (eqb (nat_abs (sat z -ℤ z)) 0) ≡ true → P (hi (sat z))
unfolding clamp wrap signed residue
end_of P top bottom z h = go (lt_z z (negsuc 2147483647)) (lt_z (pos 2147483647) z) h
  where
    go : (s t : Bool) → not (eqb (nat_abs (cond s (negsuc 2147483647) (cond t (pos 2147483647) z) -ℤ z)) 0) ≡ true → P (hi (cond s (negsuc 2147483647) (cond t (pos 2147483647) z)))
    go true t e = bottom
    go false true e = top
    go false false e = absurd (false≢true (sym (alike z) ∙ e))

pub clipped_end : (P : ℤ → Type 0) → P (pos 32767) → P (negsuc 32767) → (z : ℤ) → clips z ≡ true → P (hi (sat z))
unfolding clips
clipped_end P top bottom z h = end_of P top bottom z h

-- ---- so a block without a sample at an end has none that was changed
unfoldable pub at_end : ℤ → Bool
at_end x = lt_z x (negsuc 32766) || lt_z (pos 32766) x

unfoldable pub ends : List ℤ → ℕ
ends block = count (λ n. at_end (get_or block n (pos 0))) (length block)

pub changed_at_end : (z : ℤ) → clips z ≡ true → at_end (hi (sat z)) ≡ true
unfolding clips at_end
changed_at_end z h = end_of (λ (x : ℤ). at_end x ≡ true) refl refl z h

grows : (test : ℕ → Bool) (m d : ℕ) → count test m ≤ count test (m + d)
grows test m zero = let e : m + 0 ≡ m = omega arith in omega (arith, ap (count test) e)
grows test m (suc d) = let e : m + suc d ≡ m + d + 1 = omega arith in omega (arith, grows test m d, count_more test (m + d), ap (count test) e)

pub no_end : (block : List ℤ) → ends block ≡ 0 → (k : ℕ) → k < length block → at_end (get_or block k (pos 0)) ≡ true → ⊥
unfolding ends
no_end block e k h t =
    let test : ℕ → Bool = λ (n : ℕ). at_end (get_or block n (pos 0)) in
    let d : k + 1 + (length block - (k + 1)) ≡ length block = omega arith in
    absurd (omega (arith, e, grows test (k + 1) (length block - (k + 1)), ap (count test) d, count_more test k, ap one t))

failed : (b : Bool) → (b ≡ true → ⊥) → one b ≡ 0
failed true h = absurd (h refl)
failed false h = refl

-- a test that is passed nowhere
pub count_nowhere : (test : ℕ → Bool) (n : ℕ) → ((k : ℕ) → k < n → test k ≡ true → ⊥) → count test n ≡ 0
count_nowhere test zero h = count_none test
count_nowhere test (suc n) h = omega (arith, count_nowhere test n (λ k p. h k (omega arith)), count_more test n, ap (count test) (add-one n), failed (test n) (h n (omega arith)))
