-- What the answers tell of a broken set rule: a rule is named exactly under refusal 4, and then it is the lowest that is broken, at the first of its places
-- that breaks it (Told of tables).
use Prim.Native.Nat.{ℕ, zero, suc, ◌<◌, ◌≤◌}
use Rattle.std.proofs.Math.Path.{◌≡◌, refl}
use Rattle.std.specs.Prelude.{List, Bool, cond, ◌&&◌, ℤ, pos, length, set}
use Rattle.std.proofs.Math.Bool.{true, false}
use native.Mathlib.Omega.{arith}
use borrow.Author.Tests.{eq-eqb, ne_eqb, eqb-true}
use Rattle.std.proofs.Math.Dec.{eqb}
use Rattle.sequence.specs.All.{and_left, and_right}
use Rattle.sequence.specs.First.{some, first_from}
use Rattle.tables.specs.Places.{WORDS, BYTES}
use Rattle.tables.specs.Tables.{limit_bad, count, bad, place, broken, report, first_fault, check}
use Rattle.tables.specs.Told.{Told, told}
use Rattle.tables.specs.Bare.{bare_words, bare_bytes, from_limit, from_bases, from_pulses, from_selectors, from_entries}
use Rattle.state.specs.declared.State.{State}
use Rattle.state.specs.declared.Returned.{Returned}
use Rattle.state.specs.State.{fault, started_by, started, reset, cold_start, missed_frame}

-- of an answer's number, rule and place
pub record Tells (words : List ℤ) (bytes : List ℕ) (number rule place : ℕ) : Type 0 where
  pub named : number ≡ 4 → Told words bytes (record { rule = rule; place = place })
  pub a_rule : number ≡ 4 → (1 ≤ rule) × (rule ≤ 6)
  pub none_else : (number ≡ 4 → ⊥) → (rule ≡ 0) × (place ≡ 0)

module _ (words : List ℤ) (bytes : List ℕ) where
  -- the parts of a set that is refused with 4 are as long as they must be
  pub four_long : check words bytes ≡ 4 → (length words ≡ WORDS) × (length bytes ≡ BYTES)
  unfolding check
  four_long e =
      let w = eqb (length words) WORDS in
      let b = eqb (length bytes) BYTES in
      let l = by (w && b) (some (broken words bytes) 7) e in
      (eqb-true (length words) WORDS (and_left w b l), eqb-true (length bytes) BYTES (and_right w b l))
    where
      by : (a d : Bool) → ◌≡◌ {A = ℕ} (cond a (cond d 4 0) 1) 4 → a ≡ true
      by true d e = refl
      by false d e = absurd (omega arith)

  -- only rules 1 to 6 have a place
  with_place : (r k : ℕ) → k < count r → (1 ≤ r) × (r ≤ 6)
  unfolding count
  with_place zero k h = absurd (omega arith)
  with_place (suc zero) k h = (omega arith, omega arith)
  with_place (suc (suc zero)) k h = (omega arith, omega arith)
  with_place (suc (suc (suc zero))) k h = (omega arith, omega arith)
  with_place (suc (suc (suc (suc zero)))) k h = (omega arith, omega arith)
  with_place (suc (suc (suc (suc (suc zero))))) k h = (omega arith, omega arith)
  with_place (suc (suc (suc (suc (suc (suc zero)))))) k h = (omega arith, omega arith)
  with_place (suc (suc (suc (suc (suc (suc (suc r))))))) k h = absurd (omega arith)

  pub rule_of_six : check words bytes ≡ 4 → (1 ≤ (first_fault words bytes).rule) × ((first_fault words bytes).rule ≤ 6)
  rule_of_six e = let t = told words bytes e in with_place (first_fault words bytes).rule t.k t.a_place

  -- by the number alone, where 4 is the set's
  pub by_number : (n : ℕ) → (n ≡ 4 → check words bytes ≡ 4) → Tells words bytes n (fault n words bytes).rule (fault n words bytes).place
  unfolding fault
  by_number n h =
      record {
        named = λ e. rw (eq-eqb n 4 e) (told words bytes (h e));
        a_rule = λ e. rw (eq-eqb n 4 e) (rule_of_six (h e));
        none_else = λ e. rw (ne_eqb n 4 e) (refl, refl);
      }

  -- ---- reset and a cold start
  started_tells : (m : ℕ) → Tells words bytes (started words bytes m).number (started words bytes m).rule (started words bytes m).place
  unfolding started started_by fault
  started_tells m = by (check words bytes) (λ e. e)
    where
      by : (n : ℕ) → (n ≡ 4 → check words bytes ≡ 4) → Tells words bytes (started_by n words bytes m).number (started_by n words bytes m).rule (started_by n words bytes m).place
      by zero h = by_number zero h
      by (suc n) h = by_number (suc n) h

  pub reset_tells : Tells words bytes (reset words bytes).number (reset words bytes).rule (reset words bytes).place
  unfolding reset
  reset_tells = started_tells 2

  pub cold_start_tells : Tells words bytes (cold_start words bytes).number (cold_start words bytes).rule (cold_start words bytes).place
  unfolding cold_start
  cold_start_tells = started_tells 0

-- a missed frame takes no set, and names no rule of one
pub missed_tells : (s : State) → ((missed_frame s).rule ≡ 0) × ((missed_frame s).place ≡ 0)
unfolding missed_frame
missed_tells s = (refl, refl)

-- with base 1 at 5 and base 2 at 4 a reset of the bare set names base 2, the one that falls
falling : Returned
falling = reset (set (set bare_words 188 (pos 5)) 189 (pos 4)) bare_bytes

falls : (falling.number ≡ 4) × (falling.rule ≡ 1) × (falling.place ≡ 189)
unfolding falling reset started started_by fault check first_fault report broken bad count place limit_bad first_from bare_words from_limit from_bases from_pulses from_selectors from_entries bare_bytes
falls = (refl, refl, refl)
