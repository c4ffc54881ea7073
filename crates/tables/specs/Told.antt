-- What firstFault tells, in plain words.
use Rattle.std.specs.Prelude.{ℕ, ◌<◌, ◌≡◌, List, Bool, true, false, ◌&&◌, cond, length, eqb, ℤ}
use Rattle.std.proofs.Math.Path.{refl}
use Rattle.std.proofs.Common.{arith}
use borrow.Author.Tests.{ltb-true}
use Rattle.sequence.specs.First.{first, some, first_before, first_at, some_at}
use Rattle.tables.specs.declared.Fault.{Fault}
use Rattle.tables.specs.Places.{WORDS, BYTES}
use Rattle.tables.specs.Tables.{count, bad, place, broken, report, first_fault, check}
use Rattle.tables.specs.Rules.{tests}

-- a fault names a place that breaks its rule; no earlier place of that rule does, and no place of a lower rule
pub record Told (words : List ℤ) (bytes : List ℕ) (f : Fault) : Type 0 where
  pub k : ℕ
  pub at_place : f.place ≡ place f.rule k
  pub a_place : k < count f.rule
  pub offends : bad words bytes f.rule k ≡ true
  pub places_before : (j : ℕ) → j < k → bad words bytes f.rule j ≡ false
  pub rules_below : (s j : ℕ) → s < f.rule → j < count s → bad words bytes s j ≡ false

opened : (a b c : Bool) → ◌≡◌ {A = ℕ} (cond (a && b) (cond c 4 0) 1) 4 → c ≡ true
opened true true true e = refl
opened true true false e = absurd (omega arith)
opened true false c e = absurd (omega arith)
opened false b c e = absurd (omega arith)

module _ (words : List ℤ) (bytes : List ℕ) where
  found : Bool → Fault
  found b = cond b (record { rule = first (broken words bytes) 7; place = place (first (broken words bytes) 7) (first (bad words bytes (first (broken words bytes) 7)) (count (first (broken words bytes) 7))) }) (record { rule = 0; place = 0 })

  is_found : first_fault words bytes ≡ found (some (broken words bytes) 7)
  unfolding first_fault report found
  is_found = refl

  told_of : some (broken words bytes) 7 ≡ true → Told words bytes (found true)
  unfolding found broken
  told_of e =
      let r = first (broken words bytes) 7 in
      let b = first_at (broken words bytes) 7 (ltb-true r 7 e) in
      let h = ltb-true (first (bad words bytes r) (count r)) (count r) b in
      record {
        k = first (bad words bytes r) (count r);
        at_place = refl;
        a_place = h;
        offends = first_at (bad words bytes r) (count r) h;
        places_before = λ j l. first_before (bad words bytes r) (count r) j l;
        rules_below = λ s j l q. some_at (bad words bytes s) (count s) j (first_before (broken words bytes) 7 s l) q;
      }

  -- a set that is refused with 4 has a fault
  pub told : check words bytes ≡ 4 → Told words bytes (first_fault words bytes)
  unfolding check
  told e =
      let b = opened (eqb (length words) WORDS) (eqb (length bytes) BYTES) (some (broken words bytes) 7) e in
      rw (is_found, b) (told_of b)

  -- one that is accepted has none
  pub nothing_told : check words bytes ≡ 0 → first_fault words bytes ≡ record { rule = 0; place = 0 }
  unfolding found
  nothing_told e = rw (is_found, (tests words bytes e).2)
