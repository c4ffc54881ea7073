-- What the table check tells can be read out of its bytes, and is what reset would tell: a rule is named exactly under 4, at its first place that breaks it.
use Rattle.std.specs.Prelude.{ℕ, zero, suc, ◌<◌, ◌≡◌, Bool, not, List, [], ◌∷◌, ◌++◌, eqb, ℤ, length}
use Rattle.std.proofs.Math.Path.{refl}
use Rattle.std.proofs.Common.{sym, ap, ◌∙◌, append-nil, arith, eq-eqb, ne_eqb}
use Rattle.std.proofs.Math.Bool.{true, false, cond}
use Rattle.std.proofs.Math.Decide.{ℕ_discrete}
use Rattle.tables.specs.declared.Fault.{Fault}
use Rattle.tables.specs.Tables.{count, place, first_fault, check}
use Rattle.tables.specs.Told.{told}
use Rattle.state.specs.State.{fault}
use Rattle.state.specs.Faults.{Tells, rule_of_six}
use Rattle.table_file.specs.File as File
use Rattle.image.specs.Bytes.{bytes_of, number_at, number_behind, number_back}
use Rattle.desk_tables.specs.Check.{TOLD, bytes_of_fault, fault_of_bytes, TABLES, check_number, check_told}

-- ---- no place that is told is higher than the last ALT entry's, so it has four bytes
place_of : (r k : ℕ) → k < count r → place r k < 4683
unfolding count place
place_of zero k h = absurd (omega arith)
place_of (suc zero) k h = omega arith
place_of (suc (suc zero)) k h = omega arith
place_of (suc (suc (suc zero))) k h = omega arith
place_of (suc (suc (suc (suc zero)))) k h = omega arith
place_of (suc (suc (suc (suc (suc zero))))) k h = omega arith
place_of (suc (suc (suc (suc (suc (suc zero)))))) k h = omega arith
place_of (suc (suc (suc (suc (suc (suc (suc r))))))) k h = absurd (omega arith)

pub place_below : (words : List ℤ) (bytes : List ℕ) (n : ℕ) → (n ≡ 4 → check words bytes ≡ 4) → (fault n words bytes).place < 4683
unfolding fault
place_below words bytes n h = by (ℕ_discrete n 4)
  where
    by : Dec (n ≡ 4) → (fault n words bytes).place < 4683
    by (yes e) = let t = told words bytes (h e) in rw (eq-eqb n 4 e, t.at_place) (place_of (first_fault words bytes).rule t.k t.a_place)
    by (no e) = rw (ne_eqb n 4 e) (omega arith)

pub fault_back : (f : Fault) → f.place < 4683 → fault_of_bytes (bytes_of_fault f) ≡ f
unfolding fault_of_bytes bytes_of_fault
fault_back f h =
    let b = bytes_of 4 f.place in
    let p = ap (λ (t : List ℕ). number_at 4 (f.rule ∷ t) 1) (sym (append-nil b)) ∙ number_behind 4 (f.rule ∷ []) (b ++ []) 0 ∙ number_back 4 f.place [] (omega arith) in
    ap (λ (n : ℕ). record { rule = f.rule; place = n }) p

-- 4 is the set's
pub four_set : (tables : List ℕ) → File.check_file tables ≡ 4 → check (File.words tables) (File.bytes tables) ≡ 4
four_set tables e = sym (File.long_check tables (File.long_file tables (λ z. omega arith))) ∙ e

module _ (tables old : List ℕ) (t : length old ≡ TOLD) where
  -- with room for what is told the number is the table file's
  pub file_number : File.check_file tables ≡ check_number tables (length old)
  unfolding check_number File.check_file
  file_number = rw (eq-eqb (length old) TOLD t) (by (eqb (length tables) TABLES))
    where
      by : (b : Bool) → cond b (check (File.words tables) (File.bytes tables)) 1 ≡ cond (not b) 1 (cond b (check (File.words tables) (File.bytes tables)) 1)
      by true = refl
      by false = refl

  set_four : check_number tables (length old) ≡ 4 → check (File.words tables) (File.bytes tables) ≡ 4
  set_four e = four_set tables (file_number ∙ e)

  told_back : fault_of_bytes (check_told tables old) ≡ fault (check_number tables (length old)) (File.words tables) (File.bytes tables)
  unfolding check_told
  told_back = rw (eq-eqb (length old) TOLD t) (fault_back _ (place_below (File.words tables) (File.bytes tables) (check_number tables (length old)) set_four))

  pub check_tells : Tells (File.words tables) (File.bytes tables) (check_number tables (length old)) (fault_of_bytes (check_told tables old)).rule (fault_of_bytes (check_told tables old)).place
  unfolding fault
  check_tells =
      rw told_back
      (record {
        named = λ e. rw (eq-eqb (check_number tables (length old)) 4 e) (told (File.words tables) (File.bytes tables) (set_four e));
        a_rule = λ e. rw (eq-eqb (check_number tables (length old)) 4 e) (rule_of_six (File.words tables) (File.bytes tables) (set_four e));
        none_else = λ e. rw (ne_eqb (check_number tables (length old)) 4 e) (refl, refl);
      })
