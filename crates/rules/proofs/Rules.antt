-- What the tables of the rules' counts, starts and strides say of any rule.
use Prim.Native.Nat.{ℕ, zero, suc, ◌<◌, ◌≤◌}
use mathlib.Core.Path.{◌≡◌, refl}
use mathlib.Core.List.{List, [], ◌∷◌}
use mathlib.Core.Bool.{Bool, true, false, cond}
use native.Mathlib.Omega.{arith}
use lib.Dec.{ltb}
use lib.ListN.{get_or}
use lib.IntN.{ℤ}
use borrow.Author.Tests.{le-ltb, lt-ltb}
use Rattle.sequence.specs.First.{first, first_from, first_more, some, some_none}
use Rattle.tables.specs.declared.Fault.{Fault}
use Rattle.tables.specs.Tables.{count, place, bad, broken, report, first_fault}
use Rattle.rules.specs.declared.Rule.{Rule}
use Rattle.rules.specs.declared.Rule.TheVariants.{Limit, Pulses, Selector, Position, Entry, Float}
use Rattle.rules.specs.Rule.{number}
use Rattle.std.specs.Prelude.{◌||◌, ◌+◌}
use Rattle.std.specs.List.{list_any}

-- ---- one turn of the loop over the rules
module _ (words : List ℤ) (bytes : List ℕ) (r k n : ℕ) (e : k ≡ first (bad words bytes r) (count r)) (f : n ≡ count r) where
  pub broken_no : n ≤ k → broken words bytes r ≡ false
  unfolding broken
  broken_no h = le-ltb (first (bad words bytes r) (count r)) (count r) (omega arith)

  pub broken_yes : k < n → broken words bytes r ≡ true
  unfolding broken
  broken_yes h = lt-ltb (first (bad words bytes r) (count r)) (count r) (omega arith)

-- ---- what is told
module _ (words : List ℤ) (bytes : List ℕ) where
  -- rule 0 has no place, so the search may begin at rule 1
  pub from_one : first (broken words bytes) 7 ≡ first_from (broken words bytes) 1 6
  unfolding broken count
  from_one = first_more (broken words bytes) 0 7 (omega arith) (some_none (bad words bytes 0))

  pub told : (r k p : ℕ) → r < 7 → k ≡ first (bad words bytes r) (count r) → p ≡ place r k → first (broken words bytes) 7 ≡ r → ◌≡◌ {A = Fault} (record { rule = r; place = p }) (first_fault words bytes)
  unfolding first_fault report
  told r k p h e q w = rw (w, lt-ltb r 7 h, q, e)

  pub nothing_told : (r : ℕ) → 7 ≤ r → first (broken words bytes) 7 ≡ r → ◌≡◌ {A = Fault} (record { rule = 0; place = 0 }) (first_fault words bytes)
  unfolding first_fault report
  nothing_told r h w = rw (w, le-ltb r 7 h)

-- ---- the rules in their order
abbrev pub six : List Rule
six = Limit ∷ Pulses ∷ Selector ∷ Position ∷ Entry ∷ Float ∷ []

pub numbered : (d : Rule) (i : ℕ) → i < 6 → number (get_or six i d) ≡ i + 1
numbered d zero h = refl
numbered d (suc zero) h = refl
numbered d (suc (suc zero)) h = refl
numbered d (suc (suc (suc zero))) h = refl
numbered d (suc (suc (suc (suc zero)))) h = refl
numbered d (suc (suc (suc (suc (suc zero))))) h = refl
numbered d (suc (suc (suc (suc (suc (suc i)))))) h = absurd (omega arith)

pub any_of : (f : ℕ → Bool) → f 0 ≡ false → list_any (λ r. f (number r)) six ≡ some f 7
unfolding first_from
any_of f o = rw o (by (f 1) (f 2) (f 3) (f 4) (f 5) (f 6))
  where
    by : (a b c d e g : Bool) → a || (b || (c || (d || (e || (g || false))))) ≡ ltb (cond a 1 (cond b 2 (cond c 3 (cond d 4 (cond e 5 (cond g 6 7)))))) 7
    by true b c d e g = refl
    by false true c d e g = refl
    by false false true d e g = refl
    by false false false true e g = refl
    by false false false false true g = refl
    by false false false false false true = refl
    by false false false false false false = refl

pub any_told : (words : List ℤ) (bytes : List ℕ) → list_any (λ r. broken words bytes (number r)) six ≡ some (broken words bytes) 7
unfolding broken count
any_told words bytes = any_of (broken words bytes) (some_none (bad words bytes 0))
