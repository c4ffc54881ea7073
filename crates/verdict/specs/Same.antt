-- Two texts are the same bytes just where they are equal.
use Rattle.std.specs.Prelude.{ℕ, ◌+◌, ◌<◌, ◌≤◌, ◌≡◌, refl, List, [], ◌∷◌, Bool, true, false, eqb, length, get_or, drop}
use Rattle.std.proofs.Common.{sym, ap, true≢false, add-one}
use Rattle.std.proofs.Math.ListN.{drop_of_length-le}
use Rattle.std.proofs.Math.Seq.{drop-cons}
use Rattle.std.proofs.lemmas.Slice.Eq.{bytes_eq-Decides}
use borrow.Author.Tests.{eq-eqb, ne_eqb}
use Rattle.verdict.specs.Verdict.{same}

pub same_is : (a b : List ℕ) → same a b ≡ true → a ≡ b
same_is a b e = (bytes_eq-Decides a b).0 e

pub same_self : (a : List ℕ) → same a a ≡ true
same_self a = (bytes_eq-Decides a a).1 refl

pub same_not : (a b : List ℕ) → (length a ≡ length b → ⊥) → same a b ≡ false
same_not a b h = by (same a b) refl
  where
    by : (t : Bool) → same a b ≡ t → same a b ≡ false
    by true e = absurd (h (ap (λ (x : List ℕ). length x) (same_is a b e)))
    by false e = e

-- ---- byte by byte
module _ (a b : List ℕ) (i : ℕ) where
  pub same_more : i < length a → i < length b → get_or a i 0 ≡ get_or b i 0 → same (drop i a) (drop i b) ≡ same (drop (i + 1) a) (drop (i + 1) b)
  same_more p q e = rw (add-one, drop-cons a i 0 p, drop-cons b i 0 q, eq-eqb (get_or a i 0) (get_or b i 0) e)

  pub same_stop : i < length a → i < length b → (get_or a i 0 ≡ get_or b i 0 → ⊥) → same (drop i a) (drop i b) ≡ false
  same_stop p q e = rw (drop-cons a i 0 p, drop-cons b i 0 q, ne_eqb (get_or a i 0) (get_or b i 0) e)

  pub same_end : length a ≤ i → length b ≤ i → same (drop i a) (drop i b) ≡ true
  same_end p q = rw (drop_of_length-le a {i = i} p, drop_of_length-le b {i = i} q)
