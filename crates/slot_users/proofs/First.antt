-- The place of the first element that passes a test is the first place at which it passes.
use Rattle.std.specs.Prelude.{ℕ, Bool, ◌≡◌, length, get_or}
use Rattle.std.specs.List.{position_or_len}
use mathlib.Core.List.{List}
use Rattle.std.proofs.lemmas.List.Sums.{position_or_len_is}
use Rattle.sequence.specs.First.{first, first_le, first_before, first_at}

pub first_place : {X : Type 0} (p : X → Bool) (l : List X) (d : X) → position_or_len p l ≡ first (λ k. p (get_or l k d)) (length l)
first_place p l d =
    let f = λ (k : ℕ). p (get_or l k d) in
    position_or_len_is p l (first f (length l)) d (first_le f (length l)) (λ k h. first_before f (length l) k h) (λ h. first_at f (length l) h)
