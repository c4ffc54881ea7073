-- The two comparisons -B ≤ x and x ≤ B say what `within B x` says: t is the float of B.
use Rattle.std.proofs.Common.{◌≡◌, ℕ, ◌*◌, ◌<◌, Bool, true, false, leb, sym, refl, ap, ◌∙◌, true≢false, le_trans, le_of_eq, lt_of_le_of_lt, mul-le-mul_right, mul-lt-mul_of_pos_right, mul-one, mul_right_comm, le-leb, leb-false, leb-true}
use mathlib.Core.Bool.{false≢true}
use borrow.Author.Tests.{lt-leb}
use lib.Ieee.{Float, nan, inf, fin, up, down, le, neg}
use lib.Ieee.Fits.{down_pos}
use lib.Ieee.Exact.{HasValue}
use Rattle.floats.specs.Floats.{within}
use Rattle.floats.specs.Order.{or_eq, or_eq', mixed}

-- a / p against y / q, which is B
across : (a p y q B : ℕ) → 0 < q → y * 1 ≡ B * q → leb (a * q) (y * p) ≡ leb a (B * p)
across a p y q B Q v = go (leb a (B * p)) refl
  where
    same : B * p * q ≡ y * p
    same = mul_right_comm B p q ∙ ap (λ (z : ℕ). z * p) (sym v ∙ mul-one y)

    go : (t : Bool) → leb a (B * p) ≡ t → leb (a * q) (y * p) ≡ t
    go true h = le-leb (a * q) (y * p) (le_trans (mul-le-mul_right q (leb-true a (B * p) h)) (le_of_eq same))
    go false h = lt-leb (a * q) (y * p) (lt_of_le_of_lt (le_of_eq (sym same)) (mul-lt-mul_of_pos_right (leb-false a (B * p) h) Q))

pub in_range_lem : (B : ℕ) (t x : Float) → HasValue t false B 1 → le (neg t) x ≡ true → le x t ≡ within B x
unfolding le within neg
in_range_lem B nan x v h = absurd v
in_range_lem B (inf s) x v h = absurd v
in_range_lem B (fin true n d) x v h = absurd (true≢false v.0)
in_range_lem B (fin false n d) nan v h = absurd (false≢true h)
in_range_lem B (fin false n d) (inf true) v h = absurd (false≢true h)
in_range_lem B (fin false n d) (inf false) v h = refl
in_range_lem B (fin false n d) (fin false m e) v h = or_eq (m * up e * down d) (n * up d * down e) ∙ across (m * up e) (down e) (n * up d) (down d) B (down_pos d) v.1
in_range_lem B (fin false n d) (fin true m e) v h =
    mixed (n * up d * down e) (m * up e * down d) ∙ sym h ∙ or_eq' (n * up d * down e) (m * up e * down d) ∙ across (m * up e) (down e) (n * up d) (down d) B (down_pos d) v.1

pub too_low : (B : ℕ) (t x : Float) → HasValue t false B 1 → le (neg t) x ≡ false → false ≡ within B x
unfolding le within neg
too_low B nan x v h = absurd v
too_low B (inf s) x v h = absurd v
too_low B (fin true n d) x v h = absurd (true≢false v.0)
too_low B (fin false n d) nan v h = refl
too_low B (fin false n d) (inf true) v h = refl
too_low B (fin false n d) (inf false) v h = refl
too_low B (fin false n d) (fin false m e) v h = absurd (true≢false (sym (mixed (m * up e * down d) (n * up d * down e)) ∙ h))
too_low B (fin false n d) (fin true m e) v h = sym h ∙ or_eq' (n * up d * down e) (m * up e * down d) ∙ across (m * up e) (down e) (n * up d) (down d) B (down_pos d) v.1
