-- One store, of the sum of what stood there.
use native.Mathlib.Omega.{arith}
use borrow.Author.Rules.{rules}
use mathlib.Core.Path.{◌≡◌, ap, ◌∙◌}
use Prim.Native.Nat.{ℕ, ◌<◌, ◌-◌}
use lib.IntN.{ℤ, pos, nat_abs}
use lib.Signed.{lt_z}
use lib.ListN.{get_or, set}
use mir.Syntax.{w16}
use mir.Val.{to_z, of_z}
use mir.ValLaws.{to_z-of_z}
use Rattle.fixed.specs.Machine.{back}
use Rattle.code_index.specs.Codebook as Codebook
use Rattle.codebook.proofs.place_pulse.Goals as goal
use Rattle.codebook.proofs.place_pulse.Goals.{After-place_of-at}

module _ (c : goal.After-place_of-at) where
  abbrev entry : ℤ
  entry = c.before.args.entry

  entry_back : to_z w16 (of_z w16 entry) ≡ entry
  entry_back = to_z-of_z w16 entry c.before.ranges.entry

  place_is : c.place_of-at.result ≡ nat_abs entry - 1
  place_is = simp entry_back at c.place_of-at.ensures

  place_lt : c.place_of-at.result < 80
  place_lt = rw place_is (omega (arith, c.before.requires.fact_2, c.before.requires.fact_1))

pub offset_bounds-code-at : goal.offset_bounds-code-at
offset_bounds-code-at c = omega (arith, place_lt c)

pub bounds-code-at : goal.bounds-code-at
bounds-code-at c = place_lt c

pub offset_bounds-code-at-2 : goal.offset_bounds-code-at-2
offset_bounds-code-at-2 c = omega (arith, place_lt c.before.before)

pub bounds-code-at-2 : goal.bounds-code-at-2
bounds-code-at-2 c = place_lt c.before.before

pub returns : goal.returns
unfolding Codebook.place_pulse
returns c =
    let a = c.before.before in
    let code = a.before.args.code.now in
    let at = a.place_of-at.result in
    let x_back : to_z w16 (of_z w16 (get_or code at (pos 0))) ≡ get_or code at (pos 0) = back w16 (get_or code at (pos 0)) (search rules) in
    let y_is = back w16 c.sum-y.result c.sum-y.type_inv ∙ simp (entry_back a, x_back) at c.sum-y.ensures in
    ap (λ (y : ℤ). set code at y) y_is
    ∙ ap (λ (n : ℕ). set code n (Codebook.sum (lt_z (pos 0) (entry a)) (get_or code n (pos 0)) (pos 8192))) (place_is a)
