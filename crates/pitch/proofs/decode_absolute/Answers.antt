-- At the top the lag is a whole number, and so 3 * (code - 112) thirds; below it is code + 58 of them.
use borrow.Author.Tests.{lt-ltb, le-ltb}
use native.Mathlib.Omega.{arith}
use mathlib.Core.Bool.{true, false}
use mathlib.Core.Path.{◌≡◌, ◌∙◌}
use Prim.Native.Nat.{ℕ, ◌+◌, ◌-◌, ◌*◌, ◌/◌, ◌%◌}
use lib.Dec.{ltb}
use lib.IntN.{pos, ◌-ℤ◌}
use mir.Syntax.{w16}
use mir.Val.{to_z}
use mir.ValLaws.{to_z_pos}
use Rattle.pitch.specs.Pitch as Pitch
use Rattle.pitch.proofs.Naturals.{fits, reads, less}
use Rattle.pitch.proofs.decode_absolute.Goals as goal
use Rattle.pitch.proofs.decode_absolute.Goals.{Then-code-ge197}

module _ (c : goal.Then-code-ge197) where
  abbrev code : ℕ
  code = c.before.args.code

  high : to_z w16 code -ℤ pos 112 ≡ pos (code - 112)
  high = less 112 (to_z_pos w16 code (omega (arith, c.before.requires))) (omega arith)

pub overflow_sub-result : goal.overflow_sub-result
overflow_sub-result c = fits (high c) (omega (arith, c.before.requires))

pub returns-then-code-ge197 : goal.returns-then-code-ge197
unfolding Pitch.decode_absolute Pitch.thirds
returns-then-code-ge197 c =
    let m : ℕ = code c - 112 in
    let t : ltb (code c) 197 ≡ false = le-ltb _ _ c.if-code-ge197.true in
    let q : (3 * m + 1) / 3 ≡ m = omega arith in
    let r : (3 * m + 1) % 3 ≡ 1 = omega arith in
    simp (reads (high c) (omega (arith, c.before.requires)), t, q, r)

pub returns : goal.returns
unfolding Pitch.decode_absolute
returns c =
    let t : ltb c.before.before.args.code 197 ≡ true = lt-ltb _ _ c.before.if-code-ge197.false in
    c.thirds.ensures ∙ simp t
