-- An entry is one of 64, so both words are inside the tables; then each call's result as it is defined.
use borrow.Author.Rules.{rules}
use native.Mathlib.Omega.{arith}
use mathlib.Core.Path.{◌≡◌, ◌∙◌, ap}
use Prim.Native.Nat.{ℕ, ◌+◌, ◌*◌, ◌%◌, ◌≤◌}
use lib.IntN.{ℤ, pos, ◌*ℤ◌}
use lib.ListN.{get_or}
use mir.Syntax.{w16, w64}
use mir.Val.{SFits}
use mir.ValLaws.{to_z-of_z, to_z_pos}
use Rattle.fixed.specs.Fixed as Fixed
use Rattle.fixed.specs.Abs.{abs_mul_le}
use Rattle.fixed.specs.Machine.{back, widens, widened, sfits_abs, abs_sfits}
use Rattle.lsp.specs.Lsp as Lsp
use Rattle.lsp.proofs.Sizes.{entry_le}
use Rattle.lsp.proofs.cosine.Goals as goal
use Rattle.lsp.proofs.cosine.Goals.{After-entry-e, After-position-p, After-x-1}

pub position-p-requires : goal.position-p-requires
position-p-requires c = rw (to_z-of_z w16 _ c.ranges.lsf) c.requires.fact_2

p_is : (c : goal.After-position-p) → c.position-p.result ≡ Lsp.position c.before.args.lsf
p_is c = simp (to_z-of_z w16 _ c.before.ranges.lsf) at c.position-p.ensures

e_is : (c : goal.After-entry-e) → c.entry-e.result ≡ Lsp.entry (Lsp.position c.before.before.args.lsf)
e_is c = c.entry-e.ensures ∙ ap Lsp.entry (p_is c.before)

e_le : (c : goal.After-entry-e) → c.entry-e.result ≤ 63
e_le c = rw c.entry-e.ensures (entry_le _)

pub offset_bounds-words-e : goal.offset_bounds-words-e
offset_bounds-words-e c = record { fits = omega (arith, e_le c) }

pub bounds-words-e : goal.bounds-words-e
bounds-words-e c = omega (arith, e_le c, c.before.before.requires.fact_1)

pub overflow_add-slope : goal.overflow_add-slope
overflow_add-slope c = record { fits = omega (arith, e_le c.before) }

pub offset_bounds-words-e-2 : goal.offset_bounds-words-e-2
offset_bounds-words-e-2 c = record { fits = omega (arith, e_le c.before) }

pub bounds-words-e-2 : goal.bounds-words-e-2
bounds-words-e-2 c = omega (arith, e_le c.before, c.before.before.before.requires.fact_1)

module _ (c : goal.After-x-1) where
  abbrev x : ℤ
  x = get_or c.before.before.before.args.words.now (0 + c.before.entry-e.result) (pos 0)

  x_fits : SFits w16 x
  x_fits = record { sfits = (search rules) }

  fits : SFits w64 (x *ℤ pos 65536)
  fits = sfits_abs w64 _ (omega (arith, abs_mul_le x (pos 65536) 32768 65536 (abs_sfits w16 x x_fits) (omega arith)))

pub overflow_cast-x : goal.overflow_cast-x
overflow_cast-x c = widens tt (x_fits c.before)

pub overflow_mul-x : goal.overflow_mul-x
overflow_mul-x c = simp (widened tt (x_fits c.before)) (fits c.before)

pub returns : goal.returns
unfolding Lsp.cosine
returns c =
    let k = c.before.before in
    let a = k.before.before in
    let p = a.before.before.position-p.result in
    let e = a.before.entry-e.result in
    let words = a.before.before.before.args.words.now in
    let m : k.mul.result ≡ Fixed.mul (pos (p % 256 * 8)) (get_or words (64 + e) (pos 0)) = simp (to_z_pos w16 (p % 256 * 8) (omega arith), back w16 (get_or words (64 + e) (pos 0)) (search rules)) at k.mul.ensures in
    let f : c.before.fold.result ≡ Fixed.fold (x a *ℤ pos 65536) k.mul.result = simp (widened tt (x_fits a), to_z-of_z w64 _ (fits a), back w64 k.mul.result k.mul.type_inv) at c.before.fold.ensures in
    back w16 c.hi.result c.hi.type_inv
    ∙ simp (back w64 c.before.fold.result c.before.fold.type_inv) at c.hi.ensures
    ∙ ap (λ (z : ℤ). Fixed.hi z) (f ∙ ap (Fixed.fold (x a *ℤ pos 65536)) m)
    ∙ ap (λ (q : ℕ). Fixed.hi (Fixed.fold (x a *ℤ pos 65536) (Fixed.mul (pos (q % 256 * 8)) (get_or words (64 + e) (pos 0))))) (p_is a.before.before)
    ∙ ap (λ (i : ℕ). Fixed.hi (Fixed.fold (get_or words (0 + i) (pos 0) *ℤ pos 65536) (Fixed.mul (pos (Lsp.position a.before.before.before.args.lsf % 256 * 8)) (get_or words (64 + i) (pos 0))))) (e_is a.before)
