-- Each half's product as its call gave it; together they are the one product.
use mathlib.Core.Path.{◌≡◌, ◌∙◌}
use lib.IntN.{ℤ}
use lib.Signed.{shr_z}
use mir.Syntax.{w16, w64}
use mir.Val.{to_z, of_z}
use mir.ValLaws.{to_z-of_z}
use Rattle.fixed.specs.Fixed as Fixed
use Rattle.fixed.specs.Machine.{back, shr_sfits, abs_sfits}
use Rattle.fixed.specs.Products.{by_halves}
use Rattle.fixed.proofs.mul32x16.Goals as goal
use Rattle.fixed.proofs.mul32x16.Goals.{After-mul, Start}

-- the two halves' products, as the calls gave them
module _ (c : goal.After-mul) where
  abbrev s : goal.Start
  s = c.before.before.before.before.before

  abbrev x : ℤ
  x = s.args.x

  abbrev y : ℤ
  y = s.args.y

  abbrev a : ℤ
  a = c.before.before.acc-partial.result

  x_back : to_z w64 (of_z w64 x) ≡ x
  x_back = to_z-of_z w64 x s.ranges.x

  y_back : to_z w16 (of_z w16 y) ≡ y
  y_back = to_z-of_z w16 y s.ranges.y

  a_is : a ≡ Fixed.acc (Fixed.mul_us (Fixed.low x) y)
  a_is =
      let k = c.before.before.before in
      cc (x_back, y_back, back w16 k.before.low.result k.before.low.type_inv, back w64 k.mul_us.result k.mul_us.type_inv)

  m_is : c.mul.result ≡ Fixed.mul (Fixed.hi x) y
  m_is = cc (x_back, y_back, back w16 c.before.hi.result c.before.hi.type_inv)

  a_back : to_z w64 (of_z w64 a) ≡ a
  a_back = back w64 a c.before.before.acc-partial.type_inv

  half_back : to_z w64 (of_z w64 (shr_z a 65536)) ≡ shr_z a 65536
  half_back = to_z-of_z w64 _ (shr_sfits w64 a 65536 (record { sfits = c.before.before.acc-partial.type_inv }))

pub returns : goal.returns
returns c =
    let b = c.before in
    let e : c.fold.result ≡ Fixed.fold (shr_z (Fixed.acc (Fixed.mul_us (Fixed.low (x b)) (y b))) 65536) (Fixed.mul (Fixed.hi (x b)) (y b)) = cc (a_back b, half_back b, back w64 b.mul.result b.mul.type_inv, a_is b, m_is b) in
    back w64 c.fold.result c.fold.type_inv ∙ e ∙ by_halves (x b) (y b) (abs_sfits w16 (y b) (s b).ranges.y)
