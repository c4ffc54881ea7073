-- 160 samples, of which a call writes the first 80 and another the rest.
use native.Mathlib.Omega.{arith}
use Rattle.std.specs.Prelude.{◌≡◌, ◌-◌, List, ◌++◌, length, take, drop, ℤ}
use mathlib.Core.Path.{ap, ◌∙◌}
use mathlib.Core.List.{append-nil}
use lib.ListN.{length-append, length-take, drop_of_length-le}
use lib.Seq.{take_at, drop_at, take_all}
use borrow.Rule.Slice.PartMut.{put_mid}

pub eighty : (s : List ℤ) → length s ≡ 160 → length (take 80 s) ≡ 80
eighty s h = rw length-take (omega arith)

-- two lists of 80, each put in its place
pub joined : (xs ys zs : List ℤ) → length xs ≡ 80 → put_mid 80 (length (xs ++ zs) - 80) (xs ++ zs) ys ≡ xs ++ ys
joined xs ys zs e = rw (take_at xs zs 80 e, drop_at xs zs 80 e, drop_of_length-le zs {i = length (xs ++ zs) - 80} (omega (arith, length-append xs zs)), append-nil ys)

-- what the second call is lent
pub lent : (xs zs : List ℤ) → length xs ≡ 80 → take (length (xs ++ zs) - 80) (drop 80 (xs ++ zs)) ≡ zs
lent xs zs e = ap (take (length (xs ++ zs) - 80)) (drop_at xs zs 80 e) ∙ take_all (length (xs ++ zs) - 80) zs (omega (arith, length-append xs zs))
