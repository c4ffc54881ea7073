-- The residual stands before what is copied behind it.
use Rattle.std.specs.Prelude.{ℕ, ◌≡◌, List, ◌++◌, length, Float}
use Rattle.std.proofs.Common.{refl, ◌∙◌, rules, arith, append-nil, take_at, drop_at, drop_of_length-le}
use borrow.Rule.Slice.PartMut.{put_mid}
use Rattle.spectral.specs.Spectral.{push}
use Rattle.spectral.proofs.push.Goals as goal

joined : (m n : ℕ) (a z b : List Float) → length a ≡ m → length z ≡ n → put_mid m n (a ++ z) b ≡ a ++ b
joined m n a z b e f = rw (take_at a z m e, drop_at a z m e, drop_of_length-le z {i = n} (omega arith), append-nil b)

pub returns : goal.returns
unfolding push
returns c = joined 10 20 c.copy_from_slice.new.self _ _ (search rules) refl ∙ rw (c.copy_from_slice.ensures.after, c.copy_from_slice-2.ensures.after)
