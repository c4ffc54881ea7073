-- A line's first bytes over the beginning of a lent buffer, which keeps behind them what stood there.
use Rattle.std.specs.Prelude.{ℕ, suc, ◌<◌, ◌≡◌, Bool, cond, ltb, take}
use Rattle.std.proofs.Math.Path.{refl}
use Rattle.std.proofs.Common.{sym, ap, ◌∙◌, add-one, take_at}
use mathlib.Core.List.{List, [], ◌∷◌, ◌++◌, append_assoc}
use Rattle.std.proofs.Math.Bool.{true, false}
use native.Mathlib.Omega.{arith}
use Rattle.std.proofs.Math.Dec.{leb}
use borrow.Author.Tests.{ltb-true, ltb-false, leb-true, leb-false}
use Rattle.std.proofs.Math.ListN.{length, drop, length-append, length-take}
use Rattle.std.proofs.Math.Seq.{take_all, take-nil, take-append-le, drop-cons}
use Rattle.std.proofs.lemmas.List.{set_at}
use Rattle.stream.specs.Held.{zeros, count, shown, push_text}
use Rattle.stream.specs.Room.{over, over_long}

unfoldable pub lent : ℕ → List ℕ → List ℕ → List ℕ
lent w line held = over (take w line) held

pub lent_none : (w : ℕ) (held : List ℕ) → lent w [] held ≡ held
unfolding lent over
lent_none w held = rw (take-nil w)

module _ (w : ℕ) (line held : List ℕ) (whole : length held ≡ w) where
  pub lent_long : length (lent w line held) ≡ w
  unfolding lent
  lent_long = let t = length-take w line in over_long (take w line) held (omega arith) ∙ whole

  -- a byte more goes to its place, as far as there is one
  module _ (b : ℕ) where
    by_text : (t : Bool) → ltb (count w line) w ≡ t → push_text w (lent w line held) (count w line) b ≡ lent w (line ++ (b ∷ [])) held
    unfolding push_text lent over
    by_text true e =
        let h = ltb-true (count w line) w e in
        let n : count w line ≡ length line = omega arith in
        let l = length-append line (b ∷ []) in
        rw (e, n, take_all w line (omega arith), take_all w (line ++ (b ∷ [])) (omega arith), l, drop-cons held (length line) 0 (omega arith), append_assoc, add-one)
        (set_at line _ _ b (length line) refl)
    by_text false e =
        let h = ltb-false (count w line) w e in
        rw (e, take-append-le w line (b ∷ []) (omega arith))

    pub lent_push : push_text w (lent w line held) (count w line) b ≡ lent w (line ++ (b ∷ [])) held
    lent_push = by_text (ltb (count w line) w) refl

  -- what takes every longer line alike is the same of the line that buffer and count tell
  pub lent_same : {A : Type 0} (f : List ℕ → A) → (w < length line → f line ≡ f (zeros (suc w))) → f (shown w (lent w line held) (count w line)) ≡ f line
  unfolding shown lent over
  lent_same {A} f long = by (leb (count w line) w) refl
    where
      by : (t : Bool) → leb (count w line) w ≡ t → f (cond (leb (count w line) w) (take (count w line) (take w line ++ drop (length (take w line)) held)) (zeros (suc w))) ≡ f line
      by true e =
          let h = leb-true (count w line) w e in
          let n : count w line ≡ length line = omega arith in
          rw (e, n, take_all w line (omega arith)) (ap f (take_at line _ (length line) refl))
      by false e = let h = leb-false (count w line) w e in rw e (sym (long (omega arith)))
