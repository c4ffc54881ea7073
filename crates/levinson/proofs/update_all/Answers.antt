-- Pair by pair from both ends inwards: what the loop reads is as it was.
use native.Mathlib.Omega.{arith}
use mathlib.Core.List.{List}
use mathlib.Core.Path.{◌≡◌, refl}
use Prim.Native.Nat.{ℕ, ◌-◌, ◌+◌, ◌/◌, ◌<◌}
use lib.IntN.{ℤ, pos}
use lib.ListN.{get_or, set}
use mir.Syntax.{w16, w32}
use mir.ValLaws.{to_z-of_z}
use Rattle.reflection.specs.Reflection as Levinson
use Rattle.levinson.proofs.Paired.{Paired, paired_none, paired_more, paired_end}
use Rattle.levinson.proofs.update_all.Invariants.{u}
use Rattle.levinson.proofs.update_all.Goals as goal

-- a turn, of numbers that stand as they did
turn : (top : ℕ) (kv inverse scale : ℤ) (k l : List ℤ) (n : ℕ) → top < 10 → n < (top + 1) / 2 → Paired (u top kv inverse scale k) k top l n →
    Paired (u top kv inverse scale k) k top (set (set l n (Levinson.updated kv inverse scale (get_or l n (pos 0)) (get_or l (top - 1 - n) (pos 0)))) (top - 1 - n) (Levinson.updated kv inverse scale (get_or l (top - 1 - n) (pos 0)) (get_or l n (pos 0)))) (n + 1)
turn top kv inverse scale k l n t h p =
    let m : ℕ = top - 1 - n in
    let x : get_or l n (pos 0) ≡ get_or k n (pos 0) = p.kept n (omega arith) (omega arith) in
    let y : get_or l m (pos 0) ≡ get_or k m (pos 0) = p.kept m (omega arith) (omega arith) in
    let e : top - 1 - m ≡ n = omega arith in
    paired_more (u top kv inverse scale k) k top l n _ _ t h p (rw (x, y)) (rw (x, y, e))

pub loop-n-init : goal.loop-n-init
loop-n-init c = (omega arith, refl, paired_none _ c.args.k.now c.args.top c.requires.0)

pub update_pair-requires : goal.update_pair-requires
update_pair-requires c = let p = c.before.before.loop-n.invariant.2.sized in (omega (arith, p), omega (arith, p))

pub loop-n-preserved : goal.loop-n-preserved
loop-n-preserved c =
    let l = c.before.before.before.before in
    let b = l.before in
    (omega arith, refl, rw c.before.update_pair.ensures (turn b.args.top _ _ _ b.args.k.now l.loop-n.k l.loop-n.n b.requires.1 (omega arith) l.loop-n.invariant.2))

pub returns : goal.returns
unfolding Levinson.update_all
returns c =
    let l = c.before in
    let b = l.before in
    simp (to_z-of_z w16 _ b.ranges.kv, to_z-of_z w16 _ b.ranges.inverse, to_z-of_z w32 _ b.ranges.scale) at (paired_end _ b.args.k.now b.args.top l.loop-n.k l.loop-n.n (omega arith) l.loop-n.invariant.2)
