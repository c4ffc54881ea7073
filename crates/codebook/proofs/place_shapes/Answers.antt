-- A turn is one pulse.
use borrow.Author.Rules.{rules}
use native.Mathlib.Omega.{arith}
use mathlib.Core.Bool.{Bool}
use mathlib.Core.Path.{◌≡◌, refl, ap, ◌∙◌}
use Prim.Native.Nat.{◌<◌}
use lib.IntN.{ℤ, pos}
use lib.ListN.{get_or}
use mir.Syntax.{w16}
use mir.Val.{to_z, of_z}
use Rattle.sequence.specs.Repeated.{repeated, repeated_again, repeated_end}
use Rattle.fixed.specs.Machine.{back}
use Rattle.tables.specs.SoundWords.{pulses_within}
use Rattle.code_index.specs.Codebook as Codebook
use Rattle.code_index.specs.Ranges.{slot_fits_lem}
use Rattle.codebook.proofs.place_shapes.Goals as goal
use Rattle.codebook.proofs.place_shapes.Goals.{After-slot-1, In-loop-k}

pub pulses-n-requires : goal.pulses-n-requires
pulses-n-requires c = (c.requires.fact_1.words_long, c.requires.fact_2)

pub loop-k-init : goal.loop-k-init
unfolding repeated
loop-k-init c = (omega arith, refl)

below : (c : goal.In-loop-k) → c.before.loop-k.k < 3
below c =
    let p = c.before.before in
    let s = p.before in
    omega (arith, p.pulses-n.ensures, (pulses_within s.requires.fact_1 s.args.class s.requires.fact_2).1)

pub offset_bounds-positions-k : goal.offset_bounds-positions-k
offset_bounds-positions-k c = omega (arith, below c)

pub bounds-positions-k : goal.bounds-positions-k
bounds-positions-k c = below c

pub added-add-requires : goal.added-add-requires
added-add-requires c = omega (arith, below c.before)

slot_back : (c : goal.After-slot-1) → to_z w16 (of_z w16 (get_or c.before.before.before.before.args.positions c.before.before.loop-k.k (pos 0))) ≡ get_or c.before.before.before.before.args.positions c.before.before.loop-k.k (pos 0)
slot_back c = back w16 _ (search rules)

pub place_slot-requires : goal.place_slot-requires
place_slot-requires c =
    let s = c.before.before.before.before.before.before in
    record {
      fact_1 = s.requires.fact_1;
      fact_2 = s.requires.fact_2;
      fact_3 = below c.before.before.before;
      fact_4 = rw (slot_back c.before.before) (slot_fits_lem s.args.positions s.requires.fact_3 c.before.before.before.before.loop-k.k (below c.before.before.before));
    }

pub overflow_step-k : goal.overflow_step-k
overflow_step-k c = omega (arith, below c.before.before.before.before)

pub loop-k-preserved : goal.loop-k-preserved
loop-k-preserved c =
    let l = c.before.before.before.before.before in
    let a = l.before.before.args in
    let k = l.loop-k.k in (
      omega arith,
      repeated_again _ k a.code.now l.loop-k.invariant.1
          (c.place_slot.ensures
          ∙ ap (λ (z : ℤ). Codebook.place_slot a.words.now a.class k z c.before.before.added-add.result l.loop-k.code) (slot_back c.before.before.before)
          ∙ ap (λ (b : Bool). Codebook.place_slot a.words.now a.class k (get_or a.positions k (pos 0)) b l.loop-k.code) c.before.before.added-add.ensures),
    )

pub returns : goal.returns
unfolding Codebook.place_shapes
returns c =
    let e = c.before.before.pulses-n.ensures in
    repeated_end _ _ (rw e at c.before.loop-k.invariant.0) (rw e at c.loop-k-test.false) c.before.loop-k.invariant.1
