-- A turn finds one digit and takes it off the number.
use native.Mathlib.Omega.{arith}
use mathlib.Core.Path.{◌∙◌}
use mathlib.Core.List.{List}
use Prim.Native.Nat.{ℕ, ◌/◌, ◌^◌, ◌≤◌, ◌<◌}
use lib.IntN.{ℤ}
use mir.Syntax.{w16}
use mir.Val.{to_z}
use mir.ValLaws.{to_z_pos}
use Rattle.fixed.specs.Machine.{back}
use Rattle.tables.specs.SoundWords.{pulses_within}
use Rattle.code_index.specs.Codebook as Codebook
use Rattle.code_index.proofs.Digits.{found_none, found_more, found_end, small}
use Rattle.code_index.proofs.decompose.Goals as goal
use Rattle.code_index.proofs.decompose.Goals.{After-pulses-n}

-- 2 or 3 pulses
module _ (c : goal.After-pulses-n) where
  abbrev words : List ℤ
  words = c.before.args.words.now

  abbrev class : ℕ
  class = c.before.args.class

  abbrev rest : ℕ
  rest = c.before.args.rest

  abbrev n : ℕ
  n = Codebook.pulses words class

  at_least : 2 ≤ n
  at_least = (pulses_within c.before.requires.fact_1 class c.before.requires.fact_2).0

  at_most : n ≤ 3
  at_most = (pulses_within c.before.requires.fact_1 class c.before.requires.fact_2).1

  start_lt : rest / 2 ^ n < 16384
  start_lt = small n rest at_least at_most c.before.ranges.rest.fits

pub overflow_cast-x : goal.overflow_cast-x
overflow_cast-x c = omega (arith, at_most c)

pub overflow_shr-x : goal.overflow_shr-x
overflow_shr-x c = omega (arith, at_most c)

pub overflow_cast-x-2 : goal.overflow_cast-x-2
overflow_cast-x-2 c = rw c.pulses-n.ensures (record { sfits = omega (arith, start_lt c) })

pub loop-k-init : goal.loop-k-init
loop-k-init c = rw (c.pulses-n.ensures, to_z_pos w16 (rest c / 2 ^ n c) (omega (arith, start_lt c))) (found_none (words c) (class c) (rest c) (at_least c) (at_most c))

pub remainder-requires : goal.remainder-requires
remainder-requires c = record {
  fact_1 = c.before.before.before.requires.fact_1.words_long;
  fact_2 = c.before.before.before.requires.fact_2;
  fact_3 = omega (arith, at_most c.before.before);
}

pub offset_bounds-positions-k : goal.offset_bounds-positions-k
offset_bounds-positions-k c = omega (arith, at_most c.before.before.before)

pub bounds-positions-k : goal.bounds-positions-k
bounds-positions-k c = omega (arith, at_most c.before.before.before)

pub quotient-x-requires : goal.quotient-x-requires
quotient-x-requires c = record {
  fact_1 = c.before.before.before.before.requires.fact_1.words_long;
  fact_2 = c.before.before.before.before.requires.fact_2;
  fact_3 = omega (arith, at_most c.before.before.before);
}

pub loop-k-preserved : goal.loop-k-preserved
loop-k-preserved c =
    let l = c.before.before.before in
    let s = l.before in
    found_more (words s) (class s) (rest s) l.loop-k.k (to_z w16 l.loop-k.x-bits) _ _ l.loop-k.positions (omega arith) (at_most s) l.loop-k.invariant
    (back w16 c.before.remainder.result c.before.remainder.type_inv ∙ c.before.remainder.ensures)
    (back w16 c.quotient-x.result c.quotient-x.type_inv ∙ c.quotient-x.ensures)

pub returns : goal.returns
returns c =
    let s = c.before.before in
    found_end (words s) (class s) (rest s) c.before.loop-k.k (to_z w16 c.before.loop-k.x-bits) c.before.loop-k.positions (omega arith) c.before.loop-k.invariant
