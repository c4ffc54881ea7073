-- By turn k the first k numbers are read.
use Prim.Native.Nat.{ℕ, ◌+◌, ◌*◌}
use mathlib.Core.Path.{refl, ap, ◌∙◌}
use Rattle.sequence.specs.Table.{written_none, written_more, written_end}
use Rattle.image.specs.Bytes.{number_at, four_bytes}
use lib.Ieee.{binary32, of_bits}
use Rattle.image.proofs.Loops.{read_end}
use borrow.Author.Rules.{rules}
use Rattle.image.proofs.read_floats.Goals as goal

pub loop-k-init : goal.loop-k-init
loop-k-init c = (c.requires, written_none (λ (j : ℕ). of_bits binary32 (number_at 4 c.args.bytes.now (c.args.at + 4 * j))) _ c.args.out.now refl)

pub loop-k-preserved : goal.loop-k-preserved
loop-k-preserved c =
    (c.loop-k.invariant.0, written_more (λ (j : ℕ). of_bits binary32 (number_at 4 c.args.bytes.now (c.args.at + 4 * j))) _ _ c.loop-k.k _ c.loop-k.invariant.1 (search rules) (c.float_at.ensures ∙ ap (of_bits binary32) (four_bytes _ _)))

pub returns : goal.returns
returns c =
    written_end (λ (j : ℕ). of_bits binary32 (number_at 4 c.args.bytes.now (c.args.at + 4 * j))) _ _ c.loop-k.k c.loop-k.invariant.1 (search rules) ∙ read_end (of_bits binary32) 4 _ c.args.bytes.now c.args.at
