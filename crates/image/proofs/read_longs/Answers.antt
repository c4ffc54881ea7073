-- By turn k the first k numbers are read.
use Prim.Native.Nat.{ℕ, ◌+◌, ◌*◌}
use mathlib.Core.Path.{refl, ap, ◌∙◌}
use Rattle.sequence.specs.Table.{written_none, written_more, written_end}
use Rattle.image.specs.Bytes.{number_at, four_bytes}
use Rattle.image.specs.Image.{signed}
use Rattle.image.proofs.Loops.{read_end}
use mir.Syntax.{w32}
use mir.Facts.{to_z-of_z}
use borrow.Author.Rules.{sfits_of}
use borrow.Author.Rules.{rules}
use Rattle.image.proofs.read_longs.Goals as goal

pub loop-k-init : goal.loop-k-init
loop-k-init c = (c.requires, written_none (λ (j : ℕ). signed 4 (number_at 4 c.args.bytes.now (c.args.at + 4 * j))) _ c.args.out.now refl)

pub loop-k-preserved : goal.loop-k-preserved
loop-k-preserved c =
    rw (to_z-of_z {w = w32} {z = c.long.result} (sfits_of c.long.type_inv))
    (c.loop-k.invariant.0, written_more (λ (j : ℕ). signed 4 (number_at 4 c.args.bytes.now (c.args.at + 4 * j))) _ _ c.loop-k.k _ c.loop-k.invariant.1 (search rules) (c.long.ensures ∙ ap (signed 4) (c.bits_at.ensures ∙ four_bytes _ _)))

pub returns : goal.returns
returns c =
    written_end (λ (j : ℕ). signed 4 (number_at 4 c.args.bytes.now (c.args.at + 4 * j))) _ _ c.loop-k.k c.loop-k.invariant.1 (search rules) ∙ read_end (signed 4) 4 _ c.args.bytes.now c.args.at
