-- By turn k the first k numbers are read.
use Prim.Native.Nat.{ℕ, ◌+◌, ◌*◌}
use mathlib.Core.Path.{refl, ap, ◌∙◌}
use Rattle.sequence.specs.Table.{written_none, written_more, written_end}
use Rattle.image.specs.Bytes.{number_at}
use Rattle.image.specs.Image.{signed}
use Rattle.image.proofs.Loops.{read_end, two_bytes}
use mir.Syntax.{w16}
use mir.Facts.{to_z-of_z}
use borrow.Author.Rules.{sfits_of}
use borrow.Author.Rules.{rules}
use Rattle.image.proofs.read_words.Goals as goal

pub loop-k-init : goal.loop-k-init
loop-k-init c = (c.requires, written_none (λ (j : ℕ). signed 2 (number_at 2 c.args.bytes.now (c.args.at + 2 * j))) _ c.args.out.now refl)

pub loop-k-preserved : goal.loop-k-preserved
loop-k-preserved c =
    rw (to_z-of_z {w = w16} {z = c.word.result} (sfits_of c.word.type_inv))
    (c.loop-k.invariant.0, written_more (λ (j : ℕ). signed 2 (number_at 2 c.args.bytes.now (c.args.at + 2 * j))) _ _ c.loop-k.k _ c.loop-k.invariant.1 (search rules) (c.word.ensures ∙ ap (signed 2) (two_bytes _ _)))

pub returns : goal.returns
returns c =
    written_end (λ (j : ℕ). signed 2 (number_at 2 c.args.bytes.now (c.args.at + 2 * j))) _ _ c.loop-k.k c.loop-k.invariant.1 (search rules) ∙ read_end (signed 2) 2 _ c.args.bytes.now c.args.at
