-- Each part is read from its place.
use native.Mathlib.Omega.{arith}
use lib.IntN.{pos}
use lib.ListN.{get_or}
use mir.Syntax.{w16}
use mir.Facts.{to_z-of_z}
use borrow.Author.Rules.{rules}
use Rattle.image.proofs.Whole.{state_is}
use Rattle.image.proofs.read.Goals as goal

pub bounds-bytes-524 : goal.bounds-bytes-524
bounds-bytes-524 c = omega (arith, c.requires)

pub bounds-bytes-525 : goal.bounds-bytes-525
bounds-bytes-525 c = omega (arith, c.requires)

pub returns : goal.returns
returns c =
    state_is c.args.bytes.now _ _ _ _ _ _ _ _ _ _ _
    (to_z-of_z {w = w16} {z = get_or c.read_words-4.new.out 0 (pos 0)} (search rules))
    (to_z-of_z {w = w16} {z = get_or c.read_words-5.new.out 0 (pos 0)} (search rules))
    c.read_words.ensures c.read_words-2.ensures c.read_words-3.ensures c.read_words-4.ensures c.read_words-5.ensures c.read_words-6.ensures c.read_longs.ensures c.read_floats.ensures c.read_floats-2.ensures
