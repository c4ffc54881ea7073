-- The class is at most 5 and its base is reached.
use native.Mathlib.Omega.{arith}
use Prim.Native.Nat.{ℕ, ◌≤◌}
use mathlib.Core.Path.{◌≡◌, ap, ◌∙◌}
use mathlib.Core.List.{List}
use lib.IntN.{ℤ}
use Rattle.tables.specs.Tables as Tables
use Rattle.code_index.specs.Codebook as Codebook
use Rattle.code_index.specs.Ranges.{class_at_most, class_reached}
use Rattle.code_index.proofs.classify.Goals as goal
use Rattle.code_index.proofs.classify.Goals.{After-class_of-class, After-unsigned_word}

module _ (c : goal.After-class_of-class) where
  abbrev words : List ℤ
  words = c.before.before.args.words.now

  abbrev i : ℕ
  i = c.before.cut-i.result

  small : c.class_of-class.result ≤ 5
  small = rw c.class_of-class.ensures (class_at_most words i)

pub overflow_add-class : goal.overflow_add-class
overflow_add-class c = omega (arith, small c)

pub unsigned_word-requires : goal.unsigned_word-requires
unsigned_word-requires c = omega (arith, small c, c.before.before.requires.words_long)

base_is : (c : goal.After-unsigned_word) → c.unsigned_word.result ≡ Tables.base (words c.before) (Codebook.class_of (words c.before) (i c.before))
base_is c = c.unsigned_word.ensures ∙ ap (Tables.base (words c.before)) c.before.class_of-class.ensures

pub overflow_sub-result : goal.overflow_sub-result
overflow_sub-result c = rw (base_is c) (class_reached (words c.before) (i c.before) c.before.before.before.requires)

pub returns : goal.returns
unfolding Codebook.classify
returns c = cc (base_is c)
