-- Two's complement, as the definition has it.
use Rattle.std.specs.Prelude.{◌≡◌, refl, Bool, true, false, ltb, ℕ, ◌+◌, ◌*◌, negsuc}
use Rattle.std.proofs.Common.{◌∙◌, ap, arith}
use mir.Syntax.{w16}
use mir.Val.{to_z}
use mir.Facts.{to_z-of_z}
use borrow.Author.Rules.{sfits_of}
use Rattle.table_file.specs.File.{signed}
use Rattle.table_file.proofs.word.Goals as goal

complement : (n : ℕ) → to_z w16 n ≡ signed n
unfolding signed
complement n = by (ltb n 32768) refl
  where
    by : (b : Bool) → ltb n 32768 ≡ b → to_z w16 n ≡ signed n
    by true p = rw p
    by false p = rw p (ap negsuc (omega arith))

pub returns : goal.returns
returns c =
    let n : c.args.low + c.args.high * 256 ≡ c.args.low + 256 * c.args.high = omega arith in
    to_z-of_z {w = w16} {z = c.from_le_bytes.result} (sfits_of c.from_le_bytes.type_inv) ∙ c.from_le_bytes.ensures ∙ complement _ ∙ ap signed n
