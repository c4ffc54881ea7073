-- A field's low byte, or its high one.
use Rattle.std.specs.Prelude.{◌≡◌, refl, [], ◌∷◌, ℕ, zero, suc, ◌<◌, ◌%◌, cond, eqb, get_or}
use Rattle.std.proofs.Common.{arith, mod-lt, lit<}
use Rattle.desk_fields.specs.Fields.{byte_of}
use Rattle.desk_fields.proofs.byte.Goals as goal

either : (low high j : ℕ) → j < 2 → get_or (low ∷ high ∷ []) j 0 ≡ cond (eqb j 0) low high
either low high zero h = refl
either low high (suc zero) h = refl
either low high (suc (suc j)) h = absurd (omega arith)

pub returns : goal.returns
unfolding byte_of
returns c = rw c.to_le_bytes.ensures (either _ _ (c.args.k % 2) (mod-lt c.args.k (lit< tt)))
