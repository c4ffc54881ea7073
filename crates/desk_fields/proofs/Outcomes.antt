-- The ways that each call goes: what the definitions give on each.
use Prim.Native.Nat.{ℕ, ◌+◌, ◌*◌}
use Rattle.std.specs.Prelude.{Result}
use mathlib.Core.Path.{◌≡◌, refl, ap, ◌∙◌}
use mathlib.Core.List.{List}
use native.Mathlib.Omega.{arith}
use borrow.Author.Tests.{eq-eqb, ne_eqb}
use lib.ListN.{length, get_or}
use Rattle.sequence.specs.Table.{table}
use Rattle.bits.specs.declared.HalfParams.{HalfParams}
use Rattle.bits.specs.declared.FrameParams.{FrameParams}
use Rattle.refusal.specs.declared.Refusal.{Refusal}
use Rattle.bits.specs.Bits as Bits
use Rattle.image.specs.Bytes.{number_at}
use Rattle.image.specs.Parts.{numbers_at}
use Rattle.desk_fields.specs.Fields.{FIELDS, byte_of, bytes_of_fields, bytes_are, fields_of_bytes}
use Rattle.desk_fields.specs.Calls.{unpack_number, unpack_fields, pack_number, pack_payload}

-- ---- a field's two bytes
pub two_bytes : (b : List ℕ) (k : ℕ) → get_or b (2 * k) 0 + 256 * get_or b (2 * k + 1) 0 ≡ number_at 2 b (0 + 2 * k)
unfolding number_at
two_bytes b k = let e : 0 + 2 * k ≡ 2 * k = omega arith in rw e (omega arith)

-- ---- unpacking
module _ (p old : List ℕ) where
  abbrev Unpacks : ℕ → List ℕ → Type 0
  Unpacks n new = (n ≡ unpack_number p (length old)) × (new ≡ unpack_fields p old)

  pub unpack_two : (length old ≡ FIELDS → ⊥) → Unpacks 2 old
  unfolding unpack_number unpack_fields
  unpack_two h = rw (ne_eqb (length old) FIELDS h) (refl, refl)

  pub unpack_told : length old ≡ FIELDS → (u : Result FrameParams Refusal) (f : FrameParams) (fs : List ℕ) (n : ℕ) (new : List ℕ)
      → (u ≡ Bits.unpack p) × (Bits.number u ≡ Bits.refusal p) × (Bits.fields u ≡ Bits.fields_or_zero p)
      → f ≡ Bits.fields u → fs ≡ Bits.list f → new ≡ table (byte_of fs) FIELDS → n ≡ Bits.number u → Unpacks n new
  unfolding unpack_number unpack_fields
  unpack_told h u f fs n new a q l e m =
      rw (eq-eqb (length old) FIELDS h)
      (m ∙ a.1, e ∙ ap (λ (x : List ℕ). table (byte_of x) FIELDS) l ∙ bytes_are f ∙ ap bytes_of_fields (q ∙ a.2))

-- ---- packing
module _ (b old : List ℕ) where
  abbrev Packs : ℕ → List ℕ → Type 0
  Packs n new = (n ≡ pack_number b old) × (new ≡ pack_payload b old)

  pub pack_two : (length b ≡ FIELDS → ⊥) → Packs 2 old
  unfolding pack_number pack_payload
  pack_two h = rw (ne_eqb (length b) FIELDS h) (refl, refl)

  pub pack_told : length b ≡ FIELDS → (ns : List ℕ) (x y : HalfParams) (n : ℕ) (new : List ℕ)
      → ns ≡ numbers_at 2 24 b 0 → x ≡ Bits.half_params ns 0 → y ≡ Bits.half_params ns 12
      → (n ≡ Bits.pack (record { first = x; second = y }) old) × (new ≡ Bits.packed (record { first = x; second = y }) old) → Packs n new
  unfolding pack_number pack_payload fields_of_bytes
  pack_told h ns x y n new q v w a =
      let f : record { first = x; second = y } ≡ fields_of_bytes b = rw (v, w, q) in
      rw (eq-eqb (length b) FIELDS h) (a.0 ∙ ap (λ (z : FrameParams). Bits.pack z old) f, a.1 ∙ ap (λ (z : FrameParams). Bits.packed z old) f)
