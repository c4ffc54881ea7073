-- Over bytes too, unpacking gives back what was packed, and packing what was unpacked.
use Rattle.std.specs.Prelude.{ℕ, ◌≡◌, refl, Bool, true, false, not, cond, List, [], ◌∷◌, eqb, length, get_or}
use Rattle.std.proofs.Common.{Ok, Err, sym, ap, ◌∙◌, append-nil, arith, eq-eqb, eqb-true, pow_mono}
use Rattle.std.specs.Int.Bits.{bit_and}
use Rattle.bits.specs.declared.FrameParams.{FrameParams}
use Rattle.refusal.specs.declared.Refusal.TheVariants.{FrameLength, Padding}
use Rattle.bits.specs.Bits.{widths, frame_params, list, fields_of, unpack, number, fields, refusal, fields_or_zero, packed}
use Rattle.bits.specs.Calls.{unpack_number_lem, unpack_fields_lem}
use Rattle.bits.specs.Digits.{Within}
use Rattle.bits.specs.Places.{widths_count, width_le}
use Rattle.bits.specs.Widths.{list_params, fields_within}
use Rattle.bits.specs.RoundTrips.{unpack_pack, pack_unpack}
use Rattle.image.specs.Bytes.{Bytes}
use Rattle.image.specs.Parts.{part, size, bytes_of_all, numbers_at, join, cut, Below, none, more, length_all, cut_join, join_cut, length_numbers}
use Rattle.desk_fields.specs.Fields.{FIELDS, bytes_of_fields, fields_of_bytes}
use Rattle.desk_fields.specs.Calls.{unpack_number, unpack_fields, pack_number, pack_payload}

-- ---- fields and their bytes: each undoes the other
numbers_back : (ns : List ℕ) → length ns ≡ 24 → Below 2 ns → numbers_at 2 24 (bytes_of_all 2 ns) 0 ≡ ns
unfolding cut join
numbers_back ns l h =
    let c = cut_join {ps = part 24 2 ∷ []} {ns = ns ∷ []} (more l h none) in
    ap (λ (b : List ℕ). numbers_at 2 24 b 0) (sym (append-nil (bytes_of_all 2 ns))) ∙ ap (λ (t : List (List ℕ)). get_or t 0 []) c

-- for fields of 16 bits each
pub fields_back : (f : FrameParams) → Below 2 (list f) → fields_of_bytes (bytes_of_fields f) ≡ f
unfolding fields_of_bytes bytes_of_fields
fields_back f h = ap frame_params (numbers_back (list f) refl h)

pub bytes_of_fields_lem : (b : List ℕ) → Bytes b → length b ≡ FIELDS → bytes_of_fields (fields_of_bytes b) ≡ b
unfolding fields_of_bytes bytes_of_fields cut join size
bytes_of_fields_lem b h e =
    let ns = numbers_at 2 24 b 0 in
    rw (list_params ns (length_numbers 2 24 b 0)) (sym (append-nil (bytes_of_all 2 ns)) ∙ join_cut (part 24 2 ∷ []) b h 0 (omega arith))

-- ---- a field of a frame has at most 16 bits
within_below : (f : FrameParams) → Within widths (list f) → Below 2 (list f)
within_below f w k h =
    let v = w.each k (omega (arith, widths_count)) in
    let m = pow_mono (width_le k h) in
    omega arith

bytes_long : (f : FrameParams) → length (bytes_of_fields f) ≡ FIELDS
unfolding bytes_of_fields
bytes_long f = length_all 2 (list f)

-- a frame that is not refused has fields
accepted : (p : List ℕ) → refusal p ≡ 0 → unpack p ≡ Ok (fields_of p)
unfolding refusal unpack
accepted p e = by (eqb (length p) 20) (eqb (bit_and (get_or p 19 0) 192) 0) e
  where
    by : (s t : Bool) → ◌≡◌ {A = ℕ} (cond s (cond t 0 6) 3) 0 → cond s (cond t (Ok (fields_of p)) (Err Padding)) (Err FrameLength) ≡ Ok (fields_of p)
    by true true e = refl
    by true false e = absurd (omega arith)
    by false t e = absurd (omega arith)

-- ---- so of the calls
not_two : (t : Bool) (n : ℕ) → cond (not t) 2 n ≡ 0 → (t ≡ true) × (n ≡ 0)
not_two true n e = (refl, e)
not_two false n e = absurd (omega arith)

-- fields that are packed are unpacked again, into any room for them
pub unpack_packed : (b old room : List ℕ) → Bytes b → pack_number b old ≡ 0 → length room ≡ FIELDS
    → (unpack_number (pack_payload b old) (length room) ≡ 0) × (unpack_fields (pack_payload b old) room ≡ b)
unfolding pack_number pack_payload unpack_number unpack_fields
unpack_packed b old room h e l =
    let t = not_two (eqb (length b) FIELDS) _ e in
    let n = eqb-true (length b) FIELDS t.0 in
    let f = fields_of_bytes b in
    let p = packed f old in
    let u = unpack_pack f old t.1 in
    rw (t.0, eq-eqb (length room) FIELDS l)
    (sym (unpack_number_lem p) ∙ ap number u, ap bytes_of_fields (sym (unpack_fields_lem p) ∙ ap fields u) ∙ bytes_of_fields_lem b h n)

-- a frame that is unpacked is packed again, over any 20 bytes
pub pack_unpacked : (p room old : List ℕ) → Bytes p → unpack_number p (length room) ≡ 0 → length old ≡ 20
    → (pack_number (unpack_fields p room) old ≡ 0) × (pack_payload (unpack_fields p room) old ≡ p)
unfolding pack_number pack_payload unpack_number unpack_fields
pack_unpacked p room old h e l =
    let t = not_two (eqb (length room) FIELDS) _ e in
    let u = accepted p t.1 in
    let f = fields_of p in
    let z : fields_or_zero p ≡ f = sym (unpack_fields_lem p) ∙ ap fields u in
    rw (t.0, z, bytes_long f, fields_back f (within_below f (fields_within p))) (pack_unpack p f old h l u)
