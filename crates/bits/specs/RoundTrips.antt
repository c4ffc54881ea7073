-- The unpacker gives back what was packed, and the packer what was unpacked.
use Rattle.std.specs.Prelude.{◌≡◌, refl, List, [], ◌∷◌, map, ℕ, zero, suc, ◌+◌, ◌%◌, ◌≤◌, ◌<◌, length, get_or, replicate}
use Rattle.std.proofs.Common.{Ok, sym, ap, ap₂, ◌∙◌, ⊎_elim, eq-or-lt_of_le, arith, lit<, lit≤}
use Rattle.std.proofs.Math.Decide.{dec_lt}
use Rattle.std.specs.Int.Bits.{bit_and}
use Rattle.std.proofs.lemmas.List.{get_or-replicate}
use Rattle.sequence.specs.Table.{table, length_table}
use Rattle.bits.specs.declared.FrameParams.{FrameParams}
use Rattle.bits.specs.Bits.{groups, places, widths, inverted, bit_at, read_bit, gather, changed, frame_params, list, fields_of, unpack, spell, scatter, spread, byte_of, frame_of, width_number, pack, packed}
use Rattle.bits.specs.Digits.{Digits, Within, read_spell, spell_read, length_spell, spell_digits}
use Rattle.bits.specs.Places.{count, places_count, place_below, place_once, groups_count, widths_count}
use Rattle.bits.specs.Scattered.{scatter_other, read_scatter, scatter_read, scatter_digits}
use Rattle.bits.specs.Bytes.{bit_lt, bit_of_bytes, bytes_of_bits, mask_bits, bits_mask}
use Rattle.bits.specs.Changed.{changed_twice, length_changed, within_changed}
use Rattle.bits.specs.Widths.{read_bit_lt, InWidths, gather_within, names_within, fields_list, fields_within, width_accepts}
use Rattle.bits.specs.Calls.{unpack_accepted, pack_accepted}

-- ---- the bits of fields

pub zeros_digits : (n : ℕ) → Digits (replicate n 0)
zeros_digits zero k = lit< tt
zeros_digits (suc n) zero = lit< tt
zeros_digits (suc n) (suc k) = zeros_digits n k

pub spread_digits : (fs : List ℕ) → Digits (spread fs)
unfolding spread
spread_digits fs = scatter_digits (replicate 160 0) places (spell widths fs) (zeros_digits 160)

-- the fields that were spread are read at the places
read_spread : (fs : List ℕ) → length fs ≡ 24 → map (λ i. (get_or (spread fs) i 0 + inverted i) % 2) places ≡ spell widths fs
unfolding spread places widths
read_spread fs e =
    read_scatter 158 (replicate 160 0) places (spell widths fs) (lit≤ tt) (λ k h. place_below k (omega (arith, places_count))) (λ i h. omega (arith, place_once i h))
    (length_spell groups fs (e ∙ sym groups_count)) (spell_digits widths fs)

-- ---- from fields to a frame and back

-- the frame's bits are those that were spread
frame_bit : (f : FrameParams) (i : ℕ) → i < 160 → bit_at (frame_of f) i ≡ get_or (spread (changed (list f))) i 0
unfolding frame_of
frame_bit f i l = bit_of_bytes (spread (changed (list f))) (spread_digits (changed (list f))) 20 i l

-- two readings that agree at the places
pub map_same : (f g : ℕ → ℕ) (is : List ℕ) → ((k : ℕ) → k < length is → f (get_or is k 0) ≡ g (get_or is k 0)) → map f is ≡ map g is
map_same f g [] h = refl
map_same f g (i ∷ is) h = ap₂ ◌∷◌ (h 0 (omega arith)) (map_same f g is (λ k p. h (suc k) (omega arith)))

gather_frame : (f : FrameParams) → Within widths (list f) → gather (read_bit (frame_of f)) ≡ changed (list f)
unfolding gather read_bit widths places
gather_frame f w =
    let fs : List ℕ = changed (list f) in
    read_spell (read_bit (frame_of f)) groups fs (within_changed (list f) w)
    (map_same (read_bit (frame_of f)) (λ i. (get_or (spread fs) i 0 + inverted i) % 2) places
    (λ k h. rw (frame_bit f (get_or places k 0) (omega (arith, place_below k (omega (arith, places_count))))))
    ∙ read_spread fs (length_changed (list f)))

fields_frame : (f : FrameParams) → Within widths (list f) → fields_of (frame_of f) ≡ f
unfolding fields_of
fields_frame f w = ap (λ (l : List ℕ). frame_params (changed l)) (gather_frame f w) ∙ ap frame_params (changed_twice (list f) (lit< tt))

pub length_frame : (f : FrameParams) → length (frame_of f) ≡ 20
unfolding frame_of
length_frame f = length_table (byte_of (spread (changed (list f)))) 20

-- its last two bits are 0
last : (fs : List ℕ) (i : ℕ) → i < 160 → count i places ≡ 0 → get_or (spread fs) i 0 ≡ 0
unfolding spread
last fs i l e = scatter_other (replicate 160 0) places (spell widths fs) i e ∙ get_or-replicate 160 i 0 0 l

frame_accepted : (f : FrameParams) → bit_and (get_or (frame_of f) 19 0) 192 ≡ 0
unfolding places groups
frame_accepted f =
    bits_mask (frame_of f) (frame_bit f 158 (lit< tt) ∙ last (changed (list f)) 158 (lit< tt) refl) (frame_bit f 159 (lit< tt) ∙ last (changed (list f)) 159 (lit< tt) refl)

pub unpack_pack : (f : FrameParams) (out : List ℕ) → pack f out ≡ 0 → unpack (packed f out) ≡ Ok f
unfolding unpack packed
unpack_pack f out e =
    let l : length (frame_of f) ≡ 20 = length_frame f in
    simp (e, l, frame_accepted f, fields_frame f (pack_accepted f out e).1)

-- all fields within their widths are packed, and unpacking gives them back
pub packs : (f : FrameParams) (out : List ℕ) → InWidths f.first → InWidths f.second → length out ≡ 20 → (pack f out ≡ 0) × (unpack (packed f out) ≡ Ok f)
unfolding pack
packs f out x y l =
    let e : pack f out ≡ 0 = simp (l, width_accepts (list f) (names_within f x y)) in
    (e, unpack_pack f out e)

-- ---- from a frame to fields and back

-- the fields that were read spread to the frame's bits
spread_gather : (p : List ℕ) → spread (gather (read_bit p)) ≡ scatter (replicate 160 0) places (map (read_bit p) places)
unfolding spread gather widths places
spread_gather p = ap (scatter (replicate 160 0) places) (spell_read (read_bit p) (read_bit_lt p) groups)

-- the two bits that no field has
padding : (p : List ℕ) → bit_and (get_or p 19 0) 192 ≡ 0 → (i : ℕ) → 158 ≤ i → i < 160 → 0 ≡ bit_at p i
padding p m i l s =
    let b = mask_bits p m in
    ⊎_elim (λ (e : 158 ≡ i). rw (sym e) (sym b.0)) (λ (h : 158 < i). let e : i ≡ 159 = omega arith in rw e (sym b.1)) (eq-or-lt_of_le l)

outside : (p : List ℕ) → bit_and (get_or p 19 0) 192 ≡ 0 → (i : ℕ) → i < 160 → count i places ≡ 0 → get_or (replicate 160 0) i 0 ≡ bit_at p i
outside p h i l t = get_or-replicate 160 i 0 0 l ∙ by (dec_lt i 158)
  where
    by : Dec (i < 158) → 0 ≡ bit_at p i
    by (yes m) = absurd (omega (arith, place_once i m))
    by (no m) = padding p h i (omega arith) l

frame_fields : (p : List ℕ) → length p ≡ 20 → ((k : ℕ) → get_or p k 0 < 256) → bit_and (get_or p 19 0) 192 ≡ 0 → frame_of (fields_of p) ≡ p
unfolding frame_of read_bit
frame_fields p l h m =
    let fs : List ℕ = gather (read_bit p) in
    let back : changed (list (fields_of p)) ≡ fs = ap changed (fields_list p) ∙ changed_twice fs (omega (arith, (gather_within p).same, widths_count)) in
    ap (λ (x : List ℕ). table (byte_of (spread x)) 20) back
    ∙ bytes_of_bits (spread fs) p 20 l h (λ i s. rw (spread_gather p) (scatter_read 160 (bit_at p) (replicate 160 0) places refl (bit_lt p) (outside p m) i s))

-- p is a list of bytes, as a payload is
pub pack_unpack : (p : List ℕ) (f : FrameParams) (out : List ℕ) → ((k : ℕ) → get_or p k 0 < 256) → length out ≡ 20 → unpack p ≡ Ok f
    → (pack f out ≡ 0) × (packed f out ≡ p)
unfolding pack packed
pack_unpack p f out h l e =
    let t = unpack_accepted p f e in
    let w : width_number (list f) ≡ 0 = width_accepts (list f) (rw t.2 at (fields_within p)) in
    (simp (l, w), simp (l, w) (rw t.2 at (frame_fields p t.0 h t.1)))
