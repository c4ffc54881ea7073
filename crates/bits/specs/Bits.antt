-- A frame of 20 bytes and its 24 fields: post_fec.rs, bits.rs, and the two changes that mod.rs makes to what they read.
use Rattle.std.specs.Prelude.{◌≡◌, refl, Bool, true, false, cond, List, [], ◌∷◌, ◌++◌, map, ℕ, zero, suc, ◌+◌, ◌*◌, ◌/◌, ◌%◌, ◌^◌, leb, eqb, length, get_or, set, replicate, Result}
use Rattle.std.proofs.Common.{Ok, Err}
use Rattle.std.specs.Int.Bits.{bit_and, bit_xor}
use Rattle.sequence.specs.First.{first}
use Rattle.sequence.specs.Table.{table}
use Rattle.bits.specs.declared.HalfParams.{HalfParams}
use Rattle.bits.specs.declared.FrameParams.{FrameParams}
use Rattle.refusal.specs.declared.Refusal.{Refusal}
use Rattle.refusal.specs.declared.Refusal.TheVariants.{FrameLength, Padding}
use Rattle.refusal.specs.Numbers.{told}

-- ---- the places

-- the frame bits that bits.rs calls q(k), a(k) and b(k) in half h
abbrev pub q : ℕ → ℕ → ℕ
q h k = 39 * h + k

abbrev pub a : ℕ → ℕ → ℕ
a h k = 78 + 20 * h + k

abbrev pub b : ℕ → ℕ → ℕ
b h k = 118 + 20 * h + k

-- q(k) and so on, n of them
abbrev pub run : ℕ → ℕ → ℕ → List ℕ
run h k zero = []
run h k (suc n) = q h k ∷ run h (suc k) n

-- code0 and code1, which differ in their first two bits and in where the others start
abbrev pub code : ℕ → ℕ → ℕ → List ℕ
code h i k =
    q h i ∷ q h (i + 1) ∷
    b h (7 + k) ∷ b h (5 + k) ∷ a h (6 + k) ∷ a h (4 + k) ∷ b h (6 + k) ∷ b h (4 + k) ∷ a h (11 + k) ∷ a h (9 + k) ∷
    b h (11 + k) ∷ b h (9 + k) ∷ a h (10 + k) ∷ a h (8 + k) ∷ b h (10 + k) ∷ b h (8 + k) ∷ []

-- the bits of each field of half h, highest first; mod.rs's first change, that gain_low1 of half 1 is frame bits 74 to 77, is q(35) to q(38) there too
abbrev pub half : ℕ → List (List ℕ)
half h =
    run h 23 4 ∷  -- gain_low0
    run h 35 4 ∷  -- gain_low1
    code h 18 0 ∷  -- code0
    code h 30 8 ∷  -- code1
    run h 20 3 ∷  -- gain_high0
    run h 32 3 ∷  -- gain_high1
    run h 0 1 ∷  -- mode
    run h 1 7 ∷  -- stage1
    (run h 8 4 ++ (a h 3 ∷ a h 1 ∷ [])) ∷  -- stage2_low
    (b h 3 ∷ b h 1 ∷ a h 2 ∷ a h 0 ∷ b h 2 ∷ b h 0 ∷ []) ∷  -- stage2_high
    (run h 12 6 ++ (a h 7 ∷ a h 5 ∷ [])) ∷  -- absolute_pitch
    (run h 27 3 ++ (a h 15 ∷ a h 13 ∷ [])) ∷  -- relative_pitch
    []

-- the bits of each of the 24 fields, the first half's before the second's
unfoldable pub groups : List (List ℕ)
groups = half 0 ++ half 1

-- code0 and stage2_low of the first half, gain_low1 of the second
example_code0 : get_or groups 2 [] ≡ 18 ∷ 19 ∷ 125 ∷ 123 ∷ 84 ∷ 82 ∷ 124 ∷ 122 ∷ 89 ∷ 87 ∷ 129 ∷ 127 ∷ 88 ∷ 86 ∷ 128 ∷ 126 ∷ []
unfolding groups
example_code0 = refl

example_stage2_low : get_or groups 8 [] ≡ 8 ∷ 9 ∷ 10 ∷ 11 ∷ 81 ∷ 79 ∷ []
unfolding groups
example_stage2_low = refl

example_gain_low1 : get_or groups 13 [] ≡ 74 ∷ 75 ∷ 76 ∷ 77 ∷ []
unfolding groups
example_gain_low1 = refl

-- the lists one after the other
abbrev pub flat : List (List ℕ) → List ℕ
flat [] = []
flat (g ∷ gs) = g ++ flat gs

-- the table: the 158 places, field after field
unfoldable pub places : List ℕ
places = flat groups

-- how many of them each field has
unfoldable pub widths : List ℕ
widths = map length groups

example_widths : widths ≡ 4 ∷ 4 ∷ 16 ∷ 16 ∷ 3 ∷ 3 ∷ 1 ∷ 7 ∷ 6 ∷ 6 ∷ 8 ∷ 5 ∷ 4 ∷ 4 ∷ 16 ∷ 16 ∷ 3 ∷ 3 ∷ 1 ∷ 7 ∷ 6 ∷ 6 ∷ 8 ∷ 5 ∷ []
unfolding widths groups
example_widths = refl

-- ---- reading

-- v followed by these binary digits, highest first: from 0, what bits.rs's `read` gives
abbrev pub read : ℕ → List ℕ → ℕ
read v [] = v
read v (d ∷ ds) = read (v * 2 + d) ds

-- a Bool as a digit
abbrev pub one_if : Bool → ℕ
one_if true = 1
one_if false = 0

-- frame bits 79, 83 and 85 are inverted on reading
unfoldable pub inverted : ℕ → ℕ
inverted i = one_if (eqb i 79) + one_if (eqb i 83) + one_if (eqb i 85)

-- bit i is bit i mod 8 of byte i / 8, lowest first
unfoldable pub bit_at : List ℕ → ℕ → ℕ
bit_at p i = get_or p (i / 8) 0 / 2 ^ (i % 8) % 2

-- bit 10 is the third of byte 1
example_bit : bit_at (0 ∷ 4 ∷ []) 10 ≡ 1
unfolding bit_at
example_bit = refl

-- frame bit i as it is read
unfoldable pub read_bit : List ℕ → ℕ → ℕ
read_bit p i = (bit_at p i + inverted i) % 2

-- the fields, where the frame's bits read as f says
unfoldable pub gather : (ℕ → ℕ) → List ℕ
gather f = map (λ (g : List ℕ). read 0 (map f g)) groups

-- mod.rs's second change: absolute_pitch of the first half, field 10, is changed by 3
abbrev pub changed : List ℕ → List ℕ
changed fs = set fs 10 (bit_xor (get_or fs 10 0) 3)

-- ---- the fields by name

-- the half whose fields start at place «at» of the list
abbrev pub half_params : List ℕ → ℕ → HalfParams
half_params fs at =
    record {
      gain_low0 = get_or fs at 0;
      gain_low1 = get_or fs (at + 1) 0;
      code0 = get_or fs (at + 2) 0;
      code1 = get_or fs (at + 3) 0;
      gain_high0 = get_or fs (at + 4) 0;
      gain_high1 = get_or fs (at + 5) 0;
      mode = get_or fs (at + 6) 0;
      stage1 = get_or fs (at + 7) 0;
      stage2_low = get_or fs (at + 8) 0;
      stage2_high = get_or fs (at + 9) 0;
      absolute_pitch = get_or fs (at + 10) 0;
      relative_pitch = get_or fs (at + 11) 0;
    }

-- the two halves of 24 fields
abbrev pub frame_params : List ℕ → FrameParams
frame_params fs = record { first = half_params fs 0; second = half_params fs 12 }

-- the fields of a half in the table's order
abbrev pub half_list : HalfParams → List ℕ
half_list h =
    h.gain_low0 ∷ h.gain_low1 ∷ h.code0 ∷ h.code1 ∷ h.gain_high0 ∷ h.gain_high1 ∷
    h.mode ∷ h.stage1 ∷ h.stage2_low ∷ h.stage2_high ∷ h.absolute_pitch ∷ h.relative_pitch ∷ []

-- the 24 fields in the table's order
abbrev pub list : FrameParams → List ℕ
list f = half_list f.first ++ half_list f.second

-- ---- unpacking

-- the fields of an accepted payload
unfoldable pub fields_of : List ℕ → FrameParams
fields_of p = frame_params (changed (gather (read_bit p)))

-- refused where the payload is not 20 bytes, and where one of its last two bits is set
unfoldable pub unpack : List ℕ → Result FrameParams Refusal
unpack p = cond (eqb (length p) 20) (cond (eqb (bit_and (get_or p 19 0) 192) 0) (Ok (fields_of p)) (Err Padding)) (Err FrameLength)

-- document 01's number of an answer, 0 for acceptance
abbrev pub number : Result FrameParams Refusal → ℕ
number u = told u

-- and its fields, all zero on a refusal of any kind
abbrev pub fields : {E : Type 0} → Result FrameParams E → FrameParams
fields (Ok f) = f
fields (Err why) = frame_params (replicate 24 0)

-- in that paper's words: 3 where the payload is not 20 bytes, 6 where payload[19] & 0xc0 is not 0, else 0
unfoldable pub refusal : List ℕ → ℕ
refusal p = cond (eqb (length p) 20) (cond (eqb (bit_and (get_or p 19 0) 192) 0) 0 6) 3

-- a refused unpacking gives all-zero fields
unfoldable pub fields_or_zero : List ℕ → FrameParams
fields_or_zero p = cond (eqb (refusal p) 0) (fields_of p) (frame_params (replicate 24 0))

-- ---- packing

-- f at n - 1, and so on down to f at 0
abbrev pub down : ℕ → (ℕ → ℕ) → List ℕ
down zero f = []
down (suc n) f = f n ∷ down n f

-- the lowest w digits of v, highest first
abbrev pub digits : ℕ → ℕ → List ℕ
digits w v = down w (λ k. v / 2 ^ k % 2)

-- the digits of the fields, one after the other
abbrev pub spell : List ℕ → List ℕ → List ℕ
spell [] vs = []
spell (w ∷ ws) [] = []
spell (w ∷ ws) (v ∷ vs) = digits w v ++ spell ws vs

-- x with these digits put at these places, inverted where they are read so
abbrev pub scatter : List ℕ → List ℕ → List ℕ → List ℕ
scatter x [] ds = x
scatter x (i ∷ is) [] = x
scatter x (i ∷ is) (d ∷ ds) = scatter (set x i ((d + inverted i) % 2)) is ds

-- the bits of the frame that reads as these fields, the last two 0
unfoldable pub spread : List ℕ → List ℕ
spread fs = scatter (replicate 160 0) places (spell widths fs)

-- byte n of these bits
unfoldable pub byte_of : List ℕ → ℕ → ℕ
byte_of x n = read 0 (down 8 (λ k. get_or x (n * 8 + k) 0))

-- the frame that has these fields
unfoldable pub frame_of : FrameParams → List ℕ
frame_of f = table (byte_of (spread (changed (list f)))) 20

-- 8 where a field is wider than its bits, else 0
unfoldable pub width_number : List ℕ → ℕ
width_number fs = cond (eqb (first (λ k. leb (2 ^ get_or widths k 0) (get_or fs k 0)) 24) 24) 0 8

-- the answer: 3 where the buffer is not 20 bytes, 8 where a field is wider than its bits, else 0
unfoldable pub pack : FrameParams → List ℕ → ℕ
pack f out = cond (eqb (length out) 20) (width_number (list f)) 3

-- the buffer: the frame, or where the answer is a refusal what it held
unfoldable pub packed : FrameParams → List ℕ → List ℕ
packed f out = cond (eqb (pack f out) 0) (frame_of f) out

-- ---- the gain index

-- the low three bits of one before the low four of the other
abbrev pub joined : ℕ → ℕ → ℕ
joined high low = high % 8 * 16 + low % 16

-- of the half's first subframe, where sub is 0, or its second
unfoldable pub gain_index_of : HalfParams → ℕ → ℕ
gain_index_of h sub = cond (eqb sub 0) (joined h.gain_high0 h.gain_low0) (joined h.gain_high1 h.gain_low1)
