-- The natural logarithm and the exponential as sequences of f32 operations, each rounded once: docs/ELEMENTARY.md says where the constants come from.
use Rattle.std.specs.Prelude.{◌≡◌, refl, ℕ, ◌+◌, ◌*◌, ◌/◌, ◌%◌, not, T, pos, Float}
use Rattle.std.specs.Float.{binary32}
use Rattle.std.specs.Float.Ieee.{of_bits, to_bits, of_int, is_nan}
use Rattle.std.specs.Float.Ieee as Ieee
use Rattle.std.specs.Float.Ieee.Scale.{finite}
use Rattle.floats.specs.NoNan.{mul_no_nan, add_no_nan}

-- the f32 of a bit pattern, and the operations on f32
abbrev pub bits : ℕ → Float
bits n = of_bits binary32 n

abbrev pub add : Float → Float → Float
add x y = Ieee.add binary32 x y

abbrev pub sub : Float → Float → Float
sub x y = Ieee.sub binary32 x y

abbrev pub mul : Float → Float → Float
mul x y = Ieee.mul binary32 x y

abbrev pub div : Float → Float → Float
div x y = Ieee.div binary32 x y

-- x is 2 ^ d * (1 + f), 1 + f from 2/3 to 4/3; the logarithm is d * ln 2 + f - f ^ 2 / 2 + f ^ 3 * p, ln 2 being 0.69317627 - 0.000029088971
unfoldable pub ln : Float → Float
ln x =
    let i = to_bits binary32 x % 0x8000_0000 + 0x55_5555 in
    let f = sub (bits (i % 0x80_0000 + 0x3f2a_aaab)) (bits 0x3f80_0000) in
    let d = sub (of_int binary32 (pos (i / 0x80_0000))) (bits 0x42fe_0000) in
    let z = mul f f in
    let a0 = sub (bits 0x3eaa_aa83) (mul (bits 0x3e7f_ff78) f) in
    let a2 = sub (bits 0x3e4c_e81a) (mul (bits 0x3e2a_cee7) f) in
    let a4 = sub (bits 0x3e0f_6b90) (mul (bits 0x3df9_88af) f) in
    let a6 = sub (bits 0x3e0f_3373) (mul (bits 0x3e04_02bc) f) in
    let p = add a0 (mul z (add a2 (mul z (add a4 (mul z a6))))) in
    add (add (sub (sub (mul (mul f z) p) (mul d (bits 0x37f4_0417))) (mul (bits 0x3f00_0000) z)) f) (mul d (bits 0x3f31_7400))

-- a float whose last six binary digits are 32 + k, k being the whole number nearest to x / ln 2
unfoldable pub scaled : Float → Float
scaled x = add (mul x (bits 0x3fb8_aa3b)) (bits 0x4b40_0020)

-- e ^ x is 2 ^ k * e ^ r, r = x - k * ln 2 = g + c, and e ^ r is 1 + r + r ^ 2 * q
unfoldable pub exp : Float → Float
unfolding scaled
exp x =
    let n = to_bits binary32 (scaled x) % 64 in
    let k = sub (of_int binary32 (pos n)) (bits 0x4200_0000) in
    let g = sub x (mul k (bits 0x3f31_7400)) in
    let c = mul k (bits 0x37f4_0417) in
    let r = add g c in
    let z = mul r r in
    let b0 = add (mul (bits 0x3e2a_aa49) r) (bits 0x3eff_fffe) in
    let b2 = add (mul (bits 0x3c09_1ce7) r) (bits 0x3d2a_ac69) in
    let q = add (mul (add (mul (bits 0x3ab5_1220) z) b2) z) b0 in
    mul (add (add (add (mul z q) c) g) (bits 0x3f80_0000)) (bits ((n + 95) * 0x80_0000))

-- ln 1 is +0 exactly; ln 80 and e ^ 10.5 are 4.3820267 and 36315.504
cases : (ln (bits 0x3f80_0000) ≡ bits 0) × (ln (bits 0x42a0_0000) ≡ bits 0x408c_3990) × (exp (bits 0) ≡ bits 0x3f80_0000) × (exp (bits 0x4128_0000) ≡ bits 0x470d_db81)
unfolding ln exp to_bits of_bits Ieee.add Ieee.sub Ieee.mul of_int
cases = (refl, refl, refl, refl)

-- of a finite x it is no NaN, even where it overflows
pub scaled_no_nan : (x : Float) → T (finite x) → T (not (is_nan (scaled x)))
unfolding scaled
scaled_no_nan x h = add_no_nan binary32 (mul x (bits 0x3fb8_aa3b)) (bits 0x4b40_0020) (mul_no_nan binary32 x (bits 0x3fb8_aa3b) h (unfold of_bits in tt)) (unfold of_bits in tt)
