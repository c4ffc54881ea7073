-- The parts of `decode`'s answer; a gain fits 16 bits, so the machine reads it as it is.
use mathlib.Core.Path.{◌≡◌, ap, subst, ◌∙◌, sym}
use Prim.Native.Nat.{◌<◌}
use native.Mathlib.Omega.{arith}
use borrow.Author.Rules.{sfits_of}
use lib.IntN.{ℤ}
use lib.Signed.{mag}
use mir.Syntax.{w16}
use mir.Val.{to_z, of_z}
use mir.ValLaws.{to_z-of_z}
use Rattle.gain.specs.declared.Decoded.{Decoded}
use Rattle.gain.specs.Gain.{decode}
use Rattle.gain.specs.Ranges.{InRange, decode_gains}
use Rattle.gain_c.proofs.gain_decode.Goals as goal

read : (z y : ℤ) → z ≡ y → InRange y → to_z w16 (of_z w16 z) ≡ y
read z y e g =
    let h : mag z < 32768 = subst (λ (w : ℤ). mag w < 32768) (sym (e ∙ g.is)) (let l = g.most in omega arith) in
    to_z-of_z w16 z (sfits_of h) ∙ e

pub returns : goal.returns
returns c =
    let r = c.decode-d in
    let a = c.args in
    let g = decode_gains a.bytes.now a.gains.now a.index a.code.now in record {
      code_gain = read r.result.code_gain (decode a.bytes.now a.gains.now a.index a.code.now).code_gain (ap (λ (d : Decoded). d.code_gain) r.ensures) g.1;
      pitch_gain = read r.result.pitch_gain (decode a.bytes.now a.gains.now a.index a.code.now).pitch_gain (ap (λ (d : Decoded). d.pitch_gain) r.ensures) g.0;
      gains = ap (λ (d : Decoded). d.gains) r.ensures;
    }
