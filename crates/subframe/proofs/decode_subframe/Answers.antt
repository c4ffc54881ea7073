-- Each part is what its call gave, of those before it.
use borrow.Author.Rules.{rules}
use mathlib.Core.Path.{◌≡◌, ◌∙◌, ap}
use mathlib.Core.List.{List}
use Prim.Native.Nat.{ℕ}
use lib.IntN.{ℤ, pos}
use lib.ListN.{get_or}
use lib.Ieee.{Float}
use mir.Syntax.{w16}
use mir.ValLaws.{to_z-of_z}
use Rattle.reflection.specs.declared.Reflection.{Reflection}
use Rattle.reflection.specs.Reflection as Levinson
use Rattle.code_index.specs.declared.Innovation.{Innovation}
use Rattle.gain.specs.declared.Decoded.{Decoded}
use Rattle.gain.specs.Gain as Gain
use Rattle.half.specs.declared.Counts.{Counts}
use Rattle.half.specs.declared.SubframeParams.{SubframeParams}
use Rattle.half.specs.declared.Subframe.{Subframe}
use Rattle.half.specs.Core as Spec
use Rattle.subframe.proofs.decode_subframe.Goals as goal

module _ (words : List ℤ) (bytes : List ℕ) (exc : List ℤ) (start : ℕ) (p : SubframeParams) (sharpenFixed lastHalfLag : ℤ) (gains : List Float) where
  module _ (i : Innovation) (g : Decoded) (e s : List ℤ) (t : Subframe) where
    module _ (i_is : i ≡ Spec.innovation words p sharpenFixed lastHalfLag) (g_is : g ≡ Gain.decode bytes gains p.gain_index i.code) (e_is : e ≡ Spec.excited words exc start p.lag g.pitch_gain g.code_gain i.code) where
      whole : s ≡ Spec.part e start → t ≡ Spec.traced p gains i g s → t ≡ Spec.decode_subframe words bytes exc start p sharpenFixed lastHalfLag gains
      unfolding Spec.decode_subframe
      whole s_is t_is = t_is ∙ simp (s_is, e_is, g_is, i_is)

      counted : (n : Counts) → n ≡ Spec.counts words exc start p.lag g.pitch_gain g.code_gain i.code → t ≡ Spec.traced p gains i g s → n ≡ Spec.counts_by words exc start t.trace
      unfolding Spec.traced
      counted n n_is t_is = rw t_is n_is

      roomed : t ≡ Spec.traced p gains i g s → e ≡ Spec.excited_by words exc start t.trace
      unfolding Spec.traced
      roomed t_is = rw t_is e_is

pub innovation-i-requires : goal.innovation-i-requires
unfolding Levinson.reflection
innovation-i-requires c =
    let u = c.requires in
    record {
      fact_1 = u.fact_1.sound;
      fact_2 = u.fact_1.digits;
      fact_3 = u.fact_1.lag;
      fact_4 = to_z-of_z w16 _ (search rules) ∙ ap (λ (r : Reflection). get_or r.coefficients 0 (pos 0)) c.reflection_coefficients-reflection.ensures;
    }

pub excite-counts-requires : goal.excite-counts-requires
excite-counts-requires c =
    let u = c.requires in
    (u.fact_1.sound.words_long, u.fact_2, u.fact_3, u.fact_1.lag)

pub part-samples-requires : goal.part-samples-requires
part-samples-requires c = let l = c.requires.fact_3 in search rules

pub traced-subframe-requires : goal.traced-subframe-requires
unfolding Levinson.reflection
traced-subframe-requires c = ap (λ (r : Reflection). r.zero_residuals) c.reflection_coefficients-reflection.ensures

pub returns : goal.returns
returns c =
    let p = c.args.params in
    let words = c.args.words.now in
    let i = c.innovation-i.result in
    let g = c.decode-g.result in
    let i_is : i ≡ Spec.innovation words p c.args.sharpen_fixed c.args.last_half_lag = simp (to_z-of_z w16 _ c.ranges.sharpen_fixed, to_z-of_z w16 _ c.ranges.last_half_lag) at c.innovation-i.ensures in
    let e_is : c.excite-counts.new.exc ≡ Spec.excited words c.args.exc.now c.args.start p.lag g.pitch_gain g.code_gain i.code = simp (to_z-of_z w16 g.pitch_gain (search rules), to_z-of_z w16 g.code_gain (search rules)) at c.excite-counts.ensures.samples in
    let n_is : c.excite-counts.result ≡ Spec.counts words c.args.exc.now c.args.start p.lag g.pitch_gain g.code_gain i.code = simp (to_z-of_z w16 g.pitch_gain (search rules), to_z-of_z w16 g.code_gain (search rules)) at c.excite-counts.ensures.counts in record {
      is = whole words c.args.bytes.now c.args.exc.now c.args.start p c.args.sharpen_fixed c.args.last_half_lag c.args.gains i g c.excite-counts.new.exc c.part-samples.result c.traced-subframe.result i_is c.decode-g.ensures e_is c.part-samples.ensures c.traced-subframe.ensures;
      room = roomed words c.args.bytes.now c.args.exc.now c.args.start p c.args.sharpen_fixed c.args.last_half_lag c.args.gains i g c.excite-counts.new.exc c.part-samples.result c.traced-subframe.result i_is c.decode-g.ensures e_is c.traced-subframe.ensures;
      counts = counted words c.args.bytes.now c.args.exc.now c.args.start p c.args.sharpen_fixed c.args.last_half_lag c.args.gains i g c.excite-counts.new.exc c.part-samples.result c.traced-subframe.result i_is c.decode-g.ensures e_is c.excite-counts.result n_is c.traced-subframe.ensures;
    }
