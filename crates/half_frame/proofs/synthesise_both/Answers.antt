-- The first call's outputs are the first 80 samples, the second's the other 80.
use Rattle.std.specs.Prelude.{◌≡◌, ◌-◌, List, ◌++◌, length, drop, ℤ}
use mathlib.Core.Path.{sym, ◌∙◌}
use borrow.Rule.Slice.PartMut.{put_mid}
use Rattle.synth.specs.Synth as Synth
use Rattle.half.specs.declared.Memory.{Memory}
use Rattle.half.specs.declared.SubframeTrace.{SubframeTrace}
use Rattle.half.specs.declared.Synthesised.{Synthesised}
use Rattle.half.specs.Core as Spec
use Rattle.half_frame.proofs.Joined.{eighty, joined}
use Rattle.half_frame.proofs.synthesise_both.Goals as goal

module _ (f g : SubframeTrace) (memory xs ys zs : List ℤ) (m n : Memory) (m_is : m.memory ≡ Synth.memory f.lpc memory f.mixed_excitation) where
  last : m.clipped ≡ Synth.clipped f.lpc memory f.mixed_excitation → n.memory ≡ Synth.memory g.lpc m.memory g.mixed_excitation → n.clipped ≡ Synth.clipped g.lpc m.memory g.mixed_excitation
      → ◌≡◌ {A = Synthesised} (record { memory = n.memory; first = m.clipped; second = n.clipped }) (Spec.synthesis_left f g memory)
  unfolding Spec.synthesis_left Spec.memory_after
  last a e b = λ i. record {
    memory = (e ∙ (λ j. Synth.memory g.lpc (m_is j) g.mixed_excitation)) i;
    first = a i;
    second = (b ∙ (λ j. Synth.clipped g.lpc (m_is j) g.mixed_excitation)) i;
  }

  outputs : length xs ≡ 80 → xs ≡ Synth.synthesis f.lpc memory f.mixed_excitation → ys ≡ Synth.synthesis g.lpc m.memory g.mixed_excitation → put_mid 80 (length (xs ++ zs) - 80) (xs ++ zs) ys ≡ Spec.synthesised f g memory
  unfolding Spec.synthesised
  outputs h d e = joined xs ys zs h ∙ (λ i. d i ++ (e ∙ (λ j. Synth.synthesis g.lpc (m_is j) g.mixed_excitation)) i)

pub slice_bounds-synthesise-end-2 : goal.slice_bounds-synthesise-end-2
slice_bounds-synthesise-end-2 c = sym (eighty c.args.samples.now c.requires)

pub synthesise-between-requires : goal.synthesise-between-requires
synthesise-between-requires c = eighty c.args.samples.now c.requires

pub returns : goal.returns
returns c =
    let y = c.synthesise-behind in
    let x = c.synthesise-between in
    let xs = x.new.samples in
    let ys = y.new.samples in
    let zs = drop 80 c.args.samples.now in record {
      left = last c.args.first c.args.second c.args.memory xs ys zs x.result y.result x.ensures.memory x.ensures.clipped y.ensures.memory y.ensures.clipped;
      samples = outputs c.args.first c.args.second c.args.memory xs ys zs x.result y.result x.ensures.memory (x.auto.samples ∙ eighty c.args.samples.now c.requires) x.ensures.samples y.ensures.samples;
    }
