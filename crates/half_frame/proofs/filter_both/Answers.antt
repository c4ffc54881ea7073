-- The first call's outputs are the first 80 samples, the second's the other 80, from the filter that the first leaves.
use native.Mathlib.Omega.{arith}
use Rattle.std.specs.Prelude.{◌≡◌, ◌-◌, List, ◌++◌, length, take, drop, ℤ}
use mathlib.Core.Path.{sym, ap, ◌∙◌}
use lib.ListN.{length-drop, take-append-drop}
use lib.Seq.{take_all}
use borrow.Rule.Slice.PartMut.{put_mid}
use Rattle.output_filter.specs.declared.OutputFilter.{OutputFilter}
use Rattle.output_filter.specs.declared.Filtered.{Filtered}
use Rattle.output_filter.specs.Postfilter as Postfilter
use Rattle.output_filter.specs.Blocks.{after_joined, outputs_joined}
use Rattle.half.specs.declared.Filtered as Both
use Rattle.half.specs.Core as Spec
use Rattle.half_frame.proofs.Joined.{eighty, joined, lent}
use Rattle.half_frame.proofs.filter_both.Goals as goal

module _ (words : List ℤ) (filter : OutputFilter) (block xs ys us : List ℤ) (a b : Filtered) (long : length block ≡ 160) (size : length xs ≡ 80)
    (xs_are : xs ≡ Postfilter.outputs words filter (take 80 block)) (a_is : a ≡ Postfilter.filtered words filter (take 80 block))
    (us_are : us ≡ drop 80 block) (ys_are : ys ≡ Postfilter.outputs words a.filter us) (b_is : b ≡ Postfilter.filtered words a.filter us) where
  left : OutputFilter
  left = Postfilter.after words filter (take 80 block)

  filter_is : a.filter ≡ left
  unfolding Postfilter.filtered left
  filter_is = ap (λ (f : Filtered). f.filter) a_is

  b_by : b ≡ Postfilter.filtered words left (drop 80 block)
  b_by = b_is ∙ (λ i. Postfilter.filtered words (filter_is i) (us_are i))

  whole : take 80 block ++ drop 80 block ≡ block
  whole = take-append-drop 80 block

  outputs : put_mid 80 (length (xs ++ drop 80 block) - 80) (xs ++ drop 80 block) ys ≡ Postfilter.outputs words filter block
  unfolding left
  outputs =
      joined xs ys (drop 80 block) size
      ∙ (λ i. xs_are i ++ (ys_are ∙ (λ j. Postfilter.outputs words (filter_is j) (us_are j))) i)
      ∙ sym (outputs_joined words filter (take 80 block) (drop 80 block))
      ∙ ap (Postfilter.outputs words filter) whole

  part_is : Spec.part block 80 ≡ drop 80 block
  unfolding Spec.part
  part_is = take_all 80 (drop 80 block) (omega (arith, length-drop 80 block))

  last : ◌≡◌ {A = Both.Filtered} (record { filter = b.filter; first = a.clipped; second = b.clipped }) (Spec.filter_left words filter block)
  unfolding Spec.filter_left Spec.part Postfilter.filtered left
  last = λ i. record {
    filter = (ap (λ (f : Filtered). f.filter) b_by ∙ sym (after_joined words filter (take 80 block) (drop 80 block)) ∙ ap (Postfilter.after words filter) whole) i;
    first = (ap (λ (f : Filtered). f.clipped) a_is) i;
    second = (ap (λ (f : Filtered). f.clipped) b_by ∙ sym (ap (Postfilter.clipped words left) part_is)) i;
  }

pub slice_bounds-run-end-2 : goal.slice_bounds-run-end-2
slice_bounds-run-end-2 c = sym (eighty c.args.samples.now c.requires.fact_2)

pub run-between-requires : goal.run-between-requires
run-between-requires c = let e = eighty c.args.samples.now c.requires.fact_2 in (c.requires.fact_1, omega arith)

pub returns : goal.returns
returns c =
    let y = c.run-behind in
    let x = c.run-between in
    let words = c.args.words.now in
    let block = c.args.samples.now in
    let xs = x.new.block in
    let ys = y.new.block in
    let size : length xs ≡ 80 = x.auto.block ∙ eighty block c.requires.fact_2 in
    let us_are = lent xs (drop 80 block) size in record {
      left = last words c.args.filter block xs ys _ x.result y.result c.requires.fact_2 size x.ensures.outputs x.ensures.filtered us_are y.ensures.outputs y.ensures.filtered;
      samples = outputs words c.args.filter block xs ys _ x.result y.result c.requires.fact_2 size x.ensures.outputs x.ensures.filtered us_are y.ensures.outputs y.ensures.filtered;
    }
