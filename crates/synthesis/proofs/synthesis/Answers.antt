-- Filtered; where no output is at an end none was changed, and else the sums that are left are counted.
use native.Mathlib.Omega.{arith}
use mathlib.Core.List.{List, ◌++◌}
use mathlib.Core.Path.{◌≡◌, sym, ◌∙◌, ap}
use Prim.Native.Nat.{◌≤◌}
use lib.IntN.{ℤ, pos}
use lib.ListN.{length, get_or, take, length-append}
use lib.Seq.{take_at, length-take-le}
use Rattle.sequence.specs.Count.{count}
use Rattle.sequence.specs.Table.{table, length_table}
use Rattle.fixed.specs.Fixed.{clips}
use Rattle.fixed.specs.Clips.{ends}
use Rattle.synth.specs.Synth as Synth
use Rattle.synthesis.proofs.Window.{value, all_clipped, none_clipped}
use Rattle.synthesis.proofs.synthesis.Goals as goal
use Rattle.synthesis.proofs.synthesis.Goals.{After-filter, Start}

pub slice_bounds-filter-end : goal.slice_bounds-filter-end
slice_bounds-filter-end c = sym (length-take-le (length c.args.input.now) _ c.requires.input_len_bound.0)

pub filter-requires : goal.filter-requires
filter-requires c = record {
  a_len = c.requires.a_len;
  input_len_bound = (c.requires.input_len_bound.0, c.requires.input_len_bound.1, length-take-le (length c.args.input.now) _ c.requires.input_len_bound.0);
}

-- what the filter has left
module _ (c : goal.After-filter) where
  abbrev a : List ℤ
  a = c.args.a.now

  abbrev m : List ℤ
  m = c.args.mem.now

  abbrev xs : List ℤ
  xs = c.args.input.now

  abbrev S : List ℤ
  S = c.filter.new.sums

  sums_are : S ≡ table (value a m xs) (length xs)
  sums_are = c.filter.ensures.sums

  sized : length S ≡ length xs
  sized = ap length sums_are ∙ length_table (value a m xs) (length xs)

  -- as a part of the room that was lent for them
  front : (r : List ℤ) → take (length xs) (S ++ r) ≡ S
  front r = take_at S r (length xs) sized

  within : (r : List ℤ) → length xs ≤ length (S ++ r)
  within r = omega (arith, length-append S r, sized)

  small : (r : List ℤ) → length (take (length xs) (S ++ r)) ≤ 80
  small r = omega (arith, ap length (front r), sized, c.requires.input_len_bound.0)

pub returns-then-ends-eq0 : goal.returns-then-ends-eq0
returns-then-ends-eq0 c =
    let f = c.before.before.before.before.before in
    let g = f.filter.ensures in
    let none : ends (Synth.synthesis (a f) (m f) (xs f)) ≡ 0 = sym (ap ends g.outputs) ∙ sym c.ends.ensures ∙ c.if-ends-eq0.true in
    record {
      outputs = g.outputs;
      clipped = sym (none_clipped (a f) (m f) (xs f) f.requires.a_len.1 none);
      last = g.last;
    }

pub slice_bounds-sums-end-2 : goal.slice_bounds-sums-end-2
slice_bounds-sums-end-2 c = let f = c.before.before.before.before.before in within f _

pub slice_bounds-changed-end : goal.slice_bounds-changed-end
slice_bounds-changed-end c = let f = c.before.before.before.before.before.before in sym (ap length (front f _) ∙ sized f)

pub changed-requires : goal.changed-requires
changed-requires c = let f = c.before.before.before.before.before.before in small f _

pub returns : goal.returns
returns c =
    let f = c.before.before.before.before.before.before.before in
    let g = f.filter.ensures in
    record {
      outputs = g.outputs;
      clipped = c.changed.ensures ∙ ap (λ (l : List ℤ). count (λ n. clips (get_or l n (pos 0))) (length l)) (front f _) ∙ all_clipped (a f) (m f) (xs f) (S f) (sums_are f);
      last = g.last;
    }
