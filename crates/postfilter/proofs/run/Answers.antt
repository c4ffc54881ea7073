-- The first section, the second over what comes of it, the scaling, and the count: each call gives what the laws of specs/Sections put together.
use borrow.Author.Rules.{rules}
use native.Mathlib.Omega.{arith}
use mathlib.Core.List.{List, map, ◌++◌}
use mathlib.Core.Path.{◌≡◌, sym, ◌∙◌, ap}
use Prim.Native.Nat.{ℕ, ◌≤◌}
use lib.IntN.{ℤ}
use lib.ListN.{length, take, length-append, length-map}
use lib.Seq.{take_at, length-take-le}
use Rattle.output_filter.specs.declared.OutputFilter.{OutputFilter}
use Rattle.output_filter.specs.Postfilter as Postfilter
use Rattle.output_filter.specs.Postfilter.{taps_of, scaled}
use Rattle.output_filter.specs.Sections as Sections
use Rattle.output_filter.specs.Sections.{lines_of, left, short, clipped_by, firsts, seconds, length_through}
use Rattle.output_filter.proofs.Run.{outputs_by, after_by, clipped_by_lem}
use Rattle.postfilter.proofs.run.Goals as goal
use Rattle.postfilter.proofs.run.Goals.{After-scale, After-shorten, After-shorten-2, After-through-first, After-through-second}

-- the front of an array, of which n places were lent and came back as l
within : (l r : List ℤ) (n : ℕ) → length l ≡ n → n ≤ length (l ++ r)
within l r n e = omega (arith, length-append l r, e)

front : (l r : List ℤ) (n : ℕ) → length l ≡ n → n ≡ length (take n (l ++ r))
front l r n e = sym (ap length (take_at l r n e) ∙ e)

small : (l r : List ℤ) (n : ℕ) → length l ≡ n → n ≤ 80 → length (take n (l ++ r)) ≤ 80
small l r n e h = omega (arith, front l r n e)

pub slice_bounds-through-end : goal.slice_bounds-through-end
slice_bounds-through-end c = sym (length-take-le (length c.args.block.now) _ c.requires.1)

pub through-first-requires : goal.through-first-requires
through-first-requires c = length-take-le (length c.args.block.now) _ c.requires.1

-- behind the first section
module _ (c : goal.After-through-first) where
  abbrev words : List ℤ
  words = c.args.words.now

  abbrev filter : OutputFilter
  filter = c.args.filter

  abbrev block : List ℤ
  block = c.args.block.now

  abbrev W1 : List ℤ
  W1 = c.through-first.new.output

  w1_is : W1 ≡ firsts words filter block
  w1_is = c.through-first.ensures.outputs ∙ (λ i. Sections.through (c.taps_of-taps.ensures i) (c.lines_of-first_lines.ensures i) block)

  first_left : c.through-first.result ≡ left (taps_of words) (lines_of filter 0) block
  first_left = c.through-first.ensures.left ∙ (λ i. left (c.taps_of-taps.ensures i) (c.lines_of-first_lines.ensures i) block)

  w1_sized : length W1 ≡ length block
  w1_sized = ap length w1_is ∙ length_through (taps_of words) (lines_of filter 0) block

pub slice_bounds-wide_firsts-end-2 : goal.slice_bounds-wide_firsts-end-2
slice_bounds-wide_firsts-end-2 c = let t = (goal.at.slice_bounds-wide_firsts-end-2 c).After-through-first in within (W1 t) _ (length (block t)) (w1_sized t)

pub slice_bounds-shorten-end : goal.slice_bounds-shorten-end
slice_bounds-shorten-end c = let t = (goal.at.slice_bounds-shorten-end c).After-through-first in front (W1 t) _ (length (block t)) (w1_sized t)

pub slice_bounds-shorten-end-2 : goal.slice_bounds-shorten-end-2
slice_bounds-shorten-end-2 c = let t = (goal.at.slice_bounds-shorten-end-2 c).After-through-first in sym (length-take-le (length (block t)) _ t.requires.1)

pub shorten-requires : goal.shorten-requires
shorten-requires c = let t = (goal.at.shorten-requires c).After-through-first in length-take-le (length (block t)) _ t.requires.1 ∙ front (W1 t) _ (length (block t)) (w1_sized t)

-- saturated
module _ (c : goal.After-shorten) where
  abbrev t1 : goal.After-through-first
  t1 = c.before.before.before.before

  abbrev F1 : List ℤ
  F1 = c.shorten.new.output

  f1_is : F1 ≡ map short (W1 t1)
  f1_is = c.shorten.ensures ∙ ap (map short) (take_at (W1 t1) _ (length (block t1)) (w1_sized t1))

  f1_sized : length F1 ≡ length (block t1)
  f1_sized = ap length f1_is ∙ length-map (W1 t1) short ∙ w1_sized t1

pub slice_bounds-firsts-end-2 : goal.slice_bounds-firsts-end-2
slice_bounds-firsts-end-2 c = let h = (goal.at.slice_bounds-firsts-end-2 c).After-shorten in within (F1 h) _ (length (block (t1 h))) (f1_sized h)

pub slice_bounds-through-end-2 : goal.slice_bounds-through-end-2
slice_bounds-through-end-2 c = let h = (goal.at.slice_bounds-through-end-2 c).After-shorten in front (F1 h) _ (length (block (t1 h))) (f1_sized h)

pub slice_bounds-through-end-3 : goal.slice_bounds-through-end-3
slice_bounds-through-end-3 c = let t = (goal.at.slice_bounds-through-end-3 c).After-through-first in sym (length-take-le (length (block t)) _ t.requires.1)

pub through-second-requires : goal.through-second-requires
through-second-requires c = let h = (goal.at.through-second-requires c).After-shorten in length-take-le (length (block (t1 h))) _ (t1 h).requires.1 ∙ front (F1 h) _ (length (block (t1 h))) (f1_sized h)

-- behind the second
module _ (c : goal.After-through-second) where
  abbrev h1 : goal.After-shorten
  h1 = c.before.before.before.before.before

  abbrev t : goal.After-through-first
  t = t1 h1

  abbrev W2 : List ℤ
  W2 = c.through-second.new.output

  in_is : (r : List ℤ) → take (length (block t)) (F1 h1 ++ r) ≡ map short (firsts (words t) (filter t) (block t))
  in_is r = take_at (F1 h1) r (length (block t)) (f1_sized h1) ∙ f1_is h1 ∙ ap (map short) (w1_is t)

  w2_is : W2 ≡ seconds (words t) (filter t) (block t)
  w2_is = c.through-second.ensures.outputs ∙ ap (Sections.through c.taps_of-taps.result c.lines_of-second_lines.result) (in_is _) ∙ (λ i. Sections.through (c.taps_of-taps.ensures i) (c.lines_of-second_lines.ensures i) (map short (firsts (words t) (filter t) (block t))))

  second_left : c.through-second.result ≡ left (taps_of (words t)) (lines_of (filter t) 3) (map short (firsts (words t) (filter t) (block t)))
  second_left = c.through-second.ensures.left ∙ ap (left c.taps_of-taps.result c.lines_of-second_lines.result) (in_is _) ∙ (λ i. left (c.taps_of-taps.ensures i) (c.lines_of-second_lines.ensures i) (map short (firsts (words t) (filter t) (block t))))

  w2_sized : length W2 ≡ length (block t)
  w2_sized =
      ap length w2_is
      ∙ length_through (taps_of (words t)) (lines_of (filter t) 3) (map short (firsts (words t) (filter t) (block t)))
      ∙ length-map (firsts (words t) (filter t) (block t)) short
      ∙ length_through (taps_of (words t)) (lines_of (filter t) 0) (block t)

pub slice_bounds-wide_seconds-end-2 : goal.slice_bounds-wide_seconds-end-2
slice_bounds-wide_seconds-end-2 c = let u = (goal.at.slice_bounds-wide_seconds-end-2 c).After-through-second in within (W2 u) _ (length (block (t u))) (w2_sized u)

pub slice_bounds-shorten-end-3 : goal.slice_bounds-shorten-end-3
slice_bounds-shorten-end-3 c = let u = (goal.at.slice_bounds-shorten-end-3 c).After-through-second in front (W2 u) _ (length (block (t u))) (w2_sized u)

pub shorten-requires-2 : goal.shorten-requires-2
shorten-requires-2 c = let u = (goal.at.shorten-requires-2 c).After-through-second in front (W2 u) _ (length (block (t u))) (w2_sized u)

-- scaled
module _ (c : goal.After-scale) where
  abbrev h2 : goal.After-shorten-2
  h2 = c.before.before.before

  abbrev u : goal.After-through-second
  u = h2.before.before.before.before

  abbrev n : ℕ
  n = length (block (t u))

  out_is : c.scale.new.block ≡ map scaled (map short (W2 u))
  out_is = c.scale.ensures ∙ ap (map scaled) (h2.shorten-2.ensures ∙ ap (map short) (take_at (W2 u) _ n (w2_sized u)))

pub slice_bounds-wide_firsts-end-3 : goal.slice_bounds-wide_firsts-end-3
slice_bounds-wide_firsts-end-3 c = let k = (goal.at.slice_bounds-wide_firsts-end-3 c).After-scale in within (W1 (t (u k))) _ (n k) (w1_sized (t (u k)))

pub slice_bounds-clipped-end : goal.slice_bounds-clipped-end
slice_bounds-clipped-end c = let k = (goal.at.slice_bounds-clipped-end c).After-scale in front (W1 (t (u k))) _ (n k) (w1_sized (t (u k)))

pub slice_bounds-wide_seconds-end-3 : goal.slice_bounds-wide_seconds-end-3
slice_bounds-wide_seconds-end-3 c = let k = (goal.at.slice_bounds-wide_seconds-end-3 c).After-scale in within (W2 (u k)) _ (n k) (w2_sized (u k))

pub slice_bounds-clipped-end-2 : goal.slice_bounds-clipped-end-2
slice_bounds-clipped-end-2 c = let k = (goal.at.slice_bounds-clipped-end-2 c).After-scale in front (W2 (u k)) _ (n k) (w2_sized (u k))

pub slice_bounds-firsts-end-3 : goal.slice_bounds-firsts-end-3
slice_bounds-firsts-end-3 c = let k = (goal.at.slice_bounds-firsts-end-3 c).After-scale in within (F1 (h1 (u k))) _ (n k) (f1_sized (h1 (u k)))

pub slice_bounds-clipped-end-3 : goal.slice_bounds-clipped-end-3
slice_bounds-clipped-end-3 c = let k = (goal.at.slice_bounds-clipped-end-3 c).After-scale in front (F1 (h1 (u k))) _ (n k) (f1_sized (h1 (u k)))

pub clipped-clipped-requires : goal.clipped-clipped-requires
clipped-clipped-requires c =
    let k = (goal.at.clipped-clipped-requires c).After-scale in
    let w = t (u k) in record {
      first_len_bound = (small (W1 w) _ (n k) (w1_sized w) w.requires.1, sym (front (W2 (u k)) _ (n k) (w2_sized (u k))) ∙ front (W1 w) _ (n k) (w1_sized w));
      firsts_value = (
        take_at (F1 (h1 (u k))) _ (n k) (f1_sized (h1 (u k))) ∙ f1_is (h1 (u k)) ∙ ap (map short) (sym (take_at (W1 w) _ (n k) (w1_sized w))),
        out_is k ∙ ap (λ (l : List ℤ). map scaled (map short l)) (sym (take_at (W2 (u k)) _ (n k) (w2_sized (u k)))),
      );
    }

six_words : (s : goal.After-through-first) → length s.args.filter.fir ≡ 6
six_words s = search rules

six_numbers : (s : goal.After-through-first) → length s.args.filter.iir ≡ 6
six_numbers s = search rules

counts_same : (a b c d : List ℤ) → a ≡ c → b ≡ d → clipped_by a b ≡ clipped_by c d
counts_same a b c d e f = λ i. clipped_by (e i) (f i)

pub returns : goal.returns
unfolding Postfilter.filtered
returns c =
    let k = (goal.at.returns c).After-scale in
    let v = u k in
    let w = t v in
    let e = c.both-left.ensures ∙ (λ i. Sections.both (first_left w i) (second_left v i)) ∙ sym (after_by (words w) (filter w) (block w) (six_words w) (six_numbers w)) in
    let m = c.before.clipped-clipped.ensures ∙ counts_same _ _ _ _ (take_at (W1 w) _ (n k) (w1_sized w) ∙ w1_is w) (take_at (W2 v) _ (n k) (w2_sized v) ∙ w2_is v) ∙ sym (clipped_by_lem (words w) (filter w) (block w)) in
    record {
      outputs = out_is k ∙ ap (λ (l : List ℤ). map scaled (map short l)) (w2_is v) ∙ sym (outputs_by (words w) (filter w) (block w));
      filtered = λ i. record { filter = e i; clipped = m i };
    }
