-- A block in two parts: the second begins with the filter that the first leaves.
use mathlib.Core.List.{List, [], ◌∷◌, ◌++◌}
use Rattle.std.specs.Prelude.{◌≡◌, ℤ}
use Rattle.std.proofs.Math.Path.{refl, ap}
use Rattle.output_filter.specs.declared.OutputFilter.{OutputFilter}
use Rattle.output_filter.specs.Postfilter.{taps_of, filter_sample, outputs, after}

module _ (words : List ℤ) where
  pub after_joined : (filter : OutputFilter) (xs ys : List ℤ) → after words filter (xs ++ ys) ≡ after words (after words filter xs) ys
  unfolding after
  after_joined filter [] ys = refl
  after_joined filter (x ∷ xs) ys = after_joined (filter_sample (taps_of words) filter x).filter xs ys

  pub outputs_joined : (filter : OutputFilter) (xs ys : List ℤ) → outputs words filter (xs ++ ys) ≡ outputs words filter xs ++ outputs words (after words filter xs) ys
  unfolding outputs after
  outputs_joined filter [] ys = refl
  outputs_joined filter (x ∷ xs) ys = ap (λ (l : List ℤ). (filter_sample (taps_of words) filter x).value ∷ l) (outputs_joined (filter_sample (taps_of words) filter x).filter xs ys)
