-- The array W holds the ten outputs before the block and those so far: what one output more does to it and to the outputs O.
use native.Mathlib.Omega.{arith}
use native.Mathlib.Numerals.{add-one}
use native.Mathlib.Nat.{eq-or-lt_of_le}
use mathlib.Core.Bool.{true}
use mathlib.Core.Logic.{⊎_elim}
use mathlib.Core.List.{List, [], ◌∷◌, ◌++◌}
use mathlib.Core.Path.{◌≡◌, ap, sym, ◌∙◌}
use lib.IntN.{ℤ, pos}
use lib.ListN.{get_or, length, take, drop, set, length-append, length-drop, length-set, drop_of_length-le, get_or-append}
use lib.Seq.{take-add, drop_at, length-take-le, take-suc-set, drop-append-le, take_at, take_all, get_or-drop, get_or-append_seam}
use Prim.Native.Nat.{ℕ, zero, suc, ◌≤◌, ◌<◌, ◌-◌, ◌+◌}
use Rattle.sequence.specs.Count.{count, count_same}
use Rattle.sequence.specs.Table.{table, length_table, get_or_table}
use Rattle.fixed.specs.Fixed.{clips}
use Rattle.fixed.specs.Clips.{at_end, ends, changed_at_end, no_end, count_nowhere}
use Rattle.synth.specs.Synth.{sample, sample_sum, sum, window, synthesis, memory, clipped}

length_window : (a m xs : List ℤ) (n : ℕ) → length m ≡ 10 → length (window a m xs n) ≡ n + 10
unfolding window
length_window a m xs zero e = e
length_window a m xs (suc n) e = simp length-append (omega (arith, length_window a m xs n e))

window_more : (a m xs : List ℤ) (n : ℕ) → window a m xs (n + 1) ≡ window a m xs n ++ (sample a (drop n (window a m xs n)) (get_or xs n (pos 0)) ∷ [])
unfolding window
window_more a m xs n = rw (add-one n)

-- the ten from n on, as a part of the array and as the last of those so far
last_ten : (W : List ℤ) (n : ℕ) → n + 10 ≤ length W → take (n + 10 - n) (drop n W) ≡ drop n (take (n + 10) W)
last_ten W n h =
    let e : n + 10 - n ≡ 10 = omega arith in
    rw e (sym (ap (drop n) (take-add n 10 W) ∙ drop_at (take n W) (take 10 (drop n W)) n (length-take-le n W (omega arith))))

-- what the loop has done by turn n, for a block of at most 80
abbrev pub Filtered : List ℤ → List ℤ → List ℤ → List ℤ → List ℤ → ℕ → Type 0
Filtered a m xs W O n =
    (n ≤ length xs) × (length W ≡ 90) × (take (n + 10) W ≡ window a m xs n) × (length O ≡ length xs) × (take n O ≡ drop 10 (window a m xs n))

module _ (a m xs : List ℤ) (sized : length m ≡ 10) where
  -- where the loop begins: the memory, and 80 places after it
  pub filtered_none : (D R O : List ℤ) → D ≡ m → length R ≡ 80 → length O ≡ length xs → Filtered a m xs (D ++ R) O 0
  unfolding window
  filtered_none D R O e r o =
      let d : length D ≡ 10 = ap length e ∙ sized in
      (omega arith, length-append D R ∙ omega arith, take_at D R 10 d ∙ e, o, sym (drop_of_length-le m {i = 10} (omega arith)))

  -- the ten before output n
  pub filtered_ten : (W O : List ℤ) (n : ℕ) → length xs ≤ 80 → Filtered a m xs W O n → n < length xs → take (n + 10 - n) (drop n W) ≡ drop n (window a m xs n)
  filtered_ten W O n short f p = last_ten W n (omega arith) ∙ ap (drop n) f.2

  -- a turn of the loop: y goes to the next place of both
  pub filtered_more : (W O : List ℤ) (n : ℕ) (y : ℤ) → length xs ≤ 80 → Filtered a m xs W O n → n < length xs →
      y ≡ sample a (take (n + 10 - n) (drop n W)) (get_or xs n (pos 0)) → Filtered a m xs (set W (n + 10) y) (set O n y) (n + 1)
  filtered_more W O n y short f p next = (omega arith, length-set W (n + 10) y ∙ f.1, grown, length-set O n y ∙ f.3, written)
    where
      one_more : window a m xs (n + 1) ≡ window a m xs n ++ (y ∷ [])
      one_more =
          window_more a m xs n
          ∙ ap (λ (z : ℤ). window a m xs n ++ (z ∷ [])) (sym (next ∙ ap (λ (h : List ℤ). sample a h (get_or xs n (pos 0))) (filtered_ten W O n short f p)))

      grown : take (n + 1 + 10) (set W (n + 10) y) ≡ window a m xs (n + 1)
      grown =
          let e : n + 1 + 10 ≡ suc (n + 10) = omega arith in
          rw e (take-suc-set W (n + 10) y (omega arith) ∙ ap (λ (l : List ℤ). l ++ (y ∷ [])) f.2 ∙ sym one_more)

      written : take (n + 1) (set O n y) ≡ drop 10 (window a m xs (n + 1))
      written =
          rw (add-one n) (take-suc-set O n y (omega arith) ∙ ap (λ (l : List ℤ). l ++ (y ∷ [])) f.4 ∙ sym (drop-append-le 10 (window a m xs n) (y ∷ []) (omega (arith, length_window a m xs n sized))))
          ∙ ap (drop 10) (sym one_more)

  -- where the loop ends
  pub filtered_end : (W O : List ℤ) (n : ℕ) → length xs ≤ 80 → Filtered a m xs W O n → length xs ≤ n →
      (O ≡ synthesis a m xs) × (take (length xs + 10 - length xs) (drop (length xs) W) ≡ memory a m xs)
  unfolding synthesis memory
  filtered_end W O n short f p =
      let e : n ≡ length xs = omega arith in
      (sym (take_all (length xs) O (omega arith)) ∙ rw e at f.4, last_ten W (length xs) (omega arith) ∙ ap (drop (length xs)) (rw e at f.2))

-- ---- output k, of n; and where none is at an end, none was changed
at_window : (a m xs : List ℤ) (n k : ℕ) → length m ≡ 10 → k < n → get_or (window a m xs n) (10 + k) (pos 0) ≡ sample a (drop k (window a m xs k)) (get_or xs k (pos 0))
unfolding window
at_window a m xs zero k e h = absurd (omega arith)
at_window a m xs (suc n) k e h =
    let w : List ℤ = window a m xs n in
    let y : ℤ = sample a (drop n w) (get_or xs n (pos 0)) in
    let l : length w ≡ n + 10 = length_window a m xs n e in
    ⊎_elim
    (λ (d : k ≡ n). let p : 10 + k ≡ length w = omega (arith, l, d) in ap (λ (i : ℕ). get_or (w ++ (y ∷ [])) i (pos 0)) p ∙ get_or-append_seam w y [] (pos 0) ∙ ap (λ (i : ℕ). sample a (drop i (window a m xs i)) (get_or xs i (pos 0))) (sym d))
    (λ (d : k < n). get_or-append w (y ∷ []) (pos 0) (10 + k) (omega (arith, l)) ∙ at_window a m xs n k e d)
    (eq-or-lt_of_le (omega arith))

-- what is saturated for output n
abbrev pub value : List ℤ → List ℤ → List ℤ → ℕ → ℤ
value a m xs n = sum a (drop n (window a m xs n)) (get_or xs n (pos 0))

-- of the sums that a block has left, as many are changed as its definition says
pub all_clipped : (a m xs S : List ℤ) → S ≡ table (value a m xs) (length xs) → count (λ n. clips (get_or S n (pos 0))) (length S) ≡ clipped a m xs
unfolding clipped
all_clipped a m xs S e =
    let f : ℕ → ℤ = value a m xs in
    let t : List ℤ = table f (length xs) in
    ap (λ (l : List ℤ). count (λ n. clips (get_or l n (pos 0))) (length l)) e
    ∙ ap (count (λ n. clips (get_or t n (pos 0)))) (length_table f (length xs))
    ∙ count_same (λ n. clips (get_or t n (pos 0))) (λ n. clips (f n)) (length xs) (λ k p. ap clips (get_or_table f (length xs) k (pos 0) p))

pub none_clipped : (a m xs : List ℤ) → length m ≡ 10 → ends (synthesis a m xs) ≡ 0 → clipped a m xs ≡ 0
unfolding synthesis clipped
none_clipped a m xs e h = count_nowhere _ (length xs) nowhere
  where
    w : List ℤ
    w = window a m xs (length xs)

    sized : length (drop 10 w) ≡ length xs
    sized = length-drop 10 w ∙ omega (arith, length_window a m xs (length xs) e)

    nowhere : (k : ℕ) → k < length xs → clips (sum a (drop k (window a m xs k)) (get_or xs k (pos 0))) ≡ true → ⊥
    nowhere k p t =
        no_end (drop 10 w) h k (omega (arith, sized))
        (ap at_end (get_or-drop 10 w k (pos 0) ∙ at_window a m xs (length xs) k e p ∙ sample_sum a (drop k (window a m xs k)) (get_or xs k (pos 0))) ∙ changed_at_end (sum a (drop k (window a m xs k)) (get_or xs k (pos 0))) t)
