-- Sharpening as pitch.rs goes about it, over two arrays: the innovation, and a buffer that holds, behind the guard, only the samples before the first sharpened one,
-- and takes in each sharpened sample as it is made. It gives what `sharpen` gives, which works on the whole innovation behind the guard.
use native.Mathlib.Omega.{arith}
use Rattle.std.specs.Prelude.{Bool, true, false, ◌≡◌, refl, ltb, pos}
use Rattle.std.proofs.Math.Path.{sym, ap}
use Rattle.std.proofs.Common.{◌∙◌, ltb-true, ltb-false, take_at, take-suc-set}
use mathlib.Core.List.{List, [], ◌∷◌, ◌++◌}
use Prim.Native.Nat.{ℕ, zero, suc, ◌+◌, ◌-◌, ◌≤◌, ◌<◌}
use Rattle.std.proofs.Math.IntN.{ℤ}
use Rattle.std.proofs.Math.ListN.{length, get_or, take, drop, set, replicate, length-append, length-set, length-replicate}
use Rattle.std.proofs.Math.Seq.{length-take-le, take-append-add, get_or-drop}
use Rattle.std.proofs.lemmas.List.{drop-set-add}
use Rattle.sequence.specs.Repeated.{repeated}
use Rattle.sequence.specs.Rewritten.{rewritten, length_rewritten}
use Rattle.pitch.specs.declared.Lag.{Lag}
use Rattle.pitch.specs.Pitch.{Sane, phase, delay, interpolated_sample, mixed, first, guarded, sharpened, sharpen}
use Rattle.pitch.specs.Lags.{sane_delay}
use Rattle.pitch.specs.Kept.{unsharpened}
use Rattle.pitch.specs.Reads.{Agree, interpolated_same}

-- the innovation and the buffer
pub record Buffered : Type 0 where
  pub code : List ℤ
  pub buf : List ℤ

-- the buffer at first: 21 zeros, the samples before the first sharpened one, and zeros
unfoldable pub begun : List ℤ → ℕ → Buffered
begun code first = record { code = code; buf = replicate 21 (pos 0) ++ (take first code ++ replicate (80 - first) (pos 0)) }

-- turn n from the first sharpened sample on: interpolated in the buffer, mixed with the innovation's sample, and stored in both
unfoldable pub turn : List ℤ → ℕ → ℕ → ℤ → ℕ → Buffered → Buffered
turn taps phase first gain n s =
    let y : ℤ = mixed (interpolated_sample taps phase s.buf (11 + n)) gain (get_or s.code (first + n) (pos 0)) in
    record { code = set s.code (first + n) y; buf = set s.buf (21 + (first + n)) y }

-- all of them: none, where the first is past the end, which is where pitch.rs returns
unfoldable pub sharpen_buffered : List ℤ → List ℤ → Lag → ℤ → List ℤ
sharpen_buffered taps code l gain = (repeated (turn taps (phase l) (first l) gain) (80 - first l) (begun code (first l))).code

-- ---- after n turns the innovation is the one behind our guard, and the buffer agrees with it up to the sample that comes next
module _ (taps code : List ℤ) (phase first : ℕ) (gain : ℤ) (long : length code ≡ 80) (some : 0 < first) (short : first < 80) where
  abbrev theirs : ℕ → Buffered
  theirs n = repeated (turn taps phase first gain) n (begun code first)

  abbrev ours : ℕ → List ℤ
  ours n = rewritten (sharpened taps phase first gain) (21 + first) (guarded code) n

  record Together (n : ℕ) : Type 0 where
    pub codes : (theirs n).code ≡ drop 21 (ours n)
    pub agree : Agree (21 + first + n) (theirs n).buf (ours n)
    pub size : length (theirs n).buf ≡ 101

  guarded_long : length (guarded code) ≡ 101
  unfolding guarded
  guarded_long = length-append (replicate 21 (pos 0)) code ∙ omega (arith, length-replicate 21 (pos 0))

  ours_long : (n : ℕ) → length (ours n) ≡ 101
  ours_long n = length_rewritten _ (21 + first) (guarded code) n ∙ guarded_long

  at_first : Together 0
  unfolding repeated rewritten begun guarded
  at_first =
      let t : length (take first code) ≡ first = length-take-le first code (omega arith) in
      let z : 21 + first + 0 ≡ length (replicate 21 (pos 0)) + first = omega (arith, length-replicate 21 (pos 0)) in
      let rest : List ℤ = take first code ++ replicate (80 - first) (pos 0) in
      record {
        codes = refl;
        agree = rw z (take-append-add (replicate 21 (pos 0)) rest first ∙ ap (λ (l : List ℤ). replicate 21 (pos 0) ++ l) (take_at (take first code) (replicate (80 - first) (pos 0)) first t) ∙ sym (take-append-add (replicate 21 (pos 0)) code first));
        size = length-append (replicate 21 (pos 0)) rest ∙ omega (arith, length-replicate 21 (pos 0), length-append (take first code) (replicate (80 - first) (pos 0)), length-replicate (80 - first) (pos 0));
      }

  next : (n : ℕ) → first + n < 80 → Together n → Together (suc n)
  unfolding repeated rewritten turn sharpened
  next n h t =
      let c : List ℤ = (theirs n).code in
      let b : List ℤ = (theirs n).buf in
      let o : List ℤ = ours n in
      let place : 21 + (first + n) ≡ 21 + first + n = omega arith in
      let further : 21 + first + suc n ≡ suc (21 + first + n) = omega arith in
      let x : ℤ = mixed (interpolated_sample taps phase b (11 + n)) gain (get_or c (first + n) (pos 0)) in
      let y : ℤ = mixed (interpolated_sample taps phase o (11 + n)) gain (get_or o (21 + first + n) (pos 0)) in
      let read : get_or c (first + n) (pos 0) ≡ get_or o (21 + first + n) (pos 0) =
      ap (λ (l : List ℤ). get_or l (first + n) (pos 0)) t.codes ∙ get_or-drop 21 o (first + n) (pos 0) ∙ ap (λ (k : ℕ). get_or o k (pos 0)) place in
      let made : x ≡ y =
      ap (λ (v : ℤ). mixed v gain (get_or c (first + n) (pos 0))) (interpolated_same taps phase (11 + n) (21 + first + n) b o t.agree (omega arith))
      ∙ ap (mixed (interpolated_sample taps phase o (11 + n)) gain) read in
      let m = t.size in
      record {
        codes = (λ i. set (t.codes i) (first + n) (made i)) ∙ sym (drop-set-add 21 o (first + n) y) ∙ ap (λ (k : ℕ). drop 21 (set o k y)) place;
        agree = rw (further, place) (take-suc-set b (21 + first + n) x (omega arith) ∙ (λ i. t.agree i ++ (made i ∷ [])) ∙ sym (take-suc-set o (21 + first + n) y (omega (arith, ours_long n))));
        size = length-set b (21 + (first + n)) x ∙ t.size;
      }

  along : (n : ℕ) → first + n ≤ 80 → Together n
  along zero h = at_first
  along (suc n) h = next n (omega arith) (along n (omega arith))

-- ---- the theorem
pub sharpen_buffered_lem : (taps code : List ℤ) (l : Lag) (gain : ℤ) → Sane l → length code ≡ 80 → sharpen_buffered taps code l gain ≡ sharpen taps code l gain
unfolding sharpen_buffered sharpen repeated begun first
sharpen_buffered_lem taps code l gain s long = go (ltb (delay l - 10) 80) refl
  where
    go : (t : Bool) → ltb (delay l - 10) 80 ≡ t → sharpen_buffered taps code l gain ≡ sharpen taps code l gain
    go true t =
        let d = sane_delay l s in
        (along taps code (phase l) (delay l - 10) gain long (omega arith) (ltb-true (delay l - 10) 80 t) (80 - (delay l - 10)) (omega (arith, ltb-true (delay l - 10) 80 t))).codes
    go false t =
        let h : 80 ≤ delay l - 10 = ltb-false (delay l - 10) 80 t in
        let e : 80 - (delay l - 10) ≡ 0 = omega arith in
        ap (λ (n : ℕ). (repeated (turn taps (phase l) (delay l - 10) gain) n (begun code (delay l - 10))).code) e ∙ sym (unsharpened taps code l gain h)
