-- How long what is told is.
use Rattle.std.specs.Prelude.{ℕ, ◌+◌, ◌-◌, ◌≤◌, List, [], ◌∷◌, ◌++◌, Bool, true, false, cond, ◌&&◌, eqb, ltb, length, get_or, take}
use Rattle.std.proofs.Common.{arith, length-append}
use Rattle.stream.specs.Decimal.{decimal, decimal_long}
use Rattle.verdict.specs.Verdict.{same, is_frame, known, head, says, refusal, mark, missing, extra, sixteen, agree, spelled, spaced, place, sample_of, sample, sample_at, what, difference, added}
use Rattle.verdict.specs.Round.{round, last}

pub head_long : (n : ℕ) → length (head n) ≤ 25
unfolding head
head_long n = let d = decimal_long n in omega arith

pub place_long : (p : ℕ) → length (sample_of p) ≤ 28
unfolding sample_of
place_long p = let d = decimal_long p in omega arith

pub spaced_long : (v : ℕ) → length (spaced v) ≤ 22
unfolding spaced
spaced_long v = by (ltb v 32768) (decimal_long v) (decimal_long (65536 - v))
  where
    by : (t : Bool) → length (decimal v) ≤ 20 → length (decimal (65536 - v)) ≤ 20 → length (cond t (32 ∷ decimal v) (32 ∷ 45 ∷ decimal (65536 - v))) ≤ 22
    by true p q = omega arith
    by false p q = omega arith

pub says_long : (n : ℕ) (w : List ℕ) → length (head n ++ (w ++ (10 ∷ []))) ≤ length w + 26
says_long n w = let h = head_long n in let a = length-append (head n) (w ++ (10 ∷ [])) in let b = length-append w (10 ∷ []) in omega arith

said_long : (n : ℕ) (w : List ℕ) → length w ≤ 72 → length (says n w) ≤ 98
unfolding says
said_long n w h = let l = says_long n w in omega arith

what_long : (o t : List ℕ) → length (what o t) ≤ 72
unfolding what sample_at sample
what_long o t =
    let p = place_long (place o t) in
    let a = spaced_long (spelled o (place o t)) in
    let b = spaced_long (spelled t (place o t)) in
    let q = length-append (sample_of (place o t)) (spaced (spelled o (place o t)) ++ spaced (spelled t (place o t))) in
    let r = length-append (spaced (spelled o (place o t))) (spaced (spelled t (place o t))) in
    by (known t) (is_frame o && is_frame t) (eqb (get_or o 0 0) (get_or t 0 0)) (omega arith)
  where
    by : (k f m : Bool) → length (sample_of (place o t) ++ (spaced (spelled o (place o t)) ++ spaced (spelled t (place o t)))) ≤ 72 → length (cond k (cond f (cond m (sample_of (place o t) ++ (spaced (spelled o (place o t)) ++ spaced (spelled t (place o t)))) mark) refusal) sixteen) ≤ 72
    by true true true h = h
    by true true false h = omega arith
    by true false m h = omega arith
    by false f m h = omega arith

pub round_long : (n : ℕ) (text theirs : List ℕ) (whole : Bool) → length (round n text theirs whole) ≤ 98
unfolding round added difference
round_long n text theirs whole = by (eqb (length text) 0) (known theirs) (whole && same (take (length text - 1) text) theirs)
  where
    by : (z k s : Bool) → length (cond z (says n (cond k extra sixteen)) (cond s [] (says n (what (take (length text - 1) text) theirs)))) ≤ 98
    by true true s = said_long n extra (omega arith)
    by true false s = said_long n sixteen (omega arith)
    by false k true = omega arith
    by false k false = said_long n (what (take (length text - 1) text) theirs) (what_long (take (length text - 1) text) theirs)

pub last_long : (n said : ℕ) → length (last n said) ≤ 98
unfolding last
last_long n said = by (eqb said 0)
  where
    by : (t : Bool) → length (cond t agree (says n missing)) ≤ 98
    by true = omega arith
    by false = said_long n missing (omega arith)
