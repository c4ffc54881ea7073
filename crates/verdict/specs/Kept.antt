-- What is held of the supplier's line while its bytes come in: its first 1,283, as many as a line of ours has with its newline. Of those behind them only one that is
-- no decimal digit is kept, in the last place, where it tells that the line is no refusal.
use Rattle.std.specs.Prelude.{ℕ, ◌+◌, ◌<◌, ◌≤◌, min, ◌≡◌, refl, List, [], ◌∷◌, ◌++◌, Bool, ◌&&◌, length, get_or, take, drop, set}
use Rattle.std.proofs.Common.{sym, ◌∙◌, append_assoc, append-nil, true≢false, arith, add-one, length-drop, take_all, get_or-drop, get_or-set_same}
use Rattle.std.proofs.Math.Path.{ap}
use Rattle.std.proofs.Math.Bool.{true, false, cond}
use Rattle.std.proofs.Math.Dec.{ltb}
use Rattle.std.proofs.Math.ListN.{length-append, length-set}
use Rattle.std.proofs.Math.Seq.{take-suc-set}
use Rattle.std.proofs.lemmas.List.{take-append-le, drop-append-le}
use borrow.Author.Tests.{lt-ltb, le-ltb, ltb-true, ltb-false}
use Rattle.sequence.specs.All.{all, all_at}
use Rattle.stream.specs.Held.{push_count}
use Rattle.stream.specs.Machine.{fed_all}
use Rattle.verdict.specs.Verdict.{is_decimal, same, refused_word, is_refusal}

pub record Kept : Type 0 where
  pub held : List ℕ
  pub n : ℕ

abbrev pub kept : List ℕ → ℕ → Kept
kept held n = record { held = held; n = n }

-- a byte more
unfoldable pub pushed : Kept → ℕ → Kept
pushed k b = record {
  held = cond (ltb k.n 1283) (set k.held k.n b) (cond (is_decimal b) k.held (set k.held 1282 b));
  n = push_count 1283 k.n;
}

pub pushed_long : (k : Kept) (b : ℕ) → length (pushed k b).held ≡ length k.held
unfolding pushed
pushed_long k b = by (ltb k.n 1283) (is_decimal b)
  where
    by : (t d : Bool) → length (cond t (set k.held k.n b) (cond d k.held (set k.held 1282 b))) ≡ length k.held
    by true d = length-set k.held k.n b
    by false true = refl
    by false false = length-set k.held 1282 b

pub kept_is : (k : Kept) {held : List ℕ} {n : ℕ} → held ≡ k.held → n ≡ k.n → kept held n ≡ k
kept_is k h e = rw (h, e)

-- ---- what it tells of the line: a line that is not longer is there whole, and a longer one is a refusal just where what is held is one
pub record Keeps (line : List ℕ) (k : Kept) : Type 0 where
  pub count : k.n ≡ min (length line) 1284
  pub long : length k.held ≡ 1283
  pub whole : length line ≤ 1283 → take k.n k.held ≡ line
  pub refused : 1283 ≤ length line → is_refusal k.held ≡ is_refusal line

pub keeps_none : (held : List ℕ) → length held ≡ 1283 → Keeps [] (kept held 0)
keeps_none held h = record { count = omega arith; long = h; whole = λ z. refl; refused = λ z. absurd (omega arith) }

all_last : (f : ℕ → Bool) (xs : List ℕ) (b : ℕ) → all f (xs ++ (b ∷ [])) ≡ all f xs && f b
all_last f [] b = by (f b)
  where
    by : (t : Bool) → t && true ≡ t
    by true = refl
    by false = refl
all_last f (x ∷ xs) b = rw (all_last f xs b) (by (f x))
  where
    by : (t : Bool) → t && (all f xs && f b) ≡ (t && all f xs) && f b
    by true = refl
    by false = refl

-- a byte behind a line that is long enough
refusal_more : (line : List ℕ) (b : ℕ) → 8 < length line → is_refusal (line ++ (b ∷ [])) ≡ is_refusal line && is_decimal b
unfolding is_refusal
refusal_more line b h =
    let l = length-append line (b ∷ []) in
    rw (lt-ltb 8 (length line) h, lt-ltb 8 (length (line ++ (b ∷ []))) (omega arith), take-append-le 8 line (b ∷ []) (omega arith), drop-append-le 8 line (b ∷ []) (omega arith), all_last is_decimal (drop 8 line) b)
    (by (same (take 8 line) refused_word))
  where
    by : (t : Bool) → t && (all is_decimal (drop 8 line) && is_decimal b) ≡ (t && all is_decimal (drop 8 line)) && is_decimal b
    by true = refl
    by false = refl

-- a byte that is no digit spoils it
spoilt : (held : List ℕ) (b : ℕ) → length held ≡ 1283 → is_decimal b ≡ false → is_refusal (set held 1282 b) ≡ false
unfolding is_refusal
spoilt held b h e = by (all is_decimal (drop 8 (set held 1282 b))) refl
  where
    none : (s t : Bool) → s && (t && false) ≡ false
    none true true = refl
    none true false = refl
    none false t = refl

    by : (t : Bool) → all is_decimal (drop 8 (set held 1282 b)) ≡ t → ltb 8 (length (set held 1282 b)) && (same (take 8 (set held 1282 b)) refused_word && all is_decimal (drop 8 (set held 1282 b))) ≡ false
    by true q =
        let s = length-set held 1282 b in
        let d = length-drop 8 (set held 1282 b) in
        let p = all_at is_decimal (drop 8 (set held 1282 b)) 0 q 1274 (omega arith) in
        let g : get_or (drop 8 (set held 1282 b)) 1274 0 ≡ b = get_or-drop 8 (set held 1282 b) 1274 0 ∙ get_or-set_same held 1282 b 0 (omega arith) in
        absurd (true≢false (sym p ∙ ap is_decimal g ∙ e))
    by false q = rw q (none (ltb 8 (length (set held 1282 b))) (same (take 8 (set held 1282 b)) refused_word))

and_false : (a : Bool) → a && false ≡ false
and_false true = refl
and_false false = refl

and_true : (a : Bool) → a && true ≡ a
and_true true = refl
and_true false = refl

module _ (line : List ℕ) (k : Kept) (b : ℕ) where
  short : Keeps line k → length line < 1283 → Keeps (line ++ (b ∷ [])) (pushed k b)
  unfolding pushed push_count
  short s h =
      let c = s.count in
      let l = length-append line (b ∷ []) in
      let w = s.whole (omega arith) in
      let g = s.long in
      let i : ltb k.n 1283 ≡ true = lt-ltb k.n 1283 (omega arith) in
      rw i (record {
        count = omega arith;
        long = length-set k.held k.n b ∙ g;
        whole = λ z. rw (add-one, take-suc-set k.held k.n b (omega arith), w);
        refused = λ z. ap is_refusal (sym (take_all (k.n + 1) (set k.held k.n b) (let q = length-set k.held k.n b in omega arith)) ∙ rw (add-one, take-suc-set k.held k.n b (omega arith), w));
      })

  long_by : Keeps line k → 1283 ≤ length line → (d : Bool) → is_decimal b ≡ d → Keeps (line ++ (b ∷ [])) (pushed k b)
  unfolding pushed push_count
  long_by s h d e =
      let c = s.count in
      let l = length-append line (b ∷ []) in
      let r = s.refused h in
      let g = s.long in
      let i : ltb k.n 1283 ≡ false = le-ltb k.n 1283 (omega arith) in
      rw i (by d e)
    where
      by : (d : Bool) → is_decimal b ≡ d → Keeps (line ++ (b ∷ [])) (record { held = cond (is_decimal b) k.held (set k.held 1282 b); n = 1284 })
      by true q =
          let l = length-append line (b ∷ []) in
          rw q (record { count = omega arith; long = s.long; whole = λ z. absurd (omega arith); refused = λ z. rw (refusal_more line b (omega arith), q, and_true) (s.refused h) })
      by false q =
          let l = length-append line (b ∷ []) in
          rw q (record { count = omega arith; long = length-set k.held 1282 b ∙ s.long; whole = λ z. absurd (omega arith); refused = λ z. rw (refusal_more line b (omega arith), q, and_false) (spoilt k.held b s.long q) })

  pub keeps_more : Keeps line k → Keeps (line ++ (b ∷ [])) (pushed k b)
  keeps_more s = by (ltb (length line) 1283) refl
    where
      by : (t : Bool) → ltb (length line) 1283 ≡ t → Keeps (line ++ (b ∷ [])) (pushed k b)
      by true e = short s (ltb-true (length line) 1283 e)
      by false e = long_by s (ltb-false (length line) 1283 e) (is_decimal b) refl

pub keeps_all : (line : List ℕ) (k : Kept) (part : List ℕ) → Keeps line k → Keeps (line ++ part) (fed_all pushed k part)
unfolding fed_all
keeps_all line k [] s = rw append-nil s
keeps_all line k (b ∷ bs) s = rw (← append_assoc line (b ∷ []) bs) (keeps_all (line ++ (b ∷ [])) (pushed k b) bs (keeps_more line k b s))
