-- Texts that are stored byte after byte.
use Rattle.std.specs.Prelude.{ℕ, suc, ◌+◌, ◌*◌, ◌<◌, ◌≤◌, ◌≡◌, refl, List, [], ◌∷◌, ◌++◌, ℤ, pos, length, get_or, take, set}
use Rattle.std.proofs.Common.{sym, ap, ◌∙◌, append_assoc, append-nil, add-one, eq-eqb, ne_eqb, length-append, length-set, length-take-le, take_all, take-suc}
use native.Mathlib.Omega.{arith}
use Rattle.std.proofs.lemmas.List.Edits.{sets}
use Rattle.std.proofs.Math.Seq.{length-sets}
use Rattle.tables.specs.Tables.{unsigned}
use Rattle.stream.specs.Room.{over, over_long, sets_append, sets_over}
use Rattle.tables.specs.declared.Fault.{Fault}
use Rattle.stream.specs.Decimal.{figure, figure_long}
use Rattle.hex_lines.specs.Text.{digit, four_digits, sample_text, frame_text, tables_refused_text}
use Rattle.hex_lines.specs.Lengths.{text_long}

pub four_stores : (l : List ℕ) (i a b c d : ℕ) → set (set (set (set l i a) (i + 1) b) (i + 2) c) (i + 3) d ≡ sets l i (a ∷ b ∷ c ∷ d ∷ [])
four_stores l i a b c d =
    let p : i + 1 ≡ suc i = omega arith in
    let q : i + 2 ≡ suc (suc i) = omega arith in
    let r : i + 3 ≡ suc (suc (suc i)) = omega arith in
    rw (p, q, r)

-- ---- samples
text_append : (s t : List ℤ) → sample_text (s ++ t) ≡ sample_text s ++ sample_text t
unfolding sample_text
text_append [] t = refl
text_append (x ∷ s) t = rw (text_append s t, append_assoc)

text_one : (x : ℤ) → sample_text (x ∷ []) ≡ four_digits (unsigned x)
unfolding sample_text
text_one x = append-nil (four_digits (unsigned x))

-- the text of one sample more
pub text_more : (s : List ℤ) (k : ℕ) → k < length s → sample_text (take (k + 1) s) ≡ sample_text (take k s) ++ four_digits (unsigned (get_or s k (pos 0)))
text_more s k h = rw (add-one k, take-suc s k (pos 0) h, text_append) (ap (λ (t : List ℕ). sample_text (take k s) ++ t) (text_one (get_or s k (pos 0))))

-- what a loop that stores samples from place «at» on has done by turn k
abbrev pub stored : List ℤ → List ℕ → ℕ → List ℕ → ℕ → Type 0
stored samples out₀ at out k = (k ≤ length samples) × (length out ≡ length out₀) × (out ≡ sets out₀ at (sample_text (take k samples)))

pub stored_none : (samples : List ℤ) (out : List ℕ) (at : ℕ) → stored samples out at out 0
unfolding sample_text
stored_none samples out at = (omega arith, refl, refl)

-- a turn of the loop: four stores behind those before them
pub stored_more : (samples : List ℤ) (out₀ : List ℕ) (at : ℕ) (out new : List ℕ) (k : ℕ) → stored samples out₀ at out k → k < length samples → new ≡ sets out (at + 4 * k) (four_digits (unsigned (get_or samples k (pos 0)))) → stored samples out₀ at new (k + 1)
stored_more samples out₀ at out new k i h e =
    let t = sample_text (take k samples) in
    let u = four_digits (unsigned (get_or samples k (pos 0))) in
    let w : at + 4 * k ≡ at + length t = ap (λ (n : ℕ). at + n) (sym (text_long (take k samples) ∙ ap (λ (n : ℕ). 4 * n) (length-take-le k samples i.0))) in (
      omega arith,
      ap length e ∙ length-sets out (at + 4 * k) u ∙ i.1,
      e ∙ ap (λ (l : List ℕ). sets l (at + 4 * k) u) i.2 ∙ ap (λ (n : ℕ). sets (sets out₀ at t) n u) w ∙ sets_append t u out₀ at ∙ ap (sets out₀ at) (sym (text_more samples k h)),
    )

pub stored_end : (samples : List ℤ) (out₀ : List ℕ) (at : ℕ) (out : List ℕ) (k : ℕ) → stored samples out₀ at out k → length samples ≤ k → out ≡ sets out₀ at (sample_text samples)
stored_end samples out₀ at out k i h = i.2 ∙ ap (λ (l : List ℤ). sets out₀ at (sample_text l)) (take_all k samples h)

-- ---- a whole frame's line
pub frame_stores : (out : List ℕ) (mark : ℕ) (samples : List ℤ) → length samples ≡ 320 → 1283 ≤ length out → set (sets (set (set out 0 (digit mark)) 1 32) 2 (sample_text samples)) 1282 10 ≡ over (frame_text mark samples) out
unfolding frame_text
frame_stores out mark samples e h =
    let t = sample_text samples in
    let n = text_long samples in
    let w : 1282 ≡ 2 + length t = omega arith in
    let m = length-append t (10 ∷ []) in
    ap (λ (k : ℕ). set (sets (set (set out 0 (digit mark)) 1 32) 2 t) k 10) w ∙ sets_append t (10 ∷ []) (set (set out 0 (digit mark)) 1 32) 2
    ∙ sets_over (digit mark ∷ 32 ∷ (t ++ (10 ∷ []))) out (omega arith)

pub frame_same : (out : List ℕ) (d : ℕ) (t : List ℕ) → length (set (sets (set (set out 0 d) 1 32) 2 t) 1282 10) ≡ length out
frame_same out d t =
    length-set (sets (set (set out 0 d) 1 32) 2 t) 1282 10 ∙ length-sets (set (set out 0 d) 1 32) 2 t ∙ length-set (set out 0 d) 1 32 ∙ length-set out 0 d

-- ---- a refused table file's line: `tables refused `, the number, and what stands behind it
abbrev TABLES : List ℕ
TABLES = 116 ∷ 97 ∷ 98 ∷ 108 ∷ 101 ∷ 115 ∷ 32 ∷ 114 ∷ 101 ∷ 102 ∷ 117 ∷ 115 ∷ 101 ∷ 100 ∷ 32 ∷ []

tables_stores : (out rest : List ℕ) (d : ℕ) → 16 + length rest ≤ length out → sets (set (over TABLES out) 15 d) 16 rest ≡ over (TABLES ++ (d ∷ rest)) out
tables_stores out rest d h = rw (← (sets_over TABLES out (omega arith))) (sets_over (TABLES ++ (d ∷ rest)) out (omega arith))

module _ (out : List ℕ) (n : ℕ) (told : Fault) (h : 40 ≤ length out) where
  -- with no rule named
  pub number_stores : told.rule ≡ 0 → (17 ≡ length (tables_refused_text n told)) × (set (set (over TABLES out) 15 (digit n)) 16 10 ≡ over (tables_refused_text n told) out)
  unfolding tables_refused_text
  number_stores e = rw (eq-eqb told.rule 0 e) (refl, tables_stores out (10 ∷ []) (digit n) (omega arith))

  -- with a rule and its place
  pub fault_stores : (told.rule ≡ 0 → ⊥) → (18 + length (figure (32 ∷ []) told.place) ≡ length (tables_refused_text n told)) × (sets (set (set (set (over TABLES out) 15 (digit n)) 16 32) 17 (digit told.rule)) 18 (figure (32 ∷ []) told.place) ≡ over (tables_refused_text n told) out)
  unfolding tables_refused_text
  fault_stores e =
      let l = figure_long (32 ∷ []) told.place in
      rw (ne_eqb told.rule 0 e) (omega arith, tables_stores out (32 ∷ digit told.rule ∷ figure (32 ∷ []) told.place) (digit n) (omega arith))

pub fault_same : (out text : List ℕ) (a b c : ℕ) → 15 ≤ length out → length (sets (set (set (set (over TABLES out) 15 a) 16 b) 17 c) 18 text) ≡ length out
fault_same out text a b c h =
    let l = over TABLES out in
    length-sets (set (set (set l 15 a) 16 b) 17 c) 18 text ∙ length-set (set (set l 15 a) 16 b) 17 c ∙ length-set (set l 15 a) 16 b ∙ length-set l 15 a ∙ over_long TABLES out h
