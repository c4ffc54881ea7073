-- Fields within their widths: by name, as the packer tests it, and of every frame that is read.
use Rattle.std.specs.Prelude.{◌≡◌, refl, Bool, true, false, cond, List, [], ◌∷◌, ◌++◌, map, ℕ, zero, suc, ◌+◌, ◌^◌, ◌<◌, leb, length, get_or}
use Rattle.std.proofs.Common.{sym, ap, ◌∙◌, mod-lt, arith, eqb-true, leb-false, lit<, get_or-append-add}
use Rattle.std.proofs.lemmas.Bool.{lt-leb}
use Rattle.std.proofs.lemmas.List.{length-map}
use Rattle.std.proofs.Math.ListN.{get_or-append, get_or-map}
use Rattle.sequence.specs.First.{first, first_before, first_all}
use Rattle.sequence.specs.Table.{table, table_of}
use Rattle.bits.specs.declared.HalfParams.{HalfParams}
use Rattle.bits.specs.declared.FrameParams.{FrameParams}
use Rattle.bits.specs.Bits.{half, groups, widths, inverted, bit_at, read, read_bit, gather, changed, frame_params, half_list, list, fields_of, width_number}
use Rattle.bits.specs.Digits.{Within, map_digits, read_lt}
use Rattle.bits.specs.Places.{widths_count}
use Rattle.bits.specs.Changed.{within_changed, length_changed}

-- each field of a half is within its width
pub record InWidths (h : HalfParams) : Type 0 where
  pub gain_low0 : h.gain_low0 < 16
  pub gain_low1 : h.gain_low1 < 16
  pub code0 : h.code0 < 65536
  pub code1 : h.code1 < 65536
  pub gain_high0 : h.gain_high0 < 8
  pub gain_high1 : h.gain_high1 < 8
  pub mode : h.mode < 2
  pub stage1 : h.stage1 < 128
  pub stage2_low : h.stage2_low < 64
  pub stage2_high : h.stage2_high < 64
  pub absolute_pitch : h.absolute_pitch < 256
  pub relative_pitch : h.relative_pitch < 32

-- ---- as the packer tests it

-- field k is wider than its bits
abbrev wide : List ℕ → ℕ → Bool
wide fs k = leb (2 ^ get_or widths k 0) (get_or fs k 0)

pub width_accepts : (fs : List ℕ) → Within widths fs → width_number fs ≡ 0
unfolding width_number
width_accepts fs w =
    let e = first_all (wide fs) 24 (λ k h. lt-leb (2 ^ get_or widths k 0) (get_or fs k 0) (w.each k (omega (arith, widths_count)))) in
    rw e

pub width_accepted : (fs : List ℕ) → length fs ≡ 24 → width_number fs ≡ 0 → Within widths fs
unfolding width_number
width_accepted fs l e =
    let n : first (wide fs) 24 ≡ 24 = eqb-true (first (wide fs) 24) 24 (none _ e) in
    record {
      same = l ∙ sym widths_count;
      each = λ k h. leb-false (2 ^ get_or widths k 0) (get_or fs k 0) (first_before (wide fs) 24 k (omega (arith, widths_count)));
    }
  where
    none : (b : Bool) → ◌≡◌ {A = ℕ} (cond b 0 8) 0 → b ≡ true
    none true e = refl
    none false e = absurd (omega arith)

-- ---- by name

abbrev half_widths : List ℕ
half_widths = map length (half 0)

half_names : (h : HalfParams) → ((k : ℕ) → k < 12 → get_or (half_list h) k 0 < 2 ^ get_or half_widths k 0) → InWidths h
half_names h w =
    record {
      gain_low0 = w 0 (lit< tt);
      gain_low1 = w 1 (lit< tt);
      code0 = w 2 (lit< tt);
      code1 = w 3 (lit< tt);
      gain_high0 = w 4 (lit< tt);
      gain_high1 = w 5 (lit< tt);
      mode = w 6 (lit< tt);
      stage1 = w 7 (lit< tt);
      stage2_low = w 8 (lit< tt);
      stage2_high = w 9 (lit< tt);
      absolute_pitch = w 10 (lit< tt);
      relative_pitch = w 11 (lit< tt);
    }

pub within_names : (f : FrameParams) → Within widths (list f) → InWidths f.first × InWidths f.second
unfolding widths groups
within_names f w = (
  half_names f.first (λ k h. rw (get_or-append (half_list f.first) (half_list f.second) 0 k h, get_or-append half_widths half_widths 0 k h) at (w.each k (omega arith))),
  half_names f.second (λ k h. rw (get_or-append-add (half_list f.first) (half_list f.second) k 0, get_or-append-add half_widths half_widths k 0) at (w.each (12 + k) (omega arith))),
)

more : (w : ℕ) {v : ℕ} {ws vs : List ℕ} → v < 2 ^ w → Within ws vs → Within (w ∷ ws) (v ∷ vs)
more w {v} {ws} {vs} h r = record { same = ap suc r.same; each = at }
  where
    at : (k : ℕ) → k < suc (length ws) → get_or (v ∷ vs) k 0 < 2 ^ get_or (w ∷ ws) k 0
    at zero s = h
    at (suc k) s = r.each k (omega arith)

half_within : (h : HalfParams) → InWidths h → (ws vs : List ℕ) → Within ws vs → Within (half_widths ++ ws) (half_list h ++ vs)
half_within h w ws vs r =
    more 4 w.gain_low0 (more 4 w.gain_low1 (more 16 w.code0 (more 16 w.code1
    (more 3 w.gain_high0 (more 3 w.gain_high1 (more 1 w.mode (more 7 w.stage1
    (more 6 w.stage2_low (more 6 w.stage2_high (more 8 w.absolute_pitch (more 5 w.relative_pitch r)))))))))))

pub names_within : (f : FrameParams) → InWidths f.first → InWidths f.second → Within widths (list f)
unfolding widths groups
names_within f x y = half_within f.first x half_widths (half_list f.second) (half_within f.second y [] [] (record { same = refl; each = λ k h. absurd (omega arith) }))

-- ---- of the fields that are read

pub read_bit_lt : (p : List ℕ) (i : ℕ) → read_bit p i < 2
unfolding read_bit
read_bit_lt p i = mod-lt (bit_at p i + inverted i) (lit< tt)

pub gather_within : (p : List ℕ) → Within widths (gather (read_bit p))
unfolding gather widths
gather_within p =
    record {
      same = length-map groups _ ∙ sym (length-map groups length);
      each =
          λ k h.
          let g : List ℕ = get_or groups k [] in
          rw (get_or-map (λ (l : List ℕ). read 0 (map (read_bit p) l)) groups k [], get_or-map length groups k [])
          (rw (length-map g (read_bit p)) at (read_lt (map (read_bit p) g) (map_digits (read_bit p) (read_bit_lt p) g)));
    }

-- a list of 24 fields, by name and back
pub list_params : (fs : List ℕ) → length fs ≡ 24 → list (frame_params fs) ≡ fs
unfolding table
list_params fs e = table_of (λ k. get_or fs k 0) 0 fs 24 e (λ k h. refl)

pub fields_list : (p : List ℕ) → list (fields_of p) ≡ changed (gather (read_bit p))
unfolding fields_of
fields_list p = list_params (changed (gather (read_bit p))) (length_changed (gather (read_bit p)) ∙ (gather_within p).same ∙ widths_count)

pub fields_within : (p : List ℕ) → Within widths (list (fields_of p))
fields_within p = rw (fields_list p) (within_changed (gather (read_bit p)) (gather_within p))
