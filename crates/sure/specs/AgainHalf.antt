-- The law of a half frame: two decoders whose figures are the same, with excitations of which the number says so much.
use Rattle.std.specs.Prelude.{ℕ, ◌+◌, ◌≤◌, ◌<◌, ◌≡◌, ℤ, pos, length, get_or, replicate}
use Rattle.std.proofs.Math.Path.{refl, subst}
use Rattle.std.proofs.Common.{sym, ap, ◌∙◌, arith}
use mathlib.Core.List.{List}
use Rattle.std.proofs.Math.ListN.{length-append, length-drop, length-replicate, get_or-append}
use Rattle.std.proofs.Math.Seq.{get_or-drop}
use Rattle.bits.specs.declared.HalfParams.{HalfParams}
use Rattle.bits.specs.Widths.{InWidths}
use Rattle.half.specs.declared.Core.{Core}
use Rattle.half.specs.declared.Half.{Half}
use Rattle.half.specs.declared.SubframeTrace.{SubframeTrace}
use Rattle.half.specs.Core as Spec
use Rattle.half.specs.Depends as Depends
use Rattle.half.specs.Kept.{lags_kept}
use Rattle.sure.specs.Sure.{surer}
use Rattle.sure.specs.Again.{Agreed, length_excited, subframe_again, part_long, part_same}

-- the number after the first subframe, and after both
abbrev pub after_first : ℕ → Half → ℕ
after_first w x = surer w x.first.pitch_gain

abbrev pub after_both : ℕ → Half → ℕ
after_both w x = surer (after_first w x) x.second.pitch_gain

pub record HalfAgain (w : ℕ) (x y : Half) : Type 0 where
  pub first : 2 ≤ after_first w x → x.first.mixed_excitation ≡ y.first.mixed_excitation
  pub second : 2 ≤ after_both w x → x.second.mixed_excitation ≡ y.second.mixed_excitation
  pub left : Agreed (after_both w x) 154 x.core.excitation y.core.excitation

-- a mix sees of a trace no more than its figures
by_figures : (words z : List ℤ) (at : ℕ) (t u : SubframeTrace) → Depends.figures t ≡ Depends.figures u → Spec.excited_by words z at t ≡ Spec.excited_by words z at u
unfolding Depends.figures
by_figures words z at t u e = ap (Spec.excited_by words z at) e

-- what one decoder makes of a half
module _ (words : List ℤ) (bytes : List ℕ) (lsp : List ℤ) (p : HalfParams) (c : Core) (long : length c.excitation ≡ 154) where
  room_long : length (Spec.room c.excitation) ≡ 314
  unfolding Spec.room
  room_long = length-append c.excitation (replicate 160 (pos 0)) ∙ omega (arith, length-replicate 160 (pos 0))

  room_at : (k : ℕ) → k < 154 → get_or (Spec.room c.excitation) k (pos 0) ≡ get_or c.excitation k (pos 0)
  unfolding Spec.room
  room_at k h = get_or-append c.excitation (replicate 160 (pos 0)) (pos 0) k (omega arith)

  between_long : length (Spec.between words bytes c lsp p) ≡ 314
  unfolding Spec.between
  between_long = length_excited words 154 (Spec.room c.excitation) _ _ _ _ ∙ room_long

  behind_long : length (Spec.behind words bytes c lsp p) ≡ 314
  unfolding Spec.behind
  behind_long = length_excited words 234 (Spec.between words bytes c lsp p) _ _ _ _ ∙ between_long

  first_is : (Spec.half words bytes c lsp p).first.mixed_excitation ≡ Spec.part (Spec.between words bytes c lsp p) 154
  unfolding Spec.half Spec.between Spec.first Spec.decode_subframe Spec.traced
  first_is = refl

  second_is : (Spec.half words bytes c lsp p).second.mixed_excitation ≡ Spec.part (Spec.behind words bytes c lsp p) 234
  unfolding Spec.half Spec.behind Spec.second Spec.decode_subframe Spec.traced
  second_is = refl

  pub first_long : length (Spec.half words bytes c lsp p).first.mixed_excitation ≡ 80
  first_long = rw first_is (part_long 154 (Spec.between words bytes c lsp p) (omega (arith, between_long)))

  pub second_long : length (Spec.half words bytes c lsp p).second.mixed_excitation ≡ 80
  second_long = rw second_is (part_long 234 (Spec.behind words bytes c lsp p) (omega (arith, behind_long)))

  -- of the excitation behind it the last 154 samples are kept
  left_at : (k : ℕ) → get_or (Spec.half words bytes c lsp p).core.excitation k (pos 0) ≡ get_or (Spec.behind words bytes c lsp p) (160 + k) (pos 0)
  unfolding Spec.half Spec.kept
  left_at k = get_or-drop 160 (Spec.behind words bytes c lsp p) k (pos 0)

  pub left_long : length (Spec.half words bytes c lsp p).core.excitation ≡ 154
  unfolding Spec.half Spec.kept
  left_long = length-drop 160 (Spec.behind words bytes c lsp p) ∙ omega (arith, behind_long)

-- what two make of it
module _ (words : List ℤ) (bytes : List ℕ) (lsp : List ℤ) (p : HalfParams) (within : InWidths p) (c d : Core) (alike : Depends.Alike c d) (long : length c.excitation ≡ 154) (long' : length d.excitation ≡ 154) (w : ℕ) (a : Agreed w 154 c.excitation d.excitation) where
  abbrev x : Half
  x = Spec.half words bytes c lsp p

  abbrev y : Half
  y = Spec.half words bytes d lsp p

  in_rooms : Agreed w 154 (Spec.room c.excitation) (Spec.room d.excitation)
  in_rooms =
      let r = room_at words bytes lsp p c long in
      let s = room_at words bytes lsp p d long' in
      record { one = λ i k lo hi. r k hi ∙ a.one i k lo hi ∙ sym (s k hi); two = λ i k lo hi. r k hi ∙ a.two i k lo hi ∙ sym (s k hi) }

  same : Depends.SameFigures x y
  same = Depends.half_figures words bytes lsp p c d alike

  in_between : Agreed (after_first w x) 234 (Spec.between words bytes c lsp p) (Spec.between words bytes d lsp p)
  unfolding Spec.half Spec.between
  in_between =
      let t : SubframeTrace = (Spec.first words bytes c lsp p).trace in
      let u : SubframeTrace = (Spec.first words bytes d lsp p).trace in
      subst (λ (z : List ℤ). Agreed (surer w t.pitch_gain) 234 (Spec.between words bytes c lsp p) z) (by_figures words (Spec.room d.excitation) 154 t u same.first)
      (subframe_again words 154 (Spec.room c.excitation) (Spec.room d.excitation) (omega arith) (omega (arith, room_long words bytes lsp p c long)) (omega (arith, room_long words bytes lsp p d long')) t.lag t.pitch_gain t.code_gain t.innovation w (lags_kept words bytes c lsp p within).0 in_rooms)

  in_behind : Agreed (after_both w x) 314 (Spec.behind words bytes c lsp p) (Spec.behind words bytes d lsp p)
  unfolding Spec.half Spec.behind
  in_behind =
      let t : SubframeTrace = (Spec.second words bytes c lsp p).trace in
      let u : SubframeTrace = (Spec.second words bytes d lsp p).trace in
      subst (λ (z : List ℤ). Agreed (surer (after_first w x) t.pitch_gain) 314 (Spec.behind words bytes c lsp p) z) (by_figures words (Spec.between words bytes d lsp p) 234 t u same.second)
      (subframe_again words 234 (Spec.between words bytes c lsp p) (Spec.between words bytes d lsp p) (omega arith) (omega (arith, between_long words bytes lsp p c long)) (omega (arith, between_long words bytes lsp p d long')) t.lag t.pitch_gain t.code_gain t.innovation (after_first w x) (lags_kept words bytes c lsp p within).1 in_between)

  pub half_again : HalfAgain w x y
  half_again =
      let l = left_at words bytes lsp p c long in
      let m = left_at words bytes lsp p d long' in
      record {
        first = λ h. first_is words bytes lsp p c long ∙ part_same 154 _ _ (omega (arith, between_long words bytes lsp p c long)) (omega (arith, between_long words bytes lsp p d long')) (λ k lo hi. in_between.two h k (omega arith) hi) ∙ sym (first_is words bytes lsp p d long');
        second = λ h. second_is words bytes lsp p c long ∙ part_same 234 _ _ (omega (arith, behind_long words bytes lsp p c long)) (omega (arith, behind_long words bytes lsp p d long')) (λ k lo hi. in_behind.two h k (omega arith) hi) ∙ sym (second_is words bytes lsp p d long');
        left = record {
          one = λ i k lo hi. l k ∙ in_behind.one i (160 + k) (omega arith) (omega arith) ∙ sym (m k);
          two = λ i k lo hi. l k ∙ in_behind.two i (160 + k) (omega arith) (omega arith) ∙ sym (m k);
        };
      }
