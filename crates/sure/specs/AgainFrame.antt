-- The law of a frame: two decoders that agree as they do after two frames that were the same, with excitations of which the number says so much.
use Prim.Native.Nat.{ℕ, zero, suc, ◌*◌, ◌≤◌, ◌<◌}
use Rattle.std.specs.Prelude.{◌≡◌, Bool, cond, ℤ, Float, length, drop}
use Rattle.std.proofs.Math.Path.{refl, sym, ap}
use Rattle.std.proofs.Common.{◌∙◌, arith, ltb-false, length-append, drop-drop}
use Rattle.std.proofs.Math.Bool.{true, false}
use mathlib.Core.List.{List, ◌++◌, append_assoc}
use Rattle.std.proofs.Math.Dec.{ltb}
use Rattle.std.proofs.Math.ListN.{get_or, take, replicate, get_or-replicate}
use Rattle.std.proofs.Math.Seq.{take_at, drop_at, take_all}
use Rattle.bits.specs.declared.FrameParams.{FrameParams}
use Rattle.bits.specs.Widths.{InWidths}
use Rattle.spectral.specs.Spectral as Spectral
use Rattle.half.specs.declared.Core.{Core}
use Rattle.half.specs.declared.Half.{Half}
use Rattle.half.specs.Core as Spec
use Rattle.half.specs.Depends as Depends
use Rattle.observation.specs.declared.Decoded.{Decoded}
use Rattle.observation.specs.Frame as Frame
use Rattle.observation.specs.Depends.{AfterTwo}
use Rattle.sure.specs.Sure.{holds, through, after}
use Rattle.sure.specs.Again.{Agreed}
use Rattle.sure.specs.AgainHalf.{after_first, after_both, HalfAgain, first_long, second_long, left_long, half_again}

-- the excitation of two halves is that of their four subframes
abbrev Long : Half → Type 0
Long v = (length v.first.mixed_excitation ≡ 80) × (length v.second.mixed_excitation ≡ 80)

module _ (v v' : Half) (l : Long v) (m : Long v') where
  abbrev first : List ℤ
  first = v.first.mixed_excitation ++ v.second.mixed_excitation

  abbrev second : List ℤ
  second = v'.first.mixed_excitation ++ v'.second.mixed_excitation

  first_160 : length first ≡ 160
  first_160 = length-append v.first.mixed_excitation v.second.mixed_excitation ∙ omega arith

  part_0 : Spec.part (Frame.excitation v v') 0 ≡ v.first.mixed_excitation
  unfolding Spec.part Frame.excitation
  part_0 = ap (take 80) (append_assoc v.first.mixed_excitation v.second.mixed_excitation second) ∙ take_at v.first.mixed_excitation (v.second.mixed_excitation ++ second) 80 l.0

  part_80 : Spec.part (Frame.excitation v v') 80 ≡ v.second.mixed_excitation
  unfolding Spec.part Frame.excitation
  part_80 =
      ap (λ (z : List ℤ). take 80 (drop 80 z)) (append_assoc v.first.mixed_excitation v.second.mixed_excitation second)
      ∙ ap (take 80) (drop_at v.first.mixed_excitation (v.second.mixed_excitation ++ second) 80 l.0)
      ∙ take_at v.second.mixed_excitation second 80 l.1

  part_160 : Spec.part (Frame.excitation v v') 160 ≡ v'.first.mixed_excitation
  unfolding Spec.part Frame.excitation
  part_160 = ap (take 80) (drop_at first second 160 first_160) ∙ take_at v'.first.mixed_excitation v'.second.mixed_excitation 80 m.0

  part_240 : Spec.part (Frame.excitation v v') 240 ≡ v'.second.mixed_excitation
  unfolding Spec.part Frame.excitation
  part_240 =
      ap (take 80) (sym (drop-drop 80 160 (first ++ second)) ∙ ap (drop 80) (drop_at first second 160 first_160) ∙ drop_at v'.first.mixed_excitation v'.second.mixed_excitation 80 m.0)
      ∙ take_all 80 v'.second.mixed_excitation (omega arith)

-- x and y are the same frame by two decoders
pub record FrameAgain (w : ℕ) (x y : Decoded) : Type 0 where
  pub same : (i : ℕ) → i < 4 → get_or (through w x.pitch_gains).subframes i 0 ≡ 1 → Spec.part x.excitation (80 * i) ≡ Spec.part y.excitation (80 * i)
  pub left : Agreed (through w x.pitch_gains).left 154 x.core.excitation y.core.excitation

module _ (words : List ℤ) (bytes : List ℕ) (f : FrameParams) where
  -- a frame keeps 154 samples
  pub frame_long : (c : Core) (r : List Float) → length c.excitation ≡ 154 → length (Frame.decode words bytes c r f).core.excitation ≡ 154
  unfolding Frame.decode Frame.report Frame.halves Frame.half
  frame_long c r l = left_long words bytes _ f.second _ (left_long words bytes _ f.first c l)

module _ (words : List ℤ) (bytes : List ℕ) (f : FrameParams) (i : InWidths f.first) (j : InWidths f.second) where
  abbrev frame : Core → List Float → Decoded
  frame c r = Frame.decode words bytes c r f

  module _ (c d : Core) (r : List Float) (alike : Depends.Alike c d) (long : length c.excitation ≡ 154) (long' : length d.excitation ≡ 154) (w : ℕ) (a : Agreed w 154 c.excitation d.excitation) where
    abbrev lsp : List ℤ
    lsp = Frame.lsp words bytes r f.first

    abbrev lsp' : List ℤ
    lsp' = Frame.lsp words bytes (Spectral.push r (Frame.residual words bytes f.first)) f.second

    abbrev x : Half
    x = Spec.half words bytes c lsp f.first

    abbrev y : Half
    y = Spec.half words bytes d lsp f.first

    abbrev x' : Half
    x' = Spec.half words bytes x.core lsp' f.second

    abbrev y' : Half
    y' = Spec.half words bytes y.core lsp' f.second

    abbrev lx : length x.core.excitation ≡ 154
    lx = left_long words bytes lsp f.first c long

    abbrev ly : length y.core.excitation ≡ 154
    ly = left_long words bytes lsp f.first d long'

    first_half : HalfAgain w x y
    first_half = half_again words bytes lsp f.first i c d alike long long' w a

    second_half : HalfAgain (after_both w x) x' y'
    second_half = half_again words bytes lsp' f.second j x.core y.core (Depends.half_alike words bytes lsp f.first c d alike.gains) lx ly (after_both w x) first_half.left

    -- the parts of the frame's excitation, by either decoder
    abbrev px : Long x
    px = (first_long words bytes lsp f.first c long, second_long words bytes lsp f.first c long)

    abbrev px' : Long x'
    px' = (first_long words bytes lsp' f.second x.core lx, second_long words bytes lsp' f.second x.core lx)

    abbrev py : Long y
    py = (first_long words bytes lsp f.first d long', second_long words bytes lsp f.first d long')

    abbrev py' : Long y'
    py' = (first_long words bytes lsp' f.second y.core ly, second_long words bytes lsp' f.second y.core ly)

    -- where it holds the number is 2
    in_parts : ((u : ℕ) → holds u ≡ 1 → 2 ≤ u) → (n : ℕ) → n < 4 → get_or (through w (frame c r).pitch_gains).subframes n 0 ≡ 1 → Spec.part (frame c r).excitation (80 * n) ≡ Spec.part (frame d r).excitation (80 * n)
    unfolding Frame.decode Frame.report Frame.halves Frame.half Frame.pitch_gains_of through
    in_parts held zero h e = part_0 x x' px px' ∙ first_half.first (held (after_first w x) e) ∙ sym (part_0 y y' py py')
    in_parts held (suc zero) h e = part_80 x x' px px' ∙ first_half.second (held (after_both w x) e) ∙ sym (part_80 y y' py py')
    in_parts held (suc (suc zero)) h e = part_160 x x' px px' ∙ second_half.first (held (after_first (after_both w x) x') e) ∙ sym (part_160 y y' py py')
    in_parts held (suc (suc (suc zero))) h e = part_240 x x' px px' ∙ second_half.second (held (after_both (after_both w x) x') e) ∙ sym (part_240 y y' py py')
    in_parts held (suc (suc (suc (suc n)))) h e = absurd (omega arith)

    on_leaving : Agreed (through w (frame c r).pitch_gains).left 154 (frame c r).core.excitation (frame d r).core.excitation
    unfolding Frame.decode Frame.report Frame.halves Frame.half Frame.pitch_gains_of through
    on_leaving = second_half.left

  -- the theorem
  pub frame_again : (c d : Core) (r q : List Float) → AfterTwo c d r q → length c.excitation ≡ 154 → length d.excitation ≡ 154 → (w : ℕ) → Agreed w 154 c.excitation d.excitation → FrameAgain w (frame c r) (frame d q)
  unfolding holds
  frame_again c d r q t l m w a = rw t.residuals (record { same = in_parts c d q t.alike l m w a held_at; left = on_leaving c d q t.alike l m w a })
    where
      held_at : (w : ℕ) → holds w ≡ 1 → 2 ≤ w
      held_at w = by (ltb w 2) refl
        where
          by : (t : Bool) → ltb w 2 ≡ t → ◌≡◌ {A = ℕ} (cond t 0 1) 1 → 2 ≤ w
          by true e h = absurd (omega arith)
          by false e h = ltb-false w 2 e

-- ---- as a frame is answered, which came with a mark: with one below 2 nothing is asked, for it holds nowhere
module _ (m w : ℕ) (x y : Decoded) (a : 2 ≤ m → FrameAgain w x y) where
  pub after_same : (i : ℕ) → i < 4 → get_or (after m w x.pitch_gains).subframes i 0 ≡ 1 → Spec.part x.excitation (80 * i) ≡ Spec.part y.excitation (80 * i)
  unfolding after
  after_same i h = by (ltb m 2) refl
    where
      by : (t : Bool) → ltb m 2 ≡ t → get_or (cond t (record { left = 0; subframes = replicate 4 0 }) (through w x.pitch_gains)).subframes i 0 ≡ 1 → Spec.part x.excitation (80 * i) ≡ Spec.part y.excitation (80 * i)
      by true e g = absurd (omega (arith, get_or-replicate {A = ℕ} 4 i 0 0 h))
      by false e g = (a (ltb-false m 2 e)).same i h g

  pub after_left : Agreed (after m w x.pitch_gains).left 154 x.core.excitation y.core.excitation
  unfolding after
  after_left = by (ltb m 2) refl
    where
      by : (t : Bool) → ltb m 2 ≡ t → Agreed (cond t (record { left = 0; subframes = replicate 4 0 }) (through w x.pitch_gains)).left 154 x.core.excitation y.core.excitation
      by true e = record { one = λ h. absurd (omega arith); two = λ h. absurd (omega arith) }
      by false e = (a (ltb-false m 2 e)).left
