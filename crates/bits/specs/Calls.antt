-- What the two calls answer: document 01's numbers and fields, and that accepted fields are within their widths.
use Rattle.std.specs.Prelude.{◌≡◌, refl, Bool, true, false, cond, List, ℕ, eqb, length, get_or, replicate, Result}
use Rattle.std.proofs.Common.{Ok, Err, ap, ◌∙◌, arith, eqb-true}
use Rattle.std.specs.Int.Bits.{bit_and}
use Rattle.bits.specs.declared.FrameParams.{FrameParams}
use Rattle.refusal.specs.declared.Refusal.{Refusal}
use Rattle.refusal.specs.declared.Refusal.TheVariants.{FrameLength, Padding}
use Rattle.bits.specs.Bits.{widths, frame_params, list, fields_of, unpack, number, fields, refusal, fields_or_zero, pack, width_number}
use Rattle.bits.specs.Digits.{Within}
use Rattle.bits.specs.Widths.{InWidths, within_names, names_within, width_accepts, width_accepted, fields_within}

-- an accepted payload is in order, and its fields are those of the definition
pub unpack_accepted : (p : List ℕ) (f : FrameParams) → unpack p ≡ Ok f → (length p ≡ 20) × (bit_and (get_or p 19 0) 192 ≡ 0) × (fields_of p ≡ f)
unfolding unpack
unpack_accepted p f e =
    let t = by (eqb (length p) 20) (eqb (bit_and (get_or p 19 0) 192) 0) (fields_of p) e in
    (eqb-true (length p) 20 t.0, eqb-true (bit_and (get_or p 19 0) 192) 0 t.1, t.2)
  where
    by : (s t : Bool) (x : FrameParams) → cond s (cond t (Ok x) (Err Padding)) (Err FrameLength) ≡ Ok f → (s ≡ true) × (t ≡ true) × (x ≡ f)
    by true true x e = (refl, refl, cc)
    by true false x e = (refl, cc, cc)
    by false t x e = (cc, cc, cc)

pub unpack_within : (p : List ℕ) (f : FrameParams) → unpack p ≡ Ok f → InWidths f.first × InWidths f.second
unpack_within p f e = within_names f (rw (unpack_accepted p f e).2 at (fields_within p))

-- of 20 bytes only the last two bits are left to test
pub unpack_sized : (p : List ℕ) → length p ≡ 20 → unpack p ≡ cond (eqb (bit_and (get_or p 19 0) 192) 0) (Ok (fields_of p)) (Err Padding)
unfolding unpack
unpack_sized p l = simp l

-- document 01's number and fields of the answer
pub unpack_number_lem : (p : List ℕ) → number (unpack p) ≡ refusal p
unfolding unpack refusal
unpack_number_lem p = by (eqb (length p) 20) (eqb (bit_and (get_or p 19 0) 192) 0)
  where
    by : (s t : Bool) → number (cond s (cond t (Ok (fields_of p)) (Err Padding)) (Err FrameLength)) ≡ cond s (cond t 0 6) 3
    by true true = refl
    by true false = refl
    by false t = refl

pub unpack_fields_lem : (p : List ℕ) → fields (unpack p) ≡ fields_or_zero p
unfolding unpack refusal fields_or_zero
unpack_fields_lem p = by (eqb (length p) 20) (eqb (bit_and (get_or p 19 0) 192) 0)
  where
    by : (s t : Bool)
        → fields (cond s (cond t (Ok (fields_of p)) (Err Padding)) (Err FrameLength))
        ≡ cond (eqb (cond s (cond t 0 6) 3) 0) (fields_of p) (frame_params (replicate 24 0))
    by true true = refl
    by true false = refl
    by false t = refl

-- so the answer is settled three ways
pub unpack_answers : (p : List ℕ) (r : Result FrameParams Refusal) → r ≡ unpack p → (r ≡ unpack p) × (number r ≡ refusal p) × (fields r ≡ fields_or_zero p)
unpack_answers p r e = (e, ap number e ∙ unpack_number_lem p, ap fields e ∙ unpack_fields_lem p)

-- fields within their widths are packed
pub pack_accepts : (f : FrameParams) (out : List ℕ) → InWidths f.first → InWidths f.second → length out ≡ 20 → pack f out ≡ 0
unfolding pack
pack_accepts f out x y l = simp (l, width_accepts (list f) (names_within f x y))

-- and what is packed was within them
pub pack_accepted : (f : FrameParams) (out : List ℕ) → pack f out ≡ 0 → (length out ≡ 20) × Within widths (list f)
unfolding pack
pack_accepted f out e =
    let t = by (eqb (length out) 20) (width_number (list f)) e in
    (eqb-true (length out) 20 t.0, width_accepted (list f) refl t.1)
  where
    by : (s : Bool) (n : ℕ) → cond s n 3 ≡ 0 → (s ≡ true) × (n ≡ 0)
    by true n e = (refl, e)
    by false n e = absurd (omega arith)
