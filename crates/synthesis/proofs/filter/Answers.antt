-- The array's first n + 10 places are the window after n outputs, and the outputs so far are its rest; the sums so far are written.
use borrow.Author.Rules.{rules}
use native.Mathlib.Omega.{arith}
use mathlib.Core.List.{List}
use mathlib.Core.Path.{◌≡◌, refl, sym, ap, ◌∙◌}
use lib.IntN.{ℤ, pos}
use lib.ListN.{length, get_or, take, drop}
use Prim.Native.Nat.{ℕ, ◌-◌, ◌+◌}
use mir.Syntax.{w16, w64}
use mir.Val.{SFits, to_z, of_z}
use mir.ValLaws.{to_z-of_z}
use Rattle.sequence.specs.Table.{written_none, written_more, written_end}
use Rattle.fixed.specs.Fixed as Fixed
use Rattle.fixed.specs.Machine.{back}
use Rattle.synth.specs.Synth as Synth
use Rattle.synthesis.proofs.Window.{filtered_none, filtered_ten, filtered_more, filtered_end, value}
use Rattle.synthesis.proofs.filter.Goals as goal
use Rattle.synthesis.proofs.filter.Goals.{After-hi-y, At-loop-n, Start}

pub loop-n-init : goal.loop-n-init
loop-n-init c =
    (refl, filtered_none c.args.a.now c.args.mem.now c.args.input.now c.requires.a_len.1 c.copy_from_slice.new.self _ c.args.output.now c.copy_from_slice.ensures.after refl c.requires.input_len_bound.1, written_none (value c.args.a.now c.args.mem.now c.args.input.now) (length c.args.input.now) c.args.sums.now c.requires.input_len_bound.2)

-- a turn: the sum, and the output
module _ (c : goal.After-hi-y) where
  abbrev n : ℕ
  n = c.loop-n.n

  abbrev xs : List ℤ
  xs = c.args.input.now

  -- the ten before the output, as the array has them
  abbrev ten : List ℤ
  ten = take (n + 10 - n) (drop n c.loop-n.window)

  v_is : to_z w64 (of_z w64 c.sum-v.result) ≡ Synth.sum c.args.a.now ten (get_or xs n (pos 0))
  v_is =
      let f : SFits w16 (get_or xs n (pos 0)) = search rules in
      back w64 c.sum-v.result c.sum-v.type_inv ∙ simp to_z-of_z at c.sum-v.ensures

  y_is : to_z w16 (of_z w16 c.hi-y.result) ≡ Synth.sample c.args.a.now ten (get_or xs n (pos 0))
  y_is =
      let h = c.hi-y in
      let t = c.sat in
      back w16 h.result h.type_inv
      ∙ simp (back w64 t.result t.type_inv) at h.ensures
      ∙ ap (λ (z : ℤ). Fixed.hi z) (t.ensures ∙ ap (λ (z : ℤ). Fixed.sat z) v_is)
      ∙ sym (Synth.sample_sum c.args.a.now ten (get_or xs n (pos 0)))

  value_is : to_z w64 (of_z w64 c.sum-v.result) ≡ value c.args.a.now c.args.mem.now xs n
  value_is =
      v_is
      ∙ ap (λ (h : List ℤ). Synth.sum c.args.a.now h (get_or xs n (pos 0))) (filtered_ten c.args.a.now c.args.mem.now xs c.requires.a_len.1 c.loop-n.window c.loop-n.output n c.requires.input_len_bound.0 c.loop-n.invariant.1 (omega arith))

pub loop-n-preserved : goal.loop-n-preserved
loop-n-preserved c = (
  refl,
  filtered_more c.args.a.now c.args.mem.now (xs c) c.requires.a_len.1 c.loop-n.window c.loop-n.output (n c) _ c.requires.input_len_bound.0 c.loop-n.invariant.1 (omega arith) (y_is c),
  written_more (value c.args.a.now c.args.mem.now (xs c)) (length (xs c)) c.loop-n.sums (n c) _ c.loop-n.invariant.2 (omega arith) (value_is c),
)

pub returns : goal.returns
returns c =
    let done = filtered_end c.args.a.now c.args.mem.now c.args.input.now c.requires.a_len.1 c.loop-n.window c.loop-n.output c.loop-n.n c.requires.input_len_bound.0 c.loop-n.invariant.1 (omega arith) in
    record {
      outputs = done.0;
      last = c.copy_from_slice-2.ensures.after ∙ done.1;
      sums = written_end (value c.args.a.now c.args.mem.now c.args.input.now) (length c.args.input.now) c.loop-n.sums c.loop-n.n c.loop-n.invariant.2 (omega arith);
    }
