-- The tests are those of the definition, in its order.
use borrow.Author.Tests.{eq-eqb, ne_eqb, le-leb, lt-leb}
use Rattle.calls.specs.Frames.{frames_sizes}
use Rattle.refusals.proofs.frames_sizes.Goals.{then-payloads-n-via-then-payloads-n, then-payloads-n-via-else-payloads-n+then-n-lt1, then-payloads-n-via-else-payloads-n+else-n-lt1+then-n-gt64, then-room-n-via-then-room-n, then-room-n-via-else-room-n+then-answers-n}
use Rattle.refusals.proofs.frames_sizes.Goals as goal

pub returns-then-payloads-n : goal.returns-then-payloads-n
unfolding frames_sizes
returns-then-payloads-n c =
    elim c.then-payloads-n.branch [
      | then-payloads-n-via-then-payloads-n w ↦ rw (ne_eqb _ _ w.if-payloads-n.true)
      | then-payloads-n-via-else-payloads-n+then-n-lt1 w ↦ rw (eq-eqb _ _ w.if-payloads-n.false, lt-leb _ _ w.if-n-lt1.true)
      | then-payloads-n-via-else-payloads-n+else-n-lt1+then-n-gt64 w ↦ rw (eq-eqb _ _ w.if-payloads-n.false, le-leb _ _ w.if-n-lt1.false, lt-leb _ _ w.if-n-gt64.true)
    ]

pub returns-then-room-n : goal.returns-then-room-n
unfolding frames_sizes
returns-then-room-n c =
    rw (eq-eqb _ _ c.if-payloads-n.false, le-leb _ _ c.if-n-lt1.false, le-leb _ _ c.if-n-gt64.false)
    (elim c.then-room-n.branch [
      | then-room-n-via-then-room-n w ↦ rw (ne_eqb _ _ w.if-room-n.true)
      | then-room-n-via-else-room-n+then-answers-n w ↦ rw (eq-eqb _ _ w.if-room-n.false, ne_eqb _ _ w.if-answers-n.true)
    ])

pub returns : goal.returns
unfolding frames_sizes
returns c = rw (eq-eqb _ _ c.if-payloads-n.false, le-leb _ _ c.if-n-lt1.false, le-leb _ _ c.if-n-gt64.false, eq-eqb _ _ c.if-room-n.false, eq-eqb _ _ c.if-answers-n.false)
