-- A number that is not below 0 is at least 0.
use lib.Signed.{lt_z_no}
use Rattle.replay_voice.proofs.of_lsp.natural.Goals as goal

pub returns-else-w-lt0 : goal.returns-else-w-lt0
returns-else-w-lt0 c = lt_z_no (rw c.if-w-lt0.false tt)
