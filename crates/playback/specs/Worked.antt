-- Worked examples, of any tables and any recording.
use Rattle.std.specs.Prelude.{◌≡◌, List, [], ◌∷◌, ℕ, ℤ}
use Rattle.std.proofs.Math.Path.{refl}
use Rattle.stream.specs.Lines.{pieces, of_pieces, lines}
use Rattle.stream.specs.Told.{texts}
use Rattle.stream.specs.Decimal.{decimal_in, decimal, figure}
use Rattle.table_file.specs.File as File
use Rattle.hex_lines.specs.Text.{digit, tables_refused_text}
use Rattle.state.specs.State.{fault}
use Rattle.heard.specs.Recording.{tables_text}
use Rattle.slot_users.specs.Users as Users
use Rattle.shelf.specs.Shelf as Shelf
use Rattle.shelf.specs.Run as Run
use Rattle.best_save.specs.Best.{fits, better, best_of, place, best}
use Rattle.seek.specs.Seek.{seek_lent, seek}
use Rattle.commands.specs.Commands.{more, number_from, number, starts, argument, command}
use Rattle.replies.specs.Replies.{answered}
use Rattle.playback.specs.Playback.{says, said, line_said, transcript, output, program}

module _ (words : List ℤ) (bytes recording : List ℕ) where
  -- `fetch 0` is no command
  no_command : (h : Run.Shelf) → line_said words bytes recording h (102 ∷ 101 ∷ 116 ∷ 99 ∷ 104 ∷ 32 ∷ 48 ∷ []) ≡ 117 ∷ 110 ∷ 107 ∷ 110 ∷ 111 ∷ 119 ∷ 110 ∷ 10 ∷ []
  unfolding line_said says said command argument starts
  no_command h = refl

  -- there is no slot 16: `hold 16` is `refused 13`
  no_slot : line_said words bytes recording Run.zeros (104 ∷ 111 ∷ 108 ∷ 100 ∷ 32 ∷ 49 ∷ 54 ∷ []) ≡ 114 ∷ 101 ∷ 102 ∷ 117 ∷ 115 ∷ 101 ∷ 100 ∷ 32 ∷ 49 ∷ 51 ∷ 10 ∷ []
  unfolding line_said says said command argument starts number number_from more answered figure decimal decimal_in Run.zeros Shelf.hold Shelf.judged Shelf.lent Users.hold_lent Users.of_held Shelf.number
  no_slot = refl

  -- with nothing saved `seek 0` is `refused 15`, on a last line without its newline too
  none_saved : transcript words bytes recording (115 ∷ 101 ∷ 101 ∷ 107 ∷ 32 ∷ 48 ∷ []) ≡ 114 ∷ 101 ∷ 102 ∷ 117 ∷ 115 ∷ 101 ∷ 100 ∷ 32 ∷ 49 ∷ 53 ∷ 10 ∷ []
  unfolding transcript texts lines pieces of_pieces line_said says said command argument starts number number_from more answered figure decimal decimal_in Run.zeros seek seek_lent Shelf.judged Shelf.lent best place best_of better fits
  none_saved = refl

-- with no table file that is all that is told
no_file : (recording input : List ℕ) → program [] recording input ≡ 116 ∷ 97 ∷ 98 ∷ 108 ∷ 101 ∷ 115 ∷ 32 ∷ 114 ∷ 101 ∷ 102 ∷ 117 ∷ 115 ∷ 101 ∷ 100 ∷ 32 ∷ 49 ∷ 10 ∷ []
unfolding program File.check_file output tables_text fault tables_refused_text digit
no_file recording input = refl
