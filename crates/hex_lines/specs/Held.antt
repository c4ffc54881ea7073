-- What is held of a line: its first 40 bytes, and how many it has, counted to 41.
use Rattle.std.specs.Prelude.{ℕ, List}
use Rattle.stream.specs.Held.{start, count, shown, push_text, push_count}
use Rattle.hex_lines.specs.declared.Line.{Line}

unfoldable pub kept : List ℕ → Line
kept line = record { text = start 40 line; n = count 40 line }

unfoldable pub push : Line → ℕ → Line
push l b = record { text = push_text 40 l.text l.n b; n = push_count 40 l.n }

-- the line that it tells
unfoldable pub held_line : Line → List ℕ
held_line l = shown 40 l.text l.n
