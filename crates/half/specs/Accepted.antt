-- What a half frame asks of its tables and fields, and what that gives its subframes.
use Rattle.std.specs.Prelude.{◌≡◌, true, List, ℕ, ◌<◌, ℤ, length}
use Rattle.tables.specs.Places.{BYTES}
use Rattle.tables.specs.Sound.{Sound}
use Rattle.bits.specs.declared.HalfParams.{HalfParams}
use Rattle.bits.specs.Widths.{InWidths}
use Rattle.bits.specs.GainIndex.{gain_index_lt}
use Rattle.pitch.specs.Pitch as Pitch
use Rattle.pitch.specs.Lags.{absolute_sane, relative_sane}
use Rattle.tables.specs.SoundWords.{SoundWords}
use Rattle.code_index.specs.Codebook as Codebook
use Rattle.half.specs.declared.SubframeParams.{SubframeParams}
use Rattle.half.specs.Core.{split_params}

-- an accepted set, and the fields of an accepted half of a frame
pub record Accepted (words : List ℤ) (bytes : List ℕ) (p : HalfParams) : Type 0 where
  pub set : Sound words bytes
  pub widths : InWidths p
  pub digits0 : Codebook.digits_fit words p.code0 ≡ true
  pub digits1 : Codebook.digits_fit words p.code1 ≡ true

-- what a subframe asks
pub record Usable (words : List ℤ) (bytes : List ℕ) (p : SubframeParams) : Type 0 where
  pub sound : SoundWords words
  pub bytes_long : length bytes ≡ BYTES
  pub digits : Codebook.digits_fit words p.index ≡ true
  pub index : p.gain_index < 128
  pub lag : Pitch.Sane p.lag

module _ {words : List ℤ} {bytes : List ℕ} {p : HalfParams} (a : Accepted words bytes p) (previous lsp : List ℤ) where
  pub first_usable : Usable words bytes (split_params previous lsp p).first
  unfolding split_params
  first_usable = record {
    sound = a.set.of_words;
    bytes_long = a.set.of_bytes.bytes_long;
    digits = a.digits0;
    index = gain_index_lt p 0;
    lag = absolute_sane p.absolute_pitch a.widths.absolute_pitch;
  }

  pub second_usable : Usable words bytes (split_params previous lsp p).second
  unfolding split_params
  second_usable = record {
    sound = a.set.of_words;
    bytes_long = a.set.of_bytes.bytes_long;
    digits = a.digits1;
    index = gain_index_lt p 1;
    lag = relative_sane p.relative_pitch (Pitch.decode_absolute p.absolute_pitch).integer a.widths.relative_pitch;
  }
