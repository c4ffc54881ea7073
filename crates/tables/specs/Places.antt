-- Where each table begins: in the words, and in the bytes.
use Rattle.std.specs.Prelude.{ℕ, List, [], ◌∷◌}

abbrev pub WORDS : ℕ
WORDS = 5963

abbrev pub BYTES : ℕ
BYTES = 3908

-- ---- words
abbrev pub COS : ℕ
COS = 0

abbrev pub COS_SLOPE : ℕ
COS_SLOPE = 64

abbrev pub LSP_MEAN : ℕ
LSP_MEAN = 128

abbrev pub LSF_MEAN : ℕ
LSF_MEAN = 138

abbrev pub PITCH_INTERP : ℕ
PITCH_INTERP = 148

abbrev pub OUT_FIR : ℕ
OUT_FIR = 179

abbrev pub OUT_IIR : ℕ
OUT_IIR = 183

abbrev pub FCB_INDEX_LIMIT : ℕ
FCB_INDEX_LIMIT = 186

abbrev pub FCB_CLASS_BASE : ℕ
FCB_CLASS_BASE = 187

abbrev pub FCB_PULSES : ℕ
FCB_PULSES = 193

abbrev pub FCB_SHAPE_SEL : ℕ
FCB_SHAPE_SEL = 198

abbrev pub FCB_RADIX : ℕ
FCB_RADIX = 213

abbrev pub FCB_RADIX_INV : ℕ
FCB_RADIX_INV = 228

abbrev pub FCB_POSITIONS : ℕ
FCB_POSITIONS = 243

abbrev pub FCB_SHAPES : ℕ
FCB_SHAPES = 843

abbrev pub FCB_ALT_A : ℕ
FCB_ALT_A = 1483

abbrev pub FCB_ALT_B : ℕ
FCB_ALT_B = 4043

abbrev pub LSF_CB1 : ℕ
LSF_CB1 = 4683

-- ---- bytes
abbrev pub PITCH_GAIN : ℕ
PITCH_GAIN = 0

abbrev pub LOG_GAIN : ℕ
LOG_GAIN = 512

abbrev pub GAIN_BIAS : ℕ
GAIN_BIAS = 1024

abbrev pub LOW : ℕ
LOW = 1028

abbrev pub HIGH : ℕ
HIGH = 2308

abbrev pub MA : ℕ
MA = 3588

-- all of them in this order, for the proof that the code's are the same
abbrev pub places : List ℕ
places = COS ∷ COS_SLOPE ∷ LSP_MEAN ∷ LSF_MEAN ∷ PITCH_INTERP ∷ OUT_FIR ∷ OUT_IIR ∷ FCB_INDEX_LIMIT ∷ FCB_CLASS_BASE ∷ FCB_PULSES ∷ FCB_SHAPE_SEL ∷ FCB_RADIX ∷ FCB_RADIX_INV ∷ FCB_POSITIONS ∷ FCB_SHAPES ∷ FCB_ALT_A ∷ FCB_ALT_B ∷ LSF_CB1 ∷ PITCH_GAIN ∷ LOG_GAIN ∷ GAIN_BIAS ∷ LOW ∷ HIGH ∷ MA ∷ WORDS ∷ BYTES ∷ []
