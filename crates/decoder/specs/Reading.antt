-- Reading labels: a decoded word as numbers, and what the reader asks and does.
use Rattle.std.specs.Prelude.{Option, None, Some, Result, Ok, Err}
use Rattle.std.specs.Prelude.{ℕ, ◌+◌, ◌-◌, ◌*◌, ◌/◌, ◌^◌, ◌≤◌, ◌<◌, Bool, true, false, List, [], ◌++◌, ◌≡◌, length, drop}
use Rattle.frame.specs.Labels.{bits_of_labels, Within}
use Rattle.frame.specs.Written.{written, Waits, bits_put, Put}
use Rattle.frame.specs.declared.BitWriter.{BitWriter}
use Rattle.g9932.specs.Sizes.{most_tones}
use Rattle.g9932.specs.Answers.{break_in, frame_in}
use Rattle.g9932.specs.Bits.{◌⊕◌, weight, odd, bits}
use Rattle.g9932.specs.Order.{Wide, in_twos, pairs_of, Pair}
use Rattle.g9932.specs.Trellis.{Word, Reading, decoded_word, obeys_code, taken_bits, next_of, zero_state, read_pairs, reading_of, taken_total}
use Rattle.g9932.specs.declared.Mode.TheVariants.{Coded}
use Rattle.trellis.specs.Coding.{label_number}
use Rattle.decoder.specs.declared.Reader.{Reader}
use Rattle.decoder.specs.declared.PairWord.{PairWord}

-- u0 to u3, and u4 upward as a number, from the labels of a pair, v having x bits
unfoldable pub decoded_of : ℕ → ℕ → ℕ → PairWord
decoded_of v w x =
    record {
      u0 = odd v ⊕ odd (v / 2) ⊕ odd w ⊕ odd (w / 2);
      u1 = odd v ⊕ odd (v / 2);
      u2 = odd v ⊕ odd w;
      u3 = odd v;
      high = v / 4 + w / 4 * 2 ^ (x - 2);
    }

-- its lowest bits, as a word
abbrev pub word_by : PairWord → Word
word_by u = record { u0 = u.u0; u1 = u.u1; u2 = u.u2; u3 = u.u3; high = [] }

-- the frame bits of a word, as a number
unfoldable pub taken_number : Bool → PairWord → ℕ
taken_number true u = weight u.u3 + 2 * u.high
taken_number false u = label_number u.u1 u.u2 (weight u.u3 + 2 * u.high)

-- ---- one pair

abbrev pub decoded_in : Pair → ℕ → ℕ → Word
decoded_in p v w = decoded_word p.x (bits p.x v ++ bits p.y w)

pub record ReadPairNeeds (c : Reader) (p : Pair) (v w : ℕ) (frame : List ℕ) : Type 0 where
  pub v_small : v < 2 ^ p.x
  pub w_small : w < 2 ^ p.y
  pub bytes : c.writer.next + 8 ≤ length frame
  pub waits : Waits c.writer

-- the pair's frame bits are put; it obeys the code where it is checked
pub record GoesOn (check : Bool) (c : Reader) (forced : Bool) (p : Pair) (v w : ℕ) (frame : List ℕ) (r : Reader) (after : List ℕ) : Type 0 where
  pub obeys : check ≡ true → obeys_code forced c.state (decoded_in p v w) ≡ true
  pub state : r.state ≡ next_of c.state (decoded_in p v w)
  pub puts : Put c.writer frame (taken_bits forced p.x (decoded_in p v w)) r.writer after

-- it goes on; or it is checked, and breaks the code
abbrev pub ReadsPair : Bool → Reader → Bool → Pair → ℕ → ℕ → List ℕ → Option Reader → List ℕ → Type 0
ReadsPair check c forced p v w frame (Some r) after = GoesOn check c forced p v w frame r after
ReadsPair check c forced p v w frame None after = (check ≡ true) × (obeys_code forced c.state (decoded_in p v w) ≡ false)

-- the reader before the first pair, behind what a writer has put
abbrev pub first_reader : BitWriter → Reader
first_reader w = record { state = zero_state; writer = w }

-- ---- the pairs from an entry on; the labels are those of the entries, in their order

pub record ReadPairsNeeds (c : Reader) (es : List ℕ) (i : ℕ) (labels frame : List ℕ) : Type 0 where
  pub inside : i ≤ length es
  pub labels_fit : length es ≤ length labels
  pub within : Within es labels (length es)
  pub bytes : bits_put c.writer + taken_total (in_twos (drop i es)) + 64 ≤ 8 * length frame
  pub waits : Waits c.writer

-- a pair found k further on
abbrev pub onward : ℕ → Option ℕ → Option ℕ
onward k (Some j) = Some (k + j)
onward k None = None

abbrev pub reading_from : Reader → List ℕ → ℕ → List ℕ → Reading
reading_from c es i labels = read_pairs c.state (in_twos (drop i es)) (bits_of_labels (drop i es) (drop i labels))

-- all bits are put in any case, and they are the frame's where no pair breaks the code
pub record CollectsFrom (c : Reader) (es : List ℕ) (i : ℕ) (labels frame : List ℕ) (r : BitWriter) (after : List ℕ) : Type 0 where
  pub whole : break_in (reading_from c es i labels) ≡ None → written r after ≡ written c.writer frame ++ frame_in (reading_from c es i labels)
  pub waits : Waits r
  pub counted : bits_put r ≡ bits_put c.writer + taken_total (in_twos (drop i es))

-- the bits are put, and no pair that is checked breaks the code; or the first that does is told
abbrev pub ReadsFrom : Bool → Reader → List ℕ → ℕ → List ℕ → List ℕ → Result BitWriter ℕ → List ℕ → Type 0
ReadsFrom check c es i labels frame (Ok r) after = (check ≡ true → break_in (reading_from c es i labels) ≡ None) × CollectsFrom c es i labels frame r after
ReadsFrom check c es i labels frame (Err k) after = (check ≡ true) × (onward ((i + 1) / 2) (break_in (reading_from c es i labels)) ≡ Some k)

-- ---- all pairs

abbrev pub reading_all : List ℕ → List ℕ → Reading
reading_all es labels = reading_of Coded (pairs_of es) (bits_of_labels es labels)

-- the same of all pairs
pub record CollectsPairs (w : BitWriter) (es labels before : List ℕ) (r : BitWriter) (after : List ℕ) : Type 0 where
  pub whole : break_in (reading_all es labels) ≡ None → written r after ≡ written w before ++ frame_in (reading_all es labels)
  pub waits : Waits r
  pub counted : bits_put r ≡ bits_put w + taken_total (pairs_of es)

abbrev pub ReadsPairs : Bool → BitWriter → List ℕ → List ℕ → List ℕ → Result BitWriter ℕ → List ℕ → Type 0
ReadsPairs check w es labels before (Ok r) after = (check ≡ true → break_in (reading_all es labels) ≡ None) × CollectsPairs w es labels before r after
ReadsPairs check w es labels before (Err k) after = (check ≡ true) × (break_in (reading_all es labels) ≡ Some k)

-- no pair breaks the code, and all frame bits are put
pub record WholeLabels (w : BitWriter) (es labels before : List ℕ) (r : BitWriter) (after : List ℕ) : Type 0 where
  pub unbroken : break_in (reading_all es labels) ≡ None
  pub whole : written r after ≡ written w before ++ frame_in (reading_all es labels)
  pub waits : Waits r
  pub counted : bits_put r ≡ bits_put w + taken_total (pairs_of es)

-- or the first pair that breaks the code
abbrev pub ReadsLabels : BitWriter → List ℕ → List ℕ → List ℕ → Result BitWriter ℕ → List ℕ → Type 0
ReadsLabels w es labels before (Ok r) after = WholeLabels w es labels before r after
ReadsLabels w es labels before (Err k) after = Some k ≡ break_in (reading_all es labels)

pub record ReadLabelNeeds (w : BitWriter) (es labels frame : List ℕ) : Type 0 where
  pub wide : Wide es
  pub enough : 4 ≤ length es
  pub many : length es ≤ most_tones
  pub within : Within es labels (length es)
  pub bytes : bits_put w + taken_total (pairs_of es) + 64 ≤ 8 * length frame
  pub waits : Waits w
