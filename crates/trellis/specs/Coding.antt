-- Coding: a label as a number, and what the coder asks and does.
use Rattle.std.specs.Prelude.{ℕ, ◌+◌, ◌-◌, ◌*◌, ◌%◌, ◌^◌, ◌≤◌, ◌<◌, Bool, List, ◌++◌, ◌≡◌, length, take, drop}
use Rattle.frame.specs.Labels.{bits_of_labels, Within}
use Rattle.g9932.specs.Bits.{weight, bits}
use Rattle.g9932.specs.Order.{EntryRange, Wide, in_twos, pairs_of, Pair}
use Rattle.g9932.specs.Sizes.{unpack, most_bytes, most_tones}
use Rattle.g9932.specs.Trellis.{Word, taken, word_of, sent_bits, next_of, zero_state, encode_pairs, taken_total}
use Rattle.trellis.specs.declared.Coder.{Coder}
use Rattle.trellis.specs.declared.PairCode.{PairCode}

-- a label as a number
abbrev pub label_number : Bool → Bool → ℕ → ℕ
label_number b0 b1 high = weight b0 + 2 * weight b1 + 4 * high

-- ---- one pair

abbrev pub coded_word : Coder → Bool → Pair → List ℕ → Word
coded_word c forced p frame = word_of forced c.state p.x (take (taken forced p) (drop c.at (unpack frame)))

pub record CodePairNeeds (c : Coder) (forced : Bool) (p : Pair) (frame : List ℕ) : Type 0 where
  pub x_range : EntryRange p.x
  pub y_range : EntryRange p.y
  pub bits : c.at + taken forced p ≤ 8 * length frame
  pub small : length frame ≤ most_bytes

-- the bits of v, then of w, are the pair's sent bits
pub record CodesPair (c : Coder) (forced : Bool) (p : Pair) (frame : List ℕ) (r : PairCode Coder) : Type 0 where
  pub state : r.next.state ≡ next_of c.state (coded_word c forced p frame)
  pub at : r.next.at ≡ c.at + taken forced p
  pub sends : bits p.x r.v ++ bits p.y r.w ≡ sent_bits p.x (coded_word c forced p frame)
  pub v_small : r.v < 2 ^ p.x
  pub w_small : r.w < 2 ^ p.y

-- the coder before the first pair, the frame's bits beginning at one of its bytes' bits
abbrev pub first_coder : ℕ → Coder
first_coder start = record { state = zero_state; at = start }

-- ---- the pairs from an entry on; the labels are those of the entries, in their order

pub record CodeNeeds (c : Coder) (es : List ℕ) (i : ℕ) (frame labels : List ℕ) : Type 0 where
  pub wide : Wide es
  pub many : length es ≤ most_tones
  pub inside : i ≤ length es
  pub even : (length es - i) % 2 ≡ 0
  pub bits : c.at + taken_total (in_twos (drop i es)) ≤ 8 * length frame
  pub small : length frame ≤ most_bytes
  pub labels_fit : length es ≤ length labels
  pub within : Within es labels i

pub record CodesFrom (c : Coder) (es : List ℕ) (i : ℕ) (frame labels after : List ℕ) : Type 0 where
  pub whole : bits_of_labels es after ≡ bits_of_labels (take i es) (take i labels) ++ encode_pairs c.state (in_twos (drop i es)) (drop c.at (unpack frame))
  pub within : Within es after (length es)

-- ---- all pairs

-- the bits of the labels are the sent bits
pub record CodesFrame (frame : List ℕ) (start : ℕ) (es after : List ℕ) : Type 0 where
  pub whole : bits_of_labels es after ≡ encode_pairs zero_state (pairs_of es) (drop start (unpack frame))
  pub within : Within es after (length es)

pub record FrameNeeds (frame : List ℕ) (start : ℕ) (es : List ℕ) : Type 0 where
  pub wide : Wide es
  pub enough : 4 ≤ length es
  pub many : length es ≤ most_tones
  pub bits : start + taken_total (pairs_of es) ≤ 8 * length frame
  pub small : length frame ≤ most_bytes
