-- Request R-12: the pair report, a tally over symbols. A symbol is given as the frame sent and either the frame read or a refusal number.
use Rattle.std.specs.Prelude.{Result, Ok, Err, ℕ, suc, ◌+◌, Bool, true, false, cond, not, ◌&&◌, ◌||◌, List, [], ◌∷◌, map, ltb, leb, eqb, length}
use Rattle.std.specs.Int.Bits.{bit_xor}
use Rattle.std.specs.Int.Count.{ones}
use Rattle.g9932.specs.Bits.{weight}
use Rattle.g9932.specs.Sizes.{most_bytes}
use Rattle.g9932.specs.Order.{sum, count}
use Rattle.g9932.specs.Refusals.{number_of, place_of, Verdict, accepted, refuse_if}
use Rattle.tally.specs.declared.Tally.{Tally}
use Rattle.tally.specs.declared.Uncounted.{Uncounted}

-- ---- what is given

pub data Entry : Type 0 where
  read_as : (sent read : List ℕ) → Entry
  refused_with : (sent : List ℕ) (number : ℕ) → Entry

-- wrong bits are the ones in the exclusive-or of the two frames, byte by byte
unfoldable pub wrong_bits : List ℕ → List ℕ → ℕ
wrong_bits [] rs = 0
wrong_bits (s ∷ ss) [] = 0
wrong_bits (s ∷ ss) (r ∷ rs) = ones (bit_xor s r) + wrong_bits ss rs

-- refused symbols add none
abbrev pub wrong_in : Entry → ℕ
wrong_in (read_as s r) = wrong_bits s r
wrong_in (refused_with s n) = 0

abbrev pub is_wrong : Entry → Bool
is_wrong e = ltb 0 (wrong_in e)

abbrev pub is_refused : Entry → Bool
is_refused (read_as s r) = false
is_refused (refused_with s n) = true

-- ---- the figures, worked out from a list of entries

-- 65,535 symbols fill a tally; that number stands for "none"
abbrev pub most_symbols : ℕ
most_symbols = 65_535

-- the number of the first refused symbol, where the first of these symbols is number k; 65,535 if none
abbrev pub first_refused : ℕ → List Entry → ℕ
first_refused k [] = most_symbols
first_refused k (e ∷ es) = cond (is_refused e) k (first_refused (suc k) es)

-- symbols given, symbols refused, frames read wrong, wrong bits, and the first refused symbol; symbols count from 0
abbrev pub figures_of : List Entry → Tally
figures_of es =
    record {
      symbols = length es;
      refused = count is_refused es;
      wrong_frames = count is_wrong es;
      wrong_bits = sum (map wrong_in es);
      first_refused = first_refused 0 es;
    }

-- ---- one call

-- 22 FULL, tested first: it holds 65,535 symbols, or more if it comes so from outside
abbrev pub full_test : Tally → Bool
full_test t = leb most_symbols t.symbols

-- 11 FRAME: the lengths differ, a frame is above 7,681 bytes, or the refusal number is 0
abbrev pub entry_test : Entry → Bool
entry_test (read_as s r) = not (eqb (length s) (length r)) || ltb most_bytes (length s) || ltb most_bytes (length r)
entry_test (refused_with s n) = ltb most_bytes (length s) || eqb n 0

unfoldable pub tally_verdict : Tally → Entry → Verdict
tally_verdict t e = refuse_if 22 (full_test t) (refuse_if 11 (entry_test e) (accepted 0))

-- A figure has 32 bits. One that would not fit them becomes the most that they hold; no tally that calls made comes to that.
abbrev pub most_figure : ℕ
most_figure = 4_294_967_295

abbrev pub raised : ℕ → ℕ → ℕ
raised figure by = cond (ltb most_figure (figure + by)) most_figure (figure + by)

-- the first refused symbol after one that is refused or not: that one's own number, where none was before; whatever the tally holds
abbrev pub first_after : Tally → Bool → ℕ
first_after t refused = cond (refused && eqb t.first_refused most_symbols) t.symbols t.first_refused

-- the tally with one symbol more, refused or not, that has so many wrong bits
abbrev pub with_symbol : Tally → Bool → ℕ → Tally
with_symbol t refused wrong =
    record {
      symbols = t.symbols + 1;
      refused = raised t.refused (weight refused);
      wrong_frames = raised t.wrong_frames (weight (ltb 0 wrong));
      wrong_bits = raised t.wrong_bits wrong;
      first_refused = first_after t refused;
    }

abbrev pub with_entry : Tally → Entry → Tally
with_entry t e = with_symbol t (is_refused e) (wrong_in e)

-- the whole answer: its number and place, and the tally; a refused entry changes no figure
pub record Told : Type 0 where
  pub number : ℕ
  pub place : ℕ
  pub tally : Tally

abbrev pub told_as : Verdict → Tally → Tally → Told
told_as v after before = record { number = v.number; place = v.place; tally = cond (eqb v.number 0) after before }

unfoldable pub tallied : Tally → Entry → Told
tallied t e = told_as (tally_verdict t e) (with_entry t e) t

abbrev pub told_of : Result Tally Uncounted → Told
told_of (Ok t) = record { number = 0; place = 0; tally = t }
told_of (Err u) = record { number = number_of u.refusal; place = place_of u.refusal; tally = u.tally }

-- a new tally, which is as reset
abbrev pub new_tally : Tally
new_tally = record { symbols = 0; refused = 0; wrong_frames = 0; wrong_bits = 0; first_refused = most_symbols }
