-- Laws of the figures of a list of entries: how large they grow, and what an entry more makes of them.
use Prim.Native.Nat.{ℕ, suc, ◌+◌, ◌*◌, ◌≤◌, ◌<◌}
use mathlib.Core.Bool.{Bool, false, cond, not, ◌&&◌, ◌||◌, and-false}
use mathlib.Core.List.{List, [], ◌∷◌, ◌++◌, map}
use mathlib.Core.Path.{◌≡◌, refl, sym, ◌∙◌}
use native.Mathlib.Nat.{zero-add, add-zero}
use native.Mathlib.Omega.{arith}
use borrow.Author.Tests.{le-ltb, ltb-false, eqb-true, ne_eqb, not-false}
use lib.Dec.{ltb, eqb}
use lib.ListN.{length, length-append}
use Rattle.g9932.specs.Bits.{weight}
use Rattle.g9932.specs.Sizes.{most_bytes}
use Rattle.g9932.specs.Order.{sum, count}
use Rattle.g9932.proofs.Counts.{count_append}
use Rattle.g9932.proofs.Identities.{or-false}
use Rattle.g9932.proofs.Words.{weight_le}
use Rattle.tally.specs.PairReport.{Entry, read_as, refused_with, wrong_in, is_wrong, is_refused, most_symbols, first_refused, figures_of, entry_test, most_figure, raised, with_entry}
use Rattle.tally.specs.Calls.{ByteEntry}
use Rattle.tally.specs.Words.{Every}
use Rattle.tally.proofs.WrongBits.{wrong_most}

-- ---- an entry that can be accepted: of bytes, and 11 does not apply

pub record Sound (e : Entry) : Type 0 where
  pub bytes : ByteEntry e
  pub passes : entry_test e ≡ false

pub lengths : (s r : List ℕ) → entry_test (read_as s r) ≡ false → (length s ≡ length r) × (length s ≤ most_bytes)
lengths s r e =
    let a = or-false (not (eqb (length s) (length r)) || ltb most_bytes (length s)) _ e in
    let b = or-false (not (eqb (length s) (length r))) _ a.0 in
    (eqb-true _ _ (not-false _ b.0), ltb-false _ _ b.1)

-- the most bits that an entry can have wrong: 8 for each of 7,681 bytes
abbrev pub most_wrong : ℕ
most_wrong = 61_448

wrong_one : (e : Entry) → Sound e → wrong_in e ≤ most_wrong
wrong_one (read_as s r) h = omega (arith, wrong_most s r h.bytes.0 h.bytes.1, (lengths s r h.passes).1)
wrong_one (refused_with s n) h = omega arith

-- ---- how large the figures grow

pub counts_most : (es : List Entry) → count is_refused es + count is_wrong es ≤ length es
unfolding weight
counts_most [] = omega arith
counts_most (read_as s r ∷ es) = omega (arith, weight_le (is_wrong (read_as s r)), counts_most es)
counts_most (refused_with s n ∷ es) = omega (arith, counts_most es)

pub wrong_all : (es : List Entry) → Every Sound es → sum (map wrong_in es) ≤ length es * most_wrong
wrong_all [] h = omega arith
wrong_all (e ∷ es) h = omega (arith, wrong_one e h.0, wrong_all es h.1)

-- ---- an entry more

count_more : (p : Entry → Bool) (es : List Entry) (e : Entry) → count p (es ++ (e ∷ [])) ≡ count p es + weight (p e)
count_more p es e = omega (arith, count_append p es (e ∷ []))

wrong_more : (es : List Entry) (e : Entry) → sum (map wrong_in (es ++ (e ∷ []))) ≡ sum (map wrong_in es) + wrong_in e
wrong_more [] e = omega arith
wrong_more (d ∷ es) e = omega (arith, wrong_more es e)

first_more : (k : ℕ) (es : List Entry) (e : Entry) → k + length es < most_symbols
    → first_refused k (es ++ (e ∷ [])) ≡ cond (is_refused e && eqb (first_refused k es) most_symbols) (k + length es) (first_refused k es)
first_more k [] (read_as s r) h = refl
first_more k [] (refused_with s n) h = sym (add-zero k)
first_more k (read_as s r ∷ es) e h =
    let p : suc k + length es ≡ k + suc (length es) = omega arith in
    rw p at (first_more (suc k) es e (omega arith))
first_more k (refused_with s n ∷ es) e h = rw (ne_eqb k most_symbols (λ x. omega arith), and-false)

-- a figure that fits
raised_fits : (figure by : ℕ) → figure + by ≤ most_figure → figure + by ≡ raised figure by
raised_fits figure by h = rw (le-ltb most_figure (figure + by) h) refl

-- no figure comes to the most that 32 bits hold
pub figures_more : (es : List Entry) (e : Entry) → Every Sound es → Sound e → length es < most_symbols
    → figures_of (es ++ (e ∷ [])) ≡ with_entry (figures_of es) e
figures_more es e hs h few =
    let most = counts_most es in
    let all = wrong_all es hs in
    let p = count_more is_refused es e ∙ raised_fits _ _ (omega (arith, weight_le (is_refused e))) in
    let q = count_more is_wrong es e ∙ raised_fits _ _ (omega (arith, weight_le (is_wrong e))) in
    let r = wrong_more es e ∙ raised_fits _ _ (omega (arith, wrong_one e h)) in
    let f = rw zero-add at (first_more 0 es e (omega arith)) in
    λ i. record { symbols = length-append es (e ∷ []) i; refused = p i; wrong_frames = q i; wrong_bits = r i; first_refused = f i }
