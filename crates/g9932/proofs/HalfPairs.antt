-- Half a turn of the sent bits of a list of pairs: with no 0 in front they are read as another frame; with one they break the
-- code, at pair 1 where that is the last but one, and else at pair 2.
use Prim.Native.Nat.{ℕ, suc, ◌≤◌}
use mathlib.Core.Bool.{Bool, true, false, cond}
use mathlib.Core.List.{List, [], ◌∷◌, ◌++◌}
use mathlib.Core.Logic.{◌≢◌}
use mathlib.Core.Path.{◌≡◌, refl, sym, ap, ◌∙◌}
use native.Mathlib.Omega.{arith}
use borrow.Author.Tests.{ne_eqb}
use lib.Dec.{eqb}
use lib.ListN.{length, drop, length-drop}
use Rattle.g9932.specs.Order.{Pair}
use Rattle.g9932.specs.Trellis.{zero_state, last_two, next_of, encode_pairs, obeys_code, taken_bits, frame, breaks, after, width, decoded_at, read_pairs, taken_total}
use Rattle.g9932.specs.declared.TrellisState.{TrellisState}
use Rattle.g9932.proofs.Pairs.{Ok, sent_total, length_encode, read_stop, read_encode, FirstRead, first_read}
use Rattle.g9932.proofs.Formed.{Full, Formed, whole, padded, full_ok, formed_ok}
use Rattle.g9932.proofs.HalfWord.{Turned, TurnedLone, both_turned, lone_turned, turned_obeys, turned_next, taken_differ, OffOne, lone_off, off_free, off_next, off_forced}
use Rattle.g9932.proofs.Quarters.{turned_label, half}
use Rattle.g9932.proofs.Turns.{turned_bits, both_at, lone_at, turned_on, breaks_here}

-- the sent bits of pairs, each label turned
abbrev pub half_turned : List Pair → List Bool → List Bool
half_turned = turned_bits (turned_label 2)

-- the first pair of them
module _ (p : Pair) (ps : List Pair) (d : List Bool) (fits : width p ≤ length d) where
  turned_at : 2 ≤ p.x → 2 ≤ p.y → Turned (decoded_at p d) (decoded_at p (half_turned (p ∷ ps) d))
  turned_at = both_at half p ps d fits Turned both_turned

  turned_lone : p.x ≡ 0 → 2 ≤ p.y → TurnedLone (decoded_at p d) (decoded_at p (half_turned (p ∷ ps) d))
  turned_lone = lone_at half p ps d fits TurnedLone lone_turned

  on : (s : TrellisState) → obeys_code (last_two ps) s (decoded_at p (half_turned (p ∷ ps) d)) ≡ true
      → read_pairs s (p ∷ ps) (half_turned (p ∷ ps) d)
      ≡ after (taken_bits (last_two ps) p.x (decoded_at p (half_turned (p ∷ ps) d)))
      (read_pairs (next_of s (decoded_at p (half_turned (p ∷ ps) d))) ps (half_turned ps (drop (width p) d)))
  on = turned_on half p ps d fits

-- ---- no 0 in front

turned_read_lem : (ps : List Pair) (s : TrellisState) (d f : List Bool) → Full ps → length d ≡ sent_total ps → read_pairs s ps d ≡ frame f
    → (g : List Bool) × (read_pairs s ps (half_turned ps d) ≡ frame g)
unfolding read_pairs
turned_read_lem [] s d f h l e = ([], refl)
turned_read_lem (p ∷ ps) s d f h l e =
    let c : FirstRead p ps s d f = first_read p ps s d f e in
    let t : Turned (decoded_at p d) (decoded_at p (half_turned (p ∷ ps) d)) = turned_at p ps d (omega arith) h.0 h.1 in
    let r = turned_read_lem ps (next_of s (decoded_at p d)) (drop (width p) d) c.rest h.2 (simp length-drop (omega arith)) c.on in (
      taken_bits (last_two ps) p.x (decoded_at p (half_turned (p ∷ ps) d)) ++ r.0,
      on p ps d (omega arith) s (turned_obeys (last_two ps) s (decoded_at p d) (decoded_at p (half_turned (p ∷ ps) d)) t ∙ c.obeys)
          ∙ rw (turned_next s (decoded_at p d) (decoded_at p (half_turned (p ∷ ps) d)) t, r.1),
    )

turned_differs : (p : Pair) (ps : List Pair) (s : TrellisState) (d f g : List Bool) → Full (p ∷ ps) → length d ≡ sent_total (p ∷ ps)
    → read_pairs s (p ∷ ps) d ≡ frame f → read_pairs s (p ∷ ps) (half_turned (p ∷ ps) d) ≡ frame g → g ≢ f
turned_differs p ps s d f g h l e k same_frame =
    let c : FirstRead p ps s d f = first_read p ps s d f e in
    let c' : FirstRead p ps s (half_turned (p ∷ ps) d) g = first_read p ps s (half_turned (p ∷ ps) d) g k in
    taken_differ (last_two ps) p.x (decoded_at p d) (decoded_at p (half_turned (p ∷ ps) d)) c.rest c'.rest h.0
    (turned_at p ps d (omega arith) h.0 h.1) (sym c.whole ∙ sym same_frame ∙ c'.whole)

pub turned_even : (ps : List Pair) (f : List Bool) → Formed false ps → length f ≡ taken_total ps
    → (g : List Bool) × (read_pairs zero_state ps (half_turned ps (encode_pairs zero_state ps f)) ≡ frame g) × (g ≢ f)
turned_even ps f (whole {p = p} {q = q} {ps = qs} h) l =
    let d : List Bool = encode_pairs zero_state (p ∷ q ∷ qs) f in
    let ld : length d ≡ sent_total (p ∷ q ∷ qs) = length_encode (p ∷ q ∷ qs) zero_state f (full_ok (p ∷ q ∷ qs) h) l in
    let i : read_pairs zero_state (p ∷ q ∷ qs) d ≡ frame f = read_encode (p ∷ q ∷ qs) zero_state f (full_ok (p ∷ q ∷ qs) h) l in
    let r = turned_read_lem (p ∷ q ∷ qs) zero_state d f h ld i in
    (r.0, r.1, turned_differs p (q ∷ qs) zero_state d f r.0 h ld i r.1)

-- ---- a 0 in front

-- from a state with the other S1, at the last but one, or at the pair after
abbrev later : List Pair → ℕ
later [] = 0
later (p ∷ ps) = 1

breaks_soon : (q r : Pair) (ps : List Pair) (a b : TrellisState) (d f : List Bool) → OffOne a b → Full (q ∷ r ∷ ps)
    → length d ≡ sent_total (q ∷ r ∷ ps) → read_pairs a (q ∷ r ∷ ps) d ≡ frame f → read_pairs b (q ∷ r ∷ ps) (half_turned (q ∷ r ∷ ps) d) ≡ breaks (later ps)
breaks_soon q r [] a b d f o h l e =
    let c : FirstRead q (r ∷ []) a d f = first_read q (r ∷ []) a d f e in
    let t = turned_at q (r ∷ []) d (omega arith) h.0 h.1 in
    read_stop q (r ∷ []) b (half_turned (q ∷ r ∷ []) d) (off_forced a b (decoded_at q d) (decoded_at q (half_turned (q ∷ r ∷ []) d)) o t c.obeys)
breaks_soon q r (m ∷ ms) a b d f o h l e =
    let c : FirstRead q (r ∷ m ∷ ms) a d f = first_read q (r ∷ m ∷ ms) a d f e in
    let t = turned_at q (r ∷ m ∷ ms) d (omega arith) h.0 h.1 in
    on q (r ∷ m ∷ ms) d (omega arith) b (off_free a b (decoded_at q d) (decoded_at q (half_turned (q ∷ r ∷ m ∷ ms) d)) o t ∙ c.obeys)
    ∙ rw (breaks_here half r (m ∷ ms) (next_of a (decoded_at q d)) (next_of b (decoded_at q (half_turned (q ∷ r ∷ m ∷ ms) d))) (drop (width q) d) c.rest
    (off_next a b (decoded_at q d) (decoded_at q (half_turned (q ∷ r ∷ m ∷ ms) d)) o t) h.2 (simp length-drop (omega arith)) c.on)

breaks_padded : (p q r : Pair) (ps : List Pair) (s : TrellisState) (d f : List Bool) → p.x ≡ 0 → 2 ≤ p.y → Full (q ∷ r ∷ ps)
    → length d ≡ sent_total (p ∷ q ∷ r ∷ ps) → read_pairs s (p ∷ q ∷ r ∷ ps) d ≡ frame f
    → read_pairs s (p ∷ q ∷ r ∷ ps) (half_turned (p ∷ q ∷ r ∷ ps) d) ≡ breaks (suc (later ps))
breaks_padded p q r ps s d f z y h l e =
    let c : FirstRead p (q ∷ r ∷ ps) s d f = first_read p (q ∷ r ∷ ps) s d f e in
    let t = turned_lone p (q ∷ r ∷ ps) d (omega arith) z y in
    on p (q ∷ r ∷ ps) d (omega arith) s (rw t.same0 c.obeys)
    ∙ rw (breaks_soon q r ps (next_of s (decoded_at p d)) (next_of s (decoded_at p (half_turned (p ∷ q ∷ r ∷ ps) d))) (drop (width p) d) c.rest
    (lone_off s (decoded_at p d) (decoded_at p (half_turned (p ∷ q ∷ r ∷ ps) d)) t) h (simp length-drop (omega arith)) c.on)

at_later : (p q r : Pair) (ps : List Pair) → suc (later ps) ≡ cond (eqb (length (p ∷ q ∷ r ∷ ps)) 3) 1 2
at_later p q r [] = refl
at_later p q r (m ∷ ms) = let e : eqb (length (p ∷ q ∷ r ∷ m ∷ ms)) 3 ≡ false = ne_eqb (length (p ∷ q ∷ r ∷ m ∷ ms)) 3 (λ h. omega arith) in rw e

pub turned_odd : (ps : List Pair) (f : List Bool) → Formed true ps → length f ≡ taken_total ps
    → read_pairs zero_state ps (half_turned ps (encode_pairs zero_state ps f)) ≡ breaks (cond (eqb (length ps) 3) 1 2)
turned_odd ps f (padded {p = p} {q = q} {r = r} {ps = qs} z y h) l =
    let ok : Ok (p ∷ q ∷ r ∷ qs) = formed_ok (p ∷ q ∷ r ∷ qs) (padded z y h) in
    breaks_padded p q r qs zero_state (encode_pairs zero_state (p ∷ q ∷ r ∷ qs) f) f z y h
    (length_encode (p ∷ q ∷ r ∷ qs) zero_state f ok l) (read_encode (p ∷ q ∷ r ∷ qs) zero_state f ok l)
    ∙ ap breaks (at_later p q r qs)
