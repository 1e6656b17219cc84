-- A quarter turn of the sent bits of a list of pairs always breaks the code. Of each label v0 xor v1 is the other bit. So where a pair has
-- both labels u0 stays and u1 is the other one; where it has no v, u0 is the other one, and pair 0 breaks by it. Else u1 breaks pair 0 if
-- that is forced; and if it is not, S0 is the other one after it, so that pair 1 breaks by its u0.
use Prim.Native.Nat.{◌≤◌}
use mathlib.Core.Bool.{Bool, true, false, not, ◌||◌, cond, true≢false}
use mathlib.Core.List.{List, [], ◌∷◌}
use mathlib.Core.Logic.{◌≢◌}
use mathlib.Core.Path.{◌≡◌, refl, sym, ap, ap₂, ◌∙◌}
use native.Mathlib.Omega.{arith}
use borrow.Author.Tests.{ne_eqb}
use lib.Dec.{eqb}
use lib.ListN.{length, drop, get_or, length-drop}
use Rattle.g9932.specs.Bits.{◌⊕◌, bit}
use Rattle.g9932.specs.Order.{Pair, pair}
use Rattle.g9932.specs.Trellis.{Word, zero_state, last_two, next_of, encode_pairs, implied, same, obeys_code, frame, breaks, width, decoded_at, read_pairs, taken_total}
use Rattle.g9932.specs.declared.TrellisState.{TrellisState}
use Rattle.g9932.proofs.Formed.{Full, Formed, whole, padded, formed_ok}
use Rattle.g9932.proofs.Identities.{bits_agree, xor_true, xor_not, not_not, and-false}
use Rattle.g9932.proofs.OnePair.{forced_obeys, same_not, obeys_u0, breaks_u0}
use Rattle.g9932.proofs.Pairs.{sent_total, length_encode, read_stop, read_encode, FirstRead, first_read}
use Rattle.g9932.proofs.Turns.{Turn, turned_parity, both_u0, both_u2, lone_u0, turned_bits, drop_turned, both_at, lone_at, turned_on, other_u0, breaks_here}

upper_bits : (a b c d : Bool) → b ⊕ d ≡ (a ⊕ b ⊕ c ⊕ d) ⊕ (a ⊕ c)
upper_bits = bits_agree 4 (λ a b c d. b ⊕ d) (λ a b c d. (a ⊕ b ⊕ c ⊕ d) ⊕ (a ⊕ c)) refl

-- ---- one pair

-- u0 stays, u1 is the other one, and u2 is u0 xor u2
record OtherU1 (u t : Word) : Type 0 where
  same0 : t.u0 ≡ u.u0
  other1 : t.u1 ≡ not u.u1
  mixed2 : t.u2 ≡ u.u0 ⊕ u.u2

-- a forced pair breaks the code by its u1, and where S0 is 0 by that alone; after any pair S0 is the other one
forced_u0 : (s : TrellisState) (u t : Word) → OtherU1 u t → obeys_code true s u ≡ true → t.u0 ≡ s.s0
forced_u0 s u t h k = h.same0 ∙ obeys_u0 true s u k

forced_u2 : (s : TrellisState) (u t : Word) → OtherU1 u t → obeys_code true s u ≡ true → t.u2 ≡ s.s0 ⊕ s.s2
forced_u2 s u t h k =
    let o = forced_obeys u.u0 s.s0 u.u1 (s.s1 ⊕ s.s3) u.u2 s.s2 k in
    h.mixed2 ∙ ap₂ (λ (a b : Bool). a ⊕ b) o.0 o.2

forced_u1 : (s : TrellisState) (u t : Word) → OtherU1 u t → obeys_code true s u ≡ true → s.s1 ⊕ s.s3 ≡ not t.u1
forced_u1 s u t h k =
    sym (forced_obeys u.u0 s.s0 u.u1 (s.s1 ⊕ s.s3) u.u2 s.s2 k).1 ∙ sym (not_not u.u1) ∙ ap not (sym h.other1)

forced_breaks : (s : TrellisState) (t : Word) → s.s1 ⊕ s.s3 ≡ not t.u1 → obeys_code true s t ≡ false
forced_breaks s t e = rw (e, same_not t.u1) (and-false (same t.u0 s.s0) (same t.u2 s.s2))

next_other : (s : TrellisState) (u t : Word) → OtherU1 u t → (next_of s t).s0 ≡ not (next_of s u).s0
next_other s u t h = rw h.other1 (xor_not (s.s1 ⊕ s.s3) u.u1)

-- what breaks the code: with a 0 in front, u0 of pair 0; of two pairs, u1 of pair 0 alone; else u0 of pair 1, from the state after pair 0
pub record By (o : Bool) (ps : List Pair) (d : List Bool) : Type 0 where
  pub lone : o ≡ true → zero_state.s0 ≡ not (decoded_at (get_or ps 0 (pair 0 0)) d).u0
  pub forced : o ≡ false → length ps ≡ 2 → zero_state.s1 ⊕ zero_state.s3 ≡ not (decoded_at (get_or ps 0 (pair 0 0)) d).u1
  pub rest : o ≡ false → length ps ≡ 2
      → ((decoded_at (get_or ps 0 (pair 0 0)) d).u0 ≡ zero_state.s0) × ((decoded_at (get_or ps 0 (pair 0 0)) d).u2 ≡ zero_state.s2)
  pub next : o ≡ false → length ps ≢ 2
      → (next_of zero_state (decoded_at (get_or ps 0 (pair 0 0)) d)).s0 ≡ not (decoded_at (get_or ps 1 (pair 0 0)) (drop (width (get_or ps 0 (pair 0 0))) d)).u0

module _ (turn : Turn) (flips : turn.flips ≡ true) where
  abbrev word : List Bool → List Bool
  word = turn.word

  flipped : (a : Bool) → a ⊕ turn.flips ≡ not a
  flipped a = ap (λ (f : Bool). a ⊕ f) flips ∙ xor_true a

  both_turned : (v w : List Bool) → 2 ≤ length v → 2 ≤ length w → OtherU1 (implied v w) (implied (word v) (word w))
  both_turned v w h k =
      record {
        same0 = both_u0 turn v w h k;
        other1 = turned_parity turn v h ∙ flipped (bit v 0 ⊕ bit v 1);
        mixed2 = both_u2 turn v w h k ∙ ap (λ (c : Bool). cond c (bit v 1 ⊕ bit w 1) (bit v 0 ⊕ bit w 0)) flips ∙ upper_bits (bit v 0) (bit v 1) (bit w 0) (bit w 1);
      }

  lone_turned : (w : List Bool) → 2 ≤ length w → (implied [] w).u0 ≡ not (implied [] (word w)).u0
  lone_turned w h = sym (not_not (implied [] w).u0) ∙ ap not (sym (lone_u0 turn w h ∙ flipped (implied [] w).u0))

  -- ---- where the code breaks, and by what

  -- a pair with no v, at once, by its u0
  module _ (p : Pair) (ps : List Pair) (s : TrellisState) (d f : List Bool) (z : p.x ≡ 0) (y : 2 ≤ p.y) (l : width p ≤ length d)
      (e : read_pairs s (p ∷ ps) d ≡ frame f) where
    lone_by : s.s0 ≡ not (decoded_at p (turned_bits word (p ∷ ps) d)).u0
    lone_by =
        let c : FirstRead p ps s d f = first_read p ps s d f e in
        sym (obeys_u0 (last_two ps) s (decoded_at p d) c.obeys) ∙ lone_at turn p ps d l (λ u t. u.u0 ≡ not t.u0) lone_turned z y

    breaks_lone : read_pairs s (p ∷ ps) (turned_bits word (p ∷ ps) d) ≡ breaks 0
    breaks_lone = read_stop p ps s (turned_bits word (p ∷ ps) d) (breaks_u0 (last_two ps) s (decoded_at p (turned_bits word (p ∷ ps) d)) lone_by)

  -- one of the last two, by its u1
  module _ (p q : Pair) (s : TrellisState) (d f : List Bool) (h : Full (p ∷ q ∷ [])) (l : length d ≡ sent_total (p ∷ q ∷ []))
      (e : read_pairs s (p ∷ q ∷ []) d ≡ frame f) where
    abbrev heard : Word
    heard = decoded_at p (turned_bits word (p ∷ q ∷ []) d)

    obeyed : obeys_code true s (decoded_at p d) ≡ true
    obeyed = (first_read p (q ∷ []) s d f e).obeys

    changed : OtherU1 (decoded_at p d) heard
    changed = both_at turn p (q ∷ []) d (omega arith) OtherU1 both_turned h.0 h.1

    forced_by : s.s1 ⊕ s.s3 ≡ not heard.u1
    forced_by = forced_u1 s (decoded_at p d) heard changed obeyed

    others_stay : (heard.u0 ≡ s.s0) × (heard.u2 ≡ s.s0 ⊕ s.s2)
    others_stay = (forced_u0 s (decoded_at p d) heard changed obeyed, forced_u2 s (decoded_at p d) heard changed obeyed)

    breaks_forced : read_pairs s (p ∷ q ∷ []) (turned_bits word (p ∷ q ∷ []) d) ≡ breaks 0
    breaks_forced = read_stop p (q ∷ []) s (turned_bits word (p ∷ q ∷ []) d) (forced_breaks s heard forced_by)

  -- where the first is not, the second, by its u0
  module _ (p q m : Pair) (ms : List Pair) (s : TrellisState) (d f : List Bool) (h : Full (p ∷ q ∷ m ∷ ms)) (l : length d ≡ sent_total (p ∷ q ∷ m ∷ ms))
      (e : read_pairs s (p ∷ q ∷ m ∷ ms) d ≡ frame f) where
    c : FirstRead p (q ∷ m ∷ ms) s d f
    c = first_read p (q ∷ m ∷ ms) s d f e

    abbrev u : Word
    u = decoded_at p (turned_bits word (p ∷ q ∷ m ∷ ms) d)

    t : OtherU1 (decoded_at p d) u
    t = both_at turn p (q ∷ m ∷ ms) d (omega arith) OtherU1 both_turned h.0 h.1

    next_by_lem : (next_of s u).s0 ≡ not (decoded_at q (drop (width p) (turned_bits word (p ∷ q ∷ m ∷ ms) d))).u0
    next_by_lem =
        other_u0 turn q (m ∷ ms) (next_of s (decoded_at p d)) (next_of s u) (drop (width p) d) c.rest (next_other s (decoded_at p d) u t) h.2
        (simp length-drop (omega arith)) c.on
        ∙ ap (λ (b : List Bool). not (decoded_at q b).u0) (sym (drop_turned turn p (q ∷ m ∷ ms) d (omega arith)))

    breaks_next : read_pairs s (p ∷ q ∷ m ∷ ms) (turned_bits word (p ∷ q ∷ m ∷ ms) d) ≡ breaks 1
    breaks_next =
        let k : obeys_code false s u ≡ true = rw t.same0 c.obeys in
        turned_on turn p (q ∷ m ∷ ms) d (omega arith) s k
        ∙ rw (breaks_here turn q (m ∷ ms) (next_of s (decoded_at p d)) (next_of s u) (drop (width p) d) c.rest (next_other s (decoded_at p d) u t) h.2
        (simp length-drop (omega arith)) c.on)

  -- pair 0 where there is a 0 in front or where there are two pairs, else pair 1
  pub turned_breaks : (o : Bool) (ps : List Pair) (f : List Bool) → Formed o ps → length f ≡ taken_total ps
      → read_pairs zero_state ps (turned_bits word ps (encode_pairs zero_state ps f)) ≡ breaks (cond (o || eqb (length ps) 2) 0 1)
  turned_breaks o ps f F l = go o ps F (length_encode ps zero_state f (formed_ok ps F) l) (read_encode ps zero_state f (formed_ok ps F) l)
    where
      go : (o : Bool) (ps : List Pair) → Formed o ps → length (encode_pairs zero_state ps f) ≡ sent_total ps
          → read_pairs zero_state ps (encode_pairs zero_state ps f) ≡ frame f
          → read_pairs zero_state ps (turned_bits word ps (encode_pairs zero_state ps f)) ≡ breaks (cond (o || eqb (length ps) 2) 0 1)
      go o ps (whole {p = p} {q = q} {ps = []} h) ld e = breaks_forced p q zero_state (encode_pairs zero_state (p ∷ q ∷ []) f) f h ld e
      go o ps (whole {p = p} {q = q} {ps = m ∷ ms} h) ld e =
          let n : eqb (length (p ∷ q ∷ m ∷ ms)) 2 ≡ false = ne_eqb (length (p ∷ q ∷ m ∷ ms)) 2 (λ h. omega arith) in
          breaks_next p q m ms zero_state (encode_pairs zero_state (p ∷ q ∷ m ∷ ms) f) f h ld e ∙ rw n
      go o ps (padded {p = p} {q = q} {r = r} {ps = qs} z y h) ld e =
          breaks_lone p (q ∷ r ∷ qs) zero_state (encode_pairs zero_state (p ∷ q ∷ r ∷ qs) f) f z y (omega arith) e

  -- and by what
  pub turned_by : (o : Bool) (ps : List Pair) (f : List Bool) → Formed o ps → length f ≡ taken_total ps
      → By o ps (turned_bits word ps (encode_pairs zero_state ps f))
  turned_by o ps f F l = go o ps F (length_encode ps zero_state f (formed_ok ps F) l) (read_encode ps zero_state f (formed_ok ps F) l)
    where
      go : (o : Bool) (ps : List Pair) → Formed o ps → length (encode_pairs zero_state ps f) ≡ sent_total ps
          → read_pairs zero_state ps (encode_pairs zero_state ps f) ≡ frame f → By o ps (turned_bits word ps (encode_pairs zero_state ps f))
      go o ps (whole {p = p} {q = q} {ps = []} h) ld e =
          record {
            lone = λ i. absurd (true≢false (sym i));
            forced = λ i n. forced_by p q zero_state (encode_pairs zero_state (p ∷ q ∷ []) f) f h ld e;
            rest = λ i n. others_stay p q zero_state (encode_pairs zero_state (p ∷ q ∷ []) f) f h ld e;
            next = λ i n. absurd (n refl);
          }
      go o ps (whole {p = p} {q = q} {ps = m ∷ ms} h) ld e =
          record {
            lone = λ i. absurd (true≢false (sym i));
            forced = λ i n. absurd (omega arith);
            rest = λ i n. absurd (omega arith);
            next = λ i n. next_by_lem p q m ms zero_state (encode_pairs zero_state (p ∷ q ∷ m ∷ ms) f) f h ld e;
          }
      go o ps (padded {p = p} {q = q} {r = r} {ps = qs} z y h) ld e =
          record {
            lone = λ i. lone_by p (q ∷ r ∷ qs) zero_state (encode_pairs zero_state (p ∷ q ∷ r ∷ qs) f) f z y (omega arith) e;
            forced = λ i n. absurd (true≢false i);
            rest = λ i n. absurd (true≢false i);
            next = λ i n. absurd (true≢false i);
          }
