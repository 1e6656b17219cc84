-- Points turned, whatever the turn, as the code sees it: labels change one by one, and of each the two lowest bits by themselves.
-- Where a pair has both labels u0 stays, so a state with the other S0 shows at once.
use Prim.Native.Nat.{ℕ, zero, suc, ◌+◌, ◌≤◌}
use mathlib.Core.Bool.{Bool, true, false, not, ◌&&◌, cond, true≢false}
use mathlib.Core.List.{List, [], ◌∷◌, ◌++◌}
use mathlib.Core.Path.{◌≡◌, refl, sym, ap, ap₂, ◌∙◌}
use native.Mathlib.Omega.{arith}
use lib.ListN.{length, take, drop, length-append, length-take, length-drop}
use lib.Seq.{take_at, drop_at, length-take-le}
use Rattle.g9932.specs.Bits.{◌⊕◌, bit}
use Rattle.g9932.specs.Order.{Pair}
use Rattle.g9932.specs.Trellis.{Word, last_two, next_of, implied, decoded_word, same, obeys_code, taken_bits, frame, breaks, after, width, decoded_at, read_pairs}
use Rattle.g9932.specs.declared.TrellisState.{TrellisState}
use Rattle.g9932.proofs.Identities.{bits_agree}
use Rattle.g9932.proofs.OnePair.{obeys_u0, breaks_u0}
use Rattle.g9932.proofs.Pairs.{read_on, read_stop, FirstRead, first_read}
use Rattle.g9932.proofs.Formed.{Full}

-- The turn of a label: its length stays, `low` says what v0 and v1 become, always another two, and `flips` whether v0 xor v1 becomes
-- the other bit; then v0 of two labels xored is what v1 of them was, and else it stays.
pub record Turn : Type 0 where
  pub word : List Bool → List Bool
  pub low : Bool → Bool → Bool × Bool
  pub flips : Bool
  pub same_length : (v : List Bool) → length (word v) ≡ length v
  pub lowest : (v : List Bool) → 2 ≤ length v → (bit (word v) 0 ≡ (low (bit v 0) (bit v 1)).0) × (bit (word v) 1 ≡ (low (bit v 0) (bit v 1)).1)
  pub parity : (a b : Bool) → (low a b).0 ⊕ (low a b).1 ≡ a ⊕ b ⊕ flips
  pub moves : (a b : Bool) → same (low a b).0 a && same (low a b).1 b ≡ false
  pub lower : (a b c d : Bool) → (low a b).0 ⊕ (low c d).0 ≡ cond flips (b ⊕ d) (a ⊕ c)

-- the sent bits of a pair, and of pairs, each label turned
abbrev pub turned_pair : (List Bool → List Bool) → ℕ → List Bool → List Bool
turned_pair word zero d = word d
turned_pair word (suc x) d = word (take (suc x) d) ++ word (drop (suc x) d)

unfoldable pub turned_bits : (List Bool → List Bool) → List Pair → List Bool → List Bool
turned_bits word [] d = []
turned_bits word (p ∷ ps) d = turned_pair word p.x (take (width p) d) ++ turned_bits word ps (drop (width p) d)

nil_length : (l : List Bool) → length l ≡ 0 → l ≡ []
nil_length [] h = refl
nil_length (a ∷ l) h = absurd (omega arith)

-- ---- the word of a turned pair

two_and_two : (a b c d : Bool) → a ⊕ b ⊕ c ⊕ d ≡ (a ⊕ b) ⊕ (c ⊕ d)
two_and_two = bits_agree 4 (λ a b c d. a ⊕ b ⊕ c ⊕ d) (λ a b c d. (a ⊕ b) ⊕ (c ⊕ d)) refl

both_flip : (f a b : Bool) → (a ⊕ f) ⊕ (b ⊕ f) ≡ a ⊕ b
both_flip = bits_agree 3 (λ f a b. (a ⊕ f) ⊕ (b ⊕ f)) (λ f a b. a ⊕ b) refl

both_same : (a b : Bool) → same a a && same b b ≡ true
both_same = bits_agree 2 (λ a b. same a a && same b b) (λ a b. true) refl

lone_parity : (a b : Bool) → false ⊕ false ⊕ a ⊕ b ≡ a ⊕ b
lone_parity = bits_agree 2 (λ a b. false ⊕ false ⊕ a ⊕ b) (λ a b. a ⊕ b) refl

module _ (turn : Turn) where
  abbrev word : List Bool → List Bool
  word = turn.word

  pub turned_nil : word [] ≡ []
  turned_nil = nil_length (word []) (turn.same_length [])

  -- a label of 2 bits or more never stays
  pub turn_moves : (v : List Bool) → 2 ≤ length v → word v ≡ v → ⊥
  turn_moves v h e =
      let l = turn.lowest v h in
      let a : (turn.low (bit v 0) (bit v 1)).0 ≡ bit v 0 = sym l.0 ∙ ap (λ (w : List Bool). bit w 0) e in
      let b : (turn.low (bit v 0) (bit v 1)).1 ≡ bit v 1 = sym l.1 ∙ ap (λ (w : List Bool). bit w 1) e in
      true≢false (sym (both_same (bit v 0) (bit v 1)) ∙ rw (a, b) at (turn.moves (bit v 0) (bit v 1)))

  pub turned_parity : (v : List Bool) → 2 ≤ length v → bit (word v) 0 ⊕ bit (word v) 1 ≡ bit v 0 ⊕ bit v 1 ⊕ turn.flips
  turned_parity v h =
      let l = turn.lowest v h in
      ap₂ (λ (a b : Bool). a ⊕ b) l.0 l.1 ∙ turn.parity (bit v 0) (bit v 1)

  -- with both labels u0 stays; where there is no v it is flipped
  pub both_u0 : (v w : List Bool) → 2 ≤ length v → 2 ≤ length w → (implied (word v) (word w)).u0 ≡ (implied v w).u0
  both_u0 v w h k =
      let cut : (v w : List Bool) → (implied v w).u0 ≡ (bit v 0 ⊕ bit v 1) ⊕ (bit w 0 ⊕ bit w 1) =
      λ v w. two_and_two (bit v 0) (bit v 1) (bit w 0) (bit w 1) in
      cut (word v) (word w) ∙ ap₂ (λ (a b : Bool). a ⊕ b) (turned_parity v h) (turned_parity w k)
      ∙ both_flip turn.flips (bit v 0 ⊕ bit v 1) (bit w 0 ⊕ bit w 1) ∙ sym (cut v w)

  -- u2 stays if v0 xor v1 does, and else it is what v1 xor w1 was
  pub both_u2 : (v w : List Bool) → 2 ≤ length v → 2 ≤ length w
      → (implied (word v) (word w)).u2 ≡ cond turn.flips (bit v 1 ⊕ bit w 1) (implied v w).u2
  both_u2 v w h k =
      ap₂ (λ (a b : Bool). a ⊕ b) (turn.lowest v h).0 (turn.lowest w k).0 ∙ turn.lower (bit v 0) (bit v 1) (bit w 0) (bit w 1)

  pub lone_u0 : (w : List Bool) → 2 ≤ length w → (implied [] (word w)).u0 ≡ (implied [] w).u0 ⊕ turn.flips
  lone_u0 w h =
      lone_parity (bit (word w) 0) (bit (word w) 1) ∙ turned_parity w h ∙ ap (λ (a : Bool). a ⊕ turn.flips) (sym (lone_parity (bit w 0) (bit w 1)))

  -- ---- a turned pair, decoded

  length_pair : (x : ℕ) (d : List Bool) → length (turned_pair word x d) ≡ length d
  length_pair zero d = turn.same_length d
  length_pair (suc x) d =
      length-append (word (take (suc x) d)) (word (drop (suc x) d))
      ∙ omega (arith, turn.same_length (take (suc x) d), turn.same_length (drop (suc x) d), length-take (suc x) d, length-drop (suc x) d)

  -- a relation between the words implied holds between the words decoded
  module _ (R : Word → Word → Type 0) where
    both_decoded : ((v w : List Bool) → 2 ≤ length v → 2 ≤ length w → R (implied v w) (implied (word v) (word w)))
        → (x y : ℕ) (d : List Bool) → 2 ≤ x → 2 ≤ y → length d ≡ x + y → R (decoded_word x d) (decoded_word x (turned_pair word x d))
    unfolding decoded_word
    both_decoded law zero y d h k e = absurd (omega arith)
    both_decoded law (suc x) y d h k e =
        let lv : length (take (suc x) d) ≡ suc x = length-take-le (suc x) d (omega arith) in
        let lt : length (word (take (suc x) d)) ≡ suc x = turn.same_length (take (suc x) d) ∙ lv in
        rw (
          take_at (word (take (suc x) d)) (word (drop (suc x) d)) (suc x) lt,
          drop_at (word (take (suc x) d)) (word (drop (suc x) d)) (suc x) lt,
        )
        (law (take (suc x) d) (drop (suc x) d) (omega arith) (simp length-drop (omega arith)))

    lone_decoded : ((w : List Bool) → 2 ≤ length w → R (implied [] w) (implied [] (word w)))
        → (x y : ℕ) (d : List Bool) → x ≡ 0 → 2 ≤ y → length d ≡ x + y → R (decoded_word x d) (decoded_word x (turned_pair word x d))
    unfolding decoded_word
    lone_decoded law (suc x) y d z k e = absurd (omega arith)
    lone_decoded law zero y d z k e = law d (omega arith)

  -- the first pair of the turned bits, and the rest of them
  module _ (p : Pair) (ps : List Pair) (d : List Bool) (fits : width p ≤ length d) where
    length_part : length (turned_pair word p.x (take (width p) d)) ≡ width p
    length_part = length_pair p.x (take (width p) d) ∙ length-take-le (width p) d fits

    decoded_at_turned : decoded_at p (turned_bits word (p ∷ ps) d) ≡ decoded_word p.x (turned_pair word p.x (take (width p) d))
    unfolding turned_bits
    decoded_at_turned = ap (decoded_word p.x) (take_at (turned_pair word p.x (take (width p) d)) (turned_bits word ps (drop (width p) d)) (width p) length_part)

    pub drop_turned : drop (width p) (turned_bits word (p ∷ ps) d) ≡ turned_bits word ps (drop (width p) d)
    unfolding turned_bits
    drop_turned = drop_at (turned_pair word p.x (take (width p) d)) (turned_bits word ps (drop (width p) d)) (width p) length_part

    pub both_at : (R : Word → Word → Type 0) → ((v w : List Bool) → 2 ≤ length v → 2 ≤ length w → R (implied v w) (implied (word v) (word w)))
        → 2 ≤ p.x → 2 ≤ p.y → R (decoded_at p d) (decoded_at p (turned_bits word (p ∷ ps) d))
    both_at R law hx hy = rw decoded_at_turned (both_decoded R law p.x p.y (take (width p) d) hx hy (length-take-le (width p) d fits))

    pub lone_at : (R : Word → Word → Type 0) → ((w : List Bool) → 2 ≤ length w → R (implied [] w) (implied [] (word w)))
        → p.x ≡ 0 → 2 ≤ p.y → R (decoded_at p d) (decoded_at p (turned_bits word (p ∷ ps) d))
    lone_at R law hx hy = rw decoded_at_turned (lone_decoded R law p.x p.y (take (width p) d) hx hy (length-take-le (width p) d fits))

    -- reading goes on where the first pair obeys the code
    pub turned_on : (s : TrellisState) → obeys_code (last_two ps) s (decoded_at p (turned_bits word (p ∷ ps) d)) ≡ true
        → read_pairs s (p ∷ ps) (turned_bits word (p ∷ ps) d)
        ≡ after (taken_bits (last_two ps) p.x (decoded_at p (turned_bits word (p ∷ ps) d)))
        (read_pairs (next_of s (decoded_at p (turned_bits word (p ∷ ps) d))) ps (turned_bits word ps (drop (width p) d)))
    turned_on s k =
        read_on p ps s (turned_bits word (p ∷ ps) d) (decoded_at p (turned_bits word (p ∷ ps) d)) (turned_bits word ps (drop (width p) d)) refl drop_turned k

  -- from a state with the other S0 the first pair has another u0, and breaks the code by it
  module _ (p : Pair) (ps : List Pair) (a b : TrellisState) (d f : List Bool) (o : b.s0 ≡ not a.s0) (h : Full (p ∷ ps))
      (l : width p ≤ length d) (e : read_pairs a (p ∷ ps) d ≡ frame f) where
    pub other_u0 : b.s0 ≡ not (decoded_at p (turned_bits word (p ∷ ps) d)).u0
    other_u0 =
        let c : FirstRead p ps a d f = first_read p ps a d f e in
        let t : (decoded_at p (turned_bits word (p ∷ ps) d)).u0 ≡ (decoded_at p d).u0 = both_at p ps d l (λ u t. t.u0 ≡ u.u0) both_u0 h.0 h.1 in
        o ∙ ap not (sym (t ∙ obeys_u0 (last_two ps) a (decoded_at p d) c.obeys))

    pub breaks_here : read_pairs b (p ∷ ps) (turned_bits word (p ∷ ps) d) ≡ breaks 0
    breaks_here = read_stop p ps b (turned_bits word (p ∷ ps) d) (breaks_u0 (last_two ps) b (decoded_at p (turned_bits word (p ∷ ps) d)) other_u0)
