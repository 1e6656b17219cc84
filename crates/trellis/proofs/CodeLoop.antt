-- The loop that codes pair by pair: what is sent and what is still to code make the whole.
use mathlib.Core.Path.{◌≡◌, refl, sym, ap, ◌∙◌}
use mathlib.Core.Bool.{Bool, true, false}
use borrow.Author.Tests.{lt-ltb, le-ltb}
use mathlib.Core.List.{List, [], ◌∷◌, ◌++◌, append_assoc, append-nil}
use Prim.Native.Nat.{ℕ, ◌+◌, ◌-◌, ◌≤◌, ◌<◌}
use native.Mathlib.Nat.{lt_of_lt_of_le}
use native.Mathlib.Omega.{arith}
use lib.Dec.{ltb}
use lib.ListN.{length, take, drop, get_or, set, length-drop, length-set}
use lib.Pow.{pow_mono}
use lib.Seq.{drop-drop, take_all}
use Rattle.frame.proofs.Labels.{labels_take, labels_set, within_set}
use Rattle.frame.specs.Labels.{bits_of_labels}
use Rattle.g9932.specs.Bits.{bits}
use Rattle.g9932.specs.Order.{Pair, pair, in_twos}
use Rattle.g9932.specs.Sizes.{unpack}
use Rattle.g9932.specs.Trellis.{last_two, taken, word_of, sent_bits, next_of, encode_pairs}
use Rattle.g9932.specs.declared.TrellisState.{TrellisState}
use Rattle.trellis.specs.Coding.{coded_word, CodePairNeeds, CodesPair, CodeNeeds, CodesFrom}
use Rattle.trellis.specs.declared.Coder.{Coder}
use Rattle.trellis.specs.declared.PairCode.{PairCode}
use Rattle.trellis.proofs.Entries.{cut_pair, pair_wide, in_twos_short, is_forced_lem}

-- one pair of a list of pairs
pub encode_step : (forced : Bool) (s : TrellisState) (p : Pair) (ps : List Pair) (f : List Bool) → forced ≡ last_two ps
    → encode_pairs s (p ∷ ps) f
    ≡ sent_bits p.x (word_of forced s p.x (take (taken forced p) f)) ++ encode_pairs (next_of s (word_of forced s p.x (take (taken forced p) f))) ps (drop (taken forced p) f)
unfolding encode_pairs
encode_step forced s p ps f h = rw h

-- Coded from one entry up to another, where the coder is k: the bits of the labels so far, with what the pairs left send, are the whole.
pub record CodesUpTo (c k : Coder) (es frame labels after : List ℕ) (from i : ℕ) : Type 0 where
  pub kept : length after ≡ length labels
  pub needs : CodeNeeds k es i frame after
  pub whole :
      bits_of_labels (take i es) (take i after) ++ encode_pairs k.state (in_twos (drop i es)) (drop k.at (unpack frame))
      ≡ bits_of_labels (take from es) (take from labels) ++ encode_pairs c.state (in_twos (drop from es)) (drop c.at (unpack frame))

pub going_start : {c : Coder} {es frame labels : List ℕ} {from : ℕ} → CodeNeeds c es from frame labels → CodesUpTo c c es frame labels labels from from
going_start r = record { kept = refl; needs = r; whole = refl }

-- the entry, told otherwise
pub going_to : {c k : Coder} {es frame labels₀ labels : List ℕ} {from i j : ℕ} → CodesUpTo c k es frame labels₀ labels from i → i ≡ j
    → CodesUpTo c k es frame labels₀ labels from j
going_to g e = rw e at g

pub going_end : {c k : Coder} {es frame labels₀ labels : List ℕ} {from i : ℕ} → CodesUpTo c k es frame labels₀ labels from i → length es ≤ i + 1
    → CodesFrom c es from frame labels₀ labels
unfolding encode_pairs
going_end {es = es} {labels = labels} {i = i} g h =
    let r = g.needs in
    let e : in_twos (drop i es) ≡ [] = in_twos_short (drop i es) (simp length-drop (omega arith)) in
    let n : i ≡ length es = omega (arith, r.inside, r.even) in
    record {
      whole =
          sym (labels_take es labels)
          ∙ ap (λ (l : List ℕ). bits_of_labels l (take (length es) labels)) (sym (take_all i es (omega arith)))
          ∙ ap (λ (m : ℕ). bits_of_labels (take i es) (take m labels)) (sym n)
          ∙ sym (append-nil (bits_of_labels (take i es) (take i labels)))
          ∙ rw e at g.whole;
      within = rw (← n) r.within;
    }

-- the pairs up to an entry, then the pairs from it on
pub going_on : {c k : Coder} {es frame labels₀ labels after : List ℕ} {from i : ℕ} → CodesUpTo c k es frame labels₀ labels from i
    → CodesFrom k es i frame labels after → CodesFrom c es from frame labels₀ after
going_on g f = record { whole = f.whole ∙ g.whole; within = f.within }

-- the pair at hand: x and y are the entries at i
pub record AtPair (c k : Coder) (es frame labels₀ labels : List ℕ) (from i x y : ℕ) (forced : Bool) : Type 0 where
  pub up_to : CodesUpTo c k es frame labels₀ labels from i
  pub more : i + 1 < length es
  pub is_x : x ≡ get_or es i 0
  pub is_y : y ≡ get_or es (i + 1) 0
  pub is_forced : forced ≡ ltb (length es - i) 6

module _ {c k : Coder} {es frame labels₀ labels : List ℕ} {from i x y : ℕ} (g : CodesUpTo c k es frame labels₀ labels from i) (is_x : x ≡ get_or es i 0) (is_y : y ≡ get_or es (i + 1) 0) where
  -- it is not one of the last two
  pub free_pair : i + 6 ≤ length es → AtPair c k es frame labels₀ labels from i x y false
  free_pair h = record { up_to = g; more = omega arith; is_x = is_x; is_y = is_y; is_forced = sym (le-ltb (length es - i) 6 (omega arith)) }

  -- it is
  pub forced_pair : i < length es → length es ≤ i + 5 → AtPair c k es frame labels₀ labels from i x y true
  forced_pair h last =
      record { up_to = g; more = omega (arith, g.needs.even); is_x = is_x; is_y = is_y; is_forced = sym (lt-ltb (length es - i) 6 (omega arith)) }

module _ {c k : Coder} {es frame labels₀ labels : List ℕ} {from i x y : ℕ} {forced : Bool} (h : AtPair c k es frame labels₀ labels from i x y forced) where
  cut : in_twos (drop i es) ≡ pair x y ∷ in_twos (drop (i + 2) es)
  cut = cut_pair es i x y h.more h.is_x h.is_y

  at_wide : (2 ≤ x) × (x ≤ 15) × (2 ≤ y) × (y ≤ 15)
  at_wide = pair_wide es i x y h.up_to.needs.wide h.more h.is_x h.is_y

  pub pair_needs : CodePairNeeds k forced (pair x y) frame
  pair_needs =
      let r = h.up_to.needs in
      let b = rw cut at r.bits in
      record { x_range = (at_wide.0, at_wide.1); y_range = (at_wide.2, at_wide.3); bits = rw (is_forced_lem es i h.more h.is_forced) (omega (arith, b)); small = r.small }

  -- the labels fit their places
  pub labels_fit_lem : {p : PairCode Coder} → CodesPair k forced (pair x y) frame p → (p.v < 65536) × (p.w < 65536)
  labels_fit_lem q = (lt_of_lt_of_le q.v_small (pow_mono {j = 16} (omega (arith, at_wide))), lt_of_lt_of_le q.w_small (pow_mono {j = 16} (omega (arith, at_wide))))

  -- one pair more
  pub going_step : {p : PairCode Coder} → CodesPair k forced (pair x y) frame p → CodesUpTo c p.next es frame labels₀ (set (set labels i p.v) (i + 1) p.w) from (i + 2)
  going_step {p} q =
      let r = h.up_to.needs in
      let f : List Bool = drop k.at (unpack frame) in
      let last : forced ≡ last_two (in_twos (drop (i + 2) es)) = is_forced_lem es i h.more h.is_forced in
      let e = rw (cut, encode_step forced k.state (pair x y) (in_twos (drop (i + 2) es)) f last) at h.up_to.whole in
      let j : taken forced (pair x y) ≡ taken (last_two (in_twos (drop (i + 2) es))) (pair x y) = ap (λ (b : Bool). taken b (pair x y)) last in
      let b = rw cut at r.bits in
      let l : length (set labels i p.v) ≡ length labels = length-set labels i p.v in
      let m : length (set (set labels i p.v) (i + 1) p.w) ≡ length labels = length-set (set labels i p.v) (i + 1) p.w ∙ l in
      let s = labels_set es labels i p.v (omega arith) (omega (arith, r.labels_fit)) in
      let t = labels_set es (set labels i p.v) (i + 1) p.w h.more (omega (arith, r.labels_fit)) in
      let a = within_set es labels i p.v (omega (arith, r.labels_fit)) r.within (rw (← h.is_x) q.v_small) in
      let d = within_set es (set labels i p.v) (i + 1) p.w (omega (arith, r.labels_fit)) a (rw (← h.is_y) q.w_small) in
      let z : i + 1 + 1 ≡ i + 2 = omega arith in
      let w : List ℕ = set (set labels i p.v) (i + 1) p.w in
      let n : bits_of_labels (take (i + 2) es) (take (i + 2) w) ≡ bits_of_labels (take i es) (take i labels) ++ sent_bits x (coded_word k forced (pair x y) frame) =
      ap (λ (n : ℕ). bits_of_labels (take n es) (take n w)) (sym z)
      ∙ t
      ∙ ap (λ (l : List Bool). l ++ bits (get_or es (i + 1) 0) p.w) s
      ∙ append_assoc (bits_of_labels (take i es) (take i labels)) (bits (get_or es i 0) p.v) (bits (get_or es (i + 1) 0) p.w)
      ∙ ap (λ (l : List Bool). bits_of_labels (take i es) (take i labels) ++ l) (rw (← h.is_x, ← h.is_y) q.sends) in
      record {
        kept = m ∙ h.up_to.kept;
        needs =
            record {
              wide = r.wide;
              many = r.many;
              inside = omega arith;
              even = omega (arith, r.even);
              bits = rw q.at (omega arith);
              small = r.small;
              labels_fit = omega (arith, r.labels_fit);
              within = rw z at d;
            };
        whole = rw (n, q.state, q.at, ← (drop-drop (taken forced (pair x y)) k.at (unpack frame)), append_assoc) e;
      }
