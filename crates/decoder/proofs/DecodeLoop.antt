-- The loop that reads pair by pair: the frame bits so far and the reading of the rest make the whole reading.
use Rattle.std.specs.Prelude.{None, Some, Ok}
use mathlib.Core.Path.{◌≡◌, refl, sym, ap, ◌∙◌}
use mathlib.Core.Bool.{Bool, true, false, true≢false}
use mathlib.Core.List.{List, [], ◌∷◌, ◌++◌, append_assoc, append-nil}
use Prim.Native.Nat.{ℕ, suc, ◌+◌, ◌-◌, ◌/◌, ◌≤◌, ◌<◌}
use native.Mathlib.Nat.{zero-add}
use native.Mathlib.Omega.{arith}
use lib.Dec.{ltb}
use lib.ListN.{length, take, drop, get_or, length-append, length-drop}
use lib.Seq.{take_at, drop_at}
use Rattle.frame.proofs.Labels.{labels_drop}
use Rattle.frame.specs.Labels.{bits_of_labels}
use Rattle.frame.specs.Written.{written, bits_put}
use Rattle.g9932.proofs.Pairs.{read_on, read_stop}
use Rattle.g9932.proofs.Words.{length_bits}
use Rattle.g9932.specs.Answers.{break_in}
use Rattle.g9932.specs.Bits.{bits}
use Rattle.g9932.specs.Order.{Wide, Pair, pair, in_twos}
use Rattle.g9932.specs.Trellis.{Word, Reading, frame, breaks, after as after', last_two, taken, width, decoded_word, decoded_at, obeys_code, taken_bits, next_of, read_pairs, taken_total}
use Rattle.decoder.specs.Reading.{decoded_in, ReadPairNeeds, GoesOn, ReadPairsNeeds, onward, reading_from, ReadsFrom}
use Rattle.decoder.specs.declared.Reader.{Reader}
use Rattle.trellis.proofs.Entries.{cut_pair, pair_wide, in_twos_short, is_forced_lem}
use Rattle.decoder.proofs.DecodePair.{length_takes}
use Rattle.g9932.proofs.Search.{found_not}

-- a reading with n pairs before it, whose frame bits are b
abbrev after_pairs : ℕ → List Bool → Reading → Reading
after_pairs n b (frame f) = frame (b ++ f)
after_pairs n b (breaks k) = breaks (n + k)

after_none : (r : Reading) → r ≡ after_pairs 0 [] r
after_none (frame f) = refl
after_none (breaks k) = ap breaks (sym (zero-add k))

after_one : (n : ℕ) (b x : List Bool) (r : Reading) → after_pairs n b (after' x r) ≡ after_pairs (n + 1) (b ++ x) r
after_one n b x (frame f) = ap frame (sym (append_assoc b x f))
after_one n b x (breaks k) = ap breaks (let e : n + suc k ≡ n + 1 + k = omega arith in e)

-- no pair breaks the code
abbrev pub Unbroken : Reader → List ℕ → ℕ → List ℕ → Type 0
Unbroken c es i labels = break_in (reading_from c es i labels) ≡ None

-- where pairs are not checked, none breaks the code
abbrev pub Sure : Bool → Reader → List ℕ → ℕ → List ℕ → Type 0
Sure check c es i labels = check ≡ false → Unbroken c es i labels

-- the bits so far in any case; the whole reading where it is sure that the pairs so far obey the code
pub record Decoding (check : Bool) (c k : Reader) (es labels out₀ out : List ℕ) (from i : ℕ) : Type 0 where
  pub kept : length out ≡ length out₀
  pub needs : ReadPairsNeeds k es i labels out
  pub pairs : ℕ
  numbered : pairs + (from + 1) / 2 ≡ (i + 1) / 2
  pub done : List Bool
  pub so_far : written k.writer out ≡ written c.writer out₀ ++ done
  pub rest : Sure check c es from labels → reading_from c es from labels ≡ after_pairs pairs done (reading_from k es i labels)
  pub counted : bits_put k.writer + taken_total (in_twos (drop i es)) ≡ bits_put c.writer + taken_total (in_twos (drop from es))

pub decoding_start : {check : Bool} {c : Reader} {es labels out : List ℕ} {from : ℕ} → ReadPairsNeeds c es from labels out → Decoding check c c es labels out out from from
decoding_start {c = c} {es = es} {labels = labels} {out = out} {from = from} r =
    record {
      kept = refl;
      needs = r;
      pairs = 0;
      numbered = omega arith;
      done = [];
      so_far = sym (append-nil (written c.writer out));
      rest = λ _. after_none (reading_from c es from labels);
      counted = refl;
    }

-- the entry, told otherwise
pub decoding_to : {check : Bool} {c k : Reader} {es labels out₀ out : List ℕ} {from i j : ℕ} → Decoding check c k es labels out₀ out from i → i ≡ j
    → Decoding check c k es labels out₀ out from j
decoding_to g e = rw e at g

pub decoding_end : {check : Bool} {c k : Reader} {es labels out₀ out : List ℕ} {from i : ℕ} → Decoding check c k es labels out₀ out from i → length es ≤ i + 1
    → ReadsFrom check c es from labels out₀ (Ok k.writer) out
unfolding read_pairs
decoding_end {check = check} {c = c} {es = es} {labels = labels} {from = from} {i = i} g h =
    let e : in_twos (drop i es) ≡ [] = in_twos_short (drop i es) (simp length-drop (omega arith)) in
    let r : Sure check c es from labels → reading_from c es from labels ≡ frame (g.done ++ []) = λ s. g.rest s ∙ rw e in (
      λ t. ap break_in (r (λ f. absurd (true≢false (sym t ∙ f)))),
      record {
        whole = λ z. g.so_far ∙ rw (r (λ _. z), append-nil g.done);
        waits = g.needs.waits;
        counted = omega (arith, rw e at g.counted);
      },
    )

-- the pair at hand: x and y are the entries at i, v and w their labels
pub record AtPair (check : Bool) (c k : Reader) (es labels out₀ out : List ℕ) (from i x y v w : ℕ) (forced : Bool) : Type 0 where
  pub wide : Wide es
  pub up_to : Decoding check c k es labels out₀ out from i
  pub more : i + 1 < length es
  pub is_x : x ≡ get_or es i 0
  pub is_y : y ≡ get_or es (i + 1) 0
  pub is_v : v ≡ get_or labels i 0
  pub is_w : w ≡ get_or labels (i + 1) 0
  pub is_forced : forced ≡ ltb (length es - i) 6

pub at_pair : {check : Bool} {c k : Reader} {es labels out₀ out : List ℕ} {from i x y v w : ℕ} → Wide es → Decoding check c k es labels out₀ out from i → i + 1 < length es
    → x ≡ get_or es i 0 → y ≡ get_or es (i + 1) 0 → v ≡ get_or labels i 0 → w ≡ get_or labels (i + 1) 0 → AtPair check c k es labels out₀ out from i x y v w (ltb (length es - i) 6)
at_pair wide g h is_x is_y is_v is_w =
    record { wide = wide; up_to = g; more = h; is_x = is_x; is_y = is_y; is_v = is_v; is_w = is_w; is_forced = refl }

module _ {check : Bool} {c k : Reader} {es labels out₀ out : List ℕ} {from i x y v w : ℕ} {forced : Bool} (h : AtPair check c k es labels out₀ out from i x y v w forced) where
  cut : in_twos (drop i es) ≡ pair x y ∷ in_twos (drop (i + 2) es)
  cut = cut_pair es i x y h.more h.is_x h.is_y

  pub at_wide : (2 ≤ x) × (x ≤ 15) × (2 ≤ y) × (y ≤ 15)
  at_wide = pair_wide es i x y h.wide h.more h.is_x h.is_y

  last_two_lem : forced ≡ last_two (in_twos (drop (i + 2) es))
  last_two_lem = is_forced_lem es i h.more h.is_forced

  pub pair_needs : ReadPairNeeds k (pair x y) v w out
  pair_needs =
      let r = h.up_to.needs in
      let m = h.more in
      let s = rw cut at r.bytes in
      record {
        v_small = rw (h.is_v, h.is_x) (r.within i (omega arith));
        w_small = rw (h.is_w, h.is_y) (r.within (i + 1) m);
        bytes = omega (arith, s, at_wide);
        waits = r.waits;
      }

  -- the labels of the pair, and those after it
  abbrev later : List Bool
  later = bits_of_labels (drop (i + 2) es) (drop (i + 2) labels)

  cut_labels : bits_of_labels (drop i es) (drop i labels) ≡ (bits x v ++ bits y w) ++ later
  cut_labels =
      let p = h.up_to.needs.labels_fit in
      let m = h.more in
      let z : i + 1 + 1 ≡ i + 2 = omega arith in
      labels_drop es labels i (omega arith) (omega arith)
      ∙ ap (λ (l : List Bool). bits (get_or es i 0) (get_or labels i 0) ++ l) (labels_drop es labels (i + 1) m (omega arith))
      ∙ sym (append_assoc (bits (get_or es i 0) (get_or labels i 0)) (bits (get_or es (i + 1) 0) (get_or labels (i + 1) 0)) (bits_of_labels (drop (i + 1 + 1) es) (drop (i + 1 + 1) labels)))
      ∙ rw (← h.is_x, ← h.is_y, ← h.is_v, ← h.is_w, z)

  sized : length (bits x v ++ bits y w) ≡ width (pair x y)
  sized = length-append (bits x v) (bits y w) ∙ rw (length_bits x v, length_bits y w)

  decoded_is : decoded_at (pair x y) (bits_of_labels (drop i es) (drop i labels)) ≡ decoded_in (pair x y) v w
  decoded_is = ap (decoded_word x) (ap (take (width (pair x y))) cut_labels ∙ take_at (bits x v ++ bits y w) later (width (pair x y)) sized)

  after_is : drop (width (pair x y)) (bits_of_labels (drop i es) (drop i labels)) ≡ later
  after_is = ap (drop (width (pair x y))) cut_labels ∙ drop_at (bits x v ++ bits y w) later (width (pair x y)) sized

  abbrev obeys : Bool
  obeys = obeys_code forced k.state (decoded_in (pair x y) v w)

  obeys_is : obeys ≡ obeys_code (last_two (in_twos (drop (i + 2) es))) k.state (decoded_in (pair x y) v w)
  obeys_is = ap (λ (b : Bool). obeys_code b k.state (decoded_in (pair x y) v w)) last_two_lem

  -- a pair that breaks the code
  breaks_here : obeys ≡ false → Sure check c es from labels → break_in (reading_from c es from labels) ≡ Some (h.up_to.pairs + 0)
  breaks_here e z =
      let s : read_pairs k.state (pair x y ∷ in_twos (drop (i + 2) es)) (bits_of_labels (drop i es) (drop i labels)) ≡ breaks 0 =
      read_stop (pair x y) (in_twos (drop (i + 2) es)) k.state (bits_of_labels (drop i es) (drop i labels)) (rw decoded_is (sym obeys_is ∙ e)) in
      let r : reading_from c es from labels ≡ breaks (h.up_to.pairs + 0) = h.up_to.rest z ∙ rw (cut, s) in
      ap break_in r

  pub decoding_broken : check ≡ true → obeys ≡ false → (check ≡ true) × (onward ((from + 1) / 2) (break_in (reading_from c es from labels)) ≡ Some ((i + 1) / 2))
  decoding_broken t e =
      let n : (from + 1) / 2 + (h.up_to.pairs + 0) ≡ (i + 1) / 2 = omega (arith, h.up_to.numbered) in
      (t, ap (onward ((from + 1) / 2)) (breaks_here e (λ f. absurd (true≢false (sym t ∙ f)))) ∙ ap Some n)

  module _ {r : Reader} {after : List ℕ} (reads : GoesOn check k forced (pair x y) v w out r after) where
    -- it obeys the code where it is checked, or where none breaks it
    obeyed : Sure check c es from labels → obeys ≡ true
    obeyed s = go check refl obeys refl
      where
        go : (b : Bool) → check ≡ b → (o : Bool) → obeys ≡ o → obeys ≡ true
        go true e o f = reads.obeys e
        go false e true f = f
        go false e false f = absurd (found_not (sym (breaks_here f s) ∙ s e))

    pub decoding_step : length after ≡ length out → Decoding check c r es labels out₀ after from (i + 2)
    decoding_step same =
        let u : Word = decoded_in (pair x y) v w in
        let ps : List Pair = in_twos (drop (i + 2) es) in
        let f : List Bool = bits_of_labels (drop i es) (drop i labels) in
        let j : taken forced (pair x y) ≡ taken (last_two ps) (pair x y) = ap (λ (b : Bool). taken b (pair x y)) last_two_lem in
        let g = h.up_to in
        let m = h.more in
        let q = at_wide in
        let s = rw cut at g.needs.bytes in
        let t = rw cut at g.counted in
        let l = reads.puts.counted in
        let n = length_takes x y v w q.0 q.2 pair_needs.v_small pair_needs.w_small forced in
        let o : Sure check c es from labels → read_pairs k.state (pair x y ∷ ps) f ≡ after' (taken_bits (last_two ps) x u) (read_pairs (next_of k.state u) ps later) =
        λ z. read_on (pair x y) ps k.state f u later decoded_is after_is (sym obeys_is ∙ obeyed z) in
        record {
          kept = same ∙ g.kept;
          needs =
              record {
                inside = omega arith;
                labels_fit = g.needs.labels_fit;
                within = g.needs.within;
                bytes = rw same (omega arith);
                waits = reads.puts.waits;
              };
          pairs = g.pairs + 1;
          numbered = omega (arith, g.numbered);
          done = g.done ++ taken_bits forced x u;
          so_far = reads.puts.holds ∙ rw (g.so_far, append_assoc);
          rest =
              λ z. g.rest z
              ∙ rw (cut, o z, ← last_two_lem, reads.state)
              (after_one g.pairs g.done (taken_bits forced x u) (read_pairs (next_of k.state u) ps later));
          counted = omega arith;
        }
