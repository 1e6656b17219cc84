-- Coded, the bits that are sent for each entry: the two lowest are v0 v1 or w0 w1 of its pair's word; and the bits of entries of 2.
use Prim.Native.Nat.{ℕ, zero, suc, ◌+◌, ◌*◌, ◌-◌, ◌%◌, ◌≤◌, ◌<◌}
use mathlib.Core.Bool.{Bool, true, false}
use mathlib.Core.List.{List, [], ◌∷◌, ◌++◌, map}
use mathlib.Core.Path.{◌≡◌, refl, sym, ap, ap₂, ◌∙◌}
use native.Mathlib.Nat.{zero-add}
use native.Mathlib.Omega.{arith}
use lib.ListN.{length, take, drop, get_or, replicate, length-drop}
use lib.Seq.{take-take, drop-drop, take-append-le, drop-append-le, drop_at, get_or-take, get_or-drop, length-take-le}
use Rattle.g9932.specs.Bits.{bit}
use Rattle.g9932.specs.Order.{Pair, pair, sum, is_one, in_twos, zero_in_front, pairs_of}
use Rattle.g9932.specs.Trellis.{Word, last_two, taken, taken_total, low_bits_of, sent_bits, next_of, word_at, encode_pairs}
use Rattle.g9932.specs.declared.TrellisState.{TrellisState}
use Rattle.g9932.proofs.Formed.{AllTwo, fit_both, fit_lone, is_one_odd, is_one_even, three_pairs}
use Rattle.g9932.proofs.OnePair.{Fit, lone, both, Valid, word_valid, length_sent}
use Rattle.guarantees.specs.Words.{words_of, labels_of, lowest_of, lowest}

-- ---- the two lowest bits of each entry

pub sent_low : (x y : ℕ) (u : Word) → 2 ≤ x → length u.high ≡ x + y - 4 → 2 ≤ y
    → (take 2 (sent_bits x u) ≡ (low_bits_of u).v0 ∷ (low_bits_of u).v1 ∷ []) × (take 2 (drop x (sent_bits x u)) ≡ (low_bits_of u).w0 ∷ (low_bits_of u).w1 ∷ [])
unfolding sent_bits
sent_low zero y u h e k = absurd (omega arith)
sent_low (suc a) y u h e k =
    let v : List Bool = (low_bits_of u).v0 ∷ (low_bits_of u).v1 ∷ take (suc a - 2) u.high in
    let w : List Bool = (low_bits_of u).w0 ∷ (low_bits_of u).w1 ∷ drop (suc a - 2) u.high in
    let l : length v ≡ suc a = let n = length-take-le (suc a - 2) u.high (omega arith) in omega arith in
    (refl, ap (take 2) (drop_at v w (suc a) l))

pub sent_low_alone : (u : Word) → take 2 (sent_bits 0 u) ≡ (low_bits_of u).w0 ∷ (low_bits_of u).w1 ∷ []
unfolding sent_bits
sent_low_alone u = refl

-- within a pair's bits, whatever follows them
module _ (x y : ℕ) (d rest : List Bool) (l : length d ≡ x + y) where
  in_first : 2 ≤ x → take 2 (take x (d ++ rest)) ≡ take 2 d
  in_first h = take-take 2 x (d ++ rest) h ∙ take-append-le 2 d rest (omega arith)

  in_second : 2 ≤ y → take 2 (take y (drop x (d ++ rest))) ≡ take 2 (drop x d)
  in_second h =
      take-take 2 y (drop x (d ++ rest)) h ∙ ap (take 2) (drop-append-le x d rest (omega arith))
      ∙ take-append-le 2 (drop x d) rest (simp length-drop (omega arith))

both_low : {l : Bool} {x y : ℕ} {s : TrellisState} {u : Word} (rest : List Bool) → Fit l x y → 2 ≤ x → Valid l s x y u
    → map (take 2) (take x (sent_bits x u ++ rest) ∷ take y (drop x (sent_bits x u ++ rest)) ∷ []) ≡ lowest_of x u
both_low rest lone h v = absurd (omega arith)
both_low {u = u} rest (both {x = a} {y = b}) h v =
    let x : ℕ = suc (suc a) in
    let y : ℕ = suc (suc b) in
    let n : length (sent_bits x u) ≡ x + y = length_sent both v in
    let w = sent_low x y u (omega arith) v.sized (omega arith) in
    ap₂ (λ (k l : List Bool). k ∷ l ∷ []) (in_first x y (sent_bits x u) rest n (omega arith) ∙ w.0) (in_second x y (sent_bits x u) rest n (omega arith) ∙ w.1)

lone_low : (y : ℕ) (u : Word) (rest : List Bool) → length (sent_bits 0 u) ≡ 0 + y → 2 ≤ y → take 2 (take y (sent_bits 0 u ++ rest)) ≡ (low_bits_of u).w0 ∷ (low_bits_of u).w1 ∷ []
lone_low y u rest n h = in_second 0 y (sent_bits 0 u) rest n h ∙ sent_low_alone u

-- pairs of entries, each at least 2
twos_low : (es : List ℕ) (s : TrellisState) (f : List Bool) → AllTwo es → length es % 2 ≡ 0 → length f ≡ taken_total (in_twos es)
    → map (take 2) (labels_of es (encode_pairs s (in_twos es) f)) ≡ lowest (in_twos es) (words_of s (in_twos es) f)
unfolding encode_pairs
twos_low [] s f h o e = refl
twos_low (a ∷ []) s f h o e = absurd (omega arith)
twos_low (a ∷ b ∷ es) s f h o e =
    let ps : List Pair = in_twos es in
    let k : ℕ = taken (last_two ps) (pair a b) in
    let u : Word = word_at s (pair a b) ps f in
    let rest : List Bool = encode_pairs (next_of s u) ps (drop k f) in
    let fit : Fit (last_two ps) a b = fit_both (last_two ps) a b h.0 h.1.0 in
    let v : Valid (last_two ps) s a b u = word_valid s (take k f) fit (length-take-le k f (omega arith)) in
    let past : drop b (drop a (sent_bits a u ++ rest)) ≡ rest =
    drop-drop b a (sent_bits a u ++ rest) ∙ drop_at (sent_bits a u) rest (a + b) (length_sent fit v) in
    ap₂ (λ (k l : List (List Bool)). k ++ l) (both_low rest fit h.0 v)
    (ap (λ (d : List Bool). map (take 2) (labels_of es d)) past ∙ twos_low es (next_of s u) (drop k f) h.1.1 (omega arith) (simp length-drop (omega arith)))

-- and with a 0 in front
lone_lows : (y : ℕ) (es : List ℕ) (s : TrellisState) (f : List Bool) → AllTwo (y ∷ es) → length es % 2 ≡ 0 → last_two (in_twos es) ≡ false
    → length f ≡ taken_total (pair 0 y ∷ in_twos es)
    → map (take 2) (labels_of (y ∷ es) (encode_pairs s (pair 0 y ∷ in_twos es) f)) ≡ lowest (pair 0 y ∷ in_twos es) (words_of s (pair 0 y ∷ in_twos es) f)
unfolding encode_pairs
lone_lows y es s f h o z e =
    let ps : List Pair = in_twos es in
    let k : ℕ = taken (last_two ps) (pair 0 y) in
    let u : Word = word_at s (pair 0 y) ps f in
    let rest : List Bool = encode_pairs (next_of s u) ps (drop k f) in
    let fit : Fit (last_two ps) 0 y = rw z (fit_lone 0 y refl h.0) in
    let v : Valid (last_two ps) s 0 y u = word_valid s (take k f) fit (length-take-le k f (omega arith)) in
    let past : drop y (sent_bits 0 u ++ rest) ≡ rest = drop_at (sent_bits 0 u) rest y (length_sent fit v ∙ zero-add y) in
    ap₂ (λ (k : List Bool) (l : List (List Bool)). k ∷ l) (lone_low y u rest (length_sent fit v) h.0)
    (ap (λ (d : List Bool). map (take 2) (labels_of es d)) past ∙ twos_low es (next_of s u) (drop k f) h.1 o (simp length-drop (omega arith)))

pub pairs_low : (es : List ℕ) (s : TrellisState) (f : List Bool) → AllTwo es → 4 ≤ length es → length f ≡ taken_total (pairs_of es)
    → map (take 2) (labels_of es (encode_pairs s (pairs_of es) f)) ≡ lowest (pairs_of es) (words_of s (pairs_of es) f)
pairs_low es s f h n = go (is_one (length es % 2)) refl es h n refl
  where
    go : (o : Bool) → is_one (length es % 2) ≡ o → (fs : List ℕ) → AllTwo fs → 4 ≤ length fs → fs ≡ es → length f ≡ taken_total (in_twos (zero_in_front o fs))
        → map (take 2) (labels_of fs (encode_pairs s (in_twos (zero_in_front o fs)) f))
        ≡ lowest (in_twos (zero_in_front o fs)) (words_of s (in_twos (zero_in_front o fs)) f)
    go false e fs g k same l = twos_low fs s f g (ap (λ (z : List ℕ). length z % 2) same ∙ is_one_even (length es) e) l
    go true e [] g k same l = absurd (omega arith)
    go true e (y ∷ fs) g k same l =
        let odd : length (y ∷ fs) % 2 ≡ 1 = ap (λ (z : List ℕ). length z % 2) same ∙ is_one_odd (length es) e in
        lone_lows y fs s f g (omega arith) (three_pairs fs (omega arith)) l

-- ---- entries of 2

pub labels_append : (ks ns : List ℕ) (d : List Bool) → labels_of (ks ++ ns) d ≡ labels_of ks d ++ labels_of ns (drop (sum ks) d)
labels_append [] ns d = refl
labels_append (k ∷ ks) ns d =
    ap (λ (l : List (List Bool)). take k d ∷ l)
    (labels_append ks ns (drop k d) ∙ ap (λ (e : List Bool). labels_of ks (drop k d) ++ labels_of ns e) (drop-drop (sum ks) k d))

pub length_labels : (ns : List ℕ) (d : List Bool) → length (labels_of ns d) ≡ length ns
length_labels [] d = refl
length_labels (n ∷ ns) d = ap suc (length_labels ns (drop n d))

-- bit 0 or 1 of the j-th of them
pub twos_bit : (k j i : ℕ) (d : List Bool) → j < k → i < 2 → bit (get_or (map (take 2) (labels_of (replicate k 2) d)) j []) i ≡ bit d (2 * j + i)
twos_bit zero j i d h l = absurd (omega arith)
twos_bit (suc k) zero i d h l = get_or-take 2 (take 2 d) i false l ∙ get_or-take 2 d i false l ∙ ap (bit d) (sym (zero-add i))
twos_bit (suc k) (suc j) i d h l =
    let n : 2 + (2 * j + i) ≡ 2 * suc j + i = omega arith in
    twos_bit k j i (drop 2 d) (omega arith) l ∙ get_or-drop 2 d (2 * j + i) false ∙ ap (bit d) n
