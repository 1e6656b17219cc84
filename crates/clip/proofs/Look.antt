-- The look along t finds the first monitored tone of t', with its place there and the silent tones before it.
use Rattle.std.specs.Prelude.{Option, Some, None}
use Prim.Native.Nat.{ℕ, zero, suc, ◌+◌, ◌*◌, ◌<◌}
use mathlib.Core.Bool.{Bool, true, false, not, ◌&&◌}
use mathlib.Core.List.{List, [], ◌∷◌, ◌++◌}
use mathlib.Core.Path.{◌≡◌, refl, sym, ap, ◌∙◌}
use native.Mathlib.Numerals.{add-one}
use native.Mathlib.Omega.{arith}
use borrow.Author.Tests.{lt-ltb, ne_eqb}
use lib.Dec.{ltb, leb, eqb}
use lib.ListN.{length, take, drop, get_or, replicate, length-append}
use lib.Seq.{take-append_seam, get_or-append_seam, append_snoc}
use Rattle.g9932.specs.Bits.{weight, first}
use Rattle.g9932.specs.Filler.{after_draws, draws, register_after}
use Rattle.g9932.specs.Order.{count, cons_if, filter, is_one}
use Rattle.g9932.specs.Sizes.{Tables, tables, entry, tone_of, class_by}
use Rattle.g9932.specs.Symbol.{class_at, classes_by, classes_of, is_monitored, first_monitored}
use Rattle.g9932.specs.declared.Class.{Class}
use Rattle.g9932.specs.declared.Class.TheVariants.{Data, Monitored, Silent}
use Rattle.g9932.specs.declared.Mode.TheVariants.{Coded}
use Rattle.g9932.proofs.Counts.{count_append}
use Rattle.g9932.proofs.Filler.{after_add}
use Rattle.g9932.proofs.Search.{first_at, first_no, first_all}
use Rattle.g9932.proofs.Sent.{length_classes}
use Rattle.plan.specs.Plan.{is_placed, is_drawing}
use Rattle.plan.proofs.Whole.{placed_other, classes_plan}
use Rattle.tables.specs.Checks.{Below, any_below}
use Rattle.tables.specs.Modes.{sharing}
use Rattle.tables.proofs.Scans.{any_nothing}
use Rattle.clip.specs.Tones.{is_monitored_in, along, past_tone, look}
use Rattle.clip.specs.declared.Along.{Along}

-- of classes in t' order: the first monitored one, and how many before it draw; these are silent
abbrev is_monitored_at : List Class → ℕ → Bool
is_monitored_at cs k = is_monitored (get_or cs k Silent)

abbrev Finds : List Class → Option Along → Type 0
Finds cs (Some a) = (first (is_monitored_at cs) (length cs) ≡ Some a.place.0) × (a.silent ≡ count is_drawing (take a.place.0 cs)) × (a.place.0 < length cs)
Finds cs None = first (is_monitored_at cs) (length cs) ≡ None

-- ---- no tone is monitored

abbrev NoneIn : List Class → Type 0
NoneIn cs = (k : ℕ) → is_monitored_at cs k ≡ false

none_append : (own l : List Class) → NoneIn own → NoneIn l → NoneIn (own ++ l)
none_append [] l h g k = g k
none_append (c ∷ own) l h g zero = h zero
none_append (c ∷ own) l h g (suc k) = none_append own l (λ j. h (suc j)) g k

none_before : (own l : List Class) → NoneIn own → (k : ℕ) → k < length own → is_monitored_at (own ++ l) k ≡ false
none_before [] l h k b = absurd (omega arith)
none_before (c ∷ own) l h zero b = h zero
none_before (c ∷ own) l h (suc k) b = none_before own l (λ j. h (suc j)) k (omega arith)

none_more : (own : List Class) (c : Class) → NoneIn own → is_monitored c ≡ false → NoneIn (own ++ (c ∷ []))
none_more own c h e = none_append own (c ∷ []) h one
  where
    one : NoneIn (c ∷ [])
    one zero = e
    one (suc k) = refl

none_ones : (n : ℕ) → NoneIn (replicate n (Data 1))
none_ones zero k = refl
none_ones (suc n) zero = refl
none_ones (suc n) (suc k) = none_ones n k

-- ---- a tone more

module _ (behind : List Class) (none : NoneIn behind) where
  -- from any tone of t on, behind those before
  abbrev FindsOn : List Class → List Class → Type 0
  FindsOn cs own = Finds (own ++ (filter (is_placed 2) cs ++ behind)) (look cs (along (length own) (count is_drawing own)))

  -- at a monitored tone
  here : (own rest : List Class) → NoneIn own → Finds (own ++ Monitored ∷ rest) (Some (along (length own) (count is_drawing own)))
  here own rest h =
      let l = length-append own (Monitored ∷ rest) in (
        sym
            (first_at _ (length own) _
            (first_all _ (length own) (none_before own (Monitored ∷ rest) h))
            (ap is_monitored (get_or-append_seam own Monitored rest Silent))
            (omega arith)),
        sym (ap (count is_drawing) (take-append_seam own (Monitored ∷ rest))),
        omega arith,
      )

  -- past a tone with a place of its own
  placed : (c : Class) (own cs : List Class) → FindsOn cs (own ++ (c ∷ []))
      → Finds (own ++ c ∷ (filter (is_placed 2) cs ++ behind)) (look cs (along (length own + 1) (count is_drawing own + weight (is_drawing c))))
  placed c own cs f =
      let n : count is_drawing own + weight (is_drawing c) ≡ count is_drawing (own ++ (c ∷ [])) = omega (arith, count_append is_drawing own (c ∷ [])) in
      rw (← append_snoc own c (filter (is_placed 2) cs ++ behind), ← length-append own (c ∷ []), n) f

  -- past a tone with data: a 1-bit tone has its place behind the others
  data_past : (b : ℕ) (own cs : List Class) (o : Bool) → NoneIn own → ((own : List Class) → NoneIn own → FindsOn cs own)
      → Finds (own ++ (cons_if o (Data b) (filter (is_placed 2) cs) ++ behind)) (look cs (along (length own + weight o) (count is_drawing own + weight (is_drawing (Data b)))))
  unfolding weight
  data_past b own cs true h rest = placed (Data b) own cs (rest (own ++ (Data b ∷ [])) (none_more own (Data b) h refl))
  data_past b own cs false h rest =
      let l : length own + 0 ≡ length own = omega arith in
      let n : count is_drawing own + 0 ≡ count is_drawing own = omega arith in
      rw (l, n) (rest own h)

  finds : (cs own : List Class) → NoneIn own → FindsOn cs own
  unfolding look weight
  finds [] own h = first_all _ _ (λ k l. none_append own behind h none k)
  finds (Monitored ∷ cs) own h = here own (filter (is_placed 2) cs ++ behind) h
  finds (Silent ∷ cs) own h = placed Silent own cs (finds cs (own ++ (Silent ∷ [])) (none_more own Silent h refl))
  finds (Data b ∷ cs) own h = data_past b own cs (leb 2 b) h (finds cs)

-- ---- the look along all of t, of coded tables

-- the register after tones, by how many of them draw
draws_two : (c : Class) → draws c ≡ 2 * weight (is_drawing c)
unfolding weight
draws_two (Data b) = refl
draws_two Monitored = refl
draws_two Silent = refl

register_count : (r : ℕ) (cs : List Class) → register_after r cs ≡ after_draws (2 * count is_drawing cs) r
unfolding register_after
register_count r [] = refl
register_count r (c ∷ cs) =
    let n : draws c + 2 * count is_drawing cs ≡ 2 * (weight (is_drawing c) + count is_drawing cs) = omega (arith, draws_two c) in
    register_count (after_draws (draws c) r) cs ∙ sym (after_add (draws c) (2 * count is_drawing cs) r) ∙ ap (λ (k : ℕ). after_draws k r) n

abbrev pub FoundIn : Tables → Option Along → Type 0
FoundIn T (Some a) =
    (first_monitored T ≡ Some a.place.0) × ((r : ℕ) → register_after r (take a.place.0 (classes_of T)) ≡ after_draws (2 * a.silent) r) × (a.place.0 < length T.tones)
FoundIn T None = first_monitored T ≡ None

found_in : (T : Tables) (found : Option Along) → Finds (classes_of T) found → FoundIn T found
found_in T (Some a) f =
    let n = length_classes T in
    (rw n at f.0, λ r. register_count r (take a.place.0 (classes_of T)) ∙ ap (λ (k : ℕ). after_draws (2 * k) r) (sym f.1), omega (arith, f.2))
found_in T None f = rw (length_classes T) at f

pub finds_all : (b g t : List ℕ) → FoundIn (tables Coded b g t) (look (classes_by b g t) (along 0 0))
finds_all b g t =
    let behind = replicate (sharing Coded b t) (Data 1) in
    found_in (tables Coded b g t) (look (classes_by b g t) (along 0 0)) (rw (classes_plan Coded b g t) (finds behind (none_ones (sharing Coded b t)) (classes_by b g t) [] (λ k. refl)))

-- ---- where no sub-carrier is as a monitored tone is, nothing is found

look_none : (b g t : List ℕ) (at : Along) → ((k : ℕ) → k < length t → is_monitored_in b g (entry t k) ≡ false) → look (classes_by b g t) at ≡ None
unfolding look
look_none b g [] at h = refl
look_none b g (k ∷ t) at h = rw (h 0 (omega arith)) (look_none b g t (past_tone (class_at b g k) at) (λ j l. h (suc j) (omega arith)))

pub none_monitored : (b g t : List ℕ) → Below (length b) t → any_below (is_monitored_in b g) (length b) ≡ false → first_monitored (tables Coded b g t) ≡ None
none_monitored b g t below none =
    let no = first_no (is_monitored_in b g) (length b) (any_nothing (is_monitored_in b g) (length b) none) in
    rw (look_none b g t (along 0 0) (λ k l. no (entry t k) (below k l))) at (finds_all b g t)

-- ---- one step along t

-- a tone by its bits and its gain: whether it is monitored, has a place of its own, and draws
pub monitored_by : (b g : ℕ) → eqb b 0 && ltb 0 g ≡ is_monitored (tone_of b g).class
monitored_by zero g = go (ltb 0 g)
  where
    go : (q : Bool) → q ≡ is_monitored (class_by q Monitored Silent)
    go true = refl
    go false = refl
monitored_by (suc n) g = rw (lt-ltb 0 (suc n) (omega arith), ne_eqb (suc n) 0 (λ e. omega arith))

drawing_by : (b g : ℕ) → is_drawing (tone_of b g).class ≡ eqb b 0
drawing_by zero g = go (ltb 0 g)
  where
    go : (q : Bool) → is_drawing (class_by q Monitored Silent) ≡ true
    go true = refl
    go false = refl
drawing_by (suc n) g = rw (lt-ltb 0 (suc n) (omega arith), ne_eqb (suc n) 0 (λ e. omega arith))

pub past_by : (b g p s : ℕ) → along (p + weight (not (is_one b))) (s + weight (eqb b 0)) ≡ past_tone (tone_of b g).class (along p s)
past_by b g p s = rw (placed_other b g, drawing_by b g)

drop_classes : (b g t : List ℕ) (i : ℕ) → i < length t → drop i (classes_by b g t) ≡ class_at b g (entry t i) ∷ drop (suc i) (classes_by b g t)
drop_classes b g [] i h = absurd (omega arith)
drop_classes b g (k ∷ t) zero h = refl
drop_classes b g (k ∷ t) (suc i) h = drop_classes b g t i (omega arith)

module _ (b g t : List ℕ) (i : ℕ) (h : i < length t) (at : Along) where
  -- the look ends at a monitored tone, and goes on past any other
  pub look_here : is_monitored_in b g (entry t i) ≡ true → Some at ≡ look (drop i (classes_by b g t)) at
  unfolding look
  look_here e = rw (drop_classes b g t i h, e)

  pub look_past : is_monitored_in b g (entry t i) ≡ false
      → look (drop (i + 1) (classes_by b g t)) (past_tone (class_at b g (entry t i)) at) ≡ look (drop i (classes_by b g t)) at
  unfolding look
  look_past e = rw (add-one i, drop_classes b g t i h, e)
