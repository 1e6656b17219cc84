-- The filler bits at the places that draw, and the register after them: writing and reading.
use Rattle.std.specs.Prelude.{Option, None, Some}
use Prim.Native.Nat.{ℕ, zero, suc, ◌+◌, ◌*◌, ◌≤◌, ◌<◌}
use mathlib.Core.Bool.{Bool, true, false, cond, true≢false}
use mathlib.Core.List.{List, [], ◌∷◌, ◌++◌, append_assoc}
use mathlib.Core.Path.{◌≡◌, refl, sym, ap, ◌∙◌}
use native.Mathlib.Omega.{arith}
use lib.ListN.{length, take, get_or, set, length-set, length-append}
use lib.Seq.{get_or-set_same, get_or-set_other, get_or-append_seam, take_at}
use Rattle.g9932.specs.Bits.{num, first, or_at}
use Rattle.g9932.specs.Filler.{drawn, after_draws, draws, register_after}
use Rattle.g9932.specs.Order.{cons_if}
use Rattle.g9932.specs.Sizes.{entry, Point, origin}
use Rattle.g9932.specs.Symbol.{is_filler, monitor_test}
use Rattle.g9932.specs.declared.Class.{Class}
use Rattle.g9932.specs.declared.Class.TheVariants.{Data, Monitored, Silent}
use Rattle.mapper.specs.Reading.{passes_filler, wrong_filler}
use Rattle.mapper.specs.Writing.{with_filler}
use Rattle.plan.specs.Plan.{is_drawing, places_where}

-- a tone draws two bits or none
two_or_none : (c : Class) → draws c ≡ cond (is_drawing c) 2 0
two_or_none (Data b) = refl
two_or_none Monitored = refl
two_or_none Silent = refl

-- ---- the register

pub register_places : (cs : List Class) (i r : ℕ) → after_draws (2 * length (places_where is_drawing i cs)) r ≡ register_after r cs
unfolding register_after
register_places [] i r = refl
register_places (c ∷ cs) i r =
    go (places_where is_drawing (suc i) cs) (is_drawing c) (register_places cs (suc i)) ∙ ap (λ (n : ℕ). register_after (after_draws n r) cs) (sym (two_or_none c))
  where
    go : (rest : List ℕ) (d : Bool) → ((s : ℕ) → after_draws (2 * length rest) s ≡ register_after s cs)
        → after_draws (2 * length (cons_if d i rest)) r ≡ register_after (after_draws (cond d 2 0) r) cs
    go rest true after =
        let n : 2 * suc (length rest) ≡ suc (suc (2 * length rest)) = omega arith in
        rw n (after (after_draws 2 r))
    go rest false after = after r

-- ---- writing

-- what a tone's place holds after the filler bits; of a silent tone it does not count
abbrev pub filled : Class → ℕ → ℕ → ℕ
filled c r l = cond (is_drawing c) (num (drawn 2 r)) l

filler_before : (cs : List Class) (i r : ℕ) (ls : List ℕ) (j : ℕ) → j < i → entry (with_filler r (places_where is_drawing i cs) ls) j ≡ entry ls j
filler_before [] i r ls j h = refl
filler_before (c ∷ cs) i r ls j h = go (places_where is_drawing (suc i) cs) (is_drawing c) (λ s l. filler_before cs (suc i) s l j (omega arith))
  where
    go : (rest : List ℕ) (d : Bool) → ((s : ℕ) (l : List ℕ) → entry (with_filler s rest l) j ≡ entry l j) → entry (with_filler r (cons_if d i rest) ls) j ≡ entry ls j
    go rest true after = after (after_draws 2 r) (set ls i (num (drawn 2 r))) ∙ get_or-set_other ls i j (num (drawn 2 r)) 0 (λ e. omega arith)
    go rest false after = after r ls

filler_at : (cs : List Class) (i r : ℕ) (ls : List ℕ) → i + length cs ≤ length ls → (k : ℕ) → k < length cs
    → entry (with_filler r (places_where is_drawing i cs) ls) (i + k) ≡ filled (get_or cs k Silent) (register_after r (take k cs)) (entry ls (i + k))
unfolding register_after
filler_at [] i r ls n k h = absurd (omega arith)
filler_at (c ∷ cs) i r ls n zero h = let e : i + 0 ≡ i = omega arith in rw e (go (is_drawing c))
  where
    go : (d : Bool) → entry (with_filler r (cons_if d i (places_where is_drawing (suc i) cs)) ls) i ≡ cond d (num (drawn 2 r)) (entry ls i)
    go true = filler_before cs (suc i) (after_draws 2 r) (set ls i (num (drawn 2 r))) i (omega arith) ∙ get_or-set_same ls i (num (drawn 2 r)) 0 (omega arith)
    go false = filler_before cs (suc i) r ls i (omega arith)
filler_at (c ∷ cs) i r ls n (suc k) h =
    let e : i + suc k ≡ suc i + k = omega arith in
    rw e
    (go (places_where is_drawing (suc i) cs) (is_drawing c) (λ s l m. filler_at cs (suc i) s l (omega (arith, m)) k (omega arith))
    ∙ ap (λ (n : ℕ). filled (get_or cs k Silent) (register_after (after_draws n r) (take k cs)) (entry ls (suc i + k))) (sym (two_or_none c)))
  where
    go : (rest : List ℕ) (d : Bool)
        → ((s : ℕ) (l : List ℕ) → length l ≡ length ls → entry (with_filler s rest l) (suc i + k) ≡ filled (get_or cs k Silent) (register_after s (take k cs)) (entry l (suc i + k)))
        → entry (with_filler r (cons_if d i rest) ls) (suc i + k) ≡ filled (get_or cs k Silent) (register_after (after_draws (cond d 2 0) r) (take k cs)) (entry ls (suc i + k))
    go rest true after =
        after (after_draws 2 r) (set ls i (num (drawn 2 r))) (length-set ls i (num (drawn 2 r)))
        ∙ ap (filled (get_or cs k Silent) (register_after (after_draws 2 r) (take k cs))) (get_or-set_other ls i (suc i + k) (num (drawn 2 r)) 0 (λ q. omega arith))
    go rest false after = after r ls refl

pub filler_placed : (cs : List Class) (r : ℕ) (ls : List ℕ) → length ls ≡ length cs → (k : ℕ) → k < length cs
    → entry (with_filler r (places_where is_drawing 0 cs) ls) k ≡ filled (get_or cs k Silent) (register_after r (take k cs)) (entry ls k)
filler_placed cs r ls n k h = let e : 0 + k ≡ k = omega arith in rw e at (filler_at cs 0 r ls (omega arith) k h)

-- ---- reading

register_more : (r : ℕ) (cs : List Class) (c : Class) → register_after r (cs ++ c ∷ []) ≡ after_draws (draws c) (register_after r cs)
unfolding register_after
register_more r [] c = refl
register_more r (b ∷ cs) c = register_more (after_draws (draws b) r) cs c

or_not : (f : Option ℕ) (n : ℕ) → or_at f false n ≡ f
or_not (Some k) n = refl
or_not None n = refl

-- a tone that draws none passes 14
none_drawn : (c : Class) (s : ℕ) (p : Point) → is_drawing c ≡ false → is_filler c s p ≡ true
none_drawn (Data b) s p e = refl
none_drawn Monitored s p e = absurd (true≢false e)
none_drawn Silent s p e = refl

-- labels that pass where the points do are compared like the points
module _ (r : ℕ) (cs : List Class) (q : List Point) (layouts ls : List ℕ)
    (tells : (k : ℕ) → k < length cs → is_drawing (get_or cs k Silent) ≡ true → (s : ℕ)
    → passes_filler (entry layouts k) (entry ls k) (num (drawn 2 s)) ≡ is_filler (get_or cs k Silent) s (get_or q k origin)) where
  abbrev test : ℕ → Bool
  test = monitor_test r cs q

  first_next : (n : ℕ) → first test (suc n) ≡ or_at (first test n) (test n) n
  unfolding first
  first_next n = refl

  from_place : (pre suf : List Class) → cs ≡ pre ++ suf
      → wrong_filler (register_after r pre) (places_where is_drawing (length pre) suf) layouts ls (first test (length pre)) ≡ first test (length cs)
  unfolding wrong_filler
  from_place pre [] e = ap (λ (n : ℕ). first test n) (sym (ap length e ∙ length-append pre [] ∙ omega arith))
  from_place pre (c ∷ suf) e =
      let n : length (pre ++ (c ∷ [])) ≡ suc (length pre) = length-append pre (c ∷ []) ∙ omega arith in
      let whole : cs ≡ (pre ++ (c ∷ [])) ++ suf = e ∙ sym (append_assoc pre (c ∷ []) suf) in
      let here : get_or cs (length pre) Silent ≡ c = ap (λ (l : List Class). get_or l (length pre) Silent) e ∙ get_or-append_seam pre c suf Silent in
      let before : take (length pre) cs ≡ pre = ap (take (length pre)) e ∙ take_at pre (c ∷ suf) (length pre) refl in
      let inside : length pre < length cs = let m = ap length e in omega (arith, m, length-append pre (c ∷ suf)) in
      step here before inside (is_drawing c) refl (rw (n, register_more r pre c, two_or_none c) at (from_place (pre ++ (c ∷ [])) suf whole))
    where
      step : get_or cs (length pre) Silent ≡ c → take (length pre) cs ≡ pre → length pre < length cs → (d : Bool) → is_drawing c ≡ d
          → wrong_filler (after_draws (cond d 2 0) (register_after r pre)) (places_where is_drawing (suc (length pre)) suf) layouts ls (first test (suc (length pre))) ≡ first test (length cs)
          → wrong_filler (register_after r pre) (cons_if d (length pre) (places_where is_drawing (suc (length pre)) suf)) layouts ls (first test (length pre)) ≡ first test (length cs)
      step here before inside false is rest =
          let passes : is_filler (get_or cs (length pre) Silent) (register_after r (take (length pre) cs)) (get_or q (length pre) origin) ≡ true = rw here (none_drawn c _ _ is) in
          rw (first_next (length pre), passes, or_not) at rest
      step here before inside true is rest =
          let x = tells (length pre) inside (rw here is) (register_after r pre) in
          rw (first_next (length pre), before, ← x) at rest

  pub wrong_first : wrong_filler r (places_where is_drawing 0 cs) layouts ls None ≡ first test (length cs)
  unfolding register_after first
  wrong_first = from_place [] cs refl
