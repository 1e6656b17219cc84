-- What nearest reading answers by what it is given: ROOM, FRAME, SEED and RANGE, in this order, or DONE; and never 13 to 15.
use Rattle.std.specs.Prelude.{Option, None, Some}
use Prim.Native.Nat.{ℕ, ◌≤◌, ◌<◌}
use mathlib.Core.Bool.{Bool, true, false, ◌&&◌, ◌||◌, true≢false, not-eq-not}
use mathlib.Core.List.{List}
use mathlib.Core.Logic.{◌≢◌}
use mathlib.Core.Path.{◌≡◌, refl, sym, ap, ap₂, ◌∙◌}
use borrow.Author.Tests.{lt-ltb, le-ltb, le-leb}
use lib.Dec.{leb, eqb}
use lib.IntN.{ℤ}
use lib.ListN.{length}
use Rattle.g9932.specs.Bits.{first}
use Rattle.g9932.specs.Sizes.{Tables, bytes_for, points}
use Rattle.g9932.specs.Refusals.{Verdict, refused, accepted, refuse_if, refuse_at, verdict_by, and_then, room_test, seed_test, table_verdict, list_verdict, mode_verdict}
use Rattle.g9932.specs.Symbol.{size_of}
use Rattle.g9932.specs.Nearest.{range_test, work_bytes, nearest_inputs, range_verdict, nearest_verdict}
use Rattle.g9932.specs.declared.Refusal.TheVariants.{Room, Frame, Seed}
use Rattle.g9932.proofs.Identities.{or-false}
use Rattle.g9932.proofs.Verdicts.{test_here, test_past, found_here, found_past, and_past, and_refused, and_accepted}
use Rattle.guarantees.specs.Words.{AcceptedTables, ValidRegister, RightLength}
use Rattle.guarantees.proofs.Operations.{no_room, exact_room, both_false, exact_lists, lists_fit}

-- ---- by what is given

module _ (T : Tables) (ok : AcceptedTables T) (xs ys : List ℤ) (start r : ℕ) (f₀ work : List ℕ) where
  abbrev verdict : Verdict
  verdict = nearest_verdict T xs ys r start (length f₀) (length work)

  abbrev lists_test : Bool
  lists_test = room_test (length xs) (length T.tones) || room_test (length ys) (length T.tones)

  abbrev frame_room : Bool
  frame_room = room_test (length f₀) (bytes_for start (size_of T))

  abbrev work_room : Bool
  work_room = room_test (length work) (work_bytes T)

  -- where a length is wrong, the verdict is ROOM
  exact : lists_test || frame_room || work_room ≡ false → RightLength T xs ys × (length f₀ ≡ bytes_for start (size_of T)) × (length work ≡ work_bytes T)
  exact e =
      let p = or-false (lists_test || frame_room) work_room e in
      let q = or-false lists_test frame_room p.0 in
      (exact_lists T ok xs ys start r q.0, exact_room (length f₀) _ q.1, exact_room (length work) _ p.1)

  pub room_nearest : (RightLength T xs ys × (length f₀ ≡ bytes_for start (size_of T)) × (length work ≡ work_bytes T) → ⊥) → verdict ≡ refused 10 0
  unfolding nearest_verdict nearest_inputs
  room_nearest wrong = sym (and_past (table_verdict T) ok (and_refused Room _ (test_here 10 _ ((not-eq-not {b = true}).0 (λ e. wrong (exact e))))))

  -- where none is, FRAME, SEED and RANGE follow
  module _ (right : RightLength T xs ys) (fits : length f₀ ≡ bytes_for start (size_of T)) (room : length work ≡ work_bytes T) where
    all_fit : lists_test || frame_room || work_room ≡ false
    all_fit =
        both_false (both_false (lists_fit T ok xs ys start r right) (no_room (length f₀) (bytes_for start (size_of T)) fits))
        (no_room (length work) (work_bytes T) room)

    pub start_above_7_nearest : 7 < start → verdict ≡ refused 11 0
    unfolding nearest_verdict nearest_inputs
    start_above_7_nearest above =
        sym (and_past (table_verdict T) ok (and_refused Frame _ (test_past 10 all_fit (test_here 11 _ (lt-ltb 7 start above)))))

    module _ (small : start ≤ 7) where
      pub seed_nearest : (ValidRegister r → ⊥) → verdict ≡ refused 12 0
      unfolding nearest_verdict nearest_inputs
      seed_nearest bad =
          let seed : seed_test r ≡ true = (not-eq-not {b = true}).0 bad in
          sym (and_past (table_verdict T) ok (and_refused Seed _ (test_past 10 all_fit (test_past 11 (le-ltb 7 start small) (test_here 12 _ seed)))))

      module _ (valid : ValidRegister r) where
        inputs_pass_lem : accepted (size_of T)
            ≡ nearest_inputs start (size_of T) (length T.tones) (work_bytes T) (length xs) (length ys) (length f₀) (length work) r
        unfolding nearest_inputs
        inputs_pass_lem = test_past 10 all_fit (test_past 11 (le-ltb 7 start small) (test_past 12 valid refl))

        pub range_nearest : (k : ℕ) → first (range_test (points xs ys)) (length T.tones) ≡ Some k → verdict ≡ refused 23 k
        unfolding nearest_verdict range_verdict
        range_nearest k e = sym (and_past (table_verdict T) ok (and_accepted (size_of T) inputs_pass_lem (found_here 23 _ e)))

        pub done_nearest : first (range_test (points xs ys)) (length T.tones) ≡ None → verdict ≡ accepted (size_of T)
        unfolding nearest_verdict range_verdict
        done_nearest e = sym (and_past (table_verdict T) ok (and_accepted (size_of T) inputs_pass_lem (found_past 23 e refl)))

-- ---- never 13 to 15

-- OFFGRID, MONITOR and TRELLIS
abbrev is_exact : ℕ → Bool
is_exact n = leb 13 n && leb n 15

record NotExact (v : Verdict) : Type 0 where
  apart : is_exact v.number ≡ false

done_apart : (l : ℕ) → NotExact (accepted l)
done_apart l = record { apart = refl }

apart_if : (n : ℕ) → is_exact n ≡ false → (b : Bool) {v : Verdict} → NotExact v → NotExact (refuse_if n b v)
unfolding refuse_if
apart_if n h true k = record { apart = h }
apart_if n h false k = k

apart_at : (n : ℕ) → is_exact n ≡ false → (f : Option ℕ) {v : Verdict} → NotExact v → NotExact (refuse_at n f v)
unfolding refuse_at
apart_at n h (Some i) k = record { apart = h }
apart_at n h None k = k

apart_then : {v w : Verdict} → NotExact v → NotExact w → NotExact (and_then v w)
unfolding and_then
apart_then {v = v} {w = w} h k = go (eqb v.number 0)
  where
    go : (p : Bool) → NotExact (verdict_by p w v)
    go true = k
    go false = h

module _ (T : Tables) (xs ys : List ℤ) (r start frame_length work_length : ℕ) where
  not_exact : NotExact (nearest_verdict T xs ys r start frame_length work_length)
  unfolding nearest_verdict nearest_inputs range_verdict table_verdict list_verdict mode_verdict
  not_exact =
      apart_then
      (apart_then
      (apart_if 1 refl _ (apart_at 2 refl _ (apart_at 3 refl _ (apart_at 4 refl _ (apart_at 5 refl _ (apart_at 6 refl _ (done_apart _)))))))
      (apart_if 7 refl _ (apart_if 8 refl _ (done_apart _))))
      (apart_then (apart_if 10 refl _ (apart_if 11 refl _ (apart_if 12 refl _ (done_apart _)))) (apart_at 23 refl _ (done_apart _)))

  pub never_exact : (n : ℕ) → 13 ≤ n → n ≤ 15 → (nearest_verdict T xs ys r start frame_length work_length).number ≢ n
  never_exact n low high e =
      true≢false (sym (ap₂ (λ (a b : Bool). a && b) (le-leb 13 n low) (le-leb n 15 high)) ∙ ap is_exact (sym e) ∙ not_exact.apart)
