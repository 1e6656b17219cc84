-- The answers of encoding and of reading: refused by the tables, refused after them, and what follows.
use Prim.Native.Nat.{ℕ, ◌≤◌}
use mathlib.Core.Bool.{Bool, true, false, not, ◌||◌, true≢false}
use mathlib.Core.List.{List, map}
use mathlib.Core.Path.{◌≡◌, refl, ap, ◌∙◌, sym}
use borrow.Author.Tests.{eqb-true, ltb-false}
use lib.Dec.{eqb}
use lib.IntN.{ℤ}
use lib.ListN.{length}
use Rattle.g9932.specs.Sizes.{Tables, bytes_for, pack, points}
use Rattle.g9932.specs.Refusals.{Verdict, accepted, room_test, frame_test, table_verdict, and_then}
use Rattle.g9932.specs.Filler.{register_after}
use Rattle.g9932.specs.Symbol.{classes_of, size_of, reading_in, written_points}
use Rattle.std.specs.Prelude.{Result, Ok, Err}
use Rattle.g9932.specs.Answers.{done, refused_with, verdict_of, report_of, report_by, on_done, frame_in, encode_inputs, encode_verdict, Encodes, points_verdict, read_inputs, read_verdict, Reads}
use Rattle.g9932.specs.declared.Refusal.{Refusal}
use Rattle.g9932.specs.declared.Done.{Done}
use Rattle.g9932.specs.declared.Refused.{Refused}
use Rattle.passes.specs.ReadSymbol.{ReadsPoints}
use Rattle.g9932.proofs.Verdicts.{and_assoc, and_past, test_none, and_refused, done_refused, done_accepted, report_refused, report_done, and_past}

-- ---- encoding

module _ (T : Tables) (start : ℕ) (f : List ℕ) (r : ℕ) (xs ys : List ℤ) where
  pub encode_unchanged : (x : Refusal) → verdict_of (Err x) ≡ encode_verdict T start f r (length xs) (length ys) → Encodes T start f r xs ys (Err (refused_with x r)) xs ys
  encode_unchanged x e = record { answer = report_refused x r _ e; xs_hold = done_refused x _ _ e; ys_hold = done_refused x _ _ e }

  pub encode_done : (k after : ℕ) (xs_after ys_after : List ℤ) → accepted k ≡ encode_verdict T start f r (length xs) (length ys)
      → after ≡ register_after r (classes_of T) → xs_after ≡ map (λ p. p.px) (written_points T r start f) → ys_after ≡ map (λ p. p.py) (written_points T r start f)
      → Encodes T start f r xs ys (Ok (done k after)) xs_after ys_after
  encode_done k after xs_after ys_after v n x y =
      record {
        answer = ap (λ (n : ℕ). report_of (Ok (done k n))) n ∙ report_done k r (register_after r (classes_of T)) v;
        xs_hold = x ∙ done_accepted k _ _ v;
        ys_hold = y ∙ done_accepted k _ _ v;
      }

-- nothing refused
pub no_room : (a b n : ℕ) → room_test a n || room_test b n ≡ false → (a ≡ n) × (b ≡ n)
no_room a b n e = go (eqb a n) (eqb b n) refl refl e
  where
    go : (c d : Bool) → eqb a n ≡ c → eqb b n ≡ d → not c || not d ≡ false → (a ≡ n) × (b ≡ n)
    go true true p q e = (eqb-true a n p, eqb-true b n q)
    go true false p q e = absurd (true≢false e)
    go false d p q e = absurd (true≢false e)

pub inputs_encoded : (start size nsc a b : ℕ) (f : List ℕ) (r : ℕ) → (encode_inputs start size nsc a b f r).number ≡ 0
    → ((a ≡ nsc) × (b ≡ nsc)) × (frame_test start size f ≡ false)
unfolding encode_inputs
inputs_encoded start size nsc a b f r e =
    let t = test_none 9 _ _ e in
    let u = test_none 10 _ _ t.1 in
    (no_room a b nsc t.0, u.0)

-- ---- reading

module _ (T : Tables) (xs ys : List ℤ) (r start : ℕ) (f : List ℕ) where
  -- the tables and the inputs, and then the points
  abbrev pub tables_inputs : Verdict
  tables_inputs = and_then (table_verdict T) (read_inputs start (size_of T) (length T.tones) (length xs) (length ys) (length f) r)

  whole : read_verdict T xs ys r start (length f) ≡ and_then tables_inputs (points_verdict T (points xs ys) r)
  unfolding read_verdict
  whole = and_assoc (table_verdict T) (read_inputs start (size_of T) (length T.tones) (length xs) (length ys) (length f) r) (points_verdict T (points xs ys) r)

  pub read_unchanged : (x : Refusal) → verdict_of (Err x) ≡ tables_inputs → Reads T xs ys r start f (Err (refused_with x r)) f
  read_unchanged x q =
      let e : verdict_of (Err x) ≡ read_verdict T xs ys r start (length f) = and_refused x (points_verdict T (points xs ys) r) q ∙ sym whole in
      record { answer = report_refused x r _ e; frame_holds = done_refused x _ _ e }

  pub read_points : tables_inputs.number ≡ 0 → (a : Result Done Refused) (after : List ℕ) → ReadsPoints T (points xs ys) r f start a after → Reads T xs ys r start f a after
  read_points e a after p =
      let v : points_verdict T (points xs ys) r ≡ read_verdict T xs ys r start (length f) = and_past tables_inputs e refl ∙ sym whole in
      record {
        answer = p.answer ∙ ap (λ v. report_by v r (register_after r (classes_of T))) v;
        frame_holds = p.frame_holds ∙ ap (λ v. on_done v (pack start (frame_in (reading_in T (points xs ys)))) f) v;
      }

no_rooms : (a b n c m : ℕ) → room_test a n || room_test b n || room_test c m ≡ false → ((a ≡ n) × (b ≡ n)) × (c ≡ m)
no_rooms a b n c m e = go (eqb a n) (eqb b n) (eqb c m) refl refl refl e
  where
    go : (x y z : Bool) → eqb a n ≡ x → eqb b n ≡ y → eqb c m ≡ z → not x || not y || not z ≡ false → ((a ≡ n) × (b ≡ n)) × (c ≡ m)
    go true true true p q s e = ((eqb-true a n p, eqb-true b n q), eqb-true c m s)
    go true true false p q s e = absurd (true≢false e)
    go true false z p q s e = absurd (true≢false e)
    go false y z p q s e = absurd (true≢false e)

pub inputs_read : (start size nsc a b c r : ℕ) → (read_inputs start size nsc a b c r).number ≡ 0
    → (((a ≡ nsc) × (b ≡ nsc)) × (c ≡ bytes_for start size)) × (start ≤ 7)
unfolding read_inputs
inputs_read start size nsc a b c r e =
    let t = test_none 9 _ _ e in
    let u = test_none 10 _ _ t.1 in
    (no_rooms a b nsc c (bytes_for start size) t.0, ltb-false 7 start u.0)
