-- The answers of the clip check, by its verdict.
use Prim.Native.Nat.{ℕ}
use mathlib.Core.List.{List}
use lib.IntN.{ℤ}
use lib.ListN.{length}
use mathlib.Core.Bool.{false, ◌||◌}
use mathlib.Core.Path.{◌≡◌}
use borrow.Author.Tests.{eqb-true, not-false}
use lib.Dec.{eqb}
use Rattle.std.specs.Prelude.{Ok, Err}
use Rattle.g9932.specs.Answers.{refused_with}
use Rattle.g9932.specs.Clip.{clip_inputs, clip_verdict, clip_report_by, clip_report_of}
use Rattle.g9932.specs.Refusals.{number_of, place_of, Verdict, refused, accepted, room_test, table_verdict}
use Rattle.g9932.specs.declared.Clip.{Clip}
use Rattle.g9932.specs.declared.Refusal.{Refusal}
use Rattle.g9932.proofs.Identities.{or-false}
use Rattle.g9932.proofs.Verdicts.{number_some, number_none, and_none, test_none}
use Rattle.g9932.specs.Sizes.{tables}
use Rattle.g9932.specs.declared.Mode.TheVariants.{Coded}
use Rattle.clip.specs.Tones.{TellNeeds}

pub check_refused : (x : Refusal) {v : Verdict} (c : Clip) (r : ℕ) → refused (number_of x) (place_of x) ≡ v
    → clip_report_of (Err (refused_with x r)) ≡ clip_report_by v c r
unfolding clip_report_by
check_refused x c r e = rw (← e, number_some x)

pub check_told : {v : Verdict} (c : Clip) (r : ℕ) → accepted 0 ≡ v → clip_report_of (Ok (record { clip = c; register = r })) ≡ clip_report_by v c r
unfolding clip_report_by
check_told c r e = rw (← e)

-- past 10, both lists of points have NSC entries
pub room_lengths : (x y nsc : ℕ) → room_test x nsc || room_test y nsc ≡ false → (x ≡ nsc) × (y ≡ nsc)
room_lengths x y nsc h =
    let p = or-false (room_test x nsc) (room_test y nsc) h in
    (eqb-true x nsc (not-false (eqb x nsc) p.0), eqb-true y nsc (not-false (eqb y nsc) p.1))

-- where neither 1 to 8 nor 10 nor 12 refuses, the tables are accepted and both lists of points have NSC entries
pub passed : (b g t : List ℕ) (xs ys : List ℤ) (r : ℕ) → accepted 0 ≡ clip_verdict (tables Coded b g t) (length xs) (length ys) r → TellNeeds b g t xs ys
unfolding clip_verdict clip_inputs
passed b g t xs ys r e =
    let a = and_none (table_verdict (tables Coded b g t)) (clip_inputs (length t) (length xs) (length ys) r) (number_none e) in
    let l = room_lengths (length xs) (length ys) (length t) (test_none 9 _ _ a.1).0 in
    record { tables = a.0; xs_length = l.0; ys_length = l.1 }
