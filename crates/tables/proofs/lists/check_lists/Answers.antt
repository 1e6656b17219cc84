-- `tables::lists::check_lists` meets its contract: each return follows the chain of refusals 1 to 6 to the one that it makes.
use Rattle.std.specs.Prelude.{None}
use mathlib.Core.Bool.{false}
use mathlib.Core.Path.{◌≡◌, sym, ◌∙◌}
use lib.ListN.{length}
use Rattle.g9932.proofs.Accepted.{SizeFacts, size_facts}
use Rattle.tables.proofs.Faults.{refused_size, refused_tone, refused_twice, past_tones}
use Rattle.tables.proofs.Marks.{tones_below_lem}
use Rattle.g9932.specs.Refusals.{size_test, tone_test}
use Rattle.g9932.specs.Bits.{first}
use Rattle.tables.proofs.lists.check_lists.Goals as goal
use Rattle.tables.proofs.lists.check_lists.Goals.{Else-wrong_size, In_default}

sized : (c : Else-wrong_size) → size_test (length c.args.t.bits.now) (length c.args.t.gains.now) (length c.args.t.tones.now) ≡ false
sized c = sym c.wrong_size.ensures ∙ c.if-wrong_size.false

sizes : (c : Else-wrong_size) → SizeFacts (length c.args.t.bits.now) (length c.args.t.gains.now) (length c.args.t.tones.now)
sizes c = size_facts _ _ _ (sized c)

-- nor does 2
toned : (c : In_default) → first (tone_test (length c.args.t.bits.now) c.args.t.tones.now) (length c.args.t.tones.now) ≡ None
toned c =
    sym c.first_tone.ensures ∙ c.in_default.is

pub returns-then-wrong_size : goal.returns-then-wrong_size
returns-then-wrong_size c = refused_size _ _ _ (sym c.wrong_size.ensures ∙ c.if-wrong_size.true)

pub returns-in-Some : goal.returns-in-Some
returns-in-Some c = refused_tone _ _ _ (sized (goal.at.returns-in-Some c).Else-wrong_size) (sym c.first_tone.ensures ∙ c.in-Some.is)

pub first_twice-requires-clause-below : goal.first_twice-requires-clause-below
first_twice-requires-clause-below c =
    tones_below_lem c.args.t.tones.now (sizes (goal.at.first_twice-requires-clause-below c).Else-wrong_size).most (toned (goal.at.first_twice-requires-clause-below c).In_default)

pub returns-in-Some-first_twice : goal.returns-in-Some-first_twice
returns-in-Some-first_twice c =
    refused_twice _ _ _ (sized (goal.at.returns-in-Some-first_twice c).Else-wrong_size) (toned (goal.at.returns-in-Some-first_twice c).In_default) (sym c.first_twice.ensures.0 ∙ c.in-Some-first_twice.is)

pub returns : goal.returns
returns c =
    past_tones _ _ _ (sized (goal.at.returns c).Else-wrong_size) (toned (goal.at.returns c).In_default) (sym c.first_twice.ensures.0 ∙ c.in_default-first_twice.is) c.check_indices.ensures
