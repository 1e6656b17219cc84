-- `clip::tell` meets its contract: no tone is monitored, or the one that is found is the first, and its point is compared.
use Prim.Native.Nat.{◌<◌}
use mathlib.Core.Path.{ap, sym, ◌∙◌}
use native.Mathlib.Omega.{arith}
use lib.ListN.{length}
use Rattle.g9932.specs.Clip.{clip_against, clip_of}
use Rattle.g9932.specs.Filler.{drawn}
use Rattle.g9932.specs.Points.{point_of}
use Rattle.g9932.specs.Sizes.{Point, Tables, tables, most_tones}
use Rattle.g9932.specs.declared.Mode.TheVariants.{Coded}
use Rattle.g9932.proofs.Accepted.{Accepted, accepted_tables}
use Rattle.g9932.proofs.PointLists.{point_at_lem}
use Rattle.clip.proofs.Look.{FoundIn, finds_all, none_monitored}
use Rattle.clip.proofs.tell.Goals as goal
use Rattle.clip.proofs.tell.Goals.{Start, After-look_along, In-Some}

-- the tables are accepted
facts : (s : Start) → Accepted (tables Coded s.args.t.bits.now s.args.t.gains.now s.args.t.tones.now)
facts s = accepted_tables (tables Coded s.args.t.bits.now s.args.t.gains.now s.args.t.tones.now) s.requires.tables

-- what is found is the first monitored tone
module _ (c : After-look_along) where
  abbrev T : Tables
  T = tables Coded c.args.t.bits.now c.args.t.gains.now c.args.t.tones.now

  found : FoundIn T c.look_along.result
  found = rw c.look_along.ensures (finds_all c.args.t.bits.now c.args.t.gains.now c.args.t.tones.now)

-- and it has a place in t'
inside : (c : In-Some) → c.in-Some.at.place.0 < length c.args.t.tones.now
inside c =
    let f : FoundIn (tables Coded c.args.t.bits.now c.args.t.gains.now c.args.t.tones.now) c.look_along.result =
    rw c.look_along.ensures (finds_all c.args.t.bits.now c.args.t.gains.now c.args.t.tones.now) in
    let g = rw c.in-Some.is at f in g.2

small : (c : In-Some) → c.in-Some.at.place.0 < most_tones
small c =
    let a = accepted_tables (tables Coded c.args.t.bits.now c.args.t.gains.now c.args.t.tones.now) c.requires.tables in
    omega (arith, inside c, a.tones_most, a.table_most)

pub any_monitored-requires : goal.any_monitored-requires
any_monitored-requires c = (facts (goal.at.any_monitored-requires c).Start).gains_length

pub returns-then-not-any_monitored : goal.returns-then-not-any_monitored
unfolding clip_of
returns-then-not-any_monitored c =
    rw (none_monitored c.args.t.bits.now c.args.t.gains.now c.args.t.tones.now (facts (goal.at.returns-then-not-any_monitored c).Start).tones_below (sym c.any_monitored.ensures ∙ c.if-not-any_monitored.true))

pub look_along-requires : goal.look_along-requires
look_along-requires c =
    let a = facts (goal.at.look_along-requires c).Start in
    record { below = a.tones_below; gains = a.gains_length; most = omega (arith, a.tones_most, a.table_most) }

pub at-p-requires : goal.at-p-requires
at-p-requires c =
    let h = inside (goal.at.at-p-requires c).In-Some in
    (rw c.requires.xs_length h, rw c.requires.ys_length h)

pub returns-in-None : goal.returns-in-None
unfolding clip_of
returns-in-None c = rw (rw c.in-None.is at (found (goal.at.returns-in-None c).After-look_along))

pub returns-in-Some : goal.returns-in-Some
unfolding clip_of
returns-in-Some c =
    let f = rw c.in-Some.is at (found (goal.at.returns-in-Some c).After-look_along) in
    let at = c.in-Some.at in
    let X = c.args.points.xs.now in
    let Y = c.args.points.ys.now in
    let p = point_at_lem X Y at.place.0 (rw c.requires.xs_length (inside (goal.at.returns-in-Some c).In-Some)) (c.requires.ys_length ∙ sym c.requires.xs_length) in
    let r = c.after_tones.ensures ∙ sym (f.1 c.args.register) in
    let t = c.clip_at.ensures ∙ ap (λ (q : Point). clip_against (point_of 2 (drawn 2 c.after_tones.result)) q) c.at-p.ensures in
    rw (f.0, p, ← r) t
