-- `plain_mapper::low_label` meets its contract: the place in the block, as seen from the corner.
use mathlib.Core.Path.{◌≡◌, ap, ◌∙◌}
use lib.IntN.{◌-ℤ◌}
use mir.Syntax.{w16}
use mir.Val.{SFits}
use mir.ValLaws.{to_z-of_z}
use Rattle.g9932.specs.Plain.{corner_at}
use Rattle.g9932.specs.Sizes.{Point, point}
use Rattle.plain_mapper.proofs.Signed.{apart_fits}
use Rattle.plain_mapper.proofs.Places.{low_seen}
use Rattle.std.proofs.Common.{rules}
use Rattle.plain_mapper.proofs.low_label.Goals as goal
use Rattle.plain_mapper.proofs.low_label.Goals.{Start}

right_fits : (s : Start) → SFits w16 (s.args.p.x -ℤ s.args.corner.x)
right_fits s =
    let e : s.args.corner.x ≡ corner_at s.args.p.x = ap (λ (q : Point). q.px) s.requires in
    rw e (apart_fits s.args.p.x (search rules))

up_fits : (s : Start) → SFits w16 (s.args.p.y -ℤ s.args.corner.y)
up_fits s =
    let e : s.args.corner.y ≡ corner_at s.args.p.y = ap (λ (q : Point). q.py) s.requires in
    rw e (apart_fits s.args.p.y (search rules))

pub returns : goal.returns
returns c =
    let r = rw (
      to_z-of_z w16 c.args.p.x (search rules),
      to_z-of_z w16 c.args.corner.x (search rules),
      to_z-of_z w16 (c.args.p.x -ℤ c.args.corner.x) (right_fits (goal.at.returns c).Start),
      to_z-of_z w16 c.args.p.y (search rules),
      to_z-of_z w16 c.args.corner.y (search rules),
      to_z-of_z w16 (c.args.p.y -ℤ c.args.corner.y) (up_fits (goal.at.returns c).Start),
    ) at c.place_in_block.ensures in
    r ∙ low_seen (point c.args.p.x c.args.p.y) (point c.args.corner.x c.args.corner.y) c.requires
