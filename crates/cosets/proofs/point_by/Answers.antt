-- `cosets::point_by` meets its contract: whatever label is found for the nearest point is a nearest label.
use Prim.Native.Nat.{◌+◌, ◌*◌, ◌/◌, ◌%◌}
use mathlib.Core.Path.{◌≡◌}
use mir.ValLaws.{to_z-of_z}
use mir.Syntax.{w16}
use native.Mathlib.Omega.{arith}
use Rattle.g9932.specs.Bits.{odd, weight}
use Rattle.g9932.proofs.Words.{weight_odd}
use Rattle.cosets.proofs.Labels.{raised_fits, label_nearest}
use Rattle.cosets.proofs.point_by.Goals as goal

pub returns : goal.returns
returns c =
    let fx = to_z-of_z w16 c.coordinate_at.result (raised_fits c.coordinate_at.result (2 * c.nearest-n.result.u + 1) c.coordinate_at.ensures (omega (arith, c.nearest-n.ensures.u_small))) in
    let fy = to_z-of_z w16 c.coordinate_at-2.result (raised_fits c.coordinate_at-2.result (2 * c.nearest-n.result.w + 1) c.coordinate_at-2.ensures (omega (arith, c.nearest-n.ensures.w_small))) in
    let e1 : c.args.low / 2 ≡ weight (odd (c.args.low / 2)) = omega (arith, weight_odd (c.args.low / 2), c.requires.1) in
    let e0 : c.args.low % 2 ≡ weight (odd c.args.low) = omega (arith, weight_odd c.args.low) in
    rw (fx, fy) (record {
      tone =
          λ b lb mb e p s.
          label_nearest (c.nearest-n.ensures.nearest b lb mb (c.shape_of.ensures.shaped b lb mb e) (odd (c.args.low / 2)) (odd c.args.low) e1 e0 p s)
          c.coordinate_at.result c.coordinate_at-2.result c.coordinate_at.ensures c.coordinate_at-2.ensures;
    })
