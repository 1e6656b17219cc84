-- `constellation::point_from_table` meets its contract: the table's rule at one entry.
use native.Mathlib.Omega.{arith}
use Prim.Native.Nat.{◌*◌, ◌%◌, ◌^◌, ◌≤◌}
use mathlib.Core.Path.{◌≡◌}
use lib.Pow.{pow_mono}
use Rattle.constellation.proofs.Lanes.{shl_one}
use Rattle.constellation.proofs.point_from_table.Goals as goal
use Rattle.constellation.proofs.point_from_table.Goals.{After-point_table-table}

-- 2 to the b, as the code has it
labels : (c : After-point_table-table) → (1 * 2 ^ c.args.b % 4294967296 ≡ 2 ^ c.args.b) × (2 ≤ 2 ^ c.args.b) × (2 ^ c.args.b ≤ 256)
labels c =
    let b = c.args.b in
    (shl_one b (omega arith), pow_mono {i = 1} {j = b} c.requires.0, pow_mono {i = b} {j = 8} c.requires.1)

pub overflow_sub-b : goal.overflow_sub-b
overflow_sub-b c = rw (labels c).0 (labels c).1
