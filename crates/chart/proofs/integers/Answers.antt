-- The library's order of two integers tells how they stand.
use mir.Facts.{to_z-of_z}
use Rattle.chart.proofs.Orders.{stands}
use Rattle.chart.proofs.integers.Goals as goal

pub returns-in-Less : goal.returns-in-Less
returns-in-Less c = stands (to_z-of_z c.ranges.x) (to_z-of_z c.ranges.y) c.cmp.ensures c.in-Less.is

pub returns-in-Equal : goal.returns-in-Equal
returns-in-Equal c = stands (to_z-of_z c.ranges.x) (to_z-of_z c.ranges.y) c.cmp.ensures c.in-Equal.is

pub returns-in-Greater : goal.returns-in-Greater
returns-in-Greater c = stands (to_z-of_z c.ranges.x) (to_z-of_z c.ranges.y) c.cmp.ensures c.in-Greater.is
