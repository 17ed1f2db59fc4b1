-- The parts of a job by place: whether one stands, and where.
use Rattle.std.proofs.Common.{◌≡◌, ℕ, ◌+◌, ◌-◌, ◌≤◌, List, length, true, arith}
use Rattle.std.specs.Prelude.{Some}
use Rattle.job.specs.Places.{four, stands, part_at, parts_of}
use Rattle.job.specs.declared.Part.{Part}
use Rattle.job.specs.declared.Parts.{Parts}

module _ (bs : List ℕ) (i x y : ℕ) where
  pub stands-long : stands bs i x y ≡ true → four bs (i + 2) + 6 ≤ length bs - i
  stands-long e = grind arith

  pub part-there : (p : Part) → part_at bs i x y ≡ Some p
      → (stands bs i x y ≡ true) × (p ≡ record { at = i + 6; size = four bs (i + 2) })
  unfolding part_at
  part-there p e = grind arith

  pub part_short : (p : Part) → part_at bs i x y ≡ Some p → p.size ≤ 65536
  part_short p e = grind (arith, part-there p e)

pub data_short : (bs : List ℕ) (p : Parts) → parts_of bs ≡ Some p → p.data_length ≤ 65536
unfolding parts_of
data_short bs p e = grind (arith, part_short)
