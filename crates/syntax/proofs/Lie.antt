-- The places of every block that is read lie in the bytes.
use Prim.Native.Nat.{ℕ, zero, suc, ◌+◌, ◌*◌, ◌-◌, ◌≤◌, ◌<◌}
use native.Mathlib.Nat.{sub-zero, sub_self}
use native.Mathlib.Omega.{arith}
use mathlib.Core.Bool.{Bool, true, ◌&&◌}
use mathlib.Core.List.{List}
use mathlib.Core.Path.{◌≡◌, ap, ◌∙◌}
use lib.ListN.{length}
use Rattle.syntax.specs.Places.{record_end, record_ok, run, runs, block_with, block}
use Rattle.syntax.specs.declared.Block.{Block}
use Rattle.syntax.specs.declared.Run.{Run}
use Rattle.syntax.specs.declared.Record.{Record}
use Rattle.syntax.specs.declared.Record.TheVariants.{Rw, Cd, Ol, Bk}
use Rattle.syntax.proofs.Laws.{on, record_in, end_is, block_is, block_bare, with_bare}

-- n records r from place i on, each well formed
unfoldable pub records_ok : Record → List ℕ → (n i : ℕ) → Bool
records_ok r bs zero i = true
records_ok r bs (suc n) i = record_ok r bs i && records_ok r bs n (record_end r bs i)

-- the places of a block lie in the bytes
pub record Lies (bs : List ℕ) (b : Block) : Type 0 where
  pub rows : records_ok Rw bs b.rows b.rows_at ≡ true
  pub conditions : records_ok Cd bs b.conditions b.conditions_at ≡ true
  pub outputs : b.outputs_at + 9 * b.outputs ≤ length bs

run-count : (f : ℕ) (r : Record) (bs : List ℕ) (n i : ℕ) → n ≤ (run f r bs n i).count
unfolding run
run-count zero r bs n i = omega arith
run-count (suc f) r bs n i =
    on (record_ok r bs i) (λ e. rw e (let h = run-count f r bs (n + 1) (record_end r bs i) in omega arith))
    (λ e. rw e (omega arith))

-- every record of a run is well formed
pub run_ok : (f : ℕ) (r : Record) (bs : List ℕ) (n i : ℕ) → records_ok r bs ((run f r bs n i).count - n) i ≡ true
unfolding run records_ok
run_ok zero r bs n i = simp sub_self
run_ok (suc f) r bs n i =
    on (record_ok r bs i)
    (λ e.
    let j = record_end r bs i in
    let h = run-count f r bs (n + 1) j in
    let z : (run f r bs (n + 1) j).count - n ≡ suc ((run f r bs (n + 1) j).count - (n + 1)) = omega arith in
    rw (e, z, e) (run_ok f r bs (n + 1) j))
    (λ e. simp (e, sub_self))

runs_ok : (r : Record) (bs : List ℕ) (i : ℕ) → records_ok r bs (runs r bs i).count i ≡ true
runs_ok r bs i = rw sub-zero at (run_ok (length bs) r bs 0 i)

with_lies : (bs : List ℕ) (i : ℕ) (r c : Run) → records_ok Rw bs r.count (i + 3) ≡ true
    → records_ok Cd bs c.count r.at ≡ true → record_ok Ol bs c.at ≡ true → Lies bs (block_with bs i r c)
with_lies bs i r c h k e =
    rw e (record {
      rows = h;
      conditions = k;
      outputs = let g = record_in Ol bs c.at e in
          omega (arith, end_is Ol bs c.at);
    })

pub block_lies : (bs : List ℕ) (i : ℕ) → 0 < (block bs i).end → Lies bs (block bs i)
block_lies bs i h =
    on (record_ok Bk bs i)
    (λ e.
    let r = runs Rw bs (i + 3) in
    let c = runs Cd bs r.at in
    on (record_ok Ol bs c.at)
    (λ k. rw (block_is bs i e) (with_lies bs i r c (runs_ok Rw bs (i + 3)) (runs_ok Cd bs r.at) k))
    (λ k. let n : (block bs i).end ≡ 0 = ap (λ (b : Block). b.end) (block_is bs i e ∙ with_bare bs i r c k) in
    absurd (omega arith)))
    (λ e. let n : (block bs i).end ≡ 0 = ap (λ (b : Block). b.end) (block_bare bs i e) in absurd (omega arith))
