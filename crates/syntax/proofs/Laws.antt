-- One turn of each loop, over plain values.
use Prim.Native.Nat.{ℕ, zero, suc, ◌+◌, ◌*◌, ◌-◌, ◌≤◌, ◌<◌}
use native.Mathlib.Nat.{sub-zero}
use native.Mathlib.Omega.{arith}
use mathlib.Core.Bool.{Bool, true, false, ◌&&◌, cond}
use mathlib.Core.List.{List}
use mathlib.Core.Path.{◌≡◌, refl, sym, ap, ◌∙◌, subst}
use lib.Dec.{T, leb, ltb}
use lib.ListN.{length, get_or-eq_default, set, length-set}
use Rattle.std.specs.List.{list_all, range_with_len}
use Rattle.syntax.specs.Places.{byte_at, element_ok}
use Rattle.syntax.specs.Places.{elements_ok, head_of, entries_of, head_ok, record_ok, record_end, run, runs, no_block}
use Rattle.syntax.specs.Places.{no_question, block_with, block, put, walk, reading}
use Rattle.syntax.specs.declared.Block.{Block}
use Rattle.syntax.specs.declared.Question.{Question}
use Rattle.syntax.specs.declared.Record.{Record}
use Rattle.syntax.specs.declared.Record.TheVariants.{Rw, Cd, Ol, Bk, En}
use Rattle.syntax.specs.declared.Run.{Run}
use borrow.Author.Tests.{leb-true, lt-leb, le-leb, ne_eqb, eq-eqb}

-- past the end every byte reads 0, and so does an element
pub byte_past : (bs : List ℕ) (i : ℕ) → length bs ≤ i → 0 ≡ byte_at bs i
byte_past bs i h = sym (get_or-eq_default bs 0 h)

-- n elements are well formed where each of them is
elements_each : (r : Record) (bs : List ℕ) (n k i : ℕ)
    → list_all (λ j. element_ok r bs (i + 9 * j)) (range_with_len k n) ≡ elements_ok r bs n (i + 9 * k)
unfolding elements_ok
elements_each r bs zero k i = refl
elements_each r bs (suc n) k i =
    let e : i + 9 * (k + 1) ≡ i + 9 * k + 9 = omega arith in
    ap (λ b. element_ok r bs (i + 9 * k) && b) (elements_each r bs n (k + 1) i ∙ ap (elements_ok r bs n) e)

pub elements_all : (r : Record) (bs : List ℕ) (n i : ℕ)
    → list_all (λ j. element_ok r bs (i + 9 * j)) (range_with_len 0 n) ≡ elements_ok r bs n i
elements_all r bs n i = let z : i + 9 * 0 ≡ i = omega arith in elements_each r bs n 0 i ∙ ap (elements_ok r bs n) z

-- ---- records
pub record_short : (r : Record) (bs : List ℕ) (i : ℕ) → length bs - i < head_of r → record_ok r bs i ≡ false
unfolding record_ok
record_short r bs i h = simp (lt-leb (head_of r) (length bs - i) h)

pub record_cut : (r : Record) (bs : List ℕ) (i : ℕ) → head_of r ≤ length bs - i → length bs < record_end r bs i
    → record_ok r bs i ≡ false
unfolding record_ok
record_cut r bs i h k = simp (le-leb (head_of r) (length bs - i) h, lt-leb (record_end r bs i) (length bs) k)

pub record_whole : (r : Record) (bs : List ℕ) (i : ℕ) → head_of r ≤ length bs - i → record_end r bs i ≤ length bs
    → record_ok r bs i ≡ head_ok r bs i && elements_ok r bs (entries_of r bs i) (i + head_of r)
unfolding record_ok
record_whole r bs i h k = simp (le-leb (head_of r) (length bs - i) h, le-leb (record_end r bs i) (length bs) k)

pub both : (a b : Bool) → a && b ≡ true → (a ≡ true) × (b ≡ true)
both true b e = (refl, e)
both false b e = absurd (subst T (sym e) tt)

pub head-size : (r : Record) → (2 ≤ head_of r) × (head_of r ≤ 4)
head-size Rw = (omega arith, omega arith)
head-size Cd = (omega arith, omega arith)
head-size Ol = (omega arith, omega arith)
head-size Bk = (omega arith, omega arith)
head-size En = (omega arith, omega arith)

pub end_is : (r : Record) (bs : List ℕ) (i : ℕ) → record_end r bs i ≡ i + head_of r + 9 * entries_of r bs i
unfolding record_end
end_is r bs i = refl

-- a well-formed record lies in the bytes
pub record_in : (r : Record) (bs : List ℕ) (i : ℕ) → record_ok r bs i ≡ true
    → (i + head_of r ≤ record_end r bs i) × (record_end r bs i ≤ length bs) × (2 ≤ head_of r)
unfolding record_ok
record_in r bs i e =
    let p = both (leb (head_of r) (length bs - i)) _ e in
    let q = leb-true (record_end r bs i) (length bs) (both _ _ p.1).0 in
    (omega (arith, end_is r bs i), q, (head-size r).0)

-- ---- records of one mark
pub run_turn : (f : ℕ) (r : Record) (bs : List ℕ) (n i : ℕ) → 0 < f → record_ok r bs i ≡ true
    → run f r bs n i ≡ run (f - 1) r bs (n + 1) (record_end r bs i)
unfolding run
run_turn zero r bs n i h e = absurd (omega arith)
run_turn (suc f) r bs n i h e = let p : suc f - 1 ≡ f = omega arith in simp (e, p)

-- the same among the records of all the bytes, e where the record read ends
pub run_turned : (r : Record) (bs : List ℕ) (n i : ℕ) → n < length bs → record_ok r bs i ≡ true → {e : ℕ}
    → e ≡ record_end r bs i → run (length bs - (n + 1)) r bs (n + 1) e ≡ run (length bs - n) r bs n i
run_turned r bs n i h k g =
    let p : length bs - (n + 1) ≡ length bs - n - 1 = omega arith in
    (λ j. run (p j) r bs (n + 1) (g j)) ∙ sym (run_turn (length bs - n) r bs n i (omega arith) k)

pub run_done : (f : ℕ) (r : Record) (bs : List ℕ) (n i : ℕ) → record_ok r bs i ≡ false
    → run f r bs n i ≡ record { at = i; count = n }
unfolding run
run_done zero r bs n i e = refl
run_done (suc f) r bs n i e = simp e

pub on : {P : Type 0} (b : Bool) → (b ≡ true → P) → (b ≡ false → P) → P
on true f g = f refl
on false f g = g refl

pub run_in : (f : ℕ) (r : Record) (bs : List ℕ) (n i : ℕ) → i ≤ length bs
    → (i ≤ (run f r bs n i).at) × ((run f r bs n i).at ≤ length bs)
unfolding run
run_in zero r bs n i h = (omega arith, h)
run_in (suc f) r bs n i h =
    on (record_ok r bs i)
    (λ e. let g = record_in r bs i e in let k = run_in f r bs (n + 1) (record_end r bs i) g.1 in
    rw e (omega arith, k.1))
    (λ e. rw e (omega arith, h))

-- ---- a block
pub block_bare : (bs : List ℕ) (i : ℕ) → record_ok Bk bs i ≡ false → block bs i ≡ no_block
unfolding block
block_bare bs i e = simp e

pub block_is : (bs : List ℕ) (i : ℕ) → record_ok Bk bs i ≡ true
    → block bs i ≡ block_with bs i (runs Rw bs (i + 3)) (runs Cd bs (runs Rw bs (i + 3)).at)
unfolding block
block_is bs i e = simp e

-- the same from what is read: a run of rows and the run of conditions after it
pub block_read : (bs : List ℕ) (i : ℕ) → record_ok Bk bs i ≡ true → {r c : Run} → r ≡ runs Rw bs (i + 3)
    → c ≡ runs Cd bs r.at → block_with bs i r c ≡ block bs i
block_read bs i k f g =
    (λ j. block_with bs i (f j) ((g ∙ ap (λ (r : Run). runs Cd bs r.at) f) j)) ∙ sym (block_is bs i k)

pub with_bare : (bs : List ℕ) (i : ℕ) (r c : Run) → record_ok Ol bs c.at ≡ false → block_with bs i r c ≡ no_block
with_bare bs i r c e = simp e

pub with_end : (bs : List ℕ) (i : ℕ) (r c : Run) → record_ok Ol bs c.at ≡ true
    → (block_with bs i r c).end ≡ record_end Ol bs c.at
with_end bs i r c e = simp e

-- a well-formed block lies in the bytes
pub block_in : (bs : List ℕ) (i : ℕ) → 0 < (block bs i).end → (i < (block bs i).end) × ((block bs i).end ≤ length bs)
block_in bs i h =
    on (record_ok Bk bs i)
    (λ e.
    let g = record_in Bk bs i e in
    let r = runs Rw bs (i + 3) in
    let c = runs Cd bs r.at in
    let p = run_in (length bs) Rw bs 0 (i + 3) (omega arith) in
    let q = run_in (length bs) Cd bs 0 r.at p.1 in
    on (record_ok Ol bs c.at)
    (λ k. let m = record_in Ol bs c.at k in
    let n : (block bs i).end ≡ record_end Ol bs c.at =
    ap (λ (b : Block). b.end) (block_is bs i e) ∙ with_end bs i r c k in (omega arith, omega arith))
    (λ k. let n : (block bs i).end ≡ 0 = ap (λ (b : Block). b.end) (block_is bs i e ∙ with_bare bs i r c k) in
    absurd (omega arith)))
    (λ e. let n : (block bs i).end ≡ 0 = ap (λ (b : Block). b.end) (block_bare bs i e) in absurd (omega arith))

-- ---- blocks
-- the block of `Block::default`
pub default_is : (b : Block)
    → (b.parent ≡ 0)
    × ((b.rows_at ≡ 0)
    × ((b.rows ≡ 0)
    × ((b.conditions_at ≡ 0) × ((b.conditions ≡ 0) × ((b.outputs_at ≡ 0) × ((b.outputs ≡ 0) × (b.end ≡ 0)))))))
    → b ≡ no_block
default_is b e = λ j. record {
  parent = e.0 j;
  rows_at = e.1.0 j;
  rows = e.1.1.0 j;
  conditions_at = e.1.1.1.0 j;
  conditions = e.1.1.1.1.0 j;
  outputs_at = e.1.1.1.1.1.0 j;
  outputs = e.1.1.1.1.1.1.0 j;
  end = e.1.1.1.1.1.1.1 j;
}

pub walk_turn : (f : ℕ) (bs : List ℕ) (q : Question) → 0 < f → 0 < (block bs q.end).end
    → walk f bs q ≡ walk (f - 1) bs (put q (block bs q.end))
unfolding walk
walk_turn zero bs q h k = absurd (omega arith)
walk_turn (suc f) bs q h k = let p : suc f - 1 ≡ f = omega arith in
    simp (ne_eqb (block bs q.end).end 0 (λ e. omega arith), p)

pub walk_done : (f : ℕ) (bs : List ℕ) (q : Question) → (block bs q.end).end ≤ 0 → walk f bs q ≡ q
unfolding walk
walk_done zero bs q k = refl
walk_done (suc f) bs q k = simp (eq-eqb (block bs q.end).end 0 (omega arith))

pub put-long : (q : Question) (b : Block) → length q.blocks ≡ 5 → length (put q b).blocks ≡ 5
unfolding put
put-long q b h = go (ltb q.count 5)
  where
    go : (t : Bool) → length (cond t (set q.blocks q.count b) q.blocks) ≡ 5
    go true = simp length-set h
    go false = h

pub with_some : (bs : List ℕ) (i : ℕ) (r c : Run) (o e : ℕ) → record_ok Ol bs c.at ≡ true → o ≡ byte_at bs (c.at + 2)
    → e ≡ record_end Ol bs c.at
    → record {
      parent = byte_at bs (i + 2);
      rows_at = i + 3;
      rows = r.count;
      conditions_at = r.at;
      conditions =
          c.count;
      outputs_at = c.at + 3;
      outputs = o;
      end = e;
    } ≡ block_with bs i r c
with_some bs i r c o e k g h = rw (g, h, k)

-- where the loop over the blocks stands: q is read
pub record Walked (s : List ℕ) (q : Question) : Type 0 where
  pub long : length q.blocks ≡ 5
  pub few : q.count ≤ q.end
  pub within : q.end ≤ length s
  pub rest : walk (length s - q.count) s q ≡ reading s

pub put_end : (q : Question) (b : Block) → (put q b).end ≡ b.end
unfolding put
put_end q b = refl

pub put_count : (q : Question) (b : Block) → (put q b).count ≡ q.count + 1
unfolding put
put_count q b = refl

-- one block more, b, which stands where q ends
module _ (s : List ℕ) (q : Question) (b : Block) (w : Walked s q) (e : b ≡ block s q.end) (h : 0 < b.end) where
  pub walked-in : (q.end < b.end) × (b.end ≤ length s)
  walked-in = let k : 0 < (block s q.end).end = rw e at h in rw e (block_in s q.end k)

  pub walked-turn : Walked s (put q b)
  walked-turn =
      let g = walked-in in
      let x = put_end q b in
      let y = put_count q b in
      let k : 0 < (block s q.end).end = rw e at h in
      let l = w.few in
      let z : length s - (put q b).count ≡ length s - q.count - 1 = omega arith in
      record {
        long = put-long q b w.long;
        few = omega arith;
        within = omega arith;
        rest = cc (walk_turn (length s - q.count) s q (omega arith) k, e, w.rest);
      }

pub walked_start : (s : List ℕ) → Walked s no_question
unfolding reading
walked_start s = record { long = refl; few = omega arith; within = omega arith; rest = simp sub-zero }

pub walked_done : (s : List ℕ) (q : Question) → Walked s q → (block s q.end).end ≡ 0 → q ≡ reading s
walked_done s q w h = sym (walk_done (length s - q.count) s q (omega arith)) ∙ w.rest
