-- The question's bytes read by place, as the code walks them. That this is the model's reading is proved (proofs/Whole:
-- `formed-is`, `read_is`, `count_is`, `within_is`); what the descriptions mean is in Described.
--   byte_at bs i           the byte at place i, 0 past the end; word_at bs i: the eight bytes from i on, lowest first
--   item_at bs i           the element at place i: its kind, its argument as a number and by bytes
--   head_at bs i           its kind and its argument as a number alone
--   takes r k             record r takes kind k; a record is named by its mark: Rw, Cd, Ol, Bk, En
--   argument_ok k a f c z  kind k takes the argument
--   element_ok r bs i      an element of record r stands at i; elements_ok r bs n i: n of them
--   head_of r              the bytes of a record before its elements; entries_of r bs i: how many elements follow
--   record_ok r bs i       record r stands at i, whole and well formed; record_end r bs i: the place after it
--   condition_end bs i     the place after the condition at i; i itself past the end, where a walk stops
--   run f r bs n i        as many records r as stand from i on, n before them: how many, and where they end
--   block bs i            the description of the block at i, its end 0 where none stands
--   block_within b         the limits of number 6 on one block
--   walk f bs q           as many blocks as stand from the end of q on, put into q, which keeps the first five
--   reading bs            the blocks that stand in bs; well_formed bs: EN and nothing else follows them
use Rattle.std.specs.Prelude.{ℕ, zero, suc, ◌+◌, ◌*◌, ◌-◌, Bool, true, false, ◌&&◌, ◌||◌, cond, List, [], ◌∷◌, eqb, ltb, leb, length, get_or, set}
use Rattle.syntax.specs.declared.Run.{Run}
use Rattle.syntax.specs.declared.Item.{Item}
use Rattle.syntax.specs.declared.Head.{Head}
use Rattle.syntax.specs.declared.Block.{Block}
use Rattle.syntax.specs.declared.Record.{Record}
use Rattle.syntax.specs.declared.Record.TheVariants.{Rw, Cd, Ol, Bk, En}
use Rattle.syntax.specs.declared.Question.{Question}

abbrev pub byte_at : List ℕ → ℕ → ℕ
byte_at bs i = get_or bs i 0

abbrev pub left : List ℕ → ℕ → ℕ
left bs i = length bs - i

-- the eight bytes from i on, lowest first
abbrev pub word_at : List ℕ → ℕ → ℕ
word_at s i =
    ((((((get_or s (i + 7) 0 * 256 + get_or s (i + 6) 0) * 256 + get_or s (i + 5) 0) * 256 + get_or s (i + 4) 0) * 256
    + get_or s (i + 3) 0) * 256 + get_or s (i + 2) 0) * 256 + get_or s (i + 1) 0) * 256 + get_or s i 0

abbrev pub item_at : List ℕ → ℕ → Item
item_at bs i =
    record {
      kind = byte_at bs i;
      argument = word_at bs (i + 1);
      function = byte_at bs (i + 1);
      block = byte_at bs (i + 2);
      column = byte_at bs (i + 3);
    }

-- the kind and the argument of the element at i
abbrev pub head_at : List ℕ → ℕ → Head
head_at bs i = record { argument = (item_at bs i).argument; kind = (item_at bs i).kind }

abbrev pub takes : Record → ℕ → Bool
takes Rw k = ltb k 4
takes Cd k = ltb 0 k && ltb k 5
takes Ol k = eqb k 2 || eqb k 4
takes Bk k = false
takes En k = false

abbrev pub five_zeros : List ℕ → ℕ → Bool
five_zeros bs i =
    eqb (byte_at bs i) 0 && eqb (byte_at bs (i + 1)) 0 && eqb (byte_at bs (i + 2)) 0 && eqb (byte_at bs (i + 3)) 0
    && eqb (byte_at bs (i + 4)) 0

-- kind k takes the argument a, whose bytes 0 and 2 are f and c, where z tells that its bytes 3 to 7 are 0
abbrev pub argument_ok : (k a f c : ℕ) → Bool → Bool
argument_ok k a f c z =
    (eqb k 0 && eqb a 0) || (ltb 0 k && ltb k 4) || (eqb k 4 && ltb f 5 && (z && (ltb 0 f || eqb c 0)))

unfoldable pub element_ok : Record → List ℕ → ℕ → Bool
element_ok r bs i =
    takes r (byte_at bs i)
    && argument_ok (byte_at bs i) (word_at bs (i + 1)) (byte_at bs (i + 1)) (byte_at bs (i + 3)) (five_zeros bs (i + 4))

-- n elements from i on
unfoldable pub elements_ok : Record → List ℕ → ℕ → ℕ → Bool
elements_ok r bs zero i = true
elements_ok r bs (suc n) i = element_ok r bs i && elements_ok r bs n (i + 9)

-- the two bytes of a record's mark
abbrev pub is_mark : Record → ℕ → ℕ → Bool
is_mark Rw x y = eqb x 82 && eqb y 87
is_mark Cd x y = eqb x 67 && eqb y 68
is_mark Ol x y = eqb x 79 && eqb y 76
is_mark Bk x y = eqb x 66 && eqb y 75
is_mark En x y = eqb x 69 && eqb y 78

-- a record is a mark and bytes, its head, and elements
abbrev pub head_of : Record → ℕ
head_of Rw = 4
head_of Cd = 3
head_of Ol = 3
head_of Bk = 3
head_of En = 2

abbrev pub entries_of : Record → List ℕ → ℕ → ℕ
entries_of Rw bs i = byte_at bs (i + 3)
entries_of Cd bs i = 2
entries_of Ol bs i = byte_at bs (i + 2)
entries_of Bk bs i = 0
entries_of En bs i = 0

-- a condition's operator is below 6
abbrev pub operator_ok : Record → ℕ → Bool
operator_ok Rw o = true
operator_ok Cd o = ltb o 6
operator_ok Ol o = true
operator_ok Bk o = true
operator_ok En o = true

unfoldable pub head_ok : Record → List ℕ → ℕ → Bool
head_ok r bs i = is_mark r (byte_at bs i) (byte_at bs (i + 1)) && operator_ok r (byte_at bs (i + 2))

unfoldable pub record_end : Record → List ℕ → ℕ → ℕ
record_end r bs i = i + head_of r + 9 * entries_of r bs i

-- the step of every walk over conditions
unfoldable pub condition_end : List ℕ → ℕ → ℕ
condition_end bs i = cond (ltb i (length bs)) (record_end Cd bs i) i

-- a record r stands at i, well formed
unfoldable pub record_ok : Record → List ℕ → ℕ → Bool
record_ok r bs i =
    leb (head_of r) (left bs i)
    && (leb (record_end r bs i) (length bs)
    && (head_ok r bs i && elements_ok r bs (entries_of r bs i) (i + head_of r)))

-- as many records r as stand from i on, n of them before: where they end, and how many they are
unfoldable pub run : ℕ → Record → List ℕ → ℕ → ℕ → Run
run zero r bs n i = record { at = i; count = n }
run (suc f) r bs n i = cond (record_ok r bs i) (run f r bs (n + 1) (record_end r bs i)) (record { at = i; count = n })

abbrev pub runs : Record → List ℕ → ℕ → Run
runs r bs i = run (length bs) r bs 0 i

abbrev pub no_block : Block
no_block =
    record {
      parent = 0;
      rows_at = 0;
      rows = 0;
      conditions_at = 0;
      conditions = 0;
      outputs_at = 0;
      outputs = 0;
      end = 0;
    }

-- a block at i, well formed where its end is not 0
abbrev pub block_with : List ℕ → ℕ → Run → Run → Block
block_with bs i r c =
    cond (record_ok Ol bs c.at)
    (record {
      parent = byte_at bs (i + 2);
      rows_at = i + 3;
      rows = r.count;
      conditions_at = r.at;
      conditions = c.count;
      outputs_at = c.at + 3;
      outputs = byte_at bs (c.at + 2);
      end = record_end Ol bs c.at;
    })
    no_block

unfoldable pub block : List ℕ → ℕ → Block
block bs i = cond (record_ok Bk bs i) (block_with bs i (runs Rw bs (i + 3)) (runs Cd bs (runs Rw bs (i + 3)).at)) no_block

abbrev pub block_within : Block → Bool
block_within b = ltb b.rows 4 && ltb b.conditions 9 && ltb 0 b.outputs && ltb b.outputs 5

unfoldable pub put : Question → Block → Question
put q b =
    record {
      blocks = cond (ltb q.count 5) (set q.blocks q.count b) q.blocks;
      count = q.count + 1;
      within = q.within && block_within b;
      end = b.end;
    }

-- as many blocks as stand from the end of q on
unfoldable pub walk : ℕ → List ℕ → Question → Question
walk zero bs q = q
walk (suc f) bs q = cond (eqb (block bs q.end).end 0) q (walk f bs (put q (block bs q.end)))

abbrev pub no_question : Question
no_question = record { blocks = no_block ∷ no_block ∷ no_block ∷ no_block ∷ no_block ∷ []; count = 0; within = true; end = 0 }

unfoldable pub reading : List ℕ → Question
reading bs = walk (length bs) bs no_question

-- 5
unfoldable pub well_formed : List ℕ → Bool
well_formed bs = record_ok En bs (reading bs).end && eqb (record_end En bs (reading bs).end) (length bs)
