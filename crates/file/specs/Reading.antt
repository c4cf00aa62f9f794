-- What stands in a byte string that is read as a file, and what is wrong with it, in the order of the checks: 1, 2, 3 for block 0, 4, 3 for the formula,
-- 3 for the other blocks, 5, 6, 7.
use Rattle.std.specs.Prelude.{ℕ, ◌+◌, ◌*◌, ◌-◌, ◌/◌, ◌%◌, Bool, not, ◌&&◌, ◌||◌, List, length, eqb, ltb}
use Rattle.ground.specs.Lists.{part, tabulate}
use Rattle.ground.specs.Bytes.{blank, num, word}
use Rattle.table.specs.Limits.{class_limit, edge_limit}
use Rattle.table.specs.Answer.{Outcome, refuse, refuse_first, ◌then◌}
use Rattle.table.specs.Lent.{Lent}
use Rattle.table.specs.Check.{over_limit, contents_of}
use Rattle.table.specs.declared.Refusal.TheVariants.{BadLength, BadCheck, BadBlock, OverLimit}
use Rattle.file.specs.Block.{check_of_block}
use Rattle.file.specs.Layout.{Content, classes_in_block, edges_in_block, class_blocks, blocks_of, content_at, kind_of, count_of, size_of}

-- the length of the longest file
abbrev pub file_limit : ℕ
file_limit = 512 * blocks_of class_limit edge_limit

-- ---- what stands where

unfoldable pub block : List ℕ → ℕ → List ℕ
block f b = part f (512 * b) 512

abbrev pub blocks_in : List ℕ → ℕ
blocks_in f = length f / 512

-- the label set of class i: record i % 62 of block i / 62 of the classes
unfoldable pub label_in : List ℕ → ℕ → ℕ
label_in f i = num (part f (512 * (1 + i / classes_in_block) + (8 + 8 * (i % classes_in_block))) 8)

-- number i of the edges, three to an edge, in a file with n classes
unfoldable pub number_in : List ℕ → ℕ → ℕ → ℕ
number_in f n i = word f (512 * (1 + class_blocks n + i / (3 * edges_in_block)) + (8 + 2 * (i % (3 * edges_in_block))))

-- the table, by the counts of the head
abbrev pub table_with : List ℕ → ℕ → ℕ → ℕ → ℕ → Lent
table_with f n m p q = record { n = n; m = m; p = p; q = q; labels = tabulate n (label_in f); edges = tabulate (3 * m) (number_in f n) }

abbrev pub table_in : List ℕ → Lent
table_in f = table_with f (word f 8) (word f 10) (word f 12) (word f 14)

-- ---- what is wrong

-- 1: the length is 0, not a multiple of 512, or above that of the longest file
abbrev pub length_wrong : List ℕ → Bool
length_wrong f = eqb (length f) 0 || (not (eqb (length f % 512) 0) || ltb file_limit (length f))

-- 2: the check of block b
unfoldable pub check_wrong : List ℕ → ℕ → Bool
check_wrong f b = not (eqb (check_of_block (block f b)) (word (block f b) 510))

-- 3: kind, number, count of records, bytes 6 and 7, or a byte past the records
unfoldable pub shape_right : ℕ → ℕ → ℕ → ℕ → List ℕ → Bool
shape_right kind number count used bytes =
    eqb (word bytes 0) kind && (eqb (word bytes 2) number && (eqb (word bytes 4) count && (eqb (word bytes 6) 0 && blank (part bytes (8 + used) (502 - used)))))

abbrev pub content_right : ℕ → ℕ → ℕ → Content → List ℕ → Bool
content_right n m b content = shape_right (kind_of content) b (count_of n m content) (size_of content * count_of n m content)

-- of block 0, and of block b in a file with n classes and m edges
unfoldable pub head_wrong : List ℕ → Bool
head_wrong f = not (shape_right 1 0 1 8 (block f 0))

unfoldable pub block_wrong : List ℕ → ℕ → ℕ → ℕ → Bool
block_wrong f n m b = not (content_right n m b (content_at n b) (block f b))

-- ---- the checks in their order

-- 4, 3 for the formula and for the other blocks, 5, 6, 7: by the table in the file
abbrev pub table_wrong : List ℕ → Lent → Outcome
table_wrong f t =
    refuse (over_limit t.n t.m t.p t.q) OverLimit then
    refuse (not (eqb (blocks_in f) (blocks_of t.n t.m))) (BadBlock 0) then
    refuse_first (blocks_in f) (block_wrong f t.n t.m) BadBlock then
    contents_of t

unfoldable pub wrong_with : List ℕ → Outcome
wrong_with f =
    refuse (length_wrong f) BadLength then
    refuse_first (blocks_in f) (check_wrong f) BadCheck then
    refuse (head_wrong f) (BadBlock 0) then
    table_wrong f (table_in f)
