-- The layout's file of a table: a head, then the classes, then the edges, in blocks that are full but for the last of each kind.
use Rattle.std.specs.Prelude.{ℕ, ◌+◌, ◌*◌, ◌-◌, ◌/◌, Bool, true, false, List, ◌++◌, eqb, leb, min}
use Rattle.ground.specs.Bytes.{le}
use Rattle.ground.specs.Runs.{cat}
use Rattle.table.specs.Lent.{Lent, labels_of, source_of, role_of, target_of}
use Rattle.file.specs.Block.{block_of}

-- what a block holds: the counts, block k of the classes, or block k of the edges
pub data Content : Type 0 where
  head : Content
  classes : ℕ → Content
  edges : ℕ → Content

-- how many classes and how many edges a full block has
abbrev pub classes_in_block : ℕ
classes_in_block = 62

abbrev pub edges_in_block : ℕ
edges_in_block = 83

-- n / 62 and m / 83, rounded up; and all blocks of a file
abbrev pub class_blocks : ℕ → ℕ
class_blocks n = (n + (classes_in_block - 1)) / classes_in_block

abbrev pub edge_blocks : ℕ → ℕ
edge_blocks m = (m + (edges_in_block - 1)) / edges_in_block

abbrev pub blocks_of : ℕ → ℕ → ℕ
blocks_of n m = 1 + (class_blocks n + edge_blocks m)

-- block b of a file with n classes
abbrev choose {ℓ} : {A : Type ℓ} → Bool → A → A → A
choose true x y = x
choose false x y = y

unfoldable pub content_at : ℕ → ℕ → Content
content_at n b = choose (eqb b 0) head (choose (leb b (class_blocks n)) (classes (b - 1)) (edges (b - 1 - class_blocks n)))

abbrev pub kind_of : Content → ℕ
kind_of head = 1
kind_of (classes k) = 2
kind_of (edges k) = 3

-- how many records it has
abbrev pub count_of : ℕ → ℕ → Content → ℕ
count_of n m head = 1
count_of n m (classes k) = min classes_in_block (n - classes_in_block * k)
count_of n m (edges k) = min edges_in_block (m - edges_in_block * k)

-- of how many bytes each
abbrev pub size_of : Content → ℕ
size_of head = 8
size_of (classes k) = 8
size_of (edges k) = 6

-- the bytes of the counts, of class i and of edge i
abbrev pub counts_bytes : Lent → List ℕ
counts_bytes t = le 2 t.n ++ (le 2 t.m ++ (le 2 t.p ++ le 2 t.q))

abbrev pub class_bytes : List ℕ → ℕ → List ℕ
class_bytes ls i = le 8 (labels_of ls i)

abbrev pub edge_bytes : List ℕ → ℕ → List ℕ
edge_bytes es i = le 2 (source_of es i) ++ (le 2 (role_of es i) ++ le 2 (target_of es i))

-- record i of a block
abbrev pub record_of : Lent → Content → ℕ → List ℕ
record_of t head i = counts_bytes t
record_of t (classes k) i = class_bytes t.labels (classes_in_block * k + i)
record_of t (edges k) i = edge_bytes t.edges (edges_in_block * k + i)

abbrev pub records_of : Lent → Content → List ℕ
records_of t content = cat (count_of t.n t.m content) (record_of t content)

abbrev pub block_with : Lent → ℕ → Content → List ℕ
block_with t b content = block_of (kind_of content) b (count_of t.n t.m content) (records_of t content)

-- block b, and the file
unfoldable pub block_at : Lent → ℕ → List ℕ
block_at t b = block_with t b (content_at t.n b)

unfoldable pub file_of : Lent → List ℕ
file_of t = cat (blocks_of t.n t.m) (block_at t)
