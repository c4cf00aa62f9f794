-- How long blocks and files are: 512 bytes a block, whatever it holds, and at most 19 blocks a file of a table within the limits.
use Rattle.std.specs.Prelude.{◌≡◌, ℕ, ◌+◌, ◌*◌, ◌≤◌, List, length}
use Rattle.std.proofs.Common.{arith, length-append}
use Rattle.ground.specs.Bytes.{length_le, length_zeros}
use Rattle.ground.specs.Runs.{length_cat}
use Rattle.table.specs.Lent.{Lent, labels_of}
use Rattle.table.specs.Allowed.{Allowed}
use Rattle.file.specs.Block.{body_of, sealed, block_of}
use Rattle.file.specs.Layout.{Content, head, classes, edges, blocks_of, content_at, count_of, size_of, record_of, records_of, block_at, file_of}
use Rattle.file.specs.Reading.{file_limit}

pub length_body : (kind number count : ℕ) (records : List ℕ) → length records ≤ 502 → length (body_of kind number count records) ≡ 510
unfolding body_of
length_body kind number count records h = grind (arith, length-append, length_le, length_zeros)

pub length_block : (kind number count : ℕ) (records : List ℕ) → length records ≤ 502 → length (block_of kind number count records) ≡ 512
unfolding sealed
length_block kind number count records h = grind (arith, length-append, length_le, length_body kind number count records h)

-- a record has its kind's size, and the records of a block leave room for the check
pub length_record : (t : Lent) (content : Content) (i : ℕ) → length (record_of t content i) ≡ size_of content
length_record t head i = grind (arith, length-append, length_le)
length_record t (classes k) i = length_le 8 (labels_of t.labels (62 * k + i))
length_record t (edges k) i = grind (arith, length-append, length_le)

pub length_records : (t : Lent) (content : Content) → length (records_of t content) ≡ size_of content * count_of t.n t.m content
length_records t content = length_cat (count_of t.n t.m content) (size_of content) (record_of t content) (λ i h. length_record t content i)

pub records_fit : (n m : ℕ) (content : Content) → size_of content * count_of n m content ≤ 502
records_fit n m head = omega arith
records_fit n m (classes k) = grind arith
records_fit n m (edges k) = grind arith

pub length_block_at : (t : Lent) (b : ℕ) → length (block_at t b) ≡ 512
unfolding block_at
length_block_at t b = let c = content_at t.n b in
    length_block _ b _ (records_of t c) (omega (arith, length_records t c, records_fit t.n t.m c))

pub length_file : (t : Lent) → length (file_of t) ≡ 512 * blocks_of t.n t.m
unfolding file_of
length_file t = length_cat (blocks_of t.n t.m) 512 (block_at t) (λ b h. length_block_at t b)

pub file_within : (t : Lent) → Allowed t → length (file_of t) ≤ file_limit
file_within t a = omega (arith, length_file t, a.most_n, a.most_m)
