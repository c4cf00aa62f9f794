-- The limits of a table, and the lengths of lent buffers that follow from them. The code's are the constants of `Table`,
-- and the contracts of `Table::limits` and `Table::lengths` pin each to the number here.
use Rattle.std.specs.Prelude.{ℕ}
use Rattle.table.specs.declared.Table.{Table}
use Rattle.table.specs.declared.Lengths.{Lengths}

abbrev pub class_limit : ℕ
class_limit = 256

abbrev pub edge_limit : ℕ
edge_limit = 1024

abbrev pub label_limit : ℕ
label_limit = 64

abbrev pub role_limit : ℕ
role_limit = 64

-- one word of labels for each class
abbrev pub labels_length : ℕ
labels_length = 256

-- source, role and target for each edge
abbrev pub edges_length : ℕ
edges_length = 3072

-- four words for each row
abbrev pub relation_length : ℕ
relation_length = 1024

abbrev pub limits : Table
limits = record { n = class_limit; m = edge_limit; p = label_limit; q = role_limit }

abbrev pub lengths : Lengths
lengths = record { labels = labels_length; edges = edges_length; relation = relation_length }
