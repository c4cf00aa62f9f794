-- What is wrong with a table in memory, in the order of the checks: 9, 4, 5, 6, 7; and with two classes asked for: 8.
use Rattle.std.specs.Prelude.{ℕ, ◌-◌, ◌/◌, ◌^◌, Bool, not, ◌&&◌, ◌||◌, List, length, get_or, eqb, leb, ltb}
use Rattle.table.specs.Limits.{class_limit, edge_limit, label_limit, role_limit, labels_length, edges_length}
use Rattle.table.specs.Answer.{Outcome, refuse, refuse_first, ◌then◌}
use Rattle.table.specs.Lent.{Lent, labels_of, source_of, role_of, target_of}
use Rattle.table.specs.declared.Refusal.TheVariants.{OverLimit, LabelOutOfRange, EdgeOutOfRange, NotAscending, NoSuchClass, ShortBuffer}
use Rattle.table.specs.declared.Edge.{Edge}

-- 9: a lent buffer is below its length
abbrev pub too_short : Lent → Bool
too_short t = ltb (length t.labels) labels_length || ltb (length t.edges) edges_length

-- 4: n, m, p or q is above its limit
abbrev pub over_limit : ℕ → ℕ → ℕ → ℕ → Bool
over_limit n m p q = ltb class_limit n || (ltb edge_limit m || (ltb label_limit p || ltb role_limit q))

-- 5: the label set x has a label p or above
abbrev pub label_over : ℕ → ℕ → Bool
label_over p x = not (eqb (x / 2 ^ p) 0)

-- 6: an edge has source or target n or above, or role q or above
abbrev pub outside : ℕ → ℕ → ℕ → ℕ → ℕ → Bool
outside n q s r t = leb n s || (leb q r || leb n t)

-- by source, then role, then target: one edge stands before another
abbrev pub before : ℕ → ℕ → ℕ → ℕ → ℕ → ℕ → Bool
before s r t s' r' t' = ltb s s' || (eqb s s' && (ltb r r' || (eqb r r' && ltb t t')))

-- an edge's three numbers, as the code holds them
abbrev pub edge_of : List ℕ → Edge
edge_of numbers = record { source = get_or numbers 0 0; role = get_or numbers 1 0; target = get_or numbers 2 0 }

-- the same of class i and of edge i; and 7: edge i does not stand after the edge before it
unfoldable pub label_wrong : ℕ → List ℕ → ℕ → Bool
label_wrong p ls i = label_over p (labels_of ls i)

unfoldable pub edge_wrong : ℕ → ℕ → List ℕ → ℕ → Bool
edge_wrong n q es i = outside n q (source_of es i) (role_of es i) (target_of es i)

abbrev pub edge_before : List ℕ → ℕ → ℕ → Bool
edge_before es i j = before (source_of es i) (role_of es i) (target_of es i) (source_of es j) (role_of es j) (target_of es j)

unfoldable pub order_wrong : List ℕ → ℕ → Bool
order_wrong es i = ltb 0 i && not (edge_before es (i - 1) i)

-- 5, 6, 7
unfoldable pub contents_of : Lent → Outcome
contents_of t =
    refuse_first t.n (label_wrong t.p t.labels) LabelOutOfRange then
    refuse_first t.m (edge_wrong t.n t.q t.edges) EdgeOutOfRange then
    refuse_first t.m (order_wrong t.edges) NotAscending

-- 9, 4, 5, 6, 7
unfoldable pub check_of : Lent → Outcome
check_of t =
    refuse (too_short t) ShortBuffer then
    refuse (over_limit t.n t.m t.p t.q) OverLimit then
    contents_of t

-- 8: a class number asked for is n or above, A first
abbrev pub known_of : ℕ → ℕ → ℕ → Outcome
known_of n a b =
    refuse (leb n a) (NoSuchClass 0) then
    refuse (leb n b) (NoSuchClass 1)
