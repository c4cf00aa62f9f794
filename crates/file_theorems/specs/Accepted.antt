-- A byte string is accepted exactly if it is the layout's file of an allowed table; reading and writing undo each other.
use Rattle.std.specs.Prelude.{◌≡◌, refl, ◌↔◌, ℕ, ◌*◌, ◌<◌, List, get_or, Ok}
use Rattle.std.proofs.Common.{sym, ◌∙◌, subst}
use Rattle.ground.specs.Lists.{get_or_tabulate}
use Rattle.ground.specs.Bytes.{Bytes}
use Rattle.table.specs.Lent.{Lent, labels_of}
use Rattle.table.specs.Allowed.{Allowed, contents_allowed}
use Rattle.file.specs.Layout.{file_of}
use Rattle.file.specs.Reading.{label_in, table_in, wrong_with}
use Rattle.file_theorems.specs.Passing.{accepted_passes, passes_accepted}
use Rattle.file_theorems.specs.Reading.{file_is}
use Rattle.file_theorems.specs.Writing.{same_counts, label_is, number_back, written_passes}

-- two tables that differ past the counts at most
pub record Same (t u : Lent) : Type 0 where
  pub classes : t.n ≡ u.n
  pub edges : t.m ≡ u.m
  pub labels : t.p ≡ u.p
  pub roles : t.q ≡ u.q
  pub words : (i : ℕ) → i < u.n → labels_of t.labels i ≡ labels_of u.labels i
  pub numbers : (i : ℕ) → i < 3 * u.m → get_or t.edges i 0 ≡ get_or u.edges i 0

-- what is accepted holds an allowed table, and writing that table gives the bytes
pub read_then_write : (f : List ℕ) → Bytes f → wrong_with f ≡ Ok tt → Allowed (table_in f) × (f ≡ file_of (table_in f))
read_then_write f b e = let P = accepted_passes f e in (contents_allowed (table_in f) P.within P.contents, file_is f b P)

-- what was written is accepted, and reading it gives the table
pub write_then_read : (t : Lent) → Allowed t → (wrong_with (file_of t) ≡ Ok tt) × Same (table_in (file_of t)) t
write_then_read t A = (
  passes_accepted (file_of t) (written_passes t A),
  rw (same_counts t A) (record {
    classes = refl;
    edges = refl;
    labels = refl;
    roles = refl;
    words = λ i h. get_or_tabulate t.n (label_in (file_of t)) 0 i h ∙ label_is t A i h;
    numbers = number_back t A;
  }),
)

pub accepted_exactly : (f : List ℕ) → Bytes f → (wrong_with f ≡ Ok tt) ↔ ((t : Lent) × Allowed t × (f ≡ file_of t))
accepted_exactly f b = (
  λ e. let r = read_then_write f b e in (table_in f, r.0, r.1),
  λ x. subst (λ (g : List ℕ). wrong_with g ≡ Ok tt) (sym x.2) (write_then_read x.0 x.1).0,
)

-- two allowed tables with one file are the same up to entries past the counts
pub one_file : (t u : Lent) → Allowed t → Allowed u → file_of t ≡ file_of u → Same t u
one_file t u A B e = both (write_then_read t A).1 (rw (← e) at (write_then_read u B).1)
  where
    both : {v : Lent} → Same v t → Same v u → Same t u
    both a b = record {
      classes = sym a.classes ∙ b.classes;
      edges = sym a.edges ∙ b.edges;
      labels = sym a.labels ∙ b.labels;
      roles = sym a.roles ∙ b.roles;
      words = λ i h. sym (a.words i (subst (λ (k : ℕ). i < k) (sym b.classes ∙ a.classes) h)) ∙ b.words i h;
      numbers = λ i h. sym (a.numbers i (subst (λ (k : ℕ). i < 3 * k) (sym b.edges ∙ a.edges) h)) ∙ b.numbers i h;
    }
