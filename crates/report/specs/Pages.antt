-- A page: a lent buffer that texts are written into, one after another.
use Rattle.std.specs.Prelude.{ℕ, ◌+◌, ◌≤◌, ◌≡◌, refl, List, [], ◌++◌, length}
use Rattle.std.proofs.Common.{◌∙◌, arith}
use Rattle.report.specs.declared.Page.{Page}
use Rattle.report.specs.Text.{Wrote, wrote_none, wrote_more}

-- the text has room behind what the page holds
abbrev pub HasRoom : Page → List ℕ → Type 0
HasRoom page xs = page.at + length xs ≤ length page.out.now

-- the page took the text, and lies in the same buffer
pub record Took (old : Page) (xs : List ℕ) (new : Page) : Type 0 where
  pub same : new.out.ghost_name ≡ old.out.ghost_name
  pub wrote : Wrote old.at xs old.out.now new.out.now new.at

pub took_none : (page : Page) → Took page [] page
took_none page = record { same = refl; wrote = wrote_none page.at page.out.now }

pub took_more : (first middle last : Page) (xs ys : List ℕ) → Took first xs middle → Took middle ys last → Took first (xs ++ ys) last
took_more first middle last xs ys a b = record {
  same = b.same ∙ a.same;
  wrote = wrote_more first.at middle.at last.at xs ys first.out.now middle.out.now last.out.now (omega (arith, a.wrote.next, a.wrote.long, middle.inside)) a.wrote b.wrote;
}

-- the same, said of an equal text
pub took_as : (old new : Page) (xs ys : List ℕ) → xs ≡ ys → Took old xs new → Took old ys new
took_as old new xs ys e t = rw (← e) t
