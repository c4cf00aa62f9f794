-- The listing's lines: a header with the counts and rounds, then for each class B the classes under it, ascending.
use Rattle.std.specs.Prelude.{ℕ, zero, suc, ◌+◌, ◌*◌, ◌≤◌, ◌<◌, ◌≡◌, refl, Bool, true, false, length, ltb, List, [], ◌++◌, codes, decimal}
use Rattle.std.proofs.Common.{sym, ap, inl, inr, arith, add-one, append_assoc, length-append}
use Rattle.ground.specs.Relations.{Rel}
use Rattle.ground.specs.Runs.{cat, cat_more, cat_le, gather, gather_yes, gather_no, gather_le}
use Rattle.table.specs.Limits.{class_limit, relation_length}
use Rattle.table.specs.Answer.{Outcome, number_of, place_of, number_lt, text_of, refuse, ◌then◌}
use Rattle.table.specs.declared.Refusal.TheVariants.{ShortBuffer, OverLimit}
use Rattle.table.specs.declared.Refusal.{Refusal}
use Rattle.std.proofs.lemmas.Bool.{cases_Bool}
use Rattle.report.specs.Text.{length_decimal, length_number}

-- `classes 6 edges 4 rounds 2`
abbrev pub header_of : ℕ → ℕ → ℕ → List ℕ
header_of n m k = codes "classes " ++ (decimal n ++ (codes " edges " ++ (decimal m ++ (codes " rounds " ++ (decimal k ++ codes "\n")))))

-- a space and the number, for each class below n that passes
unfoldable pub names_of : ℕ → (ℕ → Bool) → List ℕ
names_of n p = gather n p (λ a. codes " " ++ decimal a)

-- `3: 0 3`
unfoldable pub line_of : ℕ → Rel → ℕ → List ℕ
line_of n r b = decimal b ++ (codes ":" ++ (names_of n (r b) ++ codes "\n"))

unfoldable pub lines_of : ℕ → Rel → ℕ → List ℕ
lines_of n r k = cat k (line_of n r)

-- `refused 3 at 1`
abbrev pub refused_line : Refusal → List ℕ
refused_line r = text_of r ++ codes "\n"

-- a listing's lines take a relation of 1,024 words and at most 256 classes
abbrev pub listing_checks : ℕ → ℕ → Outcome
listing_checks n words = refuse (ltb words relation_length) ShortBuffer then refuse (ltb class_limit n) OverLimit

-- ---- one class more, and how long a line is

pub names_zero : (p : ℕ → Bool) → [] ≡ names_of 0 p
unfolding names_of gather cat
names_zero p = refl

pub names_yes : (a : ℕ) (p : ℕ → Bool) → p a ≡ true → names_of a p ++ (codes " " ++ decimal a) ≡ names_of (a + 1) p
unfolding names_of
names_yes a p e = sym (gather_yes p (λ a. codes " " ++ decimal a) a e)

pub names_no : (a : ℕ) (p : ℕ → Bool) → p a ≡ false → names_of a p ≡ names_of (a + 1) p
unfolding names_of
names_no a p e = sym (gather_no p (λ a. codes " " ++ decimal a) a e)

-- of more classes there are as many bytes or more
pub names_within : (k n : ℕ) (p : ℕ → Bool) → k ≤ n → length (names_of k p) ≤ length (names_of n p)
unfolding names_of
names_within k n p h = gather_le p (λ a. codes " " ++ decimal a) k n h

pub lines_zero : (n : ℕ) (r : Rel) → [] ≡ lines_of n r 0
unfolding lines_of cat
lines_zero n r = refl

pub lines_more : (n : ℕ) (r : Rel) (b : ℕ) → lines_of n r b ++ line_of n r b ≡ lines_of n r (b + 1)
unfolding lines_of
lines_more n r b = sym (cat_more b (line_of n r))

pub lines_within : (n : ℕ) (r : Rel) (j k : ℕ) → j ≤ k → length (lines_of n r j) ≤ length (lines_of n r k)
unfolding lines_of
lines_within n r j k h = cat_le j k (line_of n r) h

-- the line of a refused file is a text and a number, twice, and a newline
pub refused_parts : (r : Refusal) → (codes "refused " ++ decimal (number_of r)) ++ ((codes " at " ++ decimal (place_of r)) ++ codes "\n") ≡ refused_line r
refused_parts r = ap (λ (xs : List ℕ). codes "refused " ++ xs) (sym (append_assoc (decimal (number_of r)) (codes " at " ++ decimal (place_of r)) (codes "\n")))

-- a header and the line of a refused file are short
pub length_header : (n m k : ℕ) → n < 100000 → m < 100000 → k < 100000 → length (header_of n m k) ≤ 40
length_header n m k h i j =
    simp length-append (omega (arith, length_number n h, length_number m i, length_number k j))

pub length_refused : (r : Refusal) → place_of r < 100000 → length (refused_line r) ≤ 23
length_refused r h =
    let few = number_lt r in
    simp length-append (omega (arith, length_number (number_of r) (omega arith), length_number (place_of r) h))

-- a class number has at most three digits
pub length_class : (a : ℕ) → a < 256 → length (decimal a) ≤ 3
length_class a h = length_decimal 2 a (omega arith)

pub length_names : (k : ℕ) (p : ℕ → Bool) → k ≤ 256 → length (names_of k p) ≤ 4 * k
length_names zero p h = rw (sym (names_zero p)) (omega arith)
length_names (suc k) p h = elim (cases_Bool (p k)) [
  | inl e ↦ omega (arith, ap length (names_yes k p e), length-append (names_of k p) (codes " " ++ decimal k), length_names k p (omega arith), length_class k (omega arith), ap (λ (j : ℕ). length (names_of j p)) (add-one k))
  | inr e ↦ omega (arith, ap length (names_no k p e), length_names k p (omega arith), ap (λ (j : ℕ). length (names_of j p)) (add-one k))
]

pub length_line : (n : ℕ) (r : Rel) (b : ℕ) → n ≤ 256 → b < n → length (line_of n r b) ≤ 1040
unfolding line_of
length_line n r b h l = simp length-append (omega (arith, length_names n (r b) h, length_class b (omega arith)))

pub length_lines : (n : ℕ) (r : Rel) (k : ℕ) → n ≤ 256 → k ≤ n → length (lines_of n r k) ≤ k * 1040
unfolding lines_of cat
length_lines n r zero h l = omega arith
length_lines n r (suc k) h l = simp length-append (omega (arith, length_lines n r k h (omega arith), length_line n r k h (omega arith)))
