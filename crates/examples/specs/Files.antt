-- The layout's files of two tables: how long they are, and the checks of their blocks; what is refused of damaged ones; and how many blocks some counts need.
use Rattle.std.specs.Prelude.{◌≡◌, refl, ℕ, ◌+◌, ◌*◌, List, [], ◌∷◌, length, set, Ok, Err}
use Rattle.ground.specs.Counts.{sum}
use Rattle.ground.specs.Lists.{part, tabulate}
use Rattle.ground.specs.Tests.{first}
use Rattle.ground.specs.Bytes.{le, num, word, zeros, blank}
use Rattle.ground.specs.Runs.{cat}
use Rattle.table.specs.Lent.{Lent}
use Rattle.table.specs.Check.{label_wrong, edge_wrong, order_wrong, contents_of}
use Rattle.table.specs.declared.Refusal.TheVariants.{BadLength, BadCheck, BadBlock}
use Rattle.file.specs.Block.{check_of_block, body_of, sealed}
use Rattle.file.specs.Layout.{content_at, block_at, file_of, class_blocks, edge_blocks}
use Rattle.file.specs.Reading.{file_limit, block, label_in, number_in, check_wrong, shape_right, head_wrong, block_wrong, wrong_with}

-- the length of a file, and the check of each of its blocks
abbrev checks : ℕ → List ℕ → List ℕ
checks blocks bytes = tabulate blocks (λ b. word bytes (512 * b + 510))

abbrev empty_table : Lent
empty_table = record { n = 0; m = 0; p = 0; q = 0; labels = []; edges = [] }

abbrev chains : Lent
chains = record { n = 6; m = 4; p = 1; q = 1; labels = 0 ∷ 0 ∷ 1 ∷ 0 ∷ 0 ∷ 0 ∷ []; edges = 0 ∷ 0 ∷ 1 ∷ 1 ∷ 0 ∷ 2 ∷ 3 ∷ 0 ∷ 4 ∷ 4 ∷ 0 ∷ 5 ∷ [] }

pub empty_file : length (file_of empty_table) ≡ 512
unfolding file_of block_at content_at sealed body_of check_of_block cat le zeros sum word num part
empty_file = refl

pub empty_checks : checks 1 (file_of empty_table) ≡ 2 ∷ []
unfolding file_of block_at content_at sealed body_of check_of_block cat le zeros sum word num part tabulate
empty_checks = refl

pub chains_file : length (file_of chains) ≡ 1536
unfolding file_of block_at content_at sealed body_of check_of_block cat le zeros sum word num part
chains_file = refl

pub chains_checks : checks 3 (file_of chains) ≡ 14 ∷ 10 ∷ 29 ∷ []
unfolding file_of block_at content_at sealed body_of check_of_block cat le zeros sum word num part tabulate
chains_checks = refl

-- ---- whole, damaged and cut files, in the order of the checks

pub chains_accepted : wrong_with (file_of chains) ≡ Ok tt
unfolding wrong_with check_wrong head_wrong block_wrong shape_right content_at block blank contents_of label_wrong edge_wrong order_wrong label_in number_in first file_of block_at sealed body_of check_of_block cat le zeros sum word num part tabulate
chains_accepted = refl

-- 1: no byte
pub nothing_refused : wrong_with [] ≡ Err BadLength
unfolding wrong_with
nothing_refused = refl

-- 2: an unused byte of the classes' block is set, and its check is as it was
pub damaged_refused : wrong_with (set (file_of chains) 1000 1) ≡ Err (BadCheck 1)
unfolding wrong_with check_wrong first block file_of block_at content_at sealed body_of check_of_block cat le zeros sum word num part
damaged_refused = refl

-- 3: the same byte, and the check made good
pub resealed_refused : wrong_with (set (set (file_of chains) 1000 1) 1022 11) ≡ Err (BadBlock 1)
unfolding wrong_with check_wrong head_wrong block_wrong shape_right content_at block blank first file_of block_at sealed body_of check_of_block cat le zeros sum word num part
resealed_refused = refl

-- ---- how many blocks the classes and the edges need, and the longest file

pub full_classes : (class_blocks 62 ≡ 1) × (class_blocks 63 ≡ 2)
full_classes = (refl, refl)

pub full_edges : (edge_blocks 83 ≡ 1) × (edge_blocks 84 ≡ 2)
full_edges = (refl, refl)

pub longest : file_limit ≡ 9728
longest = refl
