-- One block of 512 bytes: its kind, its number, its count of records and a zero, of 16 bits each; the records; zeros; and the check.
use Rattle.std.specs.Prelude.{ℕ, ◌*◌, ◌-◌, ◌%◌, List, ◌++◌, length}
use Rattle.ground.specs.Counts.{sum}
use Rattle.ground.specs.Bytes.{le, word, zeros}

-- the sum of the 255 words before the check, modulo 65,536
unfoldable pub check_of_block : List ℕ → ℕ
check_of_block block = sum 255 (λ i. word block (2 * i)) % 65536

-- what stands before the check
unfoldable pub body_of : ℕ → ℕ → ℕ → List ℕ → List ℕ
body_of kind number count records = le 2 kind ++ (le 2 number ++ (le 2 count ++ (le 2 0 ++ (records ++ zeros (502 - length records)))))

unfoldable pub sealed : List ℕ → List ℕ
sealed body = body ++ le 2 (check_of_block body)

abbrev pub block_of : ℕ → ℕ → ℕ → List ℕ → List ℕ
block_of kind number count records = sealed (body_of kind number count records)
