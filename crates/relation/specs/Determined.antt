-- What each public function promises leaves one outcome only.
use Rattle.std.specs.Prelude.{ℕ, ◌≡◌, Bool, List}
use Rattle.table.specs.Determined.{same}
use Rattle.relation.specs.Words.{bit_of, with_pair}

pub holds-determined : (ws : List ℕ) (b a : ℕ) (r s : Bool) → r ≡ bit_of ws b a → s ≡ bit_of ws b a → r ≡ s
holds-determined ws b a r s = same

pub put-determined : (old : List ℕ) (b a : ℕ) (r s : List ℕ) → r ≡ with_pair old b a → s ≡ with_pair old b a → r ≡ s
put-determined old b a r s = same
