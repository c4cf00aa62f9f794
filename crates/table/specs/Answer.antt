-- The number and the place of each refusal, and how the checks of a call follow one another.
use Rattle.std.specs.Prelude.{ℕ, ◌<◌, ◌≡◌, refl, Bool, true, false, List, ◌++◌, codes, decimal, ltb, Result, Ok, Err, ⊤}
use Rattle.std.proofs.Common.{arith}
use Rattle.ground.specs.Tests.{first, first_clear}
use Rattle.table.specs.declared.Refusal.{Refusal}
use Rattle.table.specs.declared.Refusal.TheVariants.{BadLength, BadCheck, BadBlock, OverLimit, LabelOutOfRange, EdgeOutOfRange, NotAscending, NoSuchClass, ShortBuffer, NoRoomForClasses, NoRoomForEdges}

abbrev pub number_of : Refusal → ℕ
number_of BadLength = 1
number_of (BadCheck block) = 2
number_of (BadBlock block) = 3
number_of OverLimit = 4
number_of (LabelOutOfRange class) = 5
number_of (EdgeOutOfRange edge) = 6
number_of (NotAscending edge) = 7
number_of (NoSuchClass which) = 8
number_of ShortBuffer = 9
number_of NoRoomForClasses = 10
number_of NoRoomForEdges = 11

pub number_lt : (r : Refusal) → number_of r < 12
number_lt BadLength = omega arith
number_lt (BadCheck block) = omega arith
number_lt (BadBlock block) = omega arith
number_lt OverLimit = omega arith
number_lt (LabelOutOfRange class) = omega arith
number_lt (EdgeOutOfRange edge) = omega arith
number_lt (NotAscending edge) = omega arith
number_lt (NoSuchClass which) = omega arith
number_lt ShortBuffer = omega arith
number_lt NoRoomForClasses = omega arith
number_lt NoRoomForEdges = omega arith

abbrev pub place_of : Refusal → ℕ
place_of BadLength = 0
place_of (BadCheck block) = block
place_of (BadBlock block) = block
place_of OverLimit = 0
place_of (LabelOutOfRange class) = class
place_of (EdgeOutOfRange edge) = edge
place_of (NotAscending edge) = edge
place_of (NoSuchClass which) = which
place_of ShortBuffer = 0
place_of NoRoomForClasses = 0
place_of NoRoomForEdges = 0

-- `refused 3 at 1`
abbrev pub text_of : Refusal → List ℕ
text_of r = codes "refused " ++ (decimal (number_of r) ++ (codes " at " ++ decimal (place_of r)))

-- ---- one check after another: the first that is not passed refuses

-- what a call answers that has nothing to say but that it was done
abbrev pub Outcome : Type 0
Outcome = Result ⊤ Refusal

infixr 20 ◌then◌
abbrev pub ◌then◌ : Outcome → Outcome → Outcome
(Ok done) then o = o
(Err r) then o = Err r

-- a test that must fail
abbrev pub refuse : Bool → Refusal → Outcome
refuse true r = Err r
refuse false r = Ok tt

-- a test that must fail at each index below n: the lowest at which it holds is the place
abbrev pub refuse_first : ℕ → (ℕ → Bool) → (ℕ → Refusal) → Outcome
refuse_first n bad r = refuse (ltb (first n bad) n) (r (first n bad))

-- what a call with more to say answers: its own answer, or the refusal
abbrev pub or_else {ℓ} : {A : Type ℓ} → (Refusal → A) → Outcome → A → A
or_else refused (Ok done) answer = answer
or_else refused (Err r) answer = refused r

-- a lent buffer after the call: as found where the call is refused
abbrev pub after : Outcome → List ℕ → List ℕ → List ℕ
after (Ok done) old new = new
after (Err r) old new = old

-- ---- nothing was refused exactly if every check was passed

pub then_done : (a b : Outcome) → (a then b) ≡ Ok tt → (a ≡ Ok tt) × (b ≡ Ok tt)
then_done (Ok done) b e = (refl, e)
then_done (Err r) b e = cc

pub refuse_done : (t : Bool) (r : Refusal) → refuse t r ≡ Ok tt → t ≡ false
refuse_done true r e = cc
refuse_done false r e = refl

pub refuse_first_done : (n : ℕ) (bad : ℕ → Bool) (r : ℕ → Refusal) → refuse_first n bad r ≡ Ok tt → (i : ℕ) → i < n → bad i ≡ false
refuse_first_done n bad r e = first_clear n bad (refuse_done (ltb (first n bad) n) (r (first n bad)) e)
