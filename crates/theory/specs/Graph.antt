-- Description graphs, simulations from one graph to another, and the rounds. The start rule `fits` is a parameter: labels within labels is one instance.
-- (b, a) is the pair with b above.
use Rattle.std.specs.Prelude.{◌≡◌, Bool, true, not, ◌&&◌, ◌||◌, ℕ, zero, suc, ◌<◌, eqb}
use Rattle.ground.specs.Tests.{all, any}
use Rattle.ground.specs.Relations.{Holds, Rel}

-- nodes are 0 .. size - 1; edge i, below `edges`, leads by `rol i` from `src i` to `tgt i`
pub record Graph : Type 0 where
  pub size : ℕ
  pub edges : ℕ
  pub src : ℕ → ℕ
  pub rol : ℕ → ℕ
  pub tgt : ℕ → ℕ

-- every edge leads to a node
abbrev pub Closed : Graph → Type 0
Closed G = (i : ℕ) → i < G.edges → G.tgt i < G.size

-- an edge of G from u by the role r to t
pub record Edge (G : Graph) (u r t : ℕ) : Type 0 where
  pub at : ℕ
  pub below : at < G.edges
  pub from : G.src at ≡ u
  pub role : G.rol at ≡ r
  pub to : G.tgt at ≡ t

module _ (G H : Graph) where
  -- edge j of H is a partner of edge i of G at the node a, by Z
  pub record Partner {ℓ} (Z : ℕ → ℕ → Type ℓ) (i a : ℕ) : Type ℓ where
    pub at : ℕ
    pub below : at < H.edges
    pub from : H.src at ≡ a
    pub role : H.rol at ≡ G.rol i
    pub leads : Z (G.tgt i) (H.tgt at)

  -- every edge of b has a partner at a
  abbrev pub Backed {ℓ} : (ℕ → ℕ → Type ℓ) → ℕ → ℕ → Type ℓ
  Backed Z b a = (i : ℕ) → i < G.edges → G.src i ≡ b → Partner Z i a

  pub record Sim {ℓ} (fits : Rel) (Z : ℕ → ℕ → Type ℓ) : Type ℓ where
    pub start : (b a : ℕ) → Z b a → fits b a ≡ true
    pub edge : (b a : ℕ) → Z b a → Backed Z b a

  -- some simulation holds the pair. A set of pairs is a Bool-valued relation here, so that the statement is of Type 0 and a contract can cite it;
  -- `under_of_sim` (Rounds.antt) shows that a simulation of any kind holds no pair more.
  pub record Under (fits : Rel) (b a : ℕ) : Type 0 where
    pub rel : Rel
    pub sim : Sim fits (Holds rel)
    pub pair : rel b a ≡ true

  -- the same as tests
  unfoldable pub partner : Rel → ℕ → ℕ → ℕ → Bool
  partner r i a j = eqb (H.src j) a && (eqb (H.rol j) (G.rol i) && r (G.tgt i) (H.tgt j))

  -- edge i, if it is one of b, has a partner at a
  unfoldable pub served : Rel → ℕ → ℕ → ℕ → Bool
  served r b a i = not (eqb (G.src i) b) || any H.edges (partner r i a)

  unfoldable pub backed : Rel → ℕ → ℕ → Bool
  backed r b a = all G.edges (served r b a)

  -- the single round, of any relation
  unfoldable pub step : Rel → Rel
  step r b a = r b a && backed r b a

  unfoldable pub round : Rel → ℕ → Rel
  round fits zero = fits
  round fits (suc k) = step (round fits k)

  -- relation k equals the next
  abbrev pub Stable : Rel → ℕ → Type 0
  Stable fits k = (b a : ℕ) → round fits k b a ≡ round fits (suc k) b a

  -- the reported rounds
  pub record Rounds (fits : Rel) (k : ℕ) : Type 0 where
    pub stable : Stable fits k
    pub least : (j : ℕ) → j < k → Stable fits j → ⊥
