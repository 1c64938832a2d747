-- A system of elements and blocks over any set of sites (Heijmans, BS-R9409, with an element that may vary by place).
--     System S        for each site, its elements and the blocks that contain it, as lists of sites
--     Lawful 𝓢        the laws that an accepted table gives
--     Listed 𝓢 l      the sites that have an element are finitely many, and l lists them
--     Image S         a binary image: the sites that are black
-- Assumes nothing.
use Rattle.std.specs.Prelude.{Bool}
use mathlib.Core.List.{List, Memᴰ}

abbrev pub Image : Type 0 → Type 0
Image S = S → Bool

pub record System (S : Type 0) : Type 0 where
  -- the structuring elements of the switch operator, placed at a site
  pub hits : S → List (List S)
  -- the translates of the persistent elements that contain a site
  pub blocks : S → List (List S)

pub record Lawful {S : Type 0} (𝓢 : System S) : Type 0 where
  -- a block at p contains p
  pub contain : (p : S) (T : List S) → Memᴰ T (𝓢.blocks p) → Memᴰ p T
  -- a block is a block at each of its sites
  pub share : (p q : S) (T : List S) → Memᴰ T (𝓢.blocks p) → Memᴰ q T → Memᴰ T (𝓢.blocks q)
  -- two elements at one site share a site (000, 5.6)
  pub meet : (p : S) (A B : List S) → Memᴰ A (𝓢.hits p) → Memᴰ B (𝓢.hits p) → (q : S) × Memᴰ q A × Memᴰ q B
  -- an element at a site of a block shares a site with the block (000, Proposition 6.8)
  pub persist : (p q : S) (T A : List S) → Memᴰ T (𝓢.blocks p) → Memᴰ q T → Memᴰ A (𝓢.hits q)
      → (s : S) × Memᴰ s A × Memᴰ s T

pub record Listed {S : Type 0} (𝓢 : System S) (sites : List S) : Type 0 where
  pub covers : (p : S) (A : List S) → Memᴰ A (𝓢.hits p) → Memᴰ p sites
