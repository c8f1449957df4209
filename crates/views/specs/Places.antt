-- The places of a buffer, in its order: true where a sample stands, false in a gap between a row's end and the next row. Two views of
-- a buffer by its places. Assumes nothing.
use Rattle.std.specs.Prelude.{◌≡◌, ℕ, zero, suc, ◌+◌, ◌-◌, ◌*◌, ◌≤◌, ◌<◌, Bool, true, false, List, [], ◌∷◌, ◌++◌, replicate}
use Rattle.scope.specs.Base.{one}

-- ---- views

-- the elements that are samples, in the buffer's order
unfoldable pub samples_at : List Bool → List ℕ → List ℕ
samples_at [] buffer = []
samples_at (t ∷ places) [] = []
samples_at (true ∷ places) (x ∷ buffer) = x ∷ samples_at places buffer
samples_at (false ∷ places) (x ∷ buffer) = samples_at places buffer

-- all other elements
unfoldable pub gaps_at : List Bool → List ℕ → List ℕ
gaps_at [] buffer = buffer
gaps_at (t ∷ places) [] = []
gaps_at (true ∷ places) (x ∷ buffer) = gaps_at places buffer
gaps_at (false ∷ places) (x ∷ buffer) = x ∷ gaps_at places buffer

-- how many samples places hold
unfoldable pub how_many : List Bool → ℕ
how_many [] = 0
how_many (t ∷ places) = one t + how_many places

-- ---- rows of a width, every pitch

abbrev pub row_places : ℕ → ℕ → List Bool
row_places width pitch = replicate width true ++ replicate (pitch - width) false

unfoldable pub rows_places : ℕ → ℕ → ℕ → List Bool
rows_places width pitch zero = []
rows_places width pitch (suc rows) = row_places width pitch ++ rows_places width pitch rows

-- rows of a width, every pitch, fill a stretch
pub record Rowed (len width pitch rows : ℕ) : Type 0 where
  pub wide : width ≤ pitch
  pub some : 0 < width
  pub most : pitch ≤ 16384
  pub few : rows ≤ 16384
  pub long : len ≡ rows * pitch
