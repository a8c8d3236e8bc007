-- The indices of an axis that a box takes, as the code holds them: two runs, of which the second ends with the axis.
use Rattle.std.specs.Prelude.{ℕ, ◌+◌, ◌-◌, ◌*◌, ◌/◌, ◌%◌, ◌<◌, ◌≤◌, ◌≡◌, Bool, true, false, ◌&&◌, ◌||◌, nat_lt, nat_le, filter}
use Rattle.std.specs.List.{range_with_len}
use Rattle.nl_grid.specs.declared.band.Band.{Band}
use Rattle.nl_grid.specs.Nouns.{Patches}

-- an index of the band
abbrev pub in_band : Band → ℕ → Bool
in_band band index =
    (nat_le band.from index && nat_lt index band.to)
    || (nat_le band.again index && nat_lt index band.side)

-- the band of an axis of a world: no run goes past the side, and the second one isn't the earlier one
pub record IsBand (band : Band) : Type 0 where
  pub some : 0 < band.side
  pub ends : band.to ≤ band.side
  pub order : band.from ≤ band.again

-- how many indices the runs of a band have together
abbrev pub size_of : Band → ℕ
size_of band = (band.to - band.from) + (band.side - band.again)

-- of the indices below a side the band has those that pass a test
abbrev pub HasIndices : Band → ℕ → (ℕ → Bool) → Type 0
HasIndices band side test = (other : ℕ) → other < side → in_band band other ≡ test other

-- the first index of the band from one on
pub record IsFirstIndex (band : Band) (from found : ℕ) : Type 0 where
  pub start : from ≤ found
  pub below : found < band.side
  pub passes : in_band band found ≡ true
  pub first : (other : ℕ) → from ≤ other → other < found → in_band band other ≡ false

-- the band has no index from one on
abbrev pub NoIndexFrom : Band → ℕ → Type 0
NoIndexFrom band from = (other : ℕ) → from ≤ other → in_band band other ≡ false

-- a patch in the bands of columns and of rows
abbrev pub in_bands : Band → Band → ℕ → Bool
in_bands columns rows patch = in_band columns (patch % columns.side) && in_band rows (patch / columns.side)

-- all patches in them, in order
abbrev pub patches_in : Band → Band → Patches
patches_in columns rows = filter (in_bands columns rows) (range_with_len 0 (columns.side * rows.side))

-- the bands of a box
pub record AreBands (columns rows : Band) : Type 0 where
  pub columns_are : IsBand columns
  pub rows_are : IsBand rows
  pub few : columns.side * rows.side ≤ 262144

-- the first patch in the bands from a patch on
pub record IsFirstFrom (columns rows : Band) (patch found : ℕ) : Type 0 where
  pub from : patch ≤ found
  pub passes : in_bands columns rows found ≡ true
  pub first : (other : ℕ) → patch ≤ other → other < found → in_bands columns rows other ≡ false

-- no patch from a patch on is in the bands
abbrev pub NoneFrom : Band → Band → ℕ → Type 0
NoneFrom columns rows patch = (other : ℕ) → patch ≤ other → in_bands columns rows other ≡ false
