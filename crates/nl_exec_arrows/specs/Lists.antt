-- Lists that are gone through side by side.
use Rattle.std.specs.Prelude.{⊤, ℕ, ◌-◌, Bool, true, false}
use Rattle.nl_value.specs.Plain.{Plain, PlainItems}
use Rattle.nl_exec_meaning.specs.declared.words.Arrow.{Arrow}
use Rattle.nl_exec_meaning.specs.declared.words.Arrow.TheVariants as arrow

abbrev pub is_list : Plain → Bool
is_list (PlainItems items) = true
is_list value = false

-- a word that goes through lists side by side
abbrev pub IsOfLists : Arrow → Type 0
IsOfLists arrow.ForEach = ⊤
IsOfLists arrow.Map = ⊤
IsOfLists other = ⊥

-- the index of its block, of so many parts
abbrev pub block_at : Arrow → ℕ → ℕ
block_at arrow.ForEach many = many - 1
block_at other many = 0
