-- Whose turn is next.
use Rattle.std.specs.Prelude.{ℕ, suc, Bool, true, false, List, [], ◌∷◌, Option, Some, None, option_map}
use Rattle.nl_value.specs.declared.sets.AgentKind.{AgentKind}
use Rattle.nl_agents.specs.World.{Rest}
use Rattle.nl_exec_meaning.specs.Walks.{lives}

-- this member where it lives, or else the one found behind it
abbrev pub first_by : Bool → Option ℕ → Option ℕ
first_by true later = Some 0
first_by false later = option_map suc later

-- the index of the first member that lives
abbrev pub first_of : Rest → AgentKind → List ℕ → Option ℕ
first_of r which [] = None
first_of r which (m ∷ ms) = first_by (lives r which m) (first_of r which ms)
