-- What the reader asks of the machine's stack.
use Rattle.std.specs.Prelude.{ℕ, suc, Bool, true, false, List, [], ◌∷◌}
use Rattle.nl_parse_grammar.specs.Machine.{Frame, InNear, InCall, InMany, InLet, InList, InItems, InStatements, InArrowCommands, InStatementParen, closes}

-- a right side is read that others follow
abbrev pub more_sides : List Frame → Bool
more_sides (InNear w s ts (suc n) ∷ K) = true
more_sides K = false

-- a right side is read
abbrev pub is_at_side : List Frame → Bool
is_at_side (InNear w s ts n ∷ K) = true
is_at_side K = false

-- a literal list is read
abbrev pub is_in_list : List Frame → Bool
is_in_list (InList s ts ∷ K) = true
is_in_list K = false

-- an input of a call is read
abbrev pub is_in_call : List Frame → Bool
is_in_call (InCall w s ts i is last ∷ K) = true
is_in_call K = false

-- an expression is waited for, and not only what closes it
abbrev pub is_waiting : List Frame → Bool
is_waiting (InCall w s ts i is last ∷ K) = true
is_waiting (InMany w s ts (suc n) ∷ K) = true
is_waiting (InItems p l s ts ∷ K) = true
is_waiting (InLet w s n r ∷ K) = true
is_waiting K = false

-- a statement may stand here
abbrev pub is_stating : List Frame → Bool
is_stating (InStatements s k before ts ∷ K) = true
is_stating (InArrowCommands s before ns ts ∷ K) = true
is_stating (InStatementParen s ∷ K) = true
is_stating K = false

-- an operator of this level ends the newest frame
abbrev pub ends_newest : ℕ → List Frame → Bool
ends_newest l [] = false
ends_newest l (f ∷ K) = closes l f
