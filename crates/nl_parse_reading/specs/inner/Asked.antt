-- What is asked of the machine's stack where a depth is found.
use Rattle.std.specs.Prelude.{Bool, true, false, List, ◌∷◌}
use Rattle.nl_parse_grammar.specs.Machine.{Frame, InParen}

-- parentheses are open
abbrev pub is_in_paren : List Frame → Bool
is_in_paren (InParen p ∷ K) = true
is_in_paren K = false
