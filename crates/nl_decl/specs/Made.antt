-- The words that a breed makes, as the program has them.
use Rattle.std.specs.Prelude.{Bool, if◌then◌else◌, List, ◌++◌}
use Rattle.nl_fixed.specs.Nouns.{Name}
use Rattle.nl_tree.specs.Vocabulary.{Pattern, turtle_patterns, undirected_patterns, directed_patterns}
use Rattle.nl_decl.specs.declared.made.MadeWord.{MadeWord}

abbrev pub pattern_of : MadeWord → Pattern
pattern_of w = record { before = w.before.now; plural = w.plural; after = w.after.now; base = w.base.now }

-- those of a breed of links or turtles
abbrev pub patterns_by : Bool → Bool → List Pattern
patterns_by link directed = if link then (if directed then directed_patterns else undirected_patterns) else turtle_patterns

-- the word that a pattern makes of a plural and a singular
abbrev pub name_by : Pattern → Name → Name → Name
name_by p plural singular = p.before ++ (if p.plural then plural else singular) ++ p.after
