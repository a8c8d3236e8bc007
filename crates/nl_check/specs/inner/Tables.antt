-- What built-in words are.
use Rattle.std.specs.Prelude.{List, map}
use Rattle.nl_words.specs.Row.{Row}
use Rattle.nl_tree.specs.declared.declared.NamedWhat.{NamedWhat}
use Rattle.nl_tree.specs.Vocabulary.{base_term, named_what}

abbrev pub base_what : Row → NamedWhat
base_what r = named_what (base_term r)

abbrev pub base_whats : List Row → List NamedWhat
base_whats rs = map base_what rs
