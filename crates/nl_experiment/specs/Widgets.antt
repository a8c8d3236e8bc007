-- The widgets that an experiment stands for: the names that its model knows beside its own.
use Rattle.std.specs.Prelude.{Bool, ◌&&◌, [], ◌∷◌, ◌++◌, map, if◌then◌else◌}
use Rattle.std.specs.List.{list_all}
use Rattle.nl_fixed.specs.Nouns.{Names}
use Rattle.nl_words.specs.Rows.{rows}
use Rattle.nl_words.specs.Table.{is_name}
use Rattle.nl_tree.specs.Names.{are_apart, are_distinct}
use Rattle.nl_experiment_fields.specs.Names.{can_be_widget}
use Rattle.nl_experiment_fields.specs.declared.fields.Fields.{Fields}

-- each name that a widget may have, once, behind those that are known already
abbrev pub gathered : Names → Names → Names
gathered others [] = others
gathered others (name ∷ names) = gathered (if can_be_widget others name then others ++ name ∷ [] else others) names

-- the names of `globals`, and those of what is varied
abbrev pub names_of : Fields → Names
names_of f = map (λ s. s.name) f.globals ++ map (λ v. v.name) f.vary

abbrev pub widgets_of : Fields → Names
widgets_of f = gathered [] (names_of f)

-- names that differ, of which none is that of a built-in word, and each has a name's form
abbrev pub are_right : Names → Bool
are_right names = are_distinct names && are_apart names (map (λ r. r.name) rows) && list_all is_name names
