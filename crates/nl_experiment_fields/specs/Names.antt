-- Names of widgets and of what is varied.
use Rattle.std.specs.Prelude.{Bool, not, ◌&&◌, ◌||◌, map}
use Rattle.std.specs.Str.{bytes_eq, str_to_ascii_lowercase}
use Rattle.nl_fixed.specs.Nouns.{Bytes, Name, Names}
use Rattle.nl_words.specs.Rows.{rows}
use Rattle.nl_words.specs.Table.{is_name}
use Rattle.nl_tree.specs.Vocabulary.{among}
use Rattle.nl_experiment_sweep.specs.Varied.{bound_names, random_seed}

-- the name as it is compared with others
abbrev pub lowered : Bytes → Name
lowered key = str_to_ascii_lowercase key

-- a built-in word has the name
abbrev pub is_built_in : Name → Bool
is_built_in name = among name (map (λ r. r.name) rows)

-- a widget may have the name, where others are known already
abbrev pub can_be_widget : Names → Name → Bool
can_be_widget others name = is_name name && not (is_built_in name) && not (among name others)

abbrev pub is_bound : Name → Bool
is_bound name = among name bound_names

abbrev pub is_seed : Name → Bool
is_seed name = bytes_eq random_seed name

-- what can be varied beside widgets
abbrev pub is_of_run : Name → Bool
is_of_run name = is_bound name || is_seed name

-- a variable has the name, where others are varied already
abbrev pub can_be_varied : Names → Name → Bool
can_be_varied others name = (is_of_run name && not (among name others)) || can_be_widget others name
