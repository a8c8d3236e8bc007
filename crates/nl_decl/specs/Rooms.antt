-- How many words a model may make.
use Rattle.std.specs.Prelude.{◌+◌, ◌<◌, ◌^◌, length}
use Rattle.nl_tree.specs.declared.declared.Declared.{Declared}
use Rattle.nl_tree.specs.Names.{all_names}

-- the names, breeds and procedures of a model are few enough to be numbered
abbrev pub AreFew : Declared → Type 0
AreFew d = length (all_names d) + length d.breeds + length d.procedures < 2 ^ 31
