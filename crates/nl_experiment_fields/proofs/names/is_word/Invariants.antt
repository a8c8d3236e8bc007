use Rattle.std.proofs.Common.{◌≡◌, drop}
use Rattle.std.specs.List.{list_all}
use Rattle.nl_words.specs.Table.{is_word_byte}
use Rattle.nl_experiment_fields.proofs.names.is_word.Given as goal

-- each byte so far may stand in a word
abbrev pub invariant-bytes : goal.invariant-bytes
invariant-bytes l = list_all is_word_byte (drop l.byte-index l.name) ≡ list_all is_word_byte l.name
