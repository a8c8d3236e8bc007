use Rattle.std.proofs.Common.{◌≡◌, ◌++◌, map, drop}
use Rattle.nl_tree.specs.Index.{term_of}
use Rattle.nl_tree.specs.Vocabulary.{made_terms}
use Rattle.nl_decl.specs.Made.{pattern_of}
use Rattle.nl_decl.proofs.index.add_made.Given as goal

-- the words so far have rows, and the rest follows
abbrev pub invariant-words : goal.invariant-words
invariant-words l =
    map term_of l.list.items ++ made_terms l.number l.breed (map pattern_of (drop l.word-index l.words)) ≡ map term_of l.fn.list.items ++ made_terms l.number l.breed (map pattern_of l.words)
