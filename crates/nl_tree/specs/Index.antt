-- The rows of a model's own words, kept for finding them.
use Rattle.std.specs.Prelude.{Bool}
use Rattle.nl_words.specs.Table.{is_before}
use Rattle.nl_fixed.specs.Nouns.{Name}
use Rattle.nl_tree.specs.declared.index.NamedWord.{NamedWord}
use Rattle.nl_tree.specs.declared.index.Word.{Word}
use Rattle.nl_tree.specs.Term.{Term}

-- the row of a word, with its name
abbrev pub named : Name → Word → Term
named name w = record {
  name = name;
  role = w.role;
  inputs = w.inputs.now;
  values = w.values;
  many = w.many;
  turns = w.turns;
  runs = w.runs;
  gives = w.gives;
  what = w.what;
}

abbrev pub term_of : NamedWord → Term
term_of w = named w.name w.word

-- the first name stands before the second in the order of bytes
abbrev pub stands_before : NamedWord → NamedWord → Bool
stands_before a b = is_before a.name b.name
