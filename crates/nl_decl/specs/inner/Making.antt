-- The row of one word that a breed makes.
use Rattle.std.specs.Prelude.{ℕ, List}
use Rattle.nl_words.specs.Row.{row_named}
use Rattle.nl_words.specs.Rows.{rows}
use Rattle.nl_tree.specs.declared.declared.Breed.{Breed}
use Rattle.nl_tree.specs.Term.{Term}
use Rattle.nl_tree.specs.Vocabulary.{made_as, made_name}
use Rattle.nl_decl.specs.declared.made.MadeWord.{MadeWord}
use Rattle.nl_decl.specs.Made.{pattern_of}

-- that of the built-in word, under the name that is made of the breed's, if the table has it
abbrev pub made_row : ℕ → Breed → MadeWord → List Term
made_row number b w = made_as number (made_name b (pattern_of w)) (row_named rows w.base.now)
