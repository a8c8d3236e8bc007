-- What a node of a text is: its case, as its label and the model's word table say. A name that the table has is never looked for among locals.
use Rattle.std.specs.Prelude.{ℕ, ℤ, ◌+◌, Option, Some, None}
use Rattle.nl_fixed.specs.Nouns.{Name}
use Rattle.nl_words.specs.Row.{Code}
use Rattle.nl_words.specs.declared.entry.Kinds.{Kinds}
use Rattle.nl_value.specs.Colors.{color_named}
use Rattle.nl_value.specs.Plain.{Plain, PlainNumber, PlainWords}
use Rattle.nl_tree.specs.Term.{Term}
use Rattle.nl_tree.specs.Vocabulary.{term_named, terms}
use Rattle.nl_tree.specs.declared.declared.Declared.{Declared}
use Rattle.nl_tree.specs.declared.declared.What.{What}
use Rattle.nl_tree.specs.declared.declared.What.TheVariants as what
use Rattle.nl_tree.specs.declared.tree.Label.{Label}
use Rattle.nl_tree.specs.declared.tree.Label.TheVariants as label
use Rattle.nl_agents_layout.specs.Nouns.{Slot, BreedNumber}
use Rattle.nl_agents_layout.specs.BuiltIn.{built_in_count, slot_of_code}
use Rattle.nl_exec_meaning.specs.declared.words.Apart.{Apart}
use Rattle.nl_exec_meaning.specs.declared.words.Built.{Built}
use Rattle.nl_exec_meaning.specs.Words.{apart_word, built_word}

-- `Constant` is a value that is written down, `Items` a literal list of the parts, `Inside` what stands in parentheses or in a block of one
-- expression, and `Statements` a block of commands or a whole body. `Owned` is a variable of agents under its slot, and `Aside` one that
-- has none; both say who may run them, as a built-in word does. `Word` may be the word of a breed. `Nothing` is no word of a text.
pub data Case : Type 0 where
  Constant : Plain → Case
  Items : Case
  Negation : Case
  Inside : Case
  Statements : Case
  Local : Name → Case
  Global : Slot → Case
  Owned : Kinds → Slot → Case
  Aside : Kinds → Apart → Case
  Procedure : ℕ → Case
  Word : Kinds → Option BreedNumber → Built → Case
  Nothing : Case

abbrev pub word_case : Kinds → Option BreedNumber → Option Built → Case
word_case runs breed None = Nothing
word_case runs breed (Some word) = Word runs breed word

abbrev pub color_case : Term → Option BreedNumber → Code → Option ℤ → Case
color_case t breed n (Some count) = Constant (PlainNumber count)
color_case t breed n None = word_case t.runs breed (built_word n)

abbrev pub apart_case : Term → Option BreedNumber → Code → Option Apart → Case
apart_case t breed n (Some which) = Aside t.runs which
apart_case t breed n None = color_case t breed n (color_named t.name)

abbrev pub slot_case : Term → Option BreedNumber → Code → Option Slot → Case
slot_case t breed n (Some slot) = Owned t.runs slot
slot_case t breed n None = apart_case t breed n (apart_word n)

-- the case of a built-in word: a variable, a color, or a word of the language
abbrev pub built_case : Term → Option BreedNumber → Code → Case
built_case t breed n = slot_case t breed n (slot_of_code n)

abbrev pub case_of_what : Term → What → Case
case_of_what t (what.Base n) = built_case t None n
case_of_what t (what.Made breed n) = built_case t (Some breed) n
case_of_what t (what.Global slot) = Global slot
case_of_what t (what.Own n) = Owned t.runs (built_in_count + n)
case_of_what t (what.Procedure n) = Procedure n

abbrev pub case_of_term : Name → Option Term → Case
case_of_term name None = Local name
case_of_term name (Some t) = case_of_what t t.what

abbrev pub case_of : Declared → Label → Case
case_of d (label.Number count) = Constant (PlainNumber count)
case_of d (label.Text bytes) = Constant (PlainWords bytes)
case_of d label.List = Items
case_of d (label.Named name) = case_of_term name (term_named (terms d) name)
case_of d label.Negate = Negation
case_of d label.Paren = Inside
case_of d label.Commands = Statements
case_of d label.Reporter = Inside
case_of d (label.Arrow names) = Inside
