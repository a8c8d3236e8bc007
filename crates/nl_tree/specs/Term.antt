-- One row of the whole word table of a model.
use Rattle.std.specs.Prelude.{ℕ, Bool, List}
use Rattle.nl_fixed.specs.Nouns.{Name}
use Rattle.nl_words.specs.declared.entry.Role.{Role}
use Rattle.nl_words.specs.declared.entry.Input.{Input}
use Rattle.nl_words.specs.declared.entry.Kinds.{Kinds}
use Rattle.nl_words.specs.declared.entry.Turns.{Turns}
use Rattle.nl_tree.specs.declared.declared.What.{What}

-- The inputs are those that the word's place in the language gives it; a procedure has so many values in their place.
pub record Term : Type 0 where
  pub name : Name
  pub role : Role
  pub inputs : List Input
  pub values : ℕ
  pub many : Bool
  pub turns : Turns
  pub runs : Kinds
  pub gives : Kinds
  pub what : What
