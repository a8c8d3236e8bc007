-- The declarations of a text, or where it has none.
use Rattle.std.specs.Prelude.{ℕ, List}
use Rattle.nl_tree.specs.Tokens.{Lexeme}
use Rattle.nl_decl_outline.specs.declared.refusal.OutlineRefusal.{OutlineRefusal}
use Rattle.nl_decl_outline.specs.declared.refusal.OutlineRefusal.TheVariants.{BadToken, NoMemory}
use Rattle.nl_decl_outline.specs.Declarations.{IsBadPlace}

-- tokens are no declarations, by the first bad index, or memory is wanted
abbrev pub IsRefused : List Lexeme → OutlineRefusal → Type 0
IsRefused ls (BadToken index) = IsBadPlace ls index
IsRefused ls NoMemory = Unit {0}
