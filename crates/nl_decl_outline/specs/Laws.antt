-- The laws of declarations and their reading.
use Rattle.std.specs.Prelude.{◌≡◌, ℕ, ◌↔◌, List, Some, All, IsTrue, length}
use Rattle.nl_words.specs.Table.{is_name}
use Rattle.nl_tree.specs.Tokens.{Lexeme, IsLexeme}
use Rattle.nl_decl_outline.specs.declared.declaration.Declaration.{Declaration}
use Rattle.nl_decl_outline.specs.declared.mode.Mode.TheVariants.{Between}
use Rattle.nl_decl_outline.specs.Declarations.{AreDeclarations, BeginsDeclarations, IsBadPlace}
use Rattle.nl_decl_outline.specs.Lengths.{total_length}
use Rattle.nl_decl_outline.specs.Named.{names_in}
use Rattle.nl_decl_outline.specs.inner.Reading.{State, run}

-- tokens are one list of declarations at most
abbrev pub DeclarationsAreUnique : Type 0
DeclarationsAreUnique = (ls : List Lexeme) (ds es : List Declaration) → AreDeclarations ls ds → AreDeclarations ls es → ds ≡ es

-- Token by token, tokens are taken whole exactly where they are declarations ..
abbrev pub DeclarationsAreTaken : Type 0
DeclarationsAreTaken = (ls : List Lexeme) (ds : List Declaration) → AreDeclarations ls ds ↔ (run ls ≡ Some (record { mode = Between; done = ds }))

-- .. and are taken exactly where they begin some.
abbrev pub BeginningsAreTaken : Type 0
BeginningsAreTaken = (ls : List Lexeme) → BeginsDeclarations ls ↔ ((s : State) × (run ls ≡ Some s))

-- tokens have one bad index at most, and have one exactly where they are no declarations
abbrev pub BadPlacesAreUnique : Type 0
BadPlacesAreUnique = (ls : List Lexeme) (j k : ℕ) → IsBadPlace ls j → IsBadPlace ls k → j ≡ k

abbrev pub DeclarationsOrBadPlace : Type 0
DeclarationsOrBadPlace = (ls : List Lexeme) → ((k : ℕ) × IsBadPlace ls k) ↔ ((ds : List Declaration) → AreDeclarations ls ds → ⊥)

-- each name that is declared is a word of the text, and so has a name's form
abbrev pub NamesAreNames : Type 0
NamesAreNames = (ls : List Lexeme) (ds : List Declaration) → AreDeclarations ls ds → All IsLexeme ls → All (λ name. IsTrue (is_name name)) (names_in ds)

-- declarations have as many tokens as they are read from
abbrev pub DeclarationsHaveLengths : Type 0
DeclarationsHaveLengths = (ls : List Lexeme) (ds : List Declaration) → AreDeclarations ls ds → length ls ≡ total_length ds
