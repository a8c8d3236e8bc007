-- What the code's reader keeps, and what it does with a token.
use Rattle.std.specs.Prelude.{◌≡◌, ℕ, ◌≤◌, List, Option, IfSome}
use Rattle.nl_fixed.specs.Nouns.{Bytes}
use Rattle.nl_scan.specs.declared.token.Token.{Token}
use Rattle.nl_scan.specs.Texts.{LiesIn}
use Rattle.nl_tree.specs.Tokens.{Lexeme}
use Rattle.nl_decl_outline.specs.declared.declaration.Declaration.{Declaration}
use Rattle.nl_decl_outline.specs.declared.mode.Mode.{Mode}
use Rattle.nl_decl_outline.specs.declared.mode.Mode.TheVariants.{Between, Awaiting, Listing, Titling, Heading, Inside}
use Rattle.nl_decl_outline.specs.declared.reading.Body.{Body}
use Rattle.nl_decl_outline.specs.declared.reading.Reader.{Reader}
use Rattle.nl_decl_outline.specs.Declarations.{plurals}
use Rattle.nl_decl_outline.specs.inner.Owners.{Knows}
use Rattle.nl_decl_outline.specs.inner.Reading.{State, go_on, in_mode}

-- the breeds that the reader finds are those that are declared
abbrev pub IsKept : Reader → Type 0
IsKept reader = Knows (plurals reader.done.items) reader.owners

-- how many tokens of a body are read
abbrev pub counted : Mode → ℕ
counted (Inside reporter name inputs tokens) = tokens
counted Between = 0
counted (Awaiting s) = 0
counted (Listing s names) = 0
counted (Titling reporter) = 0
counted (Heading reporter name) = 0

-- the reader finds the breeds so far, and a token lies in the text
pub record MayTake (reader : Reader) (text : Bytes) (token : Token) : Type 0 where
  pub kept : IsKept reader
  pub inside : LiesIn text token.span

-- The reader went on to what is wanted, if there is a next mode, in which so many tokens of a body are read at most.
pub record Reaches (wanted : Option State) (most : ℕ) (reader : Reader) (next : Option Mode) : Type 0 where
  pub follows : wanted ≡ in_mode reader.done.items next
  pub counts : IfSome next (λ mode. counted mode ≤ most)
  pub kept : IsKept reader

-- what is wanted goes on in this mode, behind whatever declarations, and no token of a body is read
pub record GoesOn (wanted : List Declaration → Option State) (next : Option Mode) : Type 0 where
  pub follows : (done : List Declaration) → wanted done ≡ in_mode done next
  pub counts : IfSome next (λ mode. counted mode ≤ 0)

-- what follows a token of a body, or the word that ends it
abbrev pub go_on_with : List Declaration → Body → Lexeme → Option State
go_on_with ds body l = go_on ds body.reporter body.name body.inputs body.tokens l
