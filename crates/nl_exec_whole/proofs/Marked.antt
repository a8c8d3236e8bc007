-- Tokens that a table has marked say what its rows make of their words.
use Rattle.std.proofs.Common.{◌≡◌, List, [], ◌∷◌, refl}
use Rattle.nl_tree.specs.Term.{Term}
use Rattle.nl_tree.specs.Tokens.{Lexeme, Token, class_of, Tok, number, text, word, open_bracket, close_bracket, open_paren, close_paren, end, marked_as, marked}
use Rattle.nl_tree.specs.Tokens as lexeme
use Rattle.nl_tree.specs.Vocabulary.{term_named}

module _ (table : List Term) where
  -- what a token says of its word's row
  abbrev pub IsMarked : Tok → Type 0
  IsMarked (word w c s) = c ≡ class_of (term_named table w)
  IsMarked (number n s) = Unit {0}
  IsMarked (text bytes s) = Unit {0}
  IsMarked (open_bracket s) = Unit {0}
  IsMarked (close_bracket s) = Unit {0}
  IsMarked (open_paren s) = Unit {0}
  IsMarked (close_paren s) = Unit {0}
  IsMarked (end s) = Unit {0}

  abbrev pub AreMarked : List Tok → Type 0
  AreMarked [] = Unit {0}
  AreMarked (k ∷ ks) = IsMarked k × AreMarked ks

  marked_as_such : (s : _) (l : Lexeme) → IsMarked (marked_as table s l)
  marked_as_such s (lexeme.Number n) = tt
  marked_as_such s (lexeme.Text bytes) = tt
  marked_as_such s (lexeme.Word name) = refl
  marked_as_such s lexeme.Open = tt
  marked_as_such s lexeme.Close = tt
  marked_as_such s lexeme.OpenParen = tt
  marked_as_such s lexeme.CloseParen = tt
  marked_as_such s lexeme.End = tt

  pub all_marked : (ts : List Token) → AreMarked (marked table ts)
  all_marked [] = tt
  all_marked (t ∷ ts) = (marked_as_such t.span t.lexeme, all_marked ts)
