-- Literals in their own words: a constant, or brackets with literals between them.
use Rattle.std.specs.Prelude.{◌≡◌, ◌↔◌, List, [], ◌∷◌, ◌++◌, Some, Ok}
use Rattle.nl_fixed.specs.Nouns.{Bytes}
use Rattle.nl_scan.specs.declared.token.Lexeme.TheVariants as lexeme
use Rattle.nl_scan.specs.declared.token.Token.{Token}
use Rattle.nl_value.specs.Plain.{Plain, PlainItems, plains}
use Rattle.nl_experiment_keys.specs.Literals.{literal_of_tokens, token_value}

mutual
  -- `IsLiteral text ts v`: these tokens of a text are a literal of this value
  pub data IsLiteral (text : Bytes) : List Token → Plain → Type 0 where
    -- a truth, nobody, a color, a number or a text
    constant : {t : Token} {v : Plain} → token_value text t t.lexeme ≡ Some v → IsLiteral text (t ∷ []) v
    -- a list
    listed : (o c : Token) {ts : List Token} {vs : List Plain} → o.lexeme ≡ lexeme.Open → c.lexeme ≡ lexeme.Close → AreLiterals text ts vs
        → IsLiteral text (o ∷ (ts ++ c ∷ [])) (PlainItems (plains vs))

  -- they are literals, one behind another
  pub data AreLiterals (text : Bytes) : List Token → List Plain → Type 0 where
    none : AreLiterals text [] []
    more : {ts us : List Token} {v : Plain} {vs : List Plain} → IsLiteral text ts v → AreLiterals text us vs → AreLiterals text (ts ++ us) (v ∷ vs)

-- tokens are read as a value exactly where they are a literal of this value
abbrev pub LiteralsAreThose : Type 0
LiteralsAreThose = (text : Bytes) (ts : List Token) (v : Plain) → (literal_of_tokens text (Ok ts) ≡ Some v) ↔ IsLiteral text ts v
