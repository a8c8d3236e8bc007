-- What the code knows of the breeds that are declared.
use Rattle.std.specs.Prelude.{◌≡◌, ◌++◌, length, bytes_eq}
use Rattle.std.specs.HashMap.{get_by}
use Rattle.nl_fixed.specs.Nouns.{Name, Names}
use Rattle.nl_decl_outline.specs.declared.owners.Owners.{Owners}
use Rattle.nl_decl_outline.specs.Declarations.{breed_owning}

-- the words that declare variables of these breeds are kept, each with the first breed's place, and so is the number of breeds
pub record Knows (breeds : Names) (owners : Owners) : Type 0 where
  pub places : (word : Name) → get_by (λ key. bytes_eq word key.items) owners.places ≡ breed_owning breeds word
  pub count : owners.count ≡ length breeds

-- whatever breeds were known, these are known behind them
abbrev pub KnowsMore : Owners → Names → Owners → Type 0
KnowsMore old more new = (breeds : Names) → Knows breeds old → Knows (breeds ++ more) new
