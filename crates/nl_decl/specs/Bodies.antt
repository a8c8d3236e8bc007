-- Where the bodies of procedures lie among the tokens of declarations.
use Rattle.std.specs.Prelude.{◌≡◌, ℕ, ◌+◌, ◌≤◌, ◌<◌, List, [], ◌∷◌, Some, length, map, codes, slice_get, ◌++◌}
use Rattle.nl_decl_outline.specs.declared.declaration.Declaration.{Declaration}
use Rattle.nl_decl_outline.specs.declared.declaration.Declaration.TheVariants.{Globals, Own, Breed, Procedure}
use Rattle.nl_tree.specs.Tokens.{Lexeme, Word}
use Rattle.nl_tree.specs.declared.declared.Procedure as tree
use Rattle.nl_tree.specs.declared.declared.Declared.{Declared}
use Rattle.nl_decl_outline.specs.Lengths.{inputs_length, length_of}

-- the first token of a body, and that of its `end`
pub record Place : Type 0 where
  pub first : ℕ
  pub after : ℕ

abbrev pub span_of : tree.Procedure → Place
span_of p = record { first = p.first; after = p.after }

-- where the body of a declaration lies that begins at a token
abbrev pub place_in : ℕ → Declaration → List Place
place_in at (Procedure reporter name inputs tokens) =
    record { first = at + 2 + inputs_length inputs; after = at + 2 + inputs_length inputs + tokens } ∷ []
place_in at (Globals names) = []
place_in at (Own o names) = []
place_in at (Breed s plural singular) = []

-- where the bodies of these declarations lie, of which the first begins at a token
abbrev pub places_from : ℕ → List Declaration → List Place
places_from at [] = []
places_from at (d ∷ ds) = place_in at d ++ places_from (at + length_of d) ds

-- Bodies lie in the text one behind another, from a token on: each has its `end` behind it, and none of its tokens is one.
abbrev pub LieFrom : List Lexeme → ℕ → List Place → Type 0
LieFrom ls at [] = at ≤ length ls
LieFrom ls at (p ∷ ps) =
    (at ≤ p.first) × (p.first ≤ p.after) × (slice_get ls p.after ≡ Some (Word (codes "end")))
    × ((k : ℕ) → p.first ≤ k → k < p.after → slice_get ls k ≡ Some (Word (codes "end")) → ⊥)
    × LieFrom ls (p.after + 1) ps

abbrev pub BodiesLieIn : List Lexeme → Declared → Type 0
BodiesLieIn ls d = LieFrom ls 0 (map span_of d.procedures)
