-- The law of where bodies lie.
use Rattle.std.specs.Prelude.{map, List}
use Rattle.nl_tree.specs.Tokens.{Lexeme}
use Rattle.nl_decl_outline.specs.declared.declaration.Declaration.{Declaration}
use Rattle.nl_decl_outline.specs.Declarations.{AreDeclarations}
use Rattle.nl_decl.specs.Bodies.{span_of, LieFrom}
use Rattle.nl_decl.specs.Gathered.{procedures_in}

-- the bodies of procedures lie in the text in order, without overlap, each closed by its `end`
abbrev pub BodiesLieInOrder : Type 0
BodiesLieInOrder = (ls : List Lexeme) (ds : List Declaration) → AreDeclarations ls ds → LieFrom ls 0 (map span_of (procedures_in ds))
