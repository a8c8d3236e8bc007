-- Declarations are accepted where no name is declared twice, and only there.
use Rattle.std.specs.Prelude.{◌≡◌, ◌+◌, ◌^◌, ◌<◌, ◌≤◌, ◌&&◌, IsTrue, List, None, length}
use Rattle.std.specs.List.{All, list_all}
use Rattle.nl_fixed.specs.Nouns.{Names}
use Rattle.nl_words.specs.Table.{is_name}
use Rattle.nl_tree.specs.declared.declared.Declared.{Declared}
use Rattle.nl_tree.specs.Tokens.{Lexeme, IsLexeme}
use Rattle.nl_tree.specs.Names.{has_no_duplicate, all_names, directions_fit, AreWidgets}
use Rattle.nl_decl_outline.specs.declared.declaration.Declaration.{Declaration}
use Rattle.nl_decl_outline.specs.Declarations.{AreDeclarations}
use Rattle.nl_decl.specs.Gathered.{Gathers}
use Rattle.nl_decl.specs.Claims.{duplicate_in}

-- what declarations declare in all, beside widgets, is declared as `IsDeclared` asks: the names differ, have names' forms and are not too many,
-- and only breeds of links have a direction
abbrev pub AcceptedWhereNoneIsTwice : Type 0
AcceptedWhereNoneIsTwice =
    (ls : List Lexeme) (ds : List Declaration) (widgets : Names) (d : Declared)
    → AreDeclarations ls ds → All IsLexeme ls → length ls ≤ 4194304 → AreWidgets widgets → Gathers widgets ds d → duplicate_in widgets ds ≡ None
    → IsTrue (has_no_duplicate d && list_all is_name (all_names d) && directions_fit d)
    × (length (all_names d) + length d.breeds + length d.procedures < 2 ^ 31)

-- No name is declared twice where what declarations declare in all has no duplicate, whatever the widgets are. So both laws together say that
-- none is declared twice exactly where the test of a model's names finds no duplicate.
abbrev pub NoneIsTwiceWhereAccepted : Type 0
NoneIsTwiceWhereAccepted =
    (ls : List Lexeme) (ds : List Declaration) (widgets : Names) (d : Declared)
    → AreDeclarations ls ds → Gathers widgets ds d → IsTrue (has_no_duplicate d) → duplicate_in widgets ds ≡ None
