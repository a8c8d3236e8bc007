-- What a text declares, or its first fault.
use Rattle.std.specs.Prelude.{◌≡◌, ℕ, List, Some, None}
use Rattle.nl_fixed.specs.Nouns.{Names}
use Rattle.nl_tree.specs.declared.declared.Declared.{Declared}
use Rattle.nl_tree.specs.Tokens.{Lexeme}
use Rattle.nl_decl_outline.specs.declared.declaration.Declaration.{Declaration}
use Rattle.nl_decl.specs.declared.refusal.DeclKind.{DeclKind}
use Rattle.nl_decl.specs.declared.refusal.DeclKind.TheVariants.{Duplicate, BadDeclaration}
use Rattle.nl_decl.specs.declared.refusal.DeclRefusal.{DeclRefusal}
use Rattle.nl_decl.specs.declared.refusal.DeclRefusal.TheVariants.{Fault, NoMemory}
use Rattle.nl_decl_outline.specs.Declarations.{AreDeclarations, IsBadPlace}
use Rattle.nl_decl.specs.Rooms.{AreFew}
use Rattle.nl_decl.specs.Claims.{duplicate_in}
use Rattle.nl_decl.specs.Gathered.{Gathers}

-- the tokens are declarations that declare no name twice, and this is what they declare beside the widgets
abbrev pub Declares : List Lexeme → Names → Declared → Type 0
Declares ls widgets d = (ds : List Declaration) × (AreDeclarations ls ds × (duplicate_in widgets ds ≡ None) × Gathers widgets ds d)

-- The fault of tokens: the first of them with which they begin no declarations; where they are declarations, the first name that is declared
-- twice.
abbrev pub IsFaultOf : List Lexeme → Names → DeclKind → ℕ → Type 0
IsFaultOf ls widgets BadDeclaration place = IsBadPlace ls place
IsFaultOf ls widgets Duplicate place = (ds : List Declaration) × (AreDeclarations ls ds × (duplicate_in widgets ds ≡ Some place))

abbrev pub IsRefusedFor : List Lexeme → Names → DeclRefusal → Type 0
IsRefusedFor ls widgets (Fault kind place) = IsFaultOf ls widgets kind place
IsRefusedFor ls widgets NoMemory = Unit {0}

-- few enough to be numbered
abbrev pub DeclareFew : Names → List Declaration → Type 0
DeclareFew widgets ds = (d : Declared) → Gathers widgets ds d → AreFew d
