-- The refusal of tokens that are no declarations.
use Rattle.nl_decl_outline.specs.declared.refusal.OutlineRefusal.{OutlineRefusal}
use Rattle.nl_decl_outline.specs.declared.refusal.OutlineRefusal.TheVariants as outline
use Rattle.nl_decl.specs.declared.refusal.DeclKind.TheVariants.{BadDeclaration}
use Rattle.nl_decl.specs.declared.refusal.DeclRefusal.{DeclRefusal}
use Rattle.nl_decl.specs.declared.refusal.DeclRefusal.TheVariants.{Fault, NoMemory}

abbrev pub of_outline : OutlineRefusal → DeclRefusal
of_outline (outline.BadToken index) = Fault BadDeclaration index
of_outline outline.NoMemory = NoMemory
