-- The words by which faults of declarations are told.
use Rattle.std.specs.Prelude.{codes}
use Rattle.nl_fixed.specs.Nouns.{Bytes}
use Rattle.nl_decl.specs.declared.refusal.DeclKind.{DeclKind}

abbrev pub decl_kind_text : DeclKind → Bytes
decl_kind_text DeclKind.Duplicate = codes "Duplicate"
decl_kind_text DeclKind.BadDeclaration = codes "BadDeclaration"
