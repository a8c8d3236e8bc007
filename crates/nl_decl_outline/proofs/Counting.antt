-- The breeds of declarations, counted.
use Rattle.std.proofs.Common.{◌≤◌, List, [], ◌∷◌, ◌++◌, length, sym, subst, arith}
use Rattle.nl_decl_outline.specs.declared.declaration.Declaration.{Declaration}
use Rattle.nl_decl_outline.specs.declared.declaration.Declaration.TheVariants.{Globals, Own, Breed, Procedure}
use Rattle.nl_decl_outline.specs.declared.owners.Owners.{Owners}
use Rattle.nl_decl_outline.specs.Declarations.{plural_of, plurals}
use Rattle.nl_decl_outline.specs.inner.Owners.{Knows}
use Rattle.nl_decl_outline.proofs.Taken.{plurals-push}

-- there are no more breeds than declarations
pub plurals_fewer : (ds : List Declaration) → length (plurals ds) ≤ length ds
plurals_fewer [] = omega arith
plurals_fewer (Globals names ∷ ds) = omega (arith, plurals_fewer ds)
plurals_fewer (Own o names ∷ ds) = omega (arith, plurals_fewer ds)
plurals_fewer (Breed s p q ∷ ds) = omega (arith, plurals_fewer ds)
plurals_fewer (Procedure r name inputs tokens ∷ ds) = omega (arith, plurals_fewer ds)

pub knows_more : (ds : List Declaration) (d : Declaration) (o : Owners) → Knows (plurals ds ++ plural_of d) o → Knows (plurals (ds ++ d ∷ [])) o
knows_more ds d o h = subst (λ ps. Knows ps o) (sym (plurals-push ds d)) h
