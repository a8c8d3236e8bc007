use Rattle.std.proofs.Common.{◌≡◌, ◌∷◌, refl, sym, subst}
use Rattle.nl_decl_outline.specs.declared.declaration.Declaration.{Declaration}
use Rattle.nl_decl.specs.inner.Gathering.{with_owned}
use Rattle.nl_decl.proofs.Spread.{plain}
use Rattle.nl_decl.proofs.gathering.give_declared.Goals as goal

pub returns-in-Globals : goal.returns-in-Globals
returns-in-Globals c ds = subst (λ (d : Declaration). with_owned 0 (d ∷ ds) c.args.breeds.now.items ≡ with_owned 0 ds c.args.breeds.now.items) (sym c.in-Globals.is) (plain _ ds 0 c.args.breeds.now.items (λ m. refl))

pub returns-in-Breed : goal.returns-in-Breed
returns-in-Breed c ds = subst (λ (d : Declaration). with_owned 0 (d ∷ ds) c.args.breeds.now.items ≡ with_owned 0 ds c.args.breeds.now.items) (sym c.in-Breed.is) (plain _ ds 0 c.args.breeds.now.items (λ m. refl))

pub returns-in-Procedure : goal.returns-in-Procedure
returns-in-Procedure c ds = subst (λ (d : Declaration). with_owned 0 (d ∷ ds) c.args.breeds.now.items ≡ with_owned 0 ds c.args.breeds.now.items) (sym c.in-Procedure.is) (plain _ ds 0 c.args.breeds.now.items (λ m. refl))
