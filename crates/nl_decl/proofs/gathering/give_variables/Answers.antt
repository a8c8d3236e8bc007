use Rattle.std.proofs.Common.{◌∙◌, sym, ap}
use Rattle.std.proofs.lemmas.List.{drop_all}
use Rattle.nl_decl.specs.inner.Gathering.{with_owned}
use Rattle.nl_decl.proofs.Spread.{given_nothing}
use Rattle.nl_decl.proofs.gathering.give_variables.Goals as goal

pub returns : goal.returns
returns c =
    let over = drop_all c.declarations.declaration-index c.args.declarations.now c.declarations-test.false in
    sym (given_nothing 0 c.declarations.breeds.items) ∙ ap (λ ds. with_owned 0 ds c.declarations.breeds.items) (sym over) ∙ c.declarations.invariant
