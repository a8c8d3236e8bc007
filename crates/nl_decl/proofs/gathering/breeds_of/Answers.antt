use Rattle.std.proofs.Common.{◌∙◌, ap}
use Rattle.nl_decl.specs.inner.Gathering.{with_owned}
use Rattle.nl_decl.proofs.Spread.{all_given}
use Rattle.nl_decl.proofs.gathering.breeds_of.Goals as goal

pub returns : goal.returns
returns c =
    c.of_vec.ensures ∙ c.in_ok-give_variables.ensures
    ∙ ap (λ bs. with_owned 0 c.args.declarations.now bs) c.in_ok-breeds.ensures
    ∙ all_given 0 c.args.declarations.now c.args.declarations.now
