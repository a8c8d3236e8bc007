-- The values fit.
use Rattle.std.proofs.Common.{IsTrue, List, map, ap, ◌∙◌, sym, subst}
use Rattle.nl_value.specs.Plain.{Plain, PlainItems, plains}
use Rattle.nl_exec_meaning.specs.Walks.{Answer}
use Rattle.nl_exec_meaning.specs.Ground.{fits}
use Rattle.nl_exec_meaning.specs.Seen.{ground}
use Rattle.nl_exec_walks.proofs.Fitting.{values_fit}
use Rattle.nl_exec_walks.proofs.finishing.finish.Goals as goal

pub returns-in_ok-items-in-OfAll-true-clause-fits : goal.returns-in_ok-items-in-OfAll-true-clause-fits
returns-in_ok-items-in-OfAll-true-clause-fits g c =
    let now = ground c.args.hands.now in
    subst (λ (p : Plain). IsTrue (fits now p)) (sym c.in_ok-items-in-OfAll-true.ensures)
    (subst (λ (vs : List Plain). IsTrue (fits now (PlainItems (plains vs))))
    (sym (c.in_ok-values-in-OfAll-true.ensures ∙ ap (map (λ (a : Answer). a.value)) c.into_vec.ensures))
    (values_fit now c.args.made c.requires.values))
