use Rattle.std.proofs.Common.{List, IsTrue, sym, subst}
use Rattle.nl_value.specs.Plain.{Plain, PlainItems, plains}
use Rattle.nl_agents.specs.Standing.{fits_rest}
use Rattle.nl_exec_acts.proofs.Members.{members_fit}
use Rattle.nl_exec_acts.proofs.values.of_set.Goals as goal

pub returns-in_ok-items-in-Ok-clause-fit : goal.returns-in_ok-items-in-Ok-clause-fit
returns-in_ok-items-in-Ok-clause-fit g c =
    let r = (g.S.Store.world c.args.view.now.store.now).rest in
    subst (λ (p : Plain). IsTrue (fits_rest r p)) (sym c.in_ok-items-in-Ok.ensures)
    (subst (λ (items : List Plain). IsTrue (fits_rest r (PlainItems (plains items)))) (sym c.in_ok-members-in-Ok.ensures)
    (members_fit r c.in-Ok.set.now))
