use Rattle.std.proofs.Common.{IsTrue, sym, subst}
use Rattle.nl_value.specs.Plain.{Plain}
use Rattle.nl_agents.specs.Standing.{fits_rest}
use Rattle.trial_query.proofs.Filling.{as_value}
use Rattle.trial_query.proofs.giving.value_of.Goals as goal

pub returns-in_ok-listed-in-Numbers : goal.returns-in_ok-listed-in-Numbers
returns-in_ok-listed-in-Numbers g c =
    let r = (g.S.Store.world c.args.tried.now.store).rest in
    subst (λ (value : Plain). IsTrue (fits_rest r value)) (sym c.in_ok-listed-in-Numbers.ensures)
    (as_value r c.in_ok-numbers-in-Numbers.field-0 (c.in_ok-numbers-in-Numbers.ensures r))

pub returns-in_ok-listed-in-Filled : goal.returns-in_ok-listed-in-Filled
returns-in_ok-listed-in-Filled g c =
    let r = (g.S.Store.world c.args.tried.now.store).rest in
    subst (λ (value : Plain). IsTrue (fits_rest r value)) (sym c.in_ok-listed-in-Filled.ensures)
    (as_value r c.in_ok-filled-in-Filled.field-0 (c.in_ok-filled-in-Filled.ensures r))

pub returns-in_ok-listed-in-Agents : goal.returns-in_ok-listed-in-Agents
returns-in_ok-listed-in-Agents g c =
    let r = (g.S.Store.world c.args.tried.now.store).rest in
    subst (λ (value : Plain). IsTrue (fits_rest r value)) (sym c.in_ok-listed-in-Agents.ensures)
    (as_value r c.in_ok-agents-in-Agents.field-0 c.in_ok-agents-in-Agents.ensures)

pub returns-in_ok-listed-in-Offsets : goal.returns-in_ok-listed-in-Offsets
returns-in_ok-listed-in-Offsets g c =
    let r = (g.S.Store.world c.args.tried.now.store).rest in
    subst (λ (value : Plain). IsTrue (fits_rest r value)) (sym c.in_ok-listed-in-Offsets.ensures)
    (as_value r c.in_ok-offsets-in-Offsets.field-0 (c.in_ok-offsets-in-Offsets.ensures r))
