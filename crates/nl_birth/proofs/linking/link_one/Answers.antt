-- A link to one target is made, or nothing is.
use Rattle.std.proofs.Common.{◌==◌, ◌&&◌, [], ◌∷◌, Err, ap, ◌∙◌, sym, subst}
use Rattle.std.specs.List.{list_any}
use Rattle.std.proofs.lemmas.Bool.{eq-eqb, ne_eqb}
use Rattle.nl_agents.specs.Changes.{AreLinksFull}
use Rattle.nl_agents.specs.declared.refusals.TieFail.TheVariants as tie
use Rattle.nl_birth.specs.declared.failing.BirthFail.TheVariants.{NoMemory}
use Rattle.nl_birth.specs.Links.{is_of_other_kind, linked}
use Rattle.nl_birth.specs.Outcomes.{Filled, IsMade, fail_of_tie}
use Rattle.nl_birth.specs.Keeping.{Keeps}
use Rattle.nl_birth.proofs.Counting.{ok_not_full}
use Rattle.nl_birth.proofs.Keeping.{all_stay}
use Rattle.nl_birth.proofs.OneTarget.{as_told, barred, full_for_one, joined_already, made_one, one_ends, one_keeps, store_refuses, to_itself}
use Rattle.nl_birth.proofs.linking.link_one.Goals as goal

pub returns-then-target-caller-clause-outcome : goal.returns-then-target-caller-clause-outcome
returns-then-target-caller-clause-outcome g c =
    to_itself c.args.way c.args.breed c.args.caller c.args.target (g.S.Store.world c.args.store.now) (eq-eqb c.args.target c.args.caller c.if-target-caller.true)

pub returns-then-target-caller-clause-keeps : goal.returns-then-target-caller-clause-keeps
returns-then-target-caller-clause-keeps g c = all_stay (g.S.Store.world c.args.store.now)

pub returns-in_err-others-clause-outcome : goal.returns-in_err-others-clause-outcome
returns-in_err-others-clause-outcome g c =
    let w = g.S.Store.world c.args.store.now in
    one_ends (linked c.args.way c.args.breed c.args.caller (c.args.target ∷ []) w) w c.from_residual.result NoMemory c.from_residual.ensures.1 tt

pub returns-in_err-others-clause-keeps : goal.returns-in_err-others-clause-keeps
returns-in_err-others-clause-keeps g c = all_stay (g.S.Store.world c.args.store.now)

pub returns-then-contains-clause-outcome : goal.returns-then-contains-clause-outcome
returns-then-contains-clause-outcome g c =
    joined_already c.args.way c.args.breed c.args.caller c.args.target (g.S.Store.world c.args.store.now) (ne_eqb c.args.target c.args.caller c.if-target-caller.false)
    (sym (c.in_ok-others.ensures c.args.target) ∙ sym c.contains.ensures ∙ c.if-contains.true)

pub returns-then-contains-clause-keeps : goal.returns-then-contains-clause-keeps
returns-then-contains-clause-keeps g c = all_stay (g.S.Store.world c.args.store.now)

pub returns-then-is_barred-clause-outcome : goal.returns-then-is_barred-clause-outcome
returns-then-is_barred-clause-outcome g c =
    let w = g.S.Store.world c.args.store.now in
    barred c.args.way c.args.breed c.args.caller c.args.target w (ne_eqb c.args.target c.args.caller c.if-target-caller.false)
    (sym (c.in_ok-others.ensures c.args.target) ∙ sym c.contains.ensures ∙ c.if-contains.false)
    (ap (λ d. (c.args.breed == 0) && list_any (is_of_other_kind d) w.rest.links) (sym c.has_direction-directed.ensures) ∙ sym c.is_barred.ensures ∙ c.if-is_barred.true)

pub returns-then-is_barred-clause-keeps : goal.returns-then-is_barred-clause-keeps
returns-then-is_barred-clause-keeps g c = all_stay (g.S.Store.world c.args.store.now)

pub returns-in_err-_link-clause-outcome : goal.returns-in_err-_link-clause-outcome
returns-in_err-_link-clause-outcome g c =
    let w = g.S.Store.world c.args.store.now in
    let now = g.S.Store.world c.tie.new.self in
    let outcome = linked c.args.way c.args.breed c.args.caller (c.args.target ∷ []) w in
    let fail = c.in_err-_link.field-0.0 in
    let e = c.in_err-_link.ensures in
    one_ends outcome now c.from_residual-in_err-_link.result (fail_of_tie fail) c.from_residual-in_err-_link.ensures.1
    (store_refuses outcome now fail (λ full.
    full_for_one c.args.way c.args.breed c.args.caller c.args.target w (ne_eqb c.args.target c.args.caller c.if-target-caller.false)
    (sym (c.in_ok-others.ensures c.args.target) ∙ sym c.contains.ensures ∙ c.if-contains.false)
    (ap (λ d. (c.args.breed == 0) && list_any (is_of_other_kind d) w.rest.links) (sym c.has_direction-directed.ensures) ∙ sym c.is_barred.ensures ∙ c.if-is_barred.false)
    (e.full.0 (ap Err full)) ∙ ap Filled (sym e.kept)))

pub returns-in_err-_link-clause-keeps : goal.returns-in_err-_link-clause-keeps
returns-in_err-_link-clause-keeps g c =
    let w = g.S.Store.world c.args.store.now in
    subst (Keeps w) (sym c.in_err-_link.ensures.kept) (all_stay w)

pub returns-clause-outcome : goal.returns-clause-outcome
returns-clause-outcome g c =
    let w = g.S.Store.world c.args.store.now in
    subst (IsMade (linked c.args.way c.args.breed c.args.caller (c.args.target ∷ []) w))
    (sym (as_told c.args.way c.args.breed c.args.caller c.args.target w (g.S.Store.world c.tie.new.self) c.has_direction-directed.result c.ends-end1.result.0 c.ends-end1.result.1
    c.in_ok-_link.ensures.tied c.has_direction-directed.ensures c.ends-end1.ensures.first c.ends-end1.ensures.second))
    (made_one c.args.way c.args.breed c.args.caller c.args.target w (ne_eqb c.args.target c.args.caller c.if-target-caller.false)
    (sym (c.in_ok-others.ensures c.args.target) ∙ sym c.contains.ensures ∙ c.if-contains.false)
    (ap (λ d. (c.args.breed == 0) && list_any (is_of_other_kind d) w.rest.links) (sym c.has_direction-directed.ensures) ∙ sym c.is_barred.ensures ∙ c.if-is_barred.false)
    (ok_not_full c.in_ok-_link._link tie.Full (AreLinksFull w) c.in_ok-_link.ensures.full.1))

pub returns-clause-keeps : goal.returns-clause-keeps
returns-clause-keeps g c =
    let w = g.S.Store.world c.args.store.now in
    subst (Keeps w)
    (sym (as_told c.args.way c.args.breed c.args.caller c.args.target w (g.S.Store.world c.tie.new.self) c.has_direction-directed.result c.ends-end1.result.0 c.ends-end1.result.1
    c.in_ok-_link.ensures.tied c.has_direction-directed.ensures c.ends-end1.ensures.first c.ends-end1.ensures.second))
    (one_keeps c.args.way c.args.breed c.args.caller c.args.target w)
