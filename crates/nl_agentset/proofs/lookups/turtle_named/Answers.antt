use Rattle.std.proofs.Common.{◌≡◌, ◌+◌, ℕ, Some, option_map, ap, sym, ◌∙◌, subst}
use Rattle.nl_agents.specs.Changes.{turtle_lives}
use Rattle.nl_agents.specs.declared.agents.Turtle.{Turtle}
use Rattle.nl_agentset.specs.Sets.{turtle_named}
use Rattle.nl_grid.proofs.WalkLemmas.{not_some}
use Rattle.nl_agentset.proofs.Called.{no_ones, none_called, ones_of, named_lives, named_dead}
use Rattle.nl_agentset.proofs.lookups.turtle_named.Goals as goal

pub returns-then-turtle_lives-clause-turtle : goal.returns-then-turtle_lives-clause-turtle
returns-then-turtle_lives-clause-turtle g c =
    let w = g.S.Store.world c.args.store.now in
    let who = c.in-Some.who in
    let ones = ones_of c.args.number who (sym c.in-Some.is ∙ c.whole_from_zero.ensures.value) in
    let Found : ℕ → Type 0 = λ base. Some (base + who) ≡ option_map (λ (t : Turtle). t.serial) (turtle_named w.rest c.args.number) in
    let lives = ap (λ base. turtle_lives w.rest (base + who)) (sym c.base.ensures) ∙ sym c.turtle_lives.ensures ∙ c.if-turtle_lives.true in
    subst Found (sym c.base.ensures) (named_lives w c.args.number who c.shape-stands.ensures.stands ones lives)

pub returns-else-turtle_lives-clause-turtle : goal.returns-else-turtle_lives-clause-turtle
returns-else-turtle_lives-clause-turtle g c =
    let w = g.S.Store.world c.args.store.now in
    let who = c.in-Some.who in
    let ones = ones_of c.args.number who (sym c.in-Some.is ∙ c.whole_from_zero.ensures.value) in
    let dead = ap (λ base. turtle_lives w.rest (base + who)) (sym c.base.ensures) ∙ sym c.turtle_lives.ensures ∙ c.if-turtle_lives.false in
    named_dead w c.args.number who c.shape-stands.ensures.stands ones dead

pub returns-in_default-clause-turtle : goal.returns-in_default-clause-turtle
returns-in_default-clause-turtle g c =
    let r = (g.S.Store.world c.args.store.now).rest in
    let none = sym (not_some c.whole_from_zero.result c.in_default.not-Some) ∙ c.whole_from_zero.ensures.value in
    ap (option_map (λ (t : Turtle). t.serial)) (sym (none_called r c.args.number (no_ones c.args.number none)))
