use Rattle.std.proofs.Common.{true, false, sym, ◌∙◌}
use Rattle.nl_agentset.proofs.Called.{breed_decides}
use Rattle.nl_agentset.proofs.lookups.turtle_called.Goals as goal

pub returns-then-is_of : goal.returns-then-is_of
returns-then-is_of g c =
    let w = g.S.Store.world c.args.store.now in
    sym (breed_decides w c.args.breed c.args.number c.in-Some.turtle c.breed_of.result true c.shape-stands.ensures.stands
    (sym c.is_whole.ensures.value ∙ c.if-not-is_whole.false) (sym c.in-Some.is ∙ c.turtle_named.ensures.turtle) c.breed_of.ensures.value (sym c.is_of.ensures ∙ c.if-is_of.true))

pub returns-else-is_of : goal.returns-else-is_of
returns-else-is_of g c =
    let w = g.S.Store.world c.args.store.now in
    sym (breed_decides w c.args.breed c.args.number c.in-Some.turtle c.breed_of.result false c.shape-stands.ensures.stands
    (sym c.is_whole.ensures.value ∙ c.if-not-is_whole.false) (sym c.in-Some.is ∙ c.turtle_named.ensures.turtle) c.breed_of.ensures.value (sym c.is_of.ensures ∙ c.if-is_of.false))
