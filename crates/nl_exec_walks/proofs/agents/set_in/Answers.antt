-- What fits the ground fits the world.
use Rattle.std.proofs.Common.{ap, ◌∙◌, sym, subst, IsTrue}
use Rattle.nl_value.specs.declared.sets.AgentSet.{AgentSet}
use Rattle.nl_value.specs.Plain.{PlainSet}
use Rattle.nl_exec_meaning.specs.Ground.{fits}
use Rattle.nl_exec_meaning.proofs.Grounds.{fits_is}
use Rattle.nl_value.specs.declared.values.Value.{Value}
use Rattle.nl_value.specs.Views.{plain}
use Rattle.nl_exec_meaning.specs.Seen.{ground}
use Rattle.nl_exec_walks.proofs.agents.set_in.Goals as goal

pub in_order-requires : goal.in_order-requires
in_order-requires g c =
    sym (fits_is (g.S.Store.world c.args.hands.now.stage.store).rest (PlainSet c.deref-set.result.now))
    ∙ ap (λ (set : AgentSet). fits (ground c.args.hands.now) (PlainSet set)) c.deref-set.ensures
    ∙ subst (λ (v : Value). IsTrue (fits (ground c.args.hands.now) (plain v))) c.in-Set.is c.requires
