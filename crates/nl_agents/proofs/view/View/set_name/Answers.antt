use Rattle.std.proofs.Common.{ap, ◌∙◌, arith}
use Rattle.nl_fixed.specs.Spelling.{number_text}
use Rattle.nl_agents.proofs.LivingMembers.{members_are_few}
use Rattle.nl_agents.proofs.Naming.{set_named}
use Rattle.nl_agents.proofs.view.View.set_name.Goals as goal

pub whole-requires : goal.whole-requires
whole-requires g c =
    let few = members_are_few (g.S.Store.world c.args.self.now.store.now) c.args.set.now c.shape-stands.ensures.stands in
    omega (arith, few, c.in_ok-count.ensures)

pub returns : goal.returns
returns g c =
    let r = (g.S.Store.world c.args.self.now.store.now).rest in
    set_named r c.args.set.now c.in_ok-count.count c.as_bytes.result.now c.members_word.result.now _ _ _ _ _
    c.in_ok-count.ensures (c.as_bytes.ensures ∙ c.in_ok-number.ensures ∙ ap number_text c.whole.ensures) c.members_word.ensures
    c.in_ok-name.ensures.ok c.in_ok-append.ensures.ok c.in_ok-append-2.ensures.ok c.in_ok-append-3.ensures.ok c.in_ok-append-4.ensures.ok
