use Rattle.std.proofs.Common.{◌∙◌, ap, slice_set}
use Rattle.nl_value.specs.Views.{plain}
use Rattle.nl_agents.specs.Nouns.{Vars}
use Rattle.nl_agents.specs.Changes.{value_set}
use Rattle.nl_agents.specs.declared.agents.Link.{Link}
use Rattle.nl_plain.proofs.Found.{changed_found}
use Rattle.nl_plain.proofs.changing.set_link.Goals as goal

pub returns-clause-new : goal.returns-clause-new
returns-clause-new c =
    let at = c.unwrap-at.result in
    let old : Link = c.index_mut.result.now in
    ap (λ (vars : Vars). slice_set c.args.links.now.items at (record old { vars = vars })) c.set.ensures.new
    ∙ changed_found (λ (a : Link). a.serial) (λ (a : Link). record a { vars = value_set c.args.slots.now a.vars c.args.slot (plain c.args.value) }) c.args.links.now.items c.deref.result.now c.args.serial c.link_place.result at old c.requires.order c.deref.ensures.value c.link_place.ensures c.unwrap-at.ensures c.index_mut.ensures.value
