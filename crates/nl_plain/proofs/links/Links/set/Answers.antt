use Rattle.std.proofs.Common.{ap, ◌∙◌, sym, true, false}
use Rattle.nl_value.specs.Views.{plain}
use Rattle.nl_plain.specs.Lists.{unbreeded}
use Rattle.nl_plain.proofs.Counted.{set_unbreeded}
use Rattle.nl_plain.proofs.links.Links.set.Goals as goal

pub invariant_of-self : goal.invariant_of-self
invariant_of-self c =
    let xs = c.self.inside.list.items in (
      c.self.invariant.0 ∙ sym (set_unbreeded true c.args.slots.now c.args.slot (plain c.args.value) c.args.serial xs) ∙ ap (unbreeded true) (sym c.set_link.ensures.new),
      c.self.invariant.1 ∙ sym (set_unbreeded false c.args.slots.now c.args.slot (plain c.args.value) c.args.serial xs) ∙ ap (unbreeded false) (sym c.set_link.ensures.new),
    )
