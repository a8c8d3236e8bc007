use Rattle.std.proofs.Common.{◌≡◌, None}
use Rattle.nl_value.specs.Plain.{PlainNumber}
use Rattle.nl_agents.specs.Changes.{value_of, revalued}
use Rattle.nl_agents.specs.declared.agents.Owner.TheVariants as owner
use Rattle.nl_birth.proofs.Setting.{unowned_stays, set_or_stays}
use Rattle.nl_birth.proofs.looks.set_number.Goals as goal

pub returns : goal.returns
returns g c =
    let w = g.S.Store.world c.args.store.now in
    let value = PlainNumber c.args.number in
    set_or_stays c.set_var-old.result w (g.S.Store.world c.set_var-old.new.self) (revalued (owner.Turtle c.args.turtle) c.args.slot value w)
    (value_of (owner.Turtle c.args.turtle) c.args.slot w ≡ None)
    c.set_var-old.ensures.set c.set_var-old.ensures.kept c.set_var-old.ensures.not_owned.0
    (unowned_stays w c.args.turtle c.args.slot value c.shape-shape.ensures.stands c.requires)
