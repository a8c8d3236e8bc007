use Rattle.std.proofs.Common.{ap, ap₂}
use Rattle.std.proofs.lemmas.Result.{on_err_weaker}
use Rattle.nl_value.specs.Views.{plain}
use Rattle.nl_agents.specs.declared.agents.Owner.TheVariants as owner
use Rattle.nl_plain.specs.Held.{world_in}
use Rattle.nl_plain.proofs.Holds.{with_turtles, with_links, with_patches, with_observed, globals_written, revalued_stands}
use Rattle.nl_plain.proofs.plain.PlainStore.set_var.Goals as goal

pub invariant_of-self : goal.invariant_of-self
invariant_of-self c =
    let w = world_in c.args.self.now in
    let after = with_observed w c.set_global.new.globals c.set_global.new.run in
    let value = plain c.args.value in
    record {
      stands = revalued_stands w after c.args.owner owner.Observer c.args.slot value c.args.self.now.stands c.requires.holds c.in-Observer.is
          (globals_written w c.args.slot value c.set_global.new.globals c.set_global.new.run c.set_global.ensures.globals c.set_global.ensures.run);
    }

pub returns-in-Observer-clause-kept : goal.returns-in-Observer-clause-kept
returns-in-Observer-clause-kept c = on_err_weaker c.set_global.result (λ both. ap₂ (with_observed (world_in c.args.self.now)) both.0 both.1) c.set_global.ensures.kept

pub invariant_of-self-in-Turtle : goal.invariant_of-self-in-Turtle
invariant_of-self-in-Turtle c =
    let w = world_in c.args.self.now in
    record {
      stands = revalued_stands w (with_turtles w c.set_turtle.new.turtles.items) c.args.owner (owner.Turtle c.in-Turtle.turtle) c.args.slot (plain c.args.value) c.args.self.now.stands c.requires.holds c.in-Turtle.is
          (ap (with_turtles w) c.set_turtle.ensures.new);
    }

pub returns-in-Turtle-clause-kept : goal.returns-in-Turtle-clause-kept
returns-in-Turtle-clause-kept c = on_err_weaker c.set_turtle.result (ap (with_turtles (world_in c.args.self.now))) c.set_turtle.ensures.kept

pub invariant_of-self-in-Patch : goal.invariant_of-self-in-Patch
invariant_of-self-in-Patch c =
    let w = world_in c.args.self.now in
    record {
      stands = revalued_stands w (with_patches w c.set_patch.new.patches.items) c.args.owner (owner.Patch c.in-Patch.patch) c.args.slot (plain c.args.value) c.args.self.now.stands c.requires.holds c.in-Patch.is
          (ap (with_patches w) c.set_patch.ensures.new);
    }

pub returns-in-Patch-clause-kept : goal.returns-in-Patch-clause-kept
returns-in-Patch-clause-kept c = on_err_weaker c.set_patch.result (ap (with_patches (world_in c.args.self.now))) c.set_patch.ensures.kept

pub invariant_of-self-in-Link : goal.invariant_of-self-in-Link
invariant_of-self-in-Link c =
    let w = world_in c.args.self.now in
    record {
      stands = revalued_stands w (with_links w c.set.new.self) c.args.owner (owner.Link c.in-Link.link) c.args.slot (plain c.args.value) c.args.self.now.stands c.requires.holds c.in-Link.is
          (ap (with_links w) c.set.ensures.new);
    }

pub returns-in-Link-clause-kept : goal.returns-in-Link-clause-kept
returns-in-Link-clause-kept c = on_err_weaker c.set.result (ap (with_links (world_in c.args.self.now))) c.set.ensures.kept
