use Rattle.std.specs.Prelude.{List}
use Rattle.std.specs.List.Sorted.{IsStrictlyIncreasing}
use Rattle.std.proofs.Common.{◌∙◌, ap, refl, subst, sym}
use Rattle.std.proofs.lemmas.Result.{on_err_weaker}
use Rattle.nl_value.specs.Views.{plain}
use Rattle.nl_agents.specs.Nouns.{Vars}
use Rattle.nl_agents.specs.Changes.{changed_at, value_set}
use Rattle.nl_agents.specs.declared.agents.Link.{Link}
use Rattle.nl_agents.specs.declared.agents.Turtle.{Turtle}
use Rattle.nl_agents.specs.declared.agents.Owner.TheVariants as owner
use Rattle.nl_agents_layout.specs.Nouns.{Slots}
use Rattle.nl_store_files.specs.Agents.{links_filled, turtles_filled, Agents}
use Rattle.nl_store.specs.Held.{world_in}
use Rattle.nl_store.specs.Worlds.{world_with}
use Rattle.nl_store.proofs.Holds.{globals-written, observed-anew, of-the-same, patched-anew, revalued-stands, still-of}
use Rattle.nl_store.proofs.Unowned.{links-kept, turtles-kept}
use Rattle.nl_store.proofs.indexed.IndexedStore.set_var.Goals as goal

pub invariant_of-self : goal.invariant_of-self
invariant_of-self c =
    let s = c.args.self.now in
    let e = c.set_global.ensures in
    let new = c.set_global.new.self in
    record {
      stands = revalued-stands (world_in s) (world_with new s.roster s.base) c.args.owner owner.Observer c.args.slot (plain c.args.value) s.stands c.requires.holds c.in-Observer.is
          (observed-anew s.land new s.roster s.base new.globals new.run e.rest refl refl ∙ globals-written (world_in s) c.args.slot (plain c.args.value) new.globals new.run e.globals e.run);
      fits = of-the-same s.land new s.roster s.fits e.rest.shape_is e.rest.layout_is;
    }

pub invariant_of-self-in-Turtle : goal.invariant_of-self-in-Turtle
invariant_of-self-in-Turtle c =
    let s = c.args.self.now in
    let e = c.set_turtle.ensures.set in
    record {
      stands = revalued-stands (world_in s) (world_with s.land c.set_turtle.new.self s.base) c.args.owner (owner.Turtle c.in-Turtle.turtle) c.args.slot (plain c.args.value) s.stands c.requires.holds c.in-Turtle.is
          (ap (λ (a : Agents). world_with s.land a s.base) (e ∙ ap (λ (slots : Slots). record s.roster { turtles = turtles_filled (λ vars. value_set slots vars c.args.slot (plain c.args.value)) c.in-Turtle.turtle s.roster.turtles }) c.ascending-slots.ensures.same));
      fits = still-of s.land s.roster c.set_turtle.new.self s.fits (ap (λ (a : Agents). a.shape) e) (ap (λ (a : Agents). a.breeds) e);
    }

pub invariant_of-self-in-Patch : goal.invariant_of-self-in-Patch
invariant_of-self-in-Patch c =
    let s = c.args.self.now in
    let e = c.set_patch.ensures in
    let new = c.set_patch.new.self in
    record {
      stands = revalued-stands (world_in s) (world_with new s.roster s.base) c.args.owner (owner.Patch c.in-Patch.patch) c.args.slot (plain c.args.value) s.stands c.requires.holds c.in-Patch.is
          (patched-anew s.land new s.roster s.base (changed_at (λ (vars : Vars). value_set s.land.layout.every_patch vars c.args.slot (plain c.args.value)) c.in-Patch.patch s.land.patches.items) e.rest e.patches);
      fits = of-the-same s.land new s.roster s.fits e.rest.shape_is e.rest.layout_is;
    }

pub invariant_of-self-in-Link : goal.invariant_of-self-in-Link
invariant_of-self-in-Link c =
    let s = c.args.self.now in
    let e = c.set_link.ensures.set in
    record {
      stands = revalued-stands (world_in s) (world_with s.land c.set_link.new.self s.base) c.args.owner (owner.Link c.in-Link.link) c.args.slot (plain c.args.value) s.stands c.requires.holds c.in-Link.is
          (ap (λ (a : Agents). world_with s.land a s.base) (e ∙ ap (λ (slots : Slots). record s.roster { links = links_filled (λ vars. value_set slots vars c.args.slot (plain c.args.value)) c.in-Link.link s.roster.links }) c.ascending-slots-in-Link.ensures.same));
      fits = still-of s.land s.roster c.set_link.new.self s.fits (ap (λ (a : Agents). a.shape) e) (ap (λ (a : Agents). a.breeds) e);
    }

pub returns-in-Turtle-clause-kept : goal.returns-in-Turtle-clause-kept
returns-in-Turtle-clause-kept c =
    let s = c.args.self.now in
    on_err_weaker c.set_turtle.result
    (λ none. ap (λ (a : Agents). world_with s.land a s.base) (c.set_turtle.ensures.set
    ∙ ap (λ (ts : List Turtle). record s.roster { turtles = ts }) (turtles-kept c.ascending-slots.result.now c.args.slot (plain c.args.value) c.in-Turtle.turtle
    (subst (λ (slots : Slots). IsStrictlyIncreasing slots) (sym c.ascending-slots.ensures.same) c.ascending-slots.ensures.ascend) s.roster.turtles s.stands.agents.turtles_ascend none)))
    c.set_turtle.ensures.not_owned

pub returns-in-Link-clause-kept : goal.returns-in-Link-clause-kept
returns-in-Link-clause-kept c =
    let s = c.args.self.now in
    on_err_weaker c.set_link.result
    (λ none. ap (λ (a : Agents). world_with s.land a s.base) (c.set_link.ensures.set
    ∙ ap (λ (ls : List Link). record s.roster { links = ls }) (links-kept c.ascending-slots-in-Link.result.now c.args.slot (plain c.args.value) c.in-Link.link
    (subst (λ (slots : Slots). IsStrictlyIncreasing slots) (sym c.ascending-slots-in-Link.ensures.same) c.ascending-slots-in-Link.ensures.ascend) s.roster.links s.stands.agents.links_ascend none)))
    c.set_link.ensures.not_owned
