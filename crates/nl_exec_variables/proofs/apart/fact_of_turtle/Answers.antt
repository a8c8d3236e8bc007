-- A living turtle is called by a number in range, and stands on a patch.
use Rattle.std.proofs.Common.{refl, ap, ◌∙◌, sym, arith}
use Rattle.std.specs.Option.{option_and_then}
use Rattle.nl_grid.specs.Geometry.{Plane, patch_at}
use Rattle.nl_agents.specs.Changes.{turtle_of}
use Rattle.nl_agents.proofs.LivingMembers.{turtle_given}
use Rattle.nl_exec_meaning.specs.declared.words.Apart.{Apart}
use Rattle.nl_exec_meaning.specs.declared.words.Apart.TheVariants as apart
use Rattle.nl_exec_meaning.specs.Variables.{of_patch, of_turtle}
use Rattle.nl_exec_variables.proofs.Aside.{on_patch}
use Rattle.nl_exec_variables.proofs.apart.fact_of_turtle.Goals as goal

pub overflow_sub-turtle : goal.overflow_sub-turtle
overflow_sub-turtle g c =
    let w = g.S.Store.world c.args.store.now in
    let given = turtle_given w c.args.turtle c.shape-shape.ensures.stands c.requires in
    omega (arith, c.base.ensures, given.0)

pub number_from-requires : goal.number_from-requires
number_from-requires g c =
    let w = g.S.Store.world c.args.store.now in
    let given = turtle_given w c.args.turtle c.shape-shape.ensures.stands c.requires in
    omega (arith, given.1, c.shape-shape.ensures.stands.few.turtles_given)

pub returns-in-Pxcor : goal.returns-in-Pxcor
returns-in-Pxcor g c =
    let r = (g.S.Store.world c.args.store.now).rest in
    let found = turtle_of c.args.turtle r in
    c.fact_of_patch.ensures r (sym c.shape-shape.ensures.value)
    ∙ ap (of_patch apart.Pxcor r) (c.patch_of.ensures.patch ∙ ap (λ (p : Plane). patch_at p c.at-at.result) c.shape-shape.ensures.value)
    ∙ on_patch apart.Pxcor r found c.at-at.result (λ t. refl) c.at-at.ensures.value
    ∙ ap (λ (which : Apart). option_and_then (of_turtle which r) found) (sym c.in-Pxcor.is)

pub returns-in-Pycor : goal.returns-in-Pycor
returns-in-Pycor g c =
    let r = (g.S.Store.world c.args.store.now).rest in
    let found = turtle_of c.args.turtle r in
    c.fact_of_patch-in-Pycor.ensures r (sym c.shape-shape.ensures.value)
    ∙ ap (of_patch apart.Pycor r) (c.patch_of-in-Pycor.ensures.patch ∙ ap (λ (p : Plane). patch_at p c.at-at.result) c.shape-shape.ensures.value)
    ∙ on_patch apart.Pycor r found c.at-at.result (λ t. refl) c.at-at.ensures.value
    ∙ ap (λ (which : Apart). option_and_then (of_turtle which r) found) (sym c.in-Pycor.is)
