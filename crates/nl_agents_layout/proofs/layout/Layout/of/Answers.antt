use Rattle.std.proofs.Common.{ap, false, true}
use Rattle.nl_tree.specs.declared.declared.Declared.{Declared}
use Rattle.nl_agents_layout.specs.BuiltIn.{is_of_turtles, is_of_patches, is_of_links}
use Rattle.nl_agents_layout.proofs.Collected.{by_test, by_test_bred, of_turtles, of_patches, of_links, turtles_start, patches_start, links_start, laid_out}
use Rattle.nl_agents_layout.proofs.layout.Layout.of.Goals as goal

pub returns : goal.returns
returns c =
    let d = c.args.program.now.declared in
    let declared = c.declared-declared.ensures.value in
    let turtles = ap (λ (x : Declared). x.turtles_own) declared in
    let patches = ap (λ (x : Declared). x.patches_own) declared in
    let links = ap (λ (x : Declared). x.links_own) declared in
    laid_out d _ _ _ _ _ _ _ _ _
    c.count_globals-globals.ensures
    c.in_ok-coded.ensures
    c.count_slots-slots.ensures
    (by_test d turtles_start is_of_turtles _ _ _ of_turtles turtles c.in_ok-every_turtle.ensures)
    (by_test d patches_start is_of_patches _ _ _ of_patches patches c.in_ok-every_patch.ensures)
    (by_test d links_start is_of_links _ _ _ of_links links c.in_ok-every_link.ensures)
    (by_test_bred d turtles_start is_of_turtles _ _ false _ of_turtles turtles c.in_ok-some_turtle.ensures)
    (by_test_bred d links_start is_of_links _ _ true _ of_links links c.in_ok-some_link.ensures)
    c.in_ok-breeds.ensures
