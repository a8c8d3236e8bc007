use Rattle.std.proofs.Common.{◌≡◌, ◌++◌, ap, ◌∙◌, rules}
use Rattle.nl_agents_layout.specs.Layouts.{has_slot}
use Rattle.nl_agents_layout.specs.inner.Numbering.{slots_named, slots_of_breeds}
use Rattle.nl_agents_layout.proofs.Collected.{some_keep}
use Rattle.nl_agents_layout.proofs.numbering.kept_by_some.Goals as goal

start : (c : goal.After-of_vec) → c.in_ok-list.list.items ≡ c.args.start.now
start c = search rules

pub returns : goal.returns
returns c =
    let d = c.args.program.now.declared in
    let named = c.in_ok-add_named.ensures ∙ ap (λ l. l ++ slots_named d c.args.names.now) (start c) in
    some_keep d c.args.start.now c.args.names.now c.args.link c.of_vec.result c.requires c.of_vec.ensures.ascending
    (λ z. c.of_vec.ensures.same z ∙ ap (λ l. has_slot l z) (c.in_ok-add_breeds.ensures ∙ ap (λ l. l ++ slots_of_breeds d c.args.link d.breeds) named))
