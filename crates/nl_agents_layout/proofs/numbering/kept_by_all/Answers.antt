use Rattle.std.proofs.Common.{◌≡◌, ◌++◌, ap, ◌∙◌, rules}
use Rattle.nl_agents_layout.specs.Layouts.{has_slot}
use Rattle.nl_agents_layout.specs.inner.Numbering.{slots_named}
use Rattle.nl_agents_layout.proofs.Collected.{all_keep}
use Rattle.nl_agents_layout.proofs.numbering.kept_by_all.Goals as goal

start : (c : goal.After-of_vec) → c.in_ok-list.list.items ≡ c.args.start.now
start c = search rules

pub returns : goal.returns
returns c =
    let d = c.args.program.now.declared in
    all_keep d c.args.start.now c.args.names.now c.of_vec.result c.requires c.of_vec.ensures.ascending
    (λ z. c.of_vec.ensures.same z ∙ ap (λ l. has_slot l z) (c.in_ok-add_named.ensures ∙ ap (λ l. l ++ slots_named d c.args.names.now) (start c)))
