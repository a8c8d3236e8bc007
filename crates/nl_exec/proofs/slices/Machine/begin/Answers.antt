-- With no level, the rest is what the text means.
use Rattle.std.proofs.Common.{[], ap, ◌∙◌}
use Rattle.nl_tree.specs.Views.{plain as tree}
use Rattle.nl_exec_meaning.specs.State.{with_locals, at_site}
use Rattle.nl_exec_meaning.specs.Meaning.{text_by}
use Rattle.nl_exec_meaning.specs.Kept.{all_held}
use Rattle.nl_exec_meaning.specs.LoneTexts.{first_state}
use Rattle.nl_exec.specs.Machines.{scene_of}
use Rattle.nl_exec_levels.proofs.Stops.{rest_start}
use Rattle.nl_exec.proofs.slices.Machine.begin.Goals as goal

pub returns-clause-rest : goal.returns-clause-rest
returns-clause-rest g c = λ n.
    let code = c.open.new.self in
    let m = c.args.self.now in
    let form = c.args.form in
    let s = first_state (scene_of m) n in
    rest_start code m.limit c.clear.new.self.items form c.in_ok-root.root
    (with_locals (all_held code.names c.empty.result) (at_site c.lone_site-self.result s)) s c.clear.ensures.items
    (ap (λ ks. with_locals (all_held code.names ks) (at_site c.lone_site-self.result s)) c.empty.ensures
    ∙ ap (λ x. with_locals [] (at_site x s)) c.lone_site-self.ensures)
    ∙ ap (λ t. text_by code.program m.limit form t s) c.in_ok-root.ensures.text
    ∙ ap (λ p. text_by p m.limit form (tree c.args.text.now) s) c.open.ensures.program
    ∙ ap (λ limit. text_by m.code.program limit form (tree c.args.text.now) s) m.nesting
