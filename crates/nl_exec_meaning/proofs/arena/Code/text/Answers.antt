-- The text is that of the tree in the place.
use Rattle.std.proofs.Common.{ap, sym, ◌∙◌}
use Rattle.nl_tree.specs.Tree.{label}
use Rattle.nl_exec_meaning.specs.Code.{written}
use Rattle.nl_exec_meaning.proofs.Kept.{seen_node, no_node}
use Rattle.nl_exec_meaning.proofs.arena.Code.text.Goals as goal

pub returns-in-Some : goal.returns-in-Some
returns-in-Some c =
    let a = c.self.inside in
    let e = rw c.deref.ensures.value at c.in-Some.ensures in
    rw (← c.self.view_is) (c.text_of.ensures ∙ ap written (c.label.ensures ∙ sym (ap label (seen_node a.trees.items c.args.node c.in-Some.tree (sym e)))))

pub returns-in-None : goal.returns-in-None
returns-in-None c =
    let a = c.self.inside in
    let e = rw c.deref.ensures.value at c.in-None.ensures in
    rw (← c.self.view_is) (sym (ap (λ t. written (label t)) (no_node a.trees.items c.args.node (sym e))))
