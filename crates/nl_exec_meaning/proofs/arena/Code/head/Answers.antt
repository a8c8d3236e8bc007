-- The numbers at a node's place are those of its head.
use Rattle.std.proofs.Common.{map, ap, ◌∙◌, sym}
use Rattle.nl_exec_meaning.specs.Code.{name_of}
use Rattle.nl_exec_meaning.specs.inner.Arena.{trees_seen}
use Rattle.nl_exec_meaning.proofs.Heads.{heads_right}
use Rattle.nl_exec_meaning.proofs.arena.Code.head.Goals as goal

pub returns-in-Some : goal.returns-in-Some
returns-in-Some c =
    let a = c.self.inside in
    let e = rw c.deref.ensures.value at c.in-Some.ensures in
    rw (← c.self.view_is) (ap (map (name_of a.names)) c.as_slice.ensures ∙ heads_right a.names a.heads.items (trees_seen a.trees.items) c.args.node _ c.self.invariant.heads (sym e))

pub returns-in-None : goal.returns-in-None
returns-in-None c =
    let a = c.self.inside in
    let e = rw c.deref.ensures.value at c.in-None.ensures in
    rw (← c.self.view_is) (heads_right a.names a.heads.items (trees_seen a.trees.items) c.args.node _ c.self.invariant.heads (sym e))
