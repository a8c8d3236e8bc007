-- The item in a place is the node of the tree in that place.
use Rattle.std.proofs.Common.{refl, sym}
use Rattle.nl_exec_meaning.specs.inner.Arena.{trees_seen}
use Rattle.nl_exec_meaning.proofs.Numbering.{one_to_one}
use Rattle.nl_exec_meaning.proofs.Resolved.{found_item, no_item}
use Rattle.nl_exec_meaning.proofs.arena.Code.item.Goals as goal

pub returns-in-Some-clause-item : goal.returns-in-Some-clause-item
returns-in-Some-clause-item c =
    let a = c.self.inside in
    rw (← c.self.view_is)
    (found_item a.program.now.declared a.names (trees_seen a.trees.items) a.items.items c.args.node c.in-Some.item c.self.invariant.right c.self.invariant.full
    (let e = rw c.deref.ensures.value at c.in-Some.ensures in sym e))

pub returns-in-None-clause-item : goal.returns-in-None-clause-item
returns-in-None-clause-item c =
    let a = c.self.inside in
    rw (← c.self.view_is)
    (no_item a.program.now.declared a.names (trees_seen a.trees.items) a.items.items c.args.node _ c.self.invariant.full
    (let e = rw c.deref.ensures.value at c.in-None.ensures in sym e) refl refl refl refl)

pub returns-in-Some-clause-apart : goal.returns-in-Some-clause-apart
returns-in-Some-clause-apart c = rw (← c.self.view_is) (one_to_one c.self.inside.names c.self.invariant.apart)

pub returns-in-None-clause-apart : goal.returns-in-None-clause-apart
returns-in-None-clause-apart c = rw (← c.self.view_is) (one_to_one c.self.inside.names c.self.invariant.apart)
