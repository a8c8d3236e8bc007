-- The kept nodes stay.
use Rattle.std.proofs.Common.{length, take, ap, ◌∙◌, sym}
use Rattle.nl_exec_meaning.specs.inner.Arena.{trees_seen, Grows}
use Rattle.nl_exec_meaning.proofs.Heads.{heads_take}
use Rattle.nl_exec_meaning.proofs.Resolved.{trees_length}
use Rattle.nl_exec_meaning.proofs.Lists.{taken_length, kept_within}
use Rattle.nl_exec_meaning.proofs.Kept.{seen_take, code_next, code_back}
use Rattle.nl_exec_meaning.proofs.arena.Code.open.Goals as goal

pub resolve_text-requires-clause-right : goal.resolve_text-requires-clause-right
resolve_text-requires-clause-right c =
    rw (c.truncate.ensures.items, c.truncate-2.ensures.items, seen_take c.self.inside.kept c.self.inside.trees.items) c.self.invariant.least

pub resolve_text-requires-clause-heads : goal.resolve_text-requires-clause-heads
resolve_text-requires-clause-heads c =
    let a = c.self.inside in
    rw (c.truncate.ensures.items, c.truncate-3.ensures.items, seen_take a.kept a.trees.items) (heads_take a.names a.kept a.heads.items (trees_seen a.trees.items) c.self.invariant.heads)

pub invariant_of-self : goal.invariant_of-self
invariant_of-self c =
    let a = c.self.inside in
    let n = c.resolve_text.new in
    let trees : Grows (take a.kept (trees_seen a.trees.items)) (trees_seen n.trees.items) = rw (← seen_take a.kept a.trees.items, ← c.truncate.ensures.items) c.resolve_text.ensures.trees in
    let items : Grows (take a.kept a.items.items) n.items.items = rw (← c.truncate-2.ensures.items) c.resolve_text.ensures.items in
    code_next a.program.now a.names n.names (trees_seen a.trees.items) (trees_seen n.trees.items) a.items.items n.items.items a.inputs.items a.heads.items n.heads.items a.kept
    c.self.invariant c.resolve_text.ensures.names (c.resolve_text.ensures.apart c.self.invariant.apart) trees items c.in-Ok.ensures.right
    (c.in-Ok.ensures.full ∙ sym (trees_length n.trees.items)) c.in-Ok.ensures.heads

pub invariant_of-self-in-Err : goal.invariant_of-self-in-Err
invariant_of-self-in-Err c =
    let a = c.self.inside in
    let n = c.resolve_text.new in
    let trees : Grows (take a.kept (trees_seen a.trees.items)) (trees_seen n.trees.items) = rw (← seen_take a.kept a.trees.items, ← c.truncate.ensures.items) c.resolve_text.ensures.trees in
    let items : Grows (take a.kept a.items.items) n.items.items = rw (← c.truncate-2.ensures.items) c.resolve_text.ensures.items in
    let heads : Grows (take a.kept a.heads.items) n.heads.items = rw (← c.truncate-3.ensures.items) c.resolve_text.ensures.kept in
    rw (c.truncate-in-Err.ensures.items, c.truncate-in-Err-2.ensures.items, c.truncate-in-Err-3.ensures.items, seen_take a.kept n.trees.items)
    (code_back a.program.now a.names n.names (trees_seen a.trees.items) (trees_seen n.trees.items) a.items.items n.items.items a.inputs.items a.heads.items n.heads.items a.kept
    c.self.invariant c.resolve_text.ensures.names (c.resolve_text.ensures.apart c.self.invariant.apart) trees items heads)

pub returns-in-Ok-clause-first : goal.returns-in-Ok-clause-first
returns-in-Ok-clause-first c =
    let a = c.self.inside in
    let n = taken_length a.kept (trees_seen a.trees.items) c.self.invariant.within in
    rw (← c.self.view_is)
    (c.in-Ok.ensures.first ∙ ap length c.truncate.ensures.items ∙ sym (trees_length (take a.kept a.trees.items)) ∙ ap length (seen_take a.kept a.trees.items) ∙ n)

pub returns-in-Err-clause-closed : goal.returns-in-Err-clause-closed
returns-in-Err-clause-closed c =
    let a = c.self.inside in
    let n = c.resolve_text.new in
    let trees : Grows (take a.kept (trees_seen a.trees.items)) (trees_seen n.trees.items) = rw (← seen_take a.kept a.trees.items, ← c.truncate.ensures.items) c.resolve_text.ensures.trees in
    let within = kept_within a.kept (trees_seen a.trees.items) (trees_seen n.trees.items) c.self.invariant.within trees in
    rw (← c.self.view_is, c.truncate-in-Err.ensures.items, seen_take a.kept n.trees.items) (taken_length a.kept (trees_seen n.trees.items) within)
