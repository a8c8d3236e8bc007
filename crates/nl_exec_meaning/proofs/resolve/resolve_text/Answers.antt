-- The text stands behind the other trees.
use Rattle.std.proofs.Common.{◌≡◌, length, ◌∙◌, arith}
use Rattle.std.proofs.lemmas.Option.{slice_get_within}
use Rattle.nl_exec_meaning.specs.inner.Arena.{trees_seen}
use Rattle.nl_tree.specs.Views.{plain}
use Rattle.nl_exec_meaning.proofs.Heads.{heads_grown, heads_of_grown}
use Rattle.nl_exec_meaning.proofs.Lists.{grows_same, grows_on, grown_get}
use Rattle.nl_exec_meaning.proofs.Resolved.{items_grown, trees_length}
use Rattle.nl_exec_meaning.proofs.Kept.{push_grows, pushed_tree}
use Rattle.nl_exec_meaning.proofs.resolve.resolve_text.Goals as goal

pub resolve_all-requires-clause-right : goal.resolve_all-requires-clause-right
resolve_all-requires-clause-right c =
    let ts = c.args.trees.now.items in
    items_grown c.args.program.now.declared c.args.names.now c.args.names.now (trees_seen ts) (trees_seen c.push.new.self.items) c.args.items.now.items
    (grows_same c.args.names.now) (push_grows ts c.push.new.self.items c.args.text c.in_ok-push.ensures.items)
    (let full = c.requires.full in let n = trees_length ts in omega (arith, full, n)) c.requires.right

pub returns-clause-text : goal.returns-clause-text
returns-clause-text c =
    let ts = c.args.trees.now.items in
    let us = c.push.new.self.items in
    let at = pushed_tree ts us c.args.text c.in_ok-push.ensures.items in
    let lt = slice_get_within (trees_seen us) (length (trees_seen ts)) (plain c.args.text.now) at in
    let root : c.in-Ok.root ≡ length (trees_seen ts) = (let n = trees_length ts in omega (arith, n, c.in-Ok.ensures.1, c.len.ensures, c.args.trees.now.ok.0)) in
    rw root (grown_get (trees_seen us) (trees_seen c.resolve_all.new.trees.items) (length (trees_seen ts)) c.resolve_all.ensures.trees lt ∙ at)

pub returns-clause-trees : goal.returns-clause-trees
returns-clause-trees c =
    let ts = c.args.trees.now.items in
    grows_on (trees_seen ts) (trees_seen c.push.new.self.items) (trees_seen c.resolve_all.new.trees.items)
    (push_grows ts c.push.new.self.items c.args.text c.in_ok-push.ensures.items) c.resolve_all.ensures.trees

pub returns-in_err-resolve_all-clause-trees : goal.returns-in_err-resolve_all-clause-trees
returns-in_err-resolve_all-clause-trees c =
    let ts = c.args.trees.now.items in
    grows_on (trees_seen ts) (trees_seen c.push.new.self.items) (trees_seen c.resolve_all.new.trees.items)
    (push_grows ts c.push.new.self.items c.args.text c.in_ok-push.ensures.items) c.resolve_all.ensures.trees

pub returns-in_err-number_heads-clause-trees : goal.returns-in_err-number_heads-clause-trees
returns-in_err-number_heads-clause-trees c =
    let ts = c.args.trees.now.items in
    grows_on (trees_seen ts) (trees_seen c.push.new.self.items) (trees_seen c.resolve_all.new.trees.items)
    (push_grows ts c.push.new.self.items c.args.text c.in_ok-push.ensures.items) c.resolve_all.ensures.trees

pub number_heads-requires : goal.number_heads-requires
number_heads-requires c =
    let ts = c.args.trees.now.items in
    let us = c.resolve_all.new.trees.items in
    let grown = grows_on (trees_seen ts) (trees_seen c.push.new.self.items) (trees_seen us) (push_grows ts c.push.new.self.items c.args.text c.in_ok-push.ensures.items) c.resolve_all.ensures.trees in
    record {
      heads = rw c.as_slice.ensures.value
          (heads_of_grown c.resolve_all.new.names c.args.heads.now.items (trees_seen ts) (trees_seen us)
          (heads_grown c.args.names.now c.resolve_all.new.names c.resolve_all.ensures.names c.args.heads.now.items (trees_seen ts) c.requires.heads) grown);
    }

pub returns-clause-right : goal.returns-clause-right
returns-clause-right c =
    let us = c.resolve_all.new.trees.items in
    let full = c.in_ok-resolve_all.ensures.full in
    items_grown c.args.program.now.declared c.resolve_all.new.names c.number_heads.new.names (trees_seen us) (trees_seen us) c.resolve_all.new.items.items
    c.number_heads.ensures.grows (grows_same (trees_seen us)) (let n = trees_length us in omega (arith, full, n)) c.in_ok-resolve_all.ensures.right

pub returns-clause-heads : goal.returns-clause-heads
returns-clause-heads c = rw c.as_slice.ensures.value at c.in_ok-number_heads.ensures.heads

pub returns-clause-names : goal.returns-clause-names
returns-clause-names c = grows_on c.args.names.now c.resolve_all.new.names c.number_heads.new.names c.resolve_all.ensures.names c.number_heads.ensures.grows

pub returns-in_err-number_heads-clause-names : goal.returns-in_err-number_heads-clause-names
returns-in_err-number_heads-clause-names c = grows_on c.args.names.now c.resolve_all.new.names c.number_heads.new.names c.resolve_all.ensures.names c.number_heads.ensures.grows
