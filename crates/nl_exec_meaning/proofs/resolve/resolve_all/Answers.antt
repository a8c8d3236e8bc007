-- One node more is right, and its tree gave its parts.
use Rattle.std.proofs.Common.{◌≡◌, ◌<◌, length, arith}
use Rattle.nl_exec_meaning.specs.inner.Arena.{trees_seen}
use Rattle.nl_tree.specs.Views.{plain}
use Rattle.nl_exec_meaning.proofs.Lists.{grows_on, grows_snoc}
use Rattle.nl_exec_meaning.proofs.Resolved.{next_tree, still_fewer, step_right}
use Rattle.nl_exec_meaning.proofs.Sizes.{work_falls}
use Rattle.nl_exec_meaning.proofs.resolve.resolve_all.Goals as goal

pub trees-smaller : goal.trees-smaller
trees-smaller c =
    let items = c.trees.items.items in
    let ts = c.trees.trees.items in
    let lt : length items < length ts = omega (arith, c.trees-test.true, c.len.ensures, c.len-in-trees.ensures, c.trees.items.ok.0, c.trees.trees.ok.0) in
    let i : c.len-in-trees-2.result ≡ length items = omega (arith, c.len-in-trees-2.ensures, c.trees.items.ok.0) in
    work_falls (trees_seen ts) (trees_seen c.resolve.new.trees.items) items c.push_item.new.items.items c.in-Ok.item (plain c.index-tree.result.now.now)
    (next_tree ts (length items) c.len-in-trees-2.result c.index-tree.result.now i lt c.index-tree.ensures)
    c.in-Ok.ensures.trees c.in_ok-push_item.ensures.ok

pub trees-preserved : goal.trees-preserved
trees-preserved c =
    let items = c.trees.items.items in
    let ts = c.trees.trees.items in
    let us = c.resolve.new.trees.items in
    let g = c.resolve.ensures.grows in
    let more = c.in_ok-push_item.ensures.ok in
    let lt : length items < length ts = omega (arith, c.trees-test.true, c.len.ensures, c.len-in-trees.ensures, c.trees.items.ok.0, c.trees.trees.ok.0) in
    let i : c.len-in-trees-2.result ≡ length items = omega (arith, c.len-in-trees-2.ensures, c.trees.items.ok.0) in
    let at = next_tree ts (length items) c.len-in-trees-2.result c.index-tree.result.now i lt c.index-tree.ensures in
    record {
      fewer = still_fewer ts us items c.push_item.new.items.items c.in-Ok.item g lt more;
      right = step_right c.args.program.now.declared c.trees.names c.resolve.new.names ts us items c.push_item.new.items.items c.in-Ok.item (plain c.index-tree.result.now.now)
          c.trees.invariant.right c.resolve.ensures.names g lt at c.in-Ok.ensures.item more;
      items = grows_snoc c.args.items.now.items items c.push_item.new.items.items c.in-Ok.item c.trees.invariant.items more;
      trees = grows_on (trees_seen c.args.trees.now.items) (trees_seen ts) (trees_seen us) c.trees.invariant.trees g;
      names = grows_on c.args.names.now c.trees.names c.resolve.new.names c.trees.invariant.names c.resolve.ensures.names;
      apart = λ h. c.resolve.ensures.apart (c.trees.invariant.apart h);
    }
