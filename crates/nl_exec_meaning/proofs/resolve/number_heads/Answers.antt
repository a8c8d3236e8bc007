-- One tree more has the numbers of its head.
use Rattle.std.proofs.Common.{◌≡◌, length, take, arith}
use Rattle.nl_tree.specs.Views.{plain}
use Rattle.nl_exec_meaning.specs.inner.Arena.{trees_seen}
use Rattle.nl_exec_meaning.proofs.Heads.{heads_push}
use Rattle.nl_exec_meaning.proofs.Kept.{next_seen}
use Rattle.nl_exec_meaning.proofs.Lists.{grows_on, grows_same, grows_snoc, take_past}
use Rattle.nl_exec_meaning.proofs.Resolved.{trees_length}
use Rattle.nl_exec_meaning.proofs.resolve.number_heads.Goals as goal

pub loop-at-init : goal.loop-at-init
loop-at-init c =
    let n : c.len-at.result ≡ length c.args.heads.now.items = omega (arith, c.len-at.ensures, c.args.heads.now.ok.0) in
    record {
      heads = rw n c.requires.heads;
      kept = grows_same c.args.heads.now.items;
      grows = grows_same c.args.names.now;
      apart = λ h. h;
    }

pub loop-at-preserved : goal.loop-at-preserved
loop-at-preserved c =
    let ts = c.args.trees.now in
    let at = c.loop-at.at in
    let t = c.index-trees-at.result in
    let old = c.loop-at.names in
    let new = c.number_all.new.names in
    let g = c.number_all.ensures.grows in
    let more = next_seen ts at t (omega (arith, c.loop-at-test.true)) c.index-trees-at.is in
    record {
      heads = rw more
          (heads_push old new g c.loop-at.heads.items c.push.new.self.items (take at (trees_seen ts)) c.in_ok-ids.ids (plain t.now)
          c.loop-at.invariant.heads (rw c.head_names.ensures at c.in_ok-ids.ensures.numbers) c.in_ok-push.ensures.items);
      kept = grows_snoc c.args.heads.now.items c.loop-at.heads.items c.push.new.self.items c.in_ok-ids.ids c.loop-at.invariant.kept c.in_ok-push.ensures.items;
      grows = grows_on c.args.names.now old new c.loop-at.invariant.grows g;
      apart = λ h. c.number_all.ensures.apart (c.loop-at.invariant.apart h);
    }

pub returns-clause-heads : goal.returns-clause-heads
returns-clause-heads c =
    let ts = c.args.trees.now in
    let all = take_past (trees_seen ts) c.loop-at.at (let n = trees_length ts in omega (arith, c.loop-at-test.false, n)) in
    rw all at c.loop-at.invariant.heads
