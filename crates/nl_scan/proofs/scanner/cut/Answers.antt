use Rattle.std.proofs.Common.{arith, sym, ◌∙◌, ap}
use Rattle.nl_scan.specs.inner.Pieces.{piece_at}
use Rattle.nl_scan.proofs.Cutting.{all_found, bad_met, found_more, gap_over, rest_from}
use Rattle.nl_scan.proofs.Order.{cut_from-in_order}
use Rattle.nl_scan.proofs.scanner.cut.Goals as goal

pub pieces-preserved-in-Gap : goal.pieces-preserved-in-Gap
pieces-preserved-in-Gap c =
    let found = sym (c.in-Gap.ensures.is ∙ ap piece_at (rest_from c.args.text.now c.pieces.at)) in (
      omega (arith, c.in-Gap.ensures.within.1),
      c.pieces.invariant.1,
      gap_over c.args.text.now c.pieces.tokens c.pieces.at c.in-Gap.len _ c.pieces-test.true found c.pieces.invariant.2,
    )

pub pieces-preserved : goal.pieces-preserved
pieces-preserved c =
    let found = sym (c.in-Found.ensures.is ∙ ap piece_at (rest_from c.args.text.now c.pieces.at)) in (
      omega (arith, c.in-Found.ensures.within.1),
      c.pieces.invariant.1,
      rw c.in_ok-push-in-Found.ensures.ok (found_more c.args.text.now c.pieces.tokens c.pieces.at c.in-Found.len c.in-Found.lexeme _ c.pieces-test.true found c.pieces.invariant.2),
    )

pub returns-in-Bad-clause-tokens : goal.returns-in-Bad-clause-tokens
returns-in-Bad-clause-tokens c =
    let found = sym (c.in-Bad.ensures.is ∙ ap piece_at (rest_from c.args.text.now c.pieces.at)) in
    bad_met c.args.text.now c.pieces.tokens c.pieces.at c.in-Bad.before c.in-Bad.kind _ c.pieces-test.true found c.pieces.invariant.2

pub returns-clause-tokens : goal.returns-clause-tokens
returns-clause-tokens c = all_found c.args.text.now c.pieces.tokens c.pieces.at _ c.pieces-test.false c.pieces.invariant.2

pub returns-clause-order : goal.returns-clause-order
returns-clause-order c =
    cut_from-in_order c.args.text.now c.pieces.tokens (all_found c.args.text.now c.pieces.tokens c.pieces.at _ c.pieces-test.false c.pieces.invariant.2)
