use Rattle.std.proofs.Common.{◌-◌, ◌<◌, [], ◌++◌, ◌∙◌, ap, arith, replicate}
use Rattle.nl_fixed.specs.Nouns.{Texts}
use Rattle.nl_cli.proofs.Pieces.{replicate_step}
use Rattle.nl_cli.proofs.rows.add_empty.Goals as goal

pub cells-preserved : goal.cells-preserved
cells-preserved c =
    let some : 0 < c.cells.left = omega (arith, c.cells-test.true) in
    ap (λ (x : Texts). x ++ replicate (c.cells.left - 1) []) c.in_ok-push.ensures ∙ replicate_step c.cells.line c.cells.left some ∙ c.cells.invariant
