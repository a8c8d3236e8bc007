use Rattle.std.proofs.Common.{arith, sym, ◌∙◌}
use Rattle.nl_scan.proofs.Cutting.{rest_from}
use Rattle.nl_scan.proofs.Lines.{line_at, line_over, no_line}
use Rattle.nl_scan.proofs.code.code_part.Goals as goal

pub returns-then-is_section-clause-is : goal.returns-then-is_section-clause-is
returns-then-is_section-clause-is c =
    line_at c.args.file.now _ c.lines.at c.line_len-len.result _ (rest_from c.args.file.now c.lines.at) c.lines-test.true c.line_len-len.ensures.is
    (rw (rest_from c.args.file.now c.lines.at) c.lines.invariant.1) (sym c.is_section.ensures ∙ c.if-is_section.true)

pub lines-preserved : goal.lines-preserved
lines-preserved c = (
  omega arith,
  line_over c.args.file.now _ c.lines.at c.line_len-len.result c.min-at.result _ (rest_from c.args.file.now c.lines.at) c.lines-test.true c.line_len-len.ensures.is c.min-at.ensures
      (rw (rest_from c.args.file.now c.lines.at) c.lines.invariant.1) (sym c.is_section.ensures ∙ c.if-is_section.false),
)

pub returns-clause-is : goal.returns-clause-is
returns-clause-is c = no_line c.args.file.now c.lines.at _ c.lines-test.false c.lines.invariant.1
