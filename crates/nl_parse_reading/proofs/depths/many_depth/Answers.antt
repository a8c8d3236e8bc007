use Rattle.std.proofs.Common.{arith, ◌∙◌, ap, sym, suc, false, true, []}
use Rattle.nl_tree.specs.Tree.{depths}
use Rattle.nl_parse_grammar.specs.Machine.{InMany}
use Rattle.nl_parse_grammar.specs.Depth.{frame_depth}
use Rattle.nl_parse_reading.specs.inner.Limit.{capped}
use Rattle.nl_parse_reading.specs.inner.Reading.{frames_onto}
use Rattle.nl_parse_reading.proofs.Capped.{capped_part, many_in_paren, many_elsewhere}
use Rattle.nl_parse_reading.proofs.depths.many_depth.Goals as goal

pub returns-then-is_in_paren : goal.returns-then-is_in_paren
returns-then-is_in_paren c = λ w s e.
    let ts = c.args.items.now in
    let K = frames_onto c.args.below.now e [] in
    c.whole_depth.ensures e
    ∙ capped_part false c.deeper.result (suc (depths ts)) K (omega (arith, c.deeper.ensures, c.depth.ensures))
    ∙ ap capped (sym (many_in_paren w s ts c.args.others K (sym (c.is_in_paren.ensures e) ∙ c.if-is_in_paren.true)))

pub returns : goal.returns
returns c = λ w s e.
    let ts = c.args.items.now in
    let K = frames_onto c.args.below.now e [] in
    c.whole_depth-2.ensures e
    ∙ capped_part false c.deeper-depth.result (frame_depth (InMany w s ts c.args.others) true 1) K (omega (arith, c.deeper-depth.ensures, c.max-2.ensures, c.least_values.ensures, c.max.ensures, c.depth-2.ensures))
    ∙ ap capped (sym (many_elsewhere w s ts c.args.others K (sym (c.is_in_paren.ensures e) ∙ c.if-is_in_paren.false)))
