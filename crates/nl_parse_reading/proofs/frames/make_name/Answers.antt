use Rattle.std.proofs.Common.{◌∙◌, ap, ◌||◌}
use Rattle.nl_tree.specs.Vocabulary.{among}
use Rattle.nl_parse_reading.proofs.Framed.{makes_none_at, some_makes}
use Rattle.nl_parse_reading.proofs.frames.make_name.Goals as goal

pub returns-then-makes_name : goal.returns-then-makes_name
returns-then-makes_name c =
    let w = c.args.name.now in
    some_makes w c.args.frames.now c.frames.frame-index c.frame-item.result c.frames-test.true c.frame-item.is (λ e. c.makes_name.ensures e ∙ ap (λ b. b || among w e) c.if-makes_name.true)

pub frames-preserved : goal.frames-preserved
frames-preserved c =
    let w = c.args.name.now in
    makes_none_at w c.args.frames.now c.frames.frame-index c.frame-item.result c.frames-test.true c.frame-item.is c.frames.invariant (λ e. c.makes_name.ensures e ∙ ap (λ b. b || among w e) c.if-makes_name.false)
