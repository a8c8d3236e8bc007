use Rattle.std.proofs.Common.{◌∙◌}
use Rattle.nl_grid.proofs.AheadLemmas.{ahead-is}
use Rattle.nl_grid.proofs.shape.Shape.ahead.Goals as goal

pub returns-clause-value : goal.returns-clause-value
returns-clause-value c =
    c.beside.ensures.value
    ∙ ahead-is c.args.self.now c.args.at c.args.heading c.args.distance c.sin.result c.cos.result c.share-dx.result
    c.share-dy.result c.sin.ensures.value c.cos.ensures.value c.share-dx.ensures c.share-dy.ensures
