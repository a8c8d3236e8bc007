use Rattle.std.proofs.Common.{◌∙◌, sym, ap, Some, arith}
use Rattle.nl_draw.proofs.Shuffles.{chosen_index-some, chosen_index-none}
use Rattle.nl_draw.proofs.stream.Stream.choose_index.Goals as goal

pub returns-then-length-eq0-clause-index : goal.returns-then-length-eq0-clause-index
returns-then-length-eq0-clause-index c =
    sym (ap (λ chosen. chosen.0) (chosen_index-none c.args.length c.args.self.now c.if-length-eq0.true))

pub returns-then-length-eq0-clause-state : goal.returns-then-length-eq0-clause-state
returns-then-length-eq0-clause-state c =
    sym (ap (λ chosen. chosen.1) (chosen_index-none c.args.length c.args.self.now c.if-length-eq0.true))

pub returns-clause-index : goal.returns-clause-index
returns-clause-index c =
    ap (λ index. Some index) c.draw.ensures.value
    ∙ sym (ap (λ chosen. chosen.0) (chosen_index-some c.args.length c.args.self.now (omega arith)))

pub returns-clause-state : goal.returns-clause-state
returns-clause-state c =
    c.draw.ensures.state
    ∙ sym (ap (λ chosen. chosen.1) (chosen_index-some c.args.length c.args.self.now (omega arith)))
