use Rattle.std.proofs.Common.{◌∙◌}
use Rattle.nl_draw.proofs.Shuffles.{chosen-none, chosen-some, chosen-after, chosen-member}
use Rattle.nl_draw.proofs.stream.Stream.choose.Goals as goal

pub returns-in_err-index-clause-choice : goal.returns-in_err-index-clause-choice
returns-in_err-index-clause-choice g c =
    c.from_residual.ensures ∙ chosen-none c.args.list.now c.args.self.now c.choose_index.result c.in_err-index.was c.choose_index.ensures.index

pub returns-in_err-index-clause-state : goal.returns-in_err-index-clause-state
returns-in_err-index-clause-state g c =
    chosen-after c.args.list.now c.args.self.now c.choose_index.new.self c.choose_index.ensures.state

pub returns-in_err-index-clause-member : goal.returns-in_err-index-clause-member
returns-in_err-index-clause-member g c =
    rw (returns-in_err-index-clause-choice g c) (chosen-member c.args.list.now c.args.self.now)

pub returns-clause-choice : goal.returns-clause-choice
returns-clause-choice g c =
    chosen-some c.args.list.now c.args.self.now c.in_ok-index.index c.choose_index.result c.index-list-index.result
    c.in_ok-index.was c.choose_index.ensures.index c.in_ok-index.ensures.below c.index-list-index.is

pub returns-clause-state : goal.returns-clause-state
returns-clause-state g c =
    chosen-after c.args.list.now c.args.self.now c.choose_index.new.self c.choose_index.ensures.state
