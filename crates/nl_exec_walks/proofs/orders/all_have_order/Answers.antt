-- One has no order.
use Rattle.std.proofs.Common.{ap, ◌∙◌, sym}
use Rattle.std.proofs.lemmas.List.Folds.{list_all-map, list_all_at}
use Rattle.nl_value.specs.Order.{have_order, order_kind}
use Rattle.nl_exec_meaning.specs.Walks.{Answer}
use Rattle.nl_exec_meaning.specs.inner.Seen.{answered}
use Rattle.nl_exec_meaning.specs.declared.turns.Answered.{Answered}
use Rattle.nl_exec_walks.proofs.orders.all_have_order.Goals as goal

pub returns-then-not-have_order : goal.returns-then-not-have_order
returns-then-not-have_order g c =
    let w = g.L.Life.living c.args.life.now in
    let test = λ (a : Answer). have_order c.args.kind (order_kind w a.value) in
    let x = c.answer-item.result in
    let not_so = ap (λ (y : Answered). test (answered y)) (sym c.answer-item.is) ∙ ap (have_order c.args.kind) (sym c.order_kind.ensures) ∙ sym c.have_order.ensures ∙ c.if-not-have_order.true in
    sym (list_all-map test answered c.args.answers.now ∙ list_all_at (λ (y : Answered). test (answered y)) c.args.answers.now c.loop-answer.answer-index x c.loop-answer-test.true not_so)
