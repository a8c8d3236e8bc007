use Rattle.std.proofs.Common.{ap, ◌∙◌, [], ◌∷◌, ◌++◌}
use Rattle.nl_check.proofs.SampleModel.{sample_index}
use Rattle.nl_check.proofs.tests.index.Goals as goal

pub returns : goal.returns
returns c =
    let a = c.in_ok-procedure_row.field-0 in
    let b = c.in_ok-procedure_row-2.field-0 in
    let third = c.in_ok-procedure_row-3.field-0 in
    let r = c.in_ok-procedure_row-4.field-0 in
    let one = c.in_ok-push.ensures.items ∙ ap (λ xs. xs ++ a ∷ []) c.new-rows.ensures.items in
    let two = c.in_ok-push-2.ensures.items ∙ ap (λ xs. xs ++ b ∷ []) one in
    let three = c.in_ok-push-3.ensures.items ∙ ap (λ xs. xs ++ third ∷ []) two in
    let four = c.in_ok-push-4.ensures.items ∙ ap (λ xs. xs ++ r ∷ []) three in
    sample_index c.push-4.new.self.items a b third r c.new.result four c.in_ok-procedure_row.ensures c.in_ok-procedure_row-2.ensures c.in_ok-procedure_row-3.ensures c.in_ok-procedure_row-4.ensures c.new.ensures
