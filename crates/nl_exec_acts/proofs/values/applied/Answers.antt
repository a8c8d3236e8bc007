use Rattle.std.specs.Prelude.{ℕ}
use Rattle.nl_value.specs.Plain.{Plain}
use Rattle.nl_value.specs.Views.{plain}
use Rattle.nl_value.specs.declared.values.Value.{Value}
use Rattle.nl_exec_acts.proofs.Failing.{list_refused}
use Rattle.nl_exec_acts.proofs.values.applied.Goals as goal

pub returns-in-Err-clause-answer : goal.returns-in-Err-clause-answer
returns-in-Err-clause-answer g c =
    list_refused {X = Value} {Y = Plain × ℕ} (λ value. (plain value, c.apply.new.stream)) _ c.in-Err.fail _ c.from.ensures c.in-Err.ensures.answer
