use Rattle.nl_check_model.proofs.Nothing.{nothing_names}
use Rattle.trial_model.proofs.lone.nothing.Goals as goal

pub returns-clause-names : goal.returns-clause-names
returns-clause-names c =
    rw (c.empty.ensures, c.empty-2.ensures, c.empty-3.ensures, c.empty-4.ensures, c.empty-5.ensures, c.empty-6.ensures, c.empty-7.ensures)
    (nothing_names c.new-2.result (let moved = rw c.new.ensures.items at c.new-2.ensures in moved))
