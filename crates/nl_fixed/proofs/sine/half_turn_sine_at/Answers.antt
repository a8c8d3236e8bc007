use Rattle.std.proofs.Common.{arith, sym, ◌-◌}
use Rattle.nl_fixed.proofs.SineTable.{sines_bound, half_turn_sine_low, half_turn_sine_high}
use Rattle.nl_fixed.proofs.sine.half_turn_sine_at.Goals as goal

pub returns-then-degree-le90-clause-value : goal.returns-then-degree-le90-clause-value
returns-then-degree-le90-clause-value c = rw c.sine_table-table.ensures.table (sym (half_turn_sine_low c.args.degree (omega arith)))

pub returns-then-degree-le90-clause-most : goal.returns-then-degree-le90-clause-most
returns-then-degree-le90-clause-most c = rw c.sine_table-table.ensures.table (sines_bound c.args.degree)

pub returns-else-degree-le90-clause-value : goal.returns-else-degree-le90-clause-value
returns-else-degree-le90-clause-value c = rw c.sine_table-table.ensures.table (sym (half_turn_sine_high c.args.degree (omega arith)))

pub returns-else-degree-le90-clause-most : goal.returns-else-degree-le90-clause-most
returns-else-degree-le90-clause-most c = rw c.sine_table-table.ensures.table (sines_bound (180 - c.args.degree))
