use Rattle.std.proofs.Common.{subst}
use Rattle.std.specs.List.{Contains}
use Rattle.nl_tree.proofs.Finding.{looked_up, nothing}
use Rattle.nl_tree.proofs.Range.{in_range}
use Rattle.nl_tree.proofs.program.Program.what.Goals as goal

pub returns-in-Some-clause-value : goal.returns-in-Some-clause-value
returns-in-Some-clause-value c =
    let here = c.in-Some.ensures in
    let within = subst (λ rs. Contains rs c.in-Some.row.now) c.as_slice.ensures.value here.1 in
    rw (← c.self.view_is) (looked_up c.self.inside.declared c.self.inside.rows.items c.args.name.now c.self.invariant.1 c.self.invariant.0.0 c.in-Some.row.now here.0 within)

pub returns-in-Some-clause-range : goal.returns-in-Some-clause-range
returns-in-Some-clause-range c =
    let within = subst (λ rs. Contains rs c.in-Some.row.now) c.as_slice.ensures.value c.in-Some.ensures.1 in
    rw (← c.self.view_is) (in_range c.self.inside.declared c.self.inside.rows.items c.in-Some.row.now c.self.invariant.1 within)

pub returns-in-None-clause-value : goal.returns-in-None-clause-value
returns-in-None-clause-value c =
    let none = rw c.as_slice.ensures.value at c.in-None.ensures in
    rw (← c.self.view_is) (nothing c.self.inside.declared c.self.inside.rows.items c.args.name.now c.self.invariant.1 none)
