-- The number at the place becomes one more, where there is one.
use Rattle.std.proofs.Common.{◌≡◌, ◌+◌, ℕ, List, slice_get, slice_set, ap, ◌∙◌, sym, arith}
use Rattle.std.proofs.lemmas.Option.{slice_get_within}
use Rattle.nl_exec_meaning.specs.Arrows.{raised}
use Rattle.nl_exec_meaning.proofs.Raising.{raised_at, raised_past}
use Rattle.nl_exec_meaning.proofs.numbers.Numbers.raise.Goals as goal

pub returns-in_default : goal.returns-in_default
returns-in_default c = raised_past c.args.self.now c.args.at c.in_default.ensures

pub index_mut-requires : goal.index_mut-requires
index_mut-requires c =
    let there = rw (← c.self.view_is) at c.in-Some.ensures in
    let lt = slice_get_within c.self.inside.list.items c.args.at c.in-Some.number (sym there) in
    omega (arith, lt, c.self.inside.list.ok.0)

pub returns : goal.returns
returns c =
    let there = rw (← c.self.view_is) at c.in-Some.ensures in
    let more : c.in-Some-checked_add.more ≡ c.in-Some.number + 1 = omega (arith, c.in-Some-checked_add.ensures) in
    raised_at c.self.inside.list.items c.args.at c.in-Some.number c.in-Some-checked_add.more there more ∙ ap (raised c.args.at) c.self.view_is
