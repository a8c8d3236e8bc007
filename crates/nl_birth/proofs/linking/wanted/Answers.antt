use Rattle.std.proofs.Common.{sym, subst}
use Rattle.std.specs.List.Sorted.{IsStrictlyIncreasing}
use Rattle.nl_birth.specs.Links.{wanted}
use Rattle.nl_birth.proofs.Partners.{all_taken}
use Rattle.nl_birth.proofs.Tying.{wanted_ascends}
use Rattle.nl_birth.proofs.linking.wanted.Goals as goal

pub returns-clause-ascending : goal.returns-clause-ascending
returns-clause-ascending g c =
    let w = g.S.Store.world c.args.store.now in
    let items = c.as_slice-target-items.result.now in
    wanted_ascends c.args.way c.args.breed c.args.caller items c.loop-target.wanted.items w
    (subst IsStrictlyIncreasing (sym c.as_slice-target-items.ensures.value) c.as_slice-target-items.ensures.ascending)
    (all_taken c.loop-target.wanted.items (λ xs. wanted c.args.way c.args.breed c.args.caller xs w) items c.loop-target.target-index c.loop-target.invariant c.loop-target-test.false)
