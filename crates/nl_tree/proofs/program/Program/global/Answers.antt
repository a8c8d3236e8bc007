use Rattle.std.proofs.Common.{◌<◌, IsSome, sym, subst}
use Rattle.nl_tree.specs.Slots.{OwnsSlot, globals_count}
use Rattle.nl_tree.proofs.Globals.{slot_in_range, slots_are_apart, has_slot, slot_there, if_some}
use Rattle.nl_tree.proofs.program.Program.global.Goals as goal

pub returns-clause-there : goal.returns-clause-there
returns-clause-there c =
    let fit = c.declared-declared.ensures.checked.0 in
    let is = c.find_global.ensures in
    let d = c.args.self.now.declared in
    ((λ some. has_slot d fit c.args.name.now (subst IsSome is some)), (λ named. subst IsSome (sym is) (slot_there d fit c.args.name.now named)))

pub returns-clause-range : goal.returns-clause-range
returns-clause-range c =
    let fit = c.declared-declared.ensures.checked.0 in
    if_some _ _ c.find_global.ensures (λ slot. slot < globals_count c.args.self.now.declared) (slot_in_range c.args.self.now.declared fit c.args.name.now)

pub returns-clause-one : goal.returns-clause-one
returns-clause-one c =
    let fit = c.declared-declared.ensures.checked.0 in
    let d = c.args.self.now.declared in
    if_some _ _ c.find_global.ensures (OwnsSlot d c.args.name.now) (λ slot is other there. slots_are_apart d fit other c.args.name.now slot there is)
