use Rattle.std.proofs.Common.{ap, sym, ◌∙◌, arith}
use Rattle.nl_agents_layout.specs.Layouts.{slot_named}
use Rattle.nl_agents_layout.proofs.Collected.{collected_one, collected_none}
use Rattle.nl_agents_layout.proofs.numbering.add_named.Goals as goal
use Rattle.nl_agents_layout.proofs.numbering.add_named.Goals.{in-Some+in_ok-push, in_default}

pub loop-name-preserved : goal.loop-name-preserved
loop-name-preserved c =
    let slot_of = slot_named c.args.program.now.declared in
    let name = ap slot_of (sym c.as_bytes.ensures) in
    elim c.match-named_slot.branch [
      | in-Some+in_ok-push w ↦
          collected_one slot_of c.args.list.now.items c.loop-name.list.items c.as_slice-names.result.now c.loop-name.name-index c.name-item.result
          (omega arith) c.name-item.is c.match-named_slot.list.items w.in-Some.slot c.loop-name.invariant (name ∙ sym w.in-Some.ensures)
          (ap (λ v. v.items) w.list-is ∙ w.in_ok-push.ensures.items)
      | in_default w ↦
          collected_none slot_of c.args.list.now.items c.loop-name.list.items c.as_slice-names.result.now c.loop-name.name-index c.name-item.result
          (omega arith) c.name-item.is c.match-named_slot.list.items c.loop-name.invariant (name ∙ sym w.in_default.ensures)
          (ap (λ v. v.items) w.list-is)
    ]
