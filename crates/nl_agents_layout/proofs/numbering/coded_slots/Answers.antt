use Rattle.std.proofs.Common.{◌≡◌, [], ap, sym, ◌∙◌, arith}
use Rattle.std.specs.List.{filter_map}
use Rattle.std.proofs.lemmas.List.{take_all}
use Rattle.nl_tree.specs.declared.declared.Declared.{Declared}
use Rattle.nl_agents_layout.specs.Layouts.{has_slot}
use Rattle.nl_agents_layout.specs.inner.Numbering.{coded_named}
use Rattle.nl_agents_layout.proofs.Collected.{collected_one, collected_none, coded_are}
use Rattle.nl_agents_layout.proofs.numbering.coded_slots.Goals as goal
use Rattle.nl_agents_layout.proofs.numbering.coded_slots.Goals.{in-Some+in_ok-push, in_default}

pub loop-name-preserved : goal.loop-name-preserved
loop-name-preserved c =
    let slot_of = coded_named c.args.program.now.declared c.args.globals in
    let name = ap slot_of (sym c.as_bytes.ensures) in
    elim c.match-coded_slot.branch [
      | in-Some+in_ok-push w ↦
          collected_one slot_of [] c.loop-name.list.items c.as_slice-names.result.now c.loop-name.name-index c.name-item.result
          (omega arith) c.name-item.is c.match-coded_slot.list.items w.in-Some.slot c.loop-name.invariant (name ∙ sym w.in-Some.ensures)
          (ap (λ v. v.items) w.list-is ∙ w.in_ok-push.ensures.items)
      | in_default w ↦
          collected_none slot_of [] c.loop-name.list.items c.as_slice-names.result.now c.loop-name.name-index c.name-item.result
          (omega arith) c.name-item.is c.match-coded_slot.list.items c.loop-name.invariant (name ∙ sym w.in_default.ensures)
          (ap (λ v. v.items) w.list-is)
    ]

pub returns : goal.returns
returns c =
    let d = c.args.program.now.declared in
    let names = c.as_slice-names.ensures ∙ ap (λ (x : Declared). x.globals) c.declared.ensures.value in
    let all : c.loop-name.list.items ≡ filter_map (coded_named d c.args.globals) d.globals =
    c.loop-name.invariant ∙ ap (filter_map (coded_named d c.args.globals)) (take_all c.loop-name.name-index c.as_slice-names.result.now (omega arith) ∙ names) in
    coded_are d c.args.globals c.of_vec.result c.of_vec.ensures.ascending (λ z. c.of_vec.ensures.same z ∙ ap (λ l. has_slot l z) all)
