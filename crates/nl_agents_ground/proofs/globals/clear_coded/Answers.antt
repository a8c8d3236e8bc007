use Rattle.std.specs.Prelude.{length}
use Rattle.std.proofs.Common.{arith, ap, ◌∙◌, sym, get_or}
use Rattle.std.proofs.lemmas.Option.{slice_get-get_or}
use Rattle.nl_agents_layout.specs.BuiltIn.{zero_value}
use Rattle.nl_agents.specs.Changes.{cleared_from}
use Rattle.nl_agents.proofs.Splices.{spliced_length, all_spliced}
use Rattle.nl_agents_ground.proofs.Cleared.{cleared_length, cleared_more}
use Rattle.nl_agents_ground.proofs.globals.clear_coded.Goals as goal

pub clear_one-requires : goal.clear_one-requires
clear_one-requires c =
    let coded = c.args.layout.now.coded in
    let old = c.args.globals.now in
    omega (arith, ap length c.loop-slot.invariant, spliced_length (cleared_from coded 0 old) old c.loop-slot.slot (sym (cleared_length coded 0 old)), cleared_length coded 0 old, c.requires, c.loop-slot-test.true)

pub loop-slot-preserved : goal.loop-slot-preserved
loop-slot-preserved c =
    let at = c.loop-slot.slot in
    cleared_more c.args.layout.now.coded c.args.globals.now c.loop-slot.globals c.clear_one.new.globals at (get_or c.args.globals.now at zero_value) c.is_coded.result
    (slice_get-get_or c.args.globals.now at zero_value (omega (arith, c.requires, c.loop-slot-test.true))) c.loop-slot.invariant c.is_coded.ensures c.clear_one.ensures

pub returns : goal.returns
returns c =
    let coded = c.args.layout.now.coded in
    let old = c.args.globals.now in
    c.loop-slot.invariant ∙ all_spliced (cleared_from coded 0 old) old c.loop-slot.slot (sym (cleared_length coded 0 old)) (omega (arith, cleared_length coded 0 old, c.requires, c.loop-slot-test.false, c.loop-slot.auto.slot-end))
