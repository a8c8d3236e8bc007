-- A further turn is taken.
use Rattle.std.proofs.Common.{◌≡◌, ◌+◌, ◌-◌, suc, ◌∙◌, arith}
use Rattle.nl_exec_meaning.specs.Code.{node_at}
use Rattle.nl_exec_meaning.specs.Meaning.{evaluator}
use Rattle.nl_exec_meaning.specs.Seen.{state_of}
use Rattle.nl_exec_walks.proofs.Turns.{stands_through}
use Rattle.nl_exec_at_once.proofs.Taking.{turn_taken}
use Rattle.nl_exec_at_once.proofs.repeats.do_repeats.Goals as goal

pub turns-preserved : goal.turns-preserved
turns-preserved g c = record {
  done = λ room n enough.
      let code = c.args.code.now in
      let prev = evaluator code.program room in
      let left = c.turns.left in
      let units = c.do_block.new.units in
      let more : left ≡ suc (left - 1) = omega (arith, c.if-left-eq0.false) in
      let paid : units + n ≡ suc (units - 1 + n) = omega (arith, c.if-units-eq0.false) in
      c.turns.invariant.done room n enough
      ∙ turn_taken prev (node_at code c.args.word) (node_at code c.args.block) left (left - 1) (units - 1 + n)
      (prev (node_at code c.args.block) (state_of code.names c.turns.hands (c.turns.units + n)))
      (state_of code.names c.do_block.new.hands (units + n)) c.requires.block (c.in_default.ensures.done room n enough) more paid;
  fewer = omega (arith, c.turns.invariant.fewer, c.do_block.ensures.left);
  stands = stands_through c.do_block.new.hands c.turns.hands c.args.hands.now c.do_block.ensures.stands c.turns.invariant.stands;
}
