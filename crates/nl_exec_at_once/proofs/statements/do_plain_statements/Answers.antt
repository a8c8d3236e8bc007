-- A statement that was done, and one that wasn't.
use Rattle.std.proofs.Common.{◌≡◌, ◌+◌, ℕ, suc, List, drop, refl, ap, ◌∙◌, sym, arith, rules}
use Rattle.nl_tree.specs.Tree.{Node, parts}
use Rattle.nl_exec_meaning.specs.Code.{node_at}
use Rattle.nl_exec_meaning.specs.Blocks.{statements}
use Rattle.nl_exec_meaning.specs.Meaning.{evaluator}
use Rattle.nl_exec_meaning.specs.State.{State, goes_on}
use Rattle.nl_exec_meaning.specs.Seen.{state_of}
use Rattle.nl_exec_at_once.proofs.Going.{statement_comes_to}
use Rattle.nl_exec_at_once.proofs.statements.do_plain_statements.Goals as goal

pub overflow_add-units : goal.overflow_add-units
overflow_add-units g c =
    let back = c.if-not-spends.ensures.back refl in
    let same = (c.if-not-do_plain.ensures.not refl).1 in
    search rules

pub returns-then-not-spends-clause-done : goal.returns-then-not-spends-clause-done
returns-then-not-spends-clause-done g c = λ room n kept enough.
    let code = c.args.code.now in
    c.statements.invariant.done room n kept enough
    ∙ sym (ap (λ (m : ℕ). statements (evaluator code.program room) kept (drop c.statements.at (parts (node_at code c.args.block)))
    (state_of code.names c.statements.hands (m + n))) (c.if-not-spends.ensures.not refl))

pub returns-then-not-do_plain-clause-done : goal.returns-then-not-do_plain-clause-done
returns-then-not-do_plain-clause-done g c = λ room n kept enough.
    let code = c.args.code.now in
    let names = code.names in
    let rest = drop c.statements.at (parts (node_at code c.args.block)) in
    let before = c.if-not-do_plain.ensures.not refl in
    let units : c.do_plain.new.units + 1 + n ≡ c.statements.units + n = omega (arith, before.1, c.if-not-spends.ensures.spent refl) in
    c.statements.invariant.done room n kept enough
    ∙ sym (ap (λ (s : State). statements (evaluator code.program room) kept rest s)
    (before.0 names (c.do_plain.new.units + 1 + n) ∙ ap (λ (m : ℕ). state_of names c.statements.hands m) units))

pub statements-preserved : goal.statements-preserved
statements-preserved g c =
    let code = c.args.code.now in
    let names = code.names in
    let all = parts (node_at code c.args.block) in
    let less = c.spends.new.units in
    let some : ((n : ℕ) → c.statements.units + n ≡ suc (less + n)) = λ n. omega (arith, c.if-not-spends.ensures.spent refl) in
    record {
      done = λ room n kept enough.
          (let prev = evaluator code.program room in
          let s = state_of names c.statements.hands (c.statements.units + n) in
          c.statements.invariant.done room n kept enough
          ∙ ap (λ (ts : List Node). statements prev kept ts s) c.in-Some.ensures.rest
          ∙ statement_comes_to prev kept (node_at code c.in-Some.statement) (drop (c.statements.at + 1) all) s
          (goes_on (state_of names c.do_plain.new.hands (c.do_plain.new.units + n))) (less + n)
          (c.if-not-spends.ensures.lives refl) (some n)
          (c.if-not-do_plain.ensures.done refl room n enough));
      fewer = omega (arith, c.statements.invariant.fewer, c.if-not-spends.ensures.spent refl, c.do_plain.ensures.left);
      stands = record { fit = c.do_plain.ensures.stands.fit; same = c.do_plain.ensures.stands.same ∙ c.statements.invariant.stands.same };
    }
