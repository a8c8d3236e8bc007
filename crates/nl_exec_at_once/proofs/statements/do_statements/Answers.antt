-- A statement that was done, one that was left midway, and one that wasn't done.
use Rattle.std.proofs.Common.{◌≡◌, ◌+◌, ℕ, suc, List, drop, refl, ap, ◌∙◌, sym, arith, rules}
use Rattle.nl_tree.specs.Tree.{Node, parts}
use Rattle.nl_exec_meaning.specs.Code.{node_at}
use Rattle.nl_exec_meaning.specs.Blocks.{leaving, statements}
use Rattle.nl_exec_meaning.specs.Meaning.{evaluator}
use Rattle.nl_exec_meaning.specs.State.{State}
use Rattle.nl_exec_meaning.specs.Seen.{state_of}
use Rattle.nl_exec_at_once.specs.AtOnce.{left_of}
use Rattle.nl_exec_at_once.specs.declared.statements.Done.{Done}
use Rattle.nl_exec_at_once.proofs.Going.{statement_comes_to}
use Rattle.nl_exec_at_once.proofs.statements.do_statements.Goals as goal

pub overflow_add-units : goal.overflow_add-units
overflow_add-units g c =
    let back = c.if-not-spends.ensures.back refl in
    let same = (c.in_default-do_statement.ensures.not refl).1 in
    search rules

pub returns-then-not-spends-clause-done : goal.returns-then-not-spends-clause-done
returns-then-not-spends-clause-done g c = λ room n kept enough.
    let code = c.args.code.now in
    c.statements.invariant.done room n kept enough
    ∙ sym (ap (λ (m : ℕ). statements (evaluator code.program room) kept (drop c.statements.at (parts (node_at code c.args.block)))
    (state_of code.names c.statements.hands (m + n))) (c.if-not-spends.ensures.not refl))

pub returns-in_default-do_statement-clause-done : goal.returns-in_default-do_statement-clause-done
returns-in_default-do_statement-clause-done g c = λ room n kept enough.
    let code = c.args.code.now in
    let names = code.names in
    let rest = drop c.statements.at (parts (node_at code c.args.block)) in
    let before = c.in_default-do_statement.ensures.not refl in
    let units : c.do_statement.new.units + 1 + n ≡ c.statements.units + n = omega (arith, before.1, c.if-not-spends.ensures.spent refl) in
    c.statements.invariant.done room n kept enough
    ∙ sym (ap (λ (s : State). statements (evaluator code.program room) kept rest s)
    (before.0 names (c.do_statement.new.units + 1 + n) ∙ ap (λ (m : ℕ). state_of names c.statements.hands m) units))

pub returns-in-UpTo-clause-done : goal.returns-in-UpTo-clause-done
returns-in-UpTo-clause-done g c = λ room n kept enough.
    let code = c.args.code.now in
    let names = code.names in
    let all = parts (node_at code c.args.block) in
    let less = c.spends.new.units in
    let some : c.statements.units + n ≡ suc (less + n) = omega (arith, c.if-not-spends.ensures.spent refl) in
    let prev = evaluator code.program room in
    let s = state_of names c.statements.hands (c.statements.units + n) in
    let after = state_of names c.do_statement.new.hands (c.do_statement.new.units + n) in
    let behind = drop (c.statements.at + 1) all in
    c.statements.invariant.done room n kept enough
    ∙ ap (λ (ts : List Node). statements prev kept ts s) c.in-Some.ensures.rest
    ∙ statement_comes_to prev kept (node_at code c.in-Some.statement) behind s (left_of code room c.in-Some-do_statement.done after) (less + n)
    (c.if-not-spends.ensures.lives refl) some (c.in-Some-do_statement.ensures.done room n enough)
    ∙ ap (λ (d : Done). leaving kept (left_of code room d after) (λ value s1. statements prev kept behind s1)) c.in-UpTo.is

pub statements-preserved : goal.statements-preserved
statements-preserved g c =
    let code = c.args.code.now in
    let names = code.names in
    let all = parts (node_at code c.args.block) in
    let less = c.spends.new.units in
    let some : ((n : ℕ) → c.statements.units + n ≡ suc (less + n)) = λ n. omega (arith, c.if-not-spends.ensures.spent refl) in
    record {
      done = λ room n kept enough.
          (let prev = evaluator code.program room in
          let s = state_of names c.statements.hands (c.statements.units + n) in
          let after = state_of names c.do_statement.new.hands (c.do_statement.new.units + n) in
          let behind = drop (c.statements.at + 1) all in
          c.statements.invariant.done room n kept enough
          ∙ ap (λ (ts : List Node). statements prev kept ts s) c.in-Some.ensures.rest
          ∙ statement_comes_to prev kept (node_at code c.in-Some.statement) behind s (left_of code room c.in-Some-do_statement.done after) (less + n)
          (c.if-not-spends.ensures.lives refl) (some n) (c.in-Some-do_statement.ensures.done room n enough)
          ∙ ap (λ (d : Done). leaving kept (left_of code room d after) (λ value s1. statements prev kept behind s1)) c.in-Whole.is);
      fewer = omega (arith, c.statements.invariant.fewer, c.if-not-spends.ensures.spent refl, c.do_statement.ensures.left);
      stands = record { fit = c.do_statement.ensures.stands.fit; same = c.do_statement.ensures.stands.same ∙ c.statements.invariant.stands.same };
    }
