-- With just these units, the rest is the end.
use Rattle.std.proofs.Common.{◌≡◌, ℕ, suc, ◌+◌, ◌-◌, ap, ◌∙◌, sym, refl, arith}
use Rattle.nl_exec_meaning.specs.Seen.{state_of}
use Rattle.nl_exec_levels.specs.Rest.{rest, stopped}
use Rattle.nl_exec_levels.specs.declared.focus.Focus.TheVariants.{Want}
use Rattle.nl_exec_levels.proofs.Stops.{wish_ends, text_ends}
use Rattle.nl_exec_levels.proofs.run.spend_units.Goals as goal

pub returns-then-left-eq0-clause-now : goal.returns-then-left-eq0-clause-now
returns-then-left-eq0-clause-now g c =
    let code = c.args.code.now in
    let limit = c.args.limit in
    let there = λ (m : ℕ). rest code limit c.args.levels.now.items c.args.start (state_of code.names c.args.hands.now m) in
    let here = λ (m : ℕ). rest code limit c.spending.levels.items c.spending.focus (state_of code.names c.spending.hands m) in
    let units : c.args.units ≡ c.args.units + 0 = omega arith in
    let none : c.spending.left + 0 ≡ 0 = omega arith in
    ap there units ∙ sym (c.spending.invariant.same 0) ∙ ap here none ∙ sym (c.in_ok-exit.ensures.rest 0)
    ∙ wish_ends code limit c.settle.new.levels.items c.in_ok-exit.field-0 c.in-Wanted.wish (state_of code.names c.settle.new.hands 0) c.in-Wanted.is refl

pub returns-in-End-clause-now : goal.returns-in-End-clause-now
returns-in-End-clause-now g c =
    let code = c.args.code.now in
    let limit = c.args.limit in
    let there = λ (m : ℕ). rest code limit c.args.levels.now.items c.args.start (state_of code.names c.args.hands.now m) in
    let here = λ (m : ℕ). rest code limit c.spending.levels.items c.spending.focus (state_of code.names c.spending.hands m) in
    let units : c.args.units ≡ c.args.units + 0 = omega arith in
    let left = c.spending.left in
    let all : left + 0 ≡ left = omega arith in
    ap there units ∙ sym (c.spending.invariant.same 0) ∙ ap here all ∙ sym (c.in_ok-exit.ensures.rest left)
    ∙ text_ends code limit c.settle.new.levels.items c.in_ok-exit.field-0 c.in-End.exit (state_of code.names c.settle.new.hands left) c.in-End.is c.in_ok-exit.ensures.over

pub returns-then-left-eq0-clause-rest : goal.returns-then-left-eq0-clause-rest
returns-then-left-eq0-clause-rest g c = λ n.
    let code = c.args.code.now in
    let limit = c.args.limit in
    let here = λ (m : ℕ). rest code limit c.spending.levels.items c.spending.focus (state_of code.names c.spending.hands m) in
    let none : 0 + n ≡ c.spending.left + n = omega arith in
    sym (ap (λ x. rest code limit c.settle.new.levels.items (stopped x) (state_of code.names c.settle.new.hands (0 + n))) c.in-Wanted.is)
    ∙ c.in_ok-exit.ensures.rest (0 + n) ∙ ap here none ∙ c.spending.invariant.same n

pub spending-preserved : goal.spending-preserved
spending-preserved g c =
    let code = c.args.code.now in
    let limit = c.args.limit in
    let ls = c.settle.new.levels.items in
    let hands = c.settle.new.hands in
    let less = c.spending.left - 1 in
    let hurried = c.in_ok-focus-in-Wanted.ensures in
    record {
      same = λ n.
          (let more : suc (less + n) ≡ c.spending.left + n = omega (arith, c.if-left-eq0.false) in
          hurried.rest n
          ∙ ap (λ m. rest code limit ls (Want c.in-Wanted.wish) (state_of code.names hands m)) more
          ∙ sym (ap (λ x. rest code limit ls (stopped x) (state_of code.names hands (c.spending.left + n))) c.in-Wanted.is)
          ∙ c.in_ok-exit.ensures.rest (c.spending.left + n)
          ∙ c.spending.invariant.same n);
      depth = c.hurry.ensures.depth;
      fewer = omega (arith, c.spending.invariant.fewer, c.hurry.ensures.left);
      steady = hurried.steady;
      fits = hurried.focus;
    }
