-- The statement was done so far, or is evaluated.
use Rattle.std.proofs.Common.{◌<◌, ◌+◌, ◌-◌, ◌++◌, ◌∷◌, [], ℕ, suc, List, Some, None, length, refl, ap, ◌∙◌, sym, subst, arith, length-append}
use Rattle.nl_value.specs.declared.values.Value.TheVariants.{Nobody}
use Rattle.nl_exec_meaning.specs.State.{State}
use Rattle.nl_exec_meaning.specs.Seen.{state_of}
use Rattle.nl_exec_meaning.specs.declared.exits.Exit.TheVariants.{Gives}
use Rattle.nl_exec_meaning.specs.declared.frames.Frame.TheVariants as frame
use Rattle.nl_exec_at_once.specs.AtOnce.{inside_left}
use Rattle.nl_exec_at_once.specs.declared.statements.TheConstants.{MOST_NESTED}
use Rattle.nl_exec_levels.specs.declared.levels.Level.{Level}
use Rattle.nl_exec_levels.specs.declared.focus.Focus.TheVariants.{Enter, Give}
use Rattle.nl_exec_levels.specs.Rest.{rest, through}
use Rattle.nl_exec_levels.proofs.Hurrying.{far_above, far_at, statement_hurried}
use Rattle.nl_exec_levels.proofs.Steadying.{steady_again}
use Rattle.nl_exec_levels.proofs.hurry.hurry_statement.Goals as goal

pub returns-in_default-clause-rest : goal.returns-in_default-clause-rest
returns-in_default-clause-rest g c = λ n.
    let code = c.args.code.now in
    let level : Level = record { node = c.args.top; frame = frame.Statement c.args.block c.args.at c.args.kept } in
    let before = c.in_default.ensures.not refl in
    c.in_ok-focus.ensures.rest (c.do_from.new.units + n)
    ∙ ap (λ (s : State). rest code c.args.limit (c.args.levels.now.items ++ level ∷ []) (Enter c.args.node) s)
    (before.0 code.names (c.do_from.new.units + n) ∙ ap (λ (u : ℕ). state_of code.names c.args.hands.now (u + n)) before.1)

pub from_inside-requires : goal.from_inside-requires
from_inside-requires g c =
    let level : (ℕ → Level) = λ i. record { node = c.args.top; frame = frame.Statement c.args.block i c.args.kept } in
    record {
      steady = steady_again c.args.code.now c.do_from.new.hands c.args.hands.now c.args.levels.now.items c.push.new.self.items
          (level c.args.at) (level c.in-Some.far.at) c.requires.steady c.do_from.ensures.stands tt c.in_ok-push.ensures.items;
    }

pub returns-in-None-clause-rest : goal.returns-in-None-clause-rest
returns-in-None-clause-rest g c = λ n.
    let code = c.args.code.now in
    let limit = c.args.limit in
    let ls = c.args.levels.now.items in
    let far = c.in-Some.far in
    let room = limit - suc (length ls) in
    let enough : MOST_NESTED < room = omega (arith, c.requires.room, c.args.levels.now.ok.0) in
    let last = state_of code.names c.do_from.new.hands (c.do_from.new.units + n) in
    ap (λ (all : List Level). rest code limit all (Give (Gives Nobody)) last) c.in_ok-push.ensures.items
    ∙ far_at code limit ls c.args.top c.args.block far.at c.args.kept last
    ∙ statement_hurried code limit ls c.args.top c.args.block c.args.at far.at c.args.kept c.args.node far.inside None
    (state_of code.names c.args.hands.now (c.args.units.now + n)) last (c.in-Some.ensures.done room n c.args.kept enough) c.in-None.is

pub returns-in-None-clause-steady : goal.returns-in-None-clause-steady
returns-in-None-clause-steady g c =
    let level : (ℕ → Level) = λ i. record { node = c.args.top; frame = frame.Statement c.args.block i c.args.kept } in
    steady_again c.args.code.now c.do_from.new.hands c.args.hands.now c.args.levels.now.items c.push.new.self.items
    (level c.args.at) (level c.in-Some.far.at) c.requires.steady c.do_from.ensures.stands tt c.in_ok-push.ensures.items

pub returns-in_ok-focus-in-Some-inside-clause-rest : goal.returns-in_ok-focus-in-Some-inside-clause-rest
returns-in_ok-focus-in-Some-inside-clause-rest g c = λ n.
    let code = c.args.code.now in
    let limit = c.args.limit in
    let ls = c.args.levels.now.items in
    let far = c.in-Some.far in
    let inside = c.in-Some-inside.inside in
    let room = limit - suc (length ls) in
    let enough : MOST_NESTED < room = omega (arith, c.requires.room, c.args.levels.now.ok.0) in
    let units = c.do_from.new.units + n in
    let last = state_of code.names c.do_from.new.hands units in
    let level : Level = record { node = c.args.top; frame = frame.Statement c.args.block far.at c.args.kept } in
    let e = c.in_ok-push.ensures.items in
    let deep = subst (λ (all : List Level). suc (length all) < limit) (sym e)
    (omega (arith, length-append ls (level ∷ []), c.requires.room, c.args.levels.now.ok.0)) in
    c.in_ok-focus-in-Some-inside.ensures.rest limit units deep
    ∙ ap (λ (all : List Level). through code limit all (inside_left code (limit - length all) inside last)) e
    ∙ far_above code limit ls c.args.top c.args.block far.at c.args.kept inside last
    ∙ statement_hurried code limit ls c.args.top c.args.block c.args.at far.at c.args.kept c.args.node far.inside (Some inside)
    (state_of code.names c.args.hands.now (c.args.units.now + n)) last (c.in-Some.ensures.done room n c.args.kept enough) c.in-Some-inside.is
