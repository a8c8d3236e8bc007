-- What is kept of a checked program is steady, and where more is to come no unit is left, and all that were asked for could be spent.
use Rattle.std.proofs.Common.{◌≡◌, ℕ, ◌+◌, List, Some, ap, subst, ◌∙◌, sym, arith}
use Rattle.nl_exec_meaning.specs.Seen.{ended, ground, state_of}
use Rattle.nl_exec_meaning.specs.State.{ends}
use Rattle.nl_exec_meaning.specs.Sound.{IsSound}
use Rattle.nl_exec_levels.specs.declared.focus.Focus.TheVariants as focus
use Rattle.nl_exec_levels.specs.Steady.{LevelsFit}
use Rattle.nl_exec_levels.specs.declared.levels.Level.{Level}
use Rattle.nl_exec_levels.specs.Rest.{rest, stopped, stop_exit}
use Rattle.nl_exec.specs.Slices.{focus_of, rest_by}
use Rattle.nl_exec.specs.Machines.{with_more}
use Rattle.nl_exec.proofs.Opening.{well_open}
use Rattle.nl_exec_levels.proofs.Stops.{more_by, text_ends}
use Rattle.nl_exec.proofs.slices.Machine.advance.Goals as goal

pub spend_units-requires-clause-steady : goal.spend_units-requires-clause-steady
spend_units-requires-clause-steady g c =
    let m = c.args.self.now in
    let running : focus_of m.phase m.form ≡ Some c.in-Some.start = sym c.focus_of.ensures ∙ c.in-Some.is in
    let well = well_open m.phase m.form c.in-Some.start running in
    let kept = m.kept well in
    record {
      laid = kept.0;
      sound = subst (λ l. IsSound m.code.program l) m.hands.stage.known
          (subst (λ p. IsSound p m.hands.stage.layout) c.program.ensures c.program_is_sound.ensures);
      fit = record { locals = kept.1.locals; site = kept.1.site };
      held = m.held well;
    }

pub invariant_of-self-then-self-clause-kept : goal.invariant_of-self-then-self-clause-kept
invariant_of-self-then-self-clause-kept g c = λ well.
    (c.in_ok-stop.ensures.steady.laid, c.in_ok-stop.ensures.steady.fit)

pub invariant_of-self-then-self-clause-held : goal.invariant_of-self-then-self-clause-held
invariant_of-self-then-self-clause-held g c = λ well.
    subst (λ (ls : List Level). LevelsFit (ground c.spend_units.new.hands) ls) (sym c.clear-then-self.ensures.items) tt

pub invariant_of-self-in-Wanted-clause-held : goal.invariant_of-self-in-Wanted-clause-held
invariant_of-self-in-Wanted-clause-held g c = λ well. c.in_ok-stop.ensures.steady.held

pub invariant_of-self-in-Wanted-clause-kept : goal.invariant_of-self-in-Wanted-clause-kept
invariant_of-self-in-Wanted-clause-kept g c = λ well.
    (c.in_ok-stop.ensures.steady.laid, c.in_ok-stop.ensures.steady.fit)

pub returns-else-self-clause-more : goal.returns-else-self-clause-more
returns-else-self-clause-more g c = λ e n.
    let m = c.args.self.now in
    let code = m.code in
    let limit = m.limit in
    let ls = c.spend_units.new.levels.items in
    let left = c.in_ok-stop.left in
    let asked = c.min-asked.result in
    let none : left ≡ 0 = rw c.in-Wanted.is at c.in_ok-stop.ensures.wanted in
    let all : asked ≡ c.args.units = omega (arith, c.if-self.false) in
    let running : focus_of m.phase m.form ≡ Some c.in-Some.start = sym c.focus_of.ensures ∙ c.in-Some.is in
    more_by
    (λ k. rest code limit ls (focus.Want c.in-Wanted.wish) (state_of code.names c.spend_units.new.hands k))
    (λ k. rest_by (focus_of m.phase m.form) code limit m.levels.items (state_of code.names m.hands k))
    left asked c.args.units n
    (sym (ap (λ x. rest code limit ls (stopped x) (state_of code.names c.spend_units.new.hands (left + n))) c.in-Wanted.is)
    ∙ c.in_ok-stop.ensures.rest n
    ∙ sym (ap (λ o. rest_by o code limit m.levels.items (state_of code.names m.hands (asked + n))) running))
    none all

pub returns-in-End-clause-over : goal.returns-in-End-clause-over
returns-in-End-clause-over g c = λ e is few n.
    let m = c.args.self.now in
    let code = m.code in
    let limit = m.limit in
    let units = c.args.units in
    let asked = c.min-asked.result in
    let left = c.in_ok-stop.left in
    let there = λ (k : ℕ). rest_by (focus_of m.phase m.form) code limit m.levels.items (state_of code.names m.hands k) in
    let inner = λ (k : ℕ). rest code limit m.levels.items c.in-Some.start (state_of code.names m.hands k) in
    let after = λ (k : ℕ). state_of code.names c.spend_units.new.hands k in
    let running : focus_of m.phase m.form ≡ Some c.in-Some.start = sym c.focus_of.ensures ∙ c.in-Some.is in
    let inside : (k : ℕ) → there k ≡ inner k =
    λ k. ap (λ o. rest_by o code limit m.levels.items (state_of code.names m.hands k)) running in
    let all : units ≡ asked = omega (arith, few, c.min-asked.ensures) in
    let more : there (units + n) ≡ ended c.in-End.exit (after (left + n)) =
    inside (units + n) ∙ ap (λ k. inner (k + n)) all ∙ sym (c.in_ok-stop.ensures.rest n)
    ∙ text_ends code limit c.spend_units.new.levels.items c.in_ok-stop.stop c.in-End.exit (after (left + n)) c.in-End.is c.in_ok-stop.ensures.over in
    let now : there units ≡ ended c.in-End.exit (after left) =
    inside units ∙ ap inner all ∙ c.in_ok-stop.ensures.now ∙ ap (λ x. ends (stop_exit x) (after left)) c.in-End.is in
    more ∙ sym (ap (with_more n) now)
