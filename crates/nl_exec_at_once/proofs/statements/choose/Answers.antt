-- What is done where the test has its value, and what is undone where nothing is.
use Rattle.std.proofs.Common.{◌≡◌, ℕ, Bool, refl, ◌∙◌, sym, subst}
use Rattle.std.proofs.lemmas.Option.{IfSome_then}
use Rattle.nl_value.specs.Plain.{PlainTruth}
use Rattle.nl_tree.specs.Tree.{span}
use Rattle.nl_exec_meaning.specs.Code.{node_at}
use Rattle.nl_exec_short.specs.Had.{IsDrawn, OnlyDraws}
use Rattle.nl_exec_at_once.proofs.Choosing.{goes_by_first, goes_by_second, goes_by_none}
use Rattle.nl_exec_at_once.proofs.Drawing.{draws_through, put_back}
use Rattle.nl_exec_at_once.proofs.statements.choose.Goals as goal
use Rattle.nl_exec_at_once.proofs.statements.choose.Goals.{in-Some-true, in-Some-false+then-either, in-Some-false+else-either, in-None}

pub returns-in-None-done-clause-not : goal.returns-in-None-done-clause-not
returns-in-None-done-clause-not g c = λ _.
    let before = c.args.hands.now in
    let drawn = c.truth_or_chance.new.hands in
    let draws = c.truth_or_chance.ensures.draws in
    let none = c.in-None-done.is in
    let undone : OnlyDraws c.match-truth_or_chance.hands before × (c.match-truth_or_chance.units ≡ c.args.units.now) = elim c.match-truth_or_chance.branch [
      | in-Some-true w ↦ rw (w.hands-is, w.units-is)
          (let same = w.do_chosen-done.ensures.not (sym w.done-is ∙ none) in (draws_through w.do_chosen-done.new.hands drawn before same.0 draws, same.1))
      | in-Some-false+then-either w ↦ rw (w.hands-is, w.units-is)
          (let same = w.do_chosen.ensures.not (sym w.done-is ∙ none) in (draws_through w.do_chosen.new.hands drawn before same.0 draws, same.1))
      | in-Some-false+else-either w ↦ rw (w.hands-is, w.units-is) (draws, refl)
      | in-None w ↦ rw (w.hands-is, w.units-is) (draws, refl)
    ] in
    (put_back c.match-truth_or_chance.hands before c.restore.new.self undone.0 (c.restore.ensures ∙ c.save-mark.ensures), undone.1)

pub returns-in_default-done-clause-done : goal.returns-in_default-done-clause-done
returns-in_default-done-clause-done g c =
    let code = c.args.code.now in
    let before = c.args.hands.now in
    let drawn = c.truth_or_chance.new.hands in
    let node = c.args.node in
    let part = c.in-Some.part in
    let runs = c.args.runs in
    let units = c.args.units.now in
    let may = λ (n : ℕ). c.if-not-may_run.ensures.allowed refl code n (span (node_at code node)) in
    let there = sym c.in-Some.ensures.value in
    let is = sym c.requires.is.1 in
    let breed = c.requires.is.0 in
    let plain = c.is_plain.ensures (c.if-not-is_plain.false) in
    let told = λ (b : Bool). IsDrawn code drawn before part 9 (PlainTruth b) in
    elim c.match-truth_or_chance.branch [
      | in-Some-true w ↦ rw (w.done-is, w.hands-is, w.units-is)
          (IfSome_then w.do_chosen-done.result w.do_chosen-done.ensures.done (λ how chosen.
          goes_by_first code node part runs breed c.args.either drawn before units is may there plain how w.do_chosen-done.new.hands w.do_chosen-done.new.units
          (subst told w.in-Some-true.field-0-test w.in-Some-true.ensures.drawn) chosen))
      | in-Some-false+then-either w ↦ rw (w.done-is, w.hands-is, w.units-is)
          (IfSome_then w.do_chosen.result w.do_chosen.ensures.done (λ how chosen.
          goes_by_second code node part runs breed c.args.either drawn before units is may there plain w.if-either.true how w.do_chosen.new.hands w.do_chosen.new.units
          (subst told w.in-Some-false.field-0-test w.in-Some-false.ensures.drawn) chosen))
      | in-Some-false+else-either w ↦ rw (w.done-is, w.hands-is, w.units-is)
          (goes_by_none code node part runs breed c.args.either drawn before units is may there plain w.if-either.false
          (subst told w.in-Some-false.field-0-test w.in-Some-false.ensures.drawn))
      | in-None w ↦ rw w.done-is tt
    ]
