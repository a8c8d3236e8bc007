-- The word draws below the number that its part gives.
use Rattle.std.proofs.Common.{◌≡◌, [], ◌∷◌, refl, ap, arith}
use Rattle.std.proofs.lemmas.Option.{IfSome_then}
use Rattle.nl_value.specs.Plain.{PlainNumber}
use Rattle.nl_tree.specs.Tree.{parts}
use Rattle.nl_listops.specs.declared.words.ValueWord.TheVariants as value
use Rattle.nl_exec_acts.specs.declared.words.Act.TheVariants as act
use Rattle.nl_exec_meaning.specs.Code.{node_at}
use Rattle.nl_exec_meaning.specs.Meaning.{evaluator}
use Rattle.nl_exec_meaning.specs.State.{gives}
use Rattle.nl_exec_meaning.specs.Seen.{state_of}
use Rattle.nl_exec_short.proofs.Drawing.{in_room, one_value, word_drawn}
use Rattle.nl_exec_short.proofs.draws.drawn_below.Goals as goal

pub returns-clause-drawn : goal.returns-clause-drawn
returns-clause-drawn g c = IfSome_then c.draw_counted.result c.draw_counted.ensures.drawn (λ number told room n some.
    let code = c.args.code.now in
    let before = c.args.hands.now in
    let after = record before { stage = c.draw_counted.new.stage } in
    let t = node_at code c.args.node in
    let below = c.in-Some-number.below in
    let may = c.if-not-may_run.ensures in
    in_room 6 (λ it. evaluator code.program it t (state_of code.names before n) ≡ gives (PlainNumber number) (state_of code.names after n)) (λ less h.
    word_drawn code after before before c.args.node (PlainNumber below ∷ []) c.args.runs c.args.breed (act.Value (value.Draws c.args.which)) (PlainNumber number)
    c.requires.is (may.allowed refl code) (may.stays refl code) told (λ place s. refl) (ap (λ w. w.globals) c.draw_counted.ensures.world) refl refl less n
    (λ next. one_value (evaluator code.program less) (parts t) (node_at code c.in-Some.part) (PlainNumber below) (state_of code.names before n) (state_of code.names before n) next
    c.in-Some.ensures (c.in-Some-number.ensures less n (omega (arith, h))))) room some)
