-- What a comparison tells of two numbers that are drawn, one after the other.
use Rattle.std.proofs.Common.{◌≡◌, [], ◌∷◌, refl, arith}
use Rattle.nl_value.specs.Plain.{PlainNumber, PlainTruth}
use Rattle.nl_tree.specs.Tree.{parts}
use Rattle.nl_agents.specs.Names.{living_of}
use Rattle.nl_listops.specs.declared.words.ValueWord.TheVariants as value
use Rattle.nl_exec_acts.specs.declared.words.Act.TheVariants as act
use Rattle.nl_exec_acts.specs.Stage.{scene, stage_of}
use Rattle.nl_exec_meaning.specs.Code.{node_at}
use Rattle.nl_exec_meaning.specs.Meaning.{evaluator}
use Rattle.nl_exec_meaning.specs.State.{gives}
use Rattle.nl_exec_meaning.specs.Seen.{state_of}
use Rattle.nl_exec_short.proofs.Drawing.{draws_through, in_room, stays_behind, two_in_order, word_drawn}
use Rattle.nl_exec_short.proofs.Words.{truth_made}
use Rattle.nl_exec_short.proofs.truths.compared_by_chance.Goals as goal

pub returns-in_default-drawn-2-clause-draws : goal.returns-in_default-drawn-2-clause-draws
returns-in_default-drawn-2-clause-draws g c =
    draws_through c.drawn-2.new.hands c.drawn.new.hands c.args.hands.now c.drawn-2.ensures.draws c.drawn.ensures.draws

pub returns-clause-draws : goal.returns-clause-draws
returns-clause-draws g c =
    draws_through c.drawn-2.new.hands c.drawn.new.hands c.args.hands.now c.drawn-2.ensures.draws c.drawn.ensures.draws

pub returns-clause-drawn : goal.returns-clause-drawn
returns-clause-drawn g c room n some =
    let code = c.args.code.now in
    let before = c.args.hands.now in
    let between = c.drawn.new.hands in
    let after = c.drawn-2.new.hands in
    let t = node_at code c.args.node in
    let a = PlainNumber c.in-Some-drawn.a in
    let b = PlainNumber c.in-Some-drawn-2.b in
    let may = c.if-not-may_run.ensures in
    let st = stage_of (scene (g.S.Store.world after.stage.store) after.stage.ticks after.stage.stream) in
    let told = truth_made c.args.which a b c.comparison.result st (c.comparison.ensures (living_of st.rest)) in
    let draws = draws_through after between before c.drawn-2.ensures.draws c.drawn.ensures.draws in
    in_room 7 (λ it. evaluator code.program it t (state_of code.names before n) ≡ gives (PlainTruth c.comparison.result) (state_of code.names after n)) (λ less h.
    word_drawn code after after before c.args.node (a ∷ b ∷ []) c.args.runs c.args.breed (act.Value (value.Compare c.args.which)) (PlainTruth c.comparison.result)
    c.requires.is (may.allowed refl code)
    (λ m. stays_behind c.args.runs (state_of code.names before m) (state_of code.names after m) after.stage.stream (draws code.names m) (may.stays refl code m))
    told (λ place s. refl) refl refl refl less n
    (λ next. two_in_order (evaluator code.program less) (parts t) (node_at code c.in-Some.left) (node_at code c.in-Some.right) a b
    (state_of code.names before n) (state_of code.names between n) (state_of code.names after n) next c.in-Some.ensures
    (c.in-Some-drawn.ensures.drawn less n (omega (arith, h))) (c.in-Some-drawn-2.ensures.drawn less n (omega (arith, h))))) room some
