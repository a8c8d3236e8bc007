-- The word draws, without parts.
use Rattle.std.proofs.Common.{◌≡◌, [], Ok, refl, ap, ◌∙◌, sym, arith}
use Rattle.std.proofs.lemmas.Option.{IfSome_then}
use Rattle.nl_value.specs.Plain.{PlainNumber}
use Rattle.nl_value.specs.Views.{plain}
use Rattle.nl_tree.specs.Tree.{parts}
use Rattle.nl_exec_acts.specs.Acts.{spot_told}
use Rattle.nl_exec_acts.specs.Stage.{scene, stage_of}
use Rattle.nl_exec_acts.specs.declared.words.Act.TheVariants as act
use Rattle.nl_exec_meaning.specs.Code.{node_at}
use Rattle.nl_exec_meaning.specs.Blocks.{values}
use Rattle.nl_exec_meaning.specs.Meaning.{evaluator}
use Rattle.nl_exec_meaning.specs.State.{gives}
use Rattle.nl_exec_meaning.specs.Seen.{state_of}
use Rattle.nl_exec_short.proofs.Drawing.{in_room, no_parts, of_number, word_drawn}
use Rattle.nl_exec_short.proofs.draws.drawn_spot.Goals as goal

pub returns-in-Ok-clause-drawn : goal.returns-in-Ok-clause-drawn
returns-in-Ok-clause-drawn g c =
    let code = c.args.code.now in
    let before = c.args.hands.now in
    let after = record before { stage = c.spots.new.stage } in
    let t = node_at code c.args.node in
    let first = stage_of (scene (g.S.Store.world before.stage.store) before.stage.ticks before.stage.stream) in
    let last = stage_of (scene (g.S.Store.world after.stage.store) after.stage.ticks after.stage.stream) in
    let may = c.if-not-may_run.ensures in
    let no_other : c.count.result ≡ 0 = omega (arith, c.if-count-ne0.false) in
    IfSome_then c.number_of.result
    (of_number (λ v. spot_told c.args.which first ≡ Ok (v, last)) c.number_of.result (plain c.in-Ok.value) first c.number_of.ensures c.in-Ok.ensures.answer)
    (λ number told room n some.
    in_room 0 (λ it. evaluator code.program it t (state_of code.names before n) ≡ gives (PlainNumber number) (state_of code.names after n)) (λ less h.
    word_drawn code after before before c.args.node [] c.args.runs c.args.breed (act.Spot c.args.which) (PlainNumber number)
    c.requires.is (may.allowed refl code) (may.stays refl code) told (λ place s. refl) c.in-Ok.ensures.globals refl refl less n
    (λ next. ap (λ it. values (evaluator code.program less) it [] (state_of code.names before n) next) (no_parts (parts t) (sym c.count.ensures ∙ no_other)))) room some)
