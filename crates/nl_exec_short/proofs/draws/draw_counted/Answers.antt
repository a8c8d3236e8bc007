-- What is drawn is the number that the value is.
use Rattle.std.proofs.Common.{◌≡◌, [], ◌∷◌, Ok}
use Rattle.nl_value.specs.Plain.{PlainNumber}
use Rattle.nl_value.specs.Views.{plain}
use Rattle.nl_listops.specs.declared.words.ValueWord.TheVariants as value
use Rattle.nl_exec_acts.specs.Acts.{value_told}
use Rattle.nl_exec_acts.specs.Stage.{scene, stage_of}
use Rattle.nl_exec_short.proofs.Drawing.{of_number}
use Rattle.nl_exec_short.proofs.draws.draw_counted.Goals as goal

pub returns-in-Ok-clause-drawn : goal.returns-in-Ok-clause-drawn
returns-in-Ok-clause-drawn g c =
    let stage = c.args.stage.now in
    let before = stage_of (scene (g.S.Store.world stage.store) stage.ticks stage.stream) in
    let left = c.values.new.stage in
    let after = stage_of (scene (g.S.Store.world left.store) left.ticks left.stream) in
    of_number (λ v. value_told (value.Draws c.args.which) (PlainNumber c.args.below ∷ []) before ≡ Ok (v, after)) c.number_of.result (plain c.in-Ok.value) before
    c.number_of.ensures c.in-Ok.ensures.answer
