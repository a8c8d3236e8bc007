-- What is held stands, whether the move was made or not.
use Rattle.std.proofs.Common.{refl, ◌∙◌, sym, map}
use Rattle.nl_value.specs.Views.{plain}
use Rattle.nl_exec_meaning.proofs.Grounds.{all_fit_is}
use Rattle.nl_exec_at_once.proofs.Moves.{moved_stands}
use Rattle.nl_exec_at_once.proofs.moving.move_now.Goals as goal

pub moves-requires : goal.moves-requires
moves-requires g c =
    let r = (g.S.Store.world c.args.hands.now.stage.store).rest in
    sym (all_fit_is r (map plain c.args.inputs.now)) ∙ c.requires.inputs

pub returns-clause-stands : goal.returns-clause-stands
returns-clause-stands g c =
    let before = c.args.hands.now in
    let after = record before { stage = c.moves.new.stage } in
    moved_stands after before c.args.which (map plain c.args.inputs.now) c.moves.result c.moves.ensures refl refl c.requires.fit
