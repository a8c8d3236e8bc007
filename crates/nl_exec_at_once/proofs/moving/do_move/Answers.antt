-- Where the move isn't made, the stream is put back to where it was.
use Rattle.std.proofs.Common.{refl, ◌∙◌, sym}
use Rattle.nl_exec_at_once.proofs.Moves.{put_back}
use Rattle.nl_exec_at_once.proofs.moving.do_move.Goals as goal
use Rattle.nl_exec_at_once.proofs.moving.do_move.Goals.{in-1, in-2, in_default}

pub returns-then-not-done-clause-not : goal.returns-then-not-done-clause-not
returns-then-not-done-clause-not g c still =
    let before = c.args.hands.now in
    let now = c.match-count.hands in
    let stream = c.restore.new.self in
    let same = c.restore.ensures ∙ c.save-mark.ensures in
    elim c.match-count.branch [
      | in-1 w ↦ put_back now w.move_by_one-done.new.hands before stream w.hands-is (w.move_by_one-done.ensures.not (sym w.done-is ∙ still)) same
      | in-2 w ↦ put_back now w.move_by_two-done.new.hands before stream w.hands-is (w.move_by_two-done.ensures.not (sym w.done-is ∙ still)) same
      | in_default w ↦ put_back now before before stream w.hands-is (λ names n. refl) same
    ]
