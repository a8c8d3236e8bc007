-- A member that is passed over is none of those who answered.
use Rattle.std.proofs.Common.{[], ◌∷◌, drop}
use Rattle.nl_exec_meaning.specs.Walks.{members_kept}
use Rattle.nl_exec_meaning.specs.Seen.{ground}
use Rattle.nl_exec_walks.proofs.Fitting.{ascend_without, members_front}
use Rattle.nl_exec_walks.proofs.answering.answer_told.Goals as goal

pub next_answer-requires-in-Pass-clause-members : goal.next_answer-requires-in-Pass-clause-members
next_answer-requires-in-Pass-clause-members g c =
    members_front (ground c.args.hands.now) c.args.turns.which (members_kept c.args.made) (c.args.member ∷ []) c.requires.answering.members

pub next_answer-requires-in-Pass-clause-ascend : goal.next_answer-requires-in-Pass-clause-ascend
next_answer-requires-in-Pass-clause-ascend g c =
    ascend_without c.args.gathered (members_kept c.args.made) c.args.member (drop c.args.turns.at c.args.turns.members) c.requires.ascend
