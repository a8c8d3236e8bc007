-- The turns that are left fit the world.
use Rattle.std.proofs.Common.{◌≡◌, Bool, Some, subst}
use Rattle.nl_value.specs.Views.{plain}
use Rattle.nl_exec_meaning.specs.Rounds.{told}
use Rattle.nl_exec_meaning.specs.Seen.{ground}
use Rattle.nl_exec_arrows.specs.Telling.{Told}
use Rattle.nl_exec_arrows.proofs.Fitted.{told_fits}
use Rattle.nl_exec_arrows.proofs.rounds.round_over.Goals as goal

pub next_round-requires : goal.next_round-requires
next_round-requires g c =
    let value = plain c.args.value in
    let is = subst (λ (b : Bool). Told b c.tell.new.rounds (told c.args.word c.args.rounds value)) c.if-branch.true c.in_ok-tell.ensures in
    record { rounds = told_fits (ground c.args.hands.now) c.args.word c.args.rounds c.tell.new.rounds value c.requires.rounds c.requires.left c.requires.value is }
