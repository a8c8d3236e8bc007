-- The values of the turn stand behind the other locals.
use Rattle.std.proofs.Common.{List, ap, refl}
use Rattle.nl_exec_meaning.specs.State.{Held, with_locals}
use Rattle.nl_exec_meaning.specs.Seen.{ground, state_of}
use Rattle.nl_exec_meaning.proofs.Standing.{stands_on}
use Rattle.nl_exec_arrows.proofs.Fitted.{given_fit}
use Rattle.nl_exec_arrows.proofs.rounds.name_all.Goals as goal

pub returns-clause-state : goal.returns-clause-state
returns-clause-state g c = λ units.
    ap (λ (ls : List Held). with_locals ls (state_of c.args.code.now.names c.args.hands.now units)) c.in_ok-name_values.ensures.held

pub returns-clause-stands : goal.returns-clause-stands
returns-clause-stands g c =
    let hands = c.args.hands.now in
    let now = ground hands in
    stands_on _ hands
    (c.in_ok-name_values.ensures.fits now (given_fit now c.args.word c.args.rounds.now c.requires.rounds.over c.requires.rounds.made) c.requires.fit.locals)
    c.requires.fit.site refl
