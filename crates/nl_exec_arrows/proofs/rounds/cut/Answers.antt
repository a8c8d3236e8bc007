-- The first so many of the locals, by their names.
use Rattle.std.proofs.Common.{List, ap, ◌∙◌, sym, subst, refl}
use Rattle.nl_exec_meaning.specs.State.{Held, with_locals}
use Rattle.nl_exec_meaning.specs.Ground.{fits}
use Rattle.nl_exec_meaning.specs.Kept.{Kept, all_held}
use Rattle.nl_exec_meaning.specs.Seen.{ground, state_of}
use Rattle.nl_exec_meaning.specs.Standing.{LocalsFit}
use Rattle.nl_exec_meaning.proofs.Newest.{held_take}
use Rattle.nl_exec_meaning.proofs.Grounds.{pass_take}
use Rattle.nl_exec_meaning.proofs.Standing.{stands_on}
use Rattle.nl_exec_arrows.proofs.rounds.cut.Goals as goal

pub returns-clause-state : goal.returns-clause-state
returns-clause-state g c = λ code units.
    let hands = c.args.hands.now in
    ap (λ (ls : List Held). with_locals ls (state_of code.names hands units))
    (ap (all_held code.names) c.truncate.ensures ∙ sym (held_take code.names hands.locals c.args.kept))

pub returns-clause-stands : goal.returns-clause-stands
returns-clause-stands g c =
    let hands = c.args.hands.now in
    let now = ground hands in
    stands_on _ hands
    (subst (λ (ks : List Kept). LocalsFit now ks) (sym c.truncate.ensures) (pass_take (λ (k : Kept). fits now k.value) c.args.kept hands.locals c.requires.locals))
    c.requires.site refl
