-- All places come, one after another.
use Rattle.std.proofs.Common.{refl, ap, ◌∙◌, sym, subst}
use Rattle.std.proofs.lemmas.Result.{IfOk-weaker}
use Rattle.nl_exec_meaning.specs.Code.{node_at}
use Rattle.nl_exec_meaning.specs.Seen.{ground, state_of}
use Rattle.nl_exec_meaning.specs.Rounds.{turns_left}
use Rattle.nl_exec_meaning.specs.Standing.{RoundsFit}
use Rattle.nl_exec_meaning.specs.declared.rounds.Rounds.{Rounds}
use Rattle.nl_exec_arrows.proofs.Starting.{fresh, lists_begin, lists_stand}
use Rattle.nl_exec_arrows.proofs.beginning.begin_lists.Goals as goal

pub begin_turns-requires : goal.begin_turns-requires
begin_turns-requires g c =
    record {
      rounds = subst (RoundsFit (ground c.args.hands.now) c.args.word) (sym c.over_places-rounds.ensures)
          (record { over = c.requires.made; made = refl; stand = lists_stand c.args.word c.requires.word (fresh c.args.made c.in-Ok.many) c.in-Ok.ensures.long });
    }

pub returns-in-Ok-clause-meaning : goal.returns-in-Ok-clause-meaning
returns-in-Ok-clause-meaning g c =
    let code = c.args.code.now in
    let t = node_at code c.args.node in
    IfOk-weaker c.begin_turns.result _ _ (λ next meant. λ prev units thrifty.
    let s = state_of code.names c.args.hands.now units in
    meant prev units thrifty
    ∙ ap (λ (r : Rounds). turns_left c.args.word prev t c.block_of_lists-index.result r s) c.over_places-rounds.ensures
    ∙ lists_begin prev t s c.args.word c.requires.word c.block_of_lists-index.result c.in-Ok.many c.args.made c.block_of_lists-index.ensures c.in-Ok.ensures.first c.in-Ok.ensures.meaning)
    c.begin_turns.ensures.meaning
