-- No turn is left: the word ends with what was made.
use Rattle.std.proofs.Common.{ap, ◌∙◌, sym}
use Rattle.nl_value.specs.Plain.{Plain, PlainItems, plains}
use Rattle.nl_exec_meaning.specs.Code.{node_at}
use Rattle.nl_exec_meaning.specs.Ground.{fits, all_fit}
use Rattle.nl_exec_meaning.specs.Rounds.{items_in}
use Rattle.nl_exec_meaning.specs.Seen.{ground, state_of}
use Rattle.nl_exec_meaning.proofs.Grounds.{items_fit}
use Rattle.nl_exec_arrows.proofs.Fitted.{by_rank_fit, items_in_fit}
use Rattle.nl_exec_meaning.specs.State.{gives}
use Rattle.nl_exec_meaning.specs.declared.words.Arrow.{Arrow}
use Rattle.nl_exec_arrows.proofs.Turning.{none_comes, word_over}
use Rattle.nl_exec_arrows.proofs.finishing.finish.Goals as goal

pub returns-in-ForEach-clause-meaning : goal.returns-in-ForEach-clause-meaning
returns-in-ForEach-clause-meaning g c = λ prev units.
    let code = c.args.code.now in
    let t = node_at code c.args.node in
    let s = state_of code.names c.args.hands.now units in
    sym (none_comes prev t c.args.index c.args.word c.args.rounds s c.requires.rounds.stand c.requires.over
    ∙ ap (λ (w : Arrow). word_over t w c.args.rounds s) c.in-ForEach.is)

pub returns-in_ok-items-in-Filter-clause-fits : goal.returns-in_ok-items-in-Filter-clause-fits
returns-in_ok-items-in-Filter-clause-fits g c = let now = ground c.args.hands.now in ap (fits now) c.in_ok-items-in-Filter.ensures ∙ items_fit now c.args.rounds.made c.requires.rounds.made

pub returns-in_ok-items-in-SortBy-2-clause-fits : goal.returns-in_ok-items-in-SortBy-2-clause-fits
returns-in_ok-items-in-SortBy-2-clause-fits g c =
    let now = ground c.args.hands.now in
    let r = c.args.rounds in
    ap (fits now) c.in_ok-items-in-SortBy-2.ensures
    ∙ items_fit now c.in_ok-items-in-SortBy.items (ap (all_fit now) c.in_ok-items-in-SortBy.ensures ∙ by_rank_fit now (items_in r) r.ranks (items_in_fit now r c.requires.rounds.over))
