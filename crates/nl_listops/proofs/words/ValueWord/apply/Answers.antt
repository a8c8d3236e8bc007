use Rattle.std.proofs.Common.{subst, sym, map, List}
use Rattle.nl_value.specs.Plain.{Plain}
use Rattle.nl_value.specs.Views.{plain}
use Rattle.nl_listops_series.specs.Outcomes.{limited}
use Rattle.nl_listops.specs.declared.words.ValueWord.TheVariants as word
use Rattle.nl_listops.specs.Answers.{Answers, word_answer}
use Rattle.nl_listops.specs.inner.Steps.{within_or_not}
use Rattle.nl_listops.proofs.Fitting.{word_fit, given_fit}
use Rattle.nl_listops.proofs.Keeping.{told, gives_beside, stays_at}
use Rattle.nl_listops.proofs.words.ValueWord.apply.Goals as goal

pub returns-in-Draws-clause-fit : goal.returns-in-Draws-clause-fit
returns-in-Draws-clause-fit g c =
    let w = g.L.Life.living c.args.life.now in
    let inputs : List Plain = map plain c.args.inputs.now in
    given_fit w c.drawn.result c.drawn.new.stream (word_answer w (word.Draws c.in-Draws.which) inputs c.args.stream.now) c.drawn.ensures.answer (word_fit w (word.Draws c.in-Draws.which) inputs c.args.stream.now c.requires)

pub returns-in_default : goal.returns-in_default
returns-in_default g c =
    let w = g.L.Life.living c.args.life.now in
    let inputs : List Plain = map plain c.args.inputs.now in
    let state = c.args.stream.now in
    let answer : Answers c.kept.result state (word_answer w c.args.self inputs state) =
    subst (Answers c.kept.result state) (sym (told w c.args.self inputs state c.in_default.not-Draws)) (gives_beside c.kept.result state (limited (within_or_not w c.args.self inputs)) c.kept.ensures) in
    record {
      answer = answer;
      fit = given_fit w c.kept.result state (word_answer w c.args.self inputs state) answer (word_fit w c.args.self inputs state c.requires);
      stays = stays_at c.kept.result state;
    }
