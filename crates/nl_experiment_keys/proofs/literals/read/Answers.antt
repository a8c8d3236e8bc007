use Rattle.std.proofs.Common.{All, ap, sym, subst, ◌∙◌}
use Rattle.std.proofs.lemmas.List.Elements.{All-tail}
use Rattle.nl_scan.specs.Tokens.{IsTokenOf}
use Rattle.std.specs.Option.{option_and_then}
use Rattle.nl_experiment_keys.specs.Literals.{fit, literal_from}
use Rattle.nl_experiment_keys.specs.inner.Taking.{behind}
use Rattle.nl_experiment_keys.proofs.literals.read.Goals as goal

pub tokens-preserved : goal.tokens-preserved
tokens-preserved c =
    let text = c.args.text.now in
    let left = c.in-Some.behind.now in
    let same = c.in-Some.ensures.cases.0 in (
      ap (λ taken. option_and_then fit (behind taken text left c.take.new.nested)) (sym c.in-Further.is)
          ∙ sym (c.in_ok-take.ensures left)
          ∙ ap (λ tokens. option_and_then fit (literal_from text tokens c.tokens.nested)) (sym same)
          ∙ c.tokens.invariant.0,
      All-tail (IsTokenOf text) c.in-Some.token.now left (subst (All (IsTokenOf text)) same c.tokens.invariant.1),
    )
