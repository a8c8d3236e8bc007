use Rattle.std.proofs.Common.{◌++◌, [], ◌∷◌, All, sym, subst}
use Rattle.std.proofs.lemmas.Result.{IfOk-weaker}
use Rattle.nl_scan.specs.Tokens.{IsTokenOf}
use Rattle.nl_tree.specs.Tokens as plain
use Rattle.nl_parse_grammar.specs.Texts.{plain_tokens}
use Rattle.nl_parse_grammar.proofs.Meant.{tokens_are_plain}
use Rattle.nl_check_model.proofs.Programs.{tokens_of_text}
use Rattle.trial_model.proofs.readings.read.Goals as goal

pub read_body-requires-clause-tokens : goal.read_body-requires-clause-tokens
read_body-requires-clause-tokens c =
    subst (All (IsTokenOf c.args.text.now)) (sym c.as_slice.ensures) (tokens_of_text c.args.text.now c.in-Ok.tokens c.in-Ok.ensures.tokens)

pub returns : goal.returns
returns c =
    let text = c.args.text.now in
    let ts = c.as_slice.result.now in
    let all = subst (λ xs. All plain.IsToken (plain_tokens text xs)) (sym c.as_slice.ensures) (tokens_are_plain text c.in-Ok.tokens c.in-Ok.ensures.tokens) in
    IfOk-weaker c.read_body.result _ _ (λ tree good. (plain_tokens text ts, c.args.end, (all, good))) c.read_body.ensures.ok
