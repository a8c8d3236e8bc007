use Rattle.std.proofs.Common.{ℕ, Err, sym, ap, ◌∙◌, Result, List}
use Rattle.nl_scan.specs.declared.token.Token.{Token}
use Rattle.nl_scan.specs.declared.token.ScanKind.{ScanKind}
use Rattle.nl_scan.specs.Faults.{ScanFault}
use Rattle.nl_scan.proofs.Cutting.{tokens_of-long, tokens_of-no_text, tokens_of-text}
use Rattle.nl_scan.proofs.scanner.scan.Goals as goal

pub returns-then-text-gt-TEXT_LIMIT-clause-tokens : goal.returns-then-text-gt-TEXT_LIMIT-clause-tokens
returns-then-text-gt-TEXT_LIMIT-clause-tokens c = tokens_of-long c.args.text.now c.if-text-gt-TEXT_LIMIT.true

pub returns-in-Err-clause-tokens : goal.returns-in-Err-clause-tokens
returns-in-Err-clause-tokens c =
    let refused : ℕ → Result (List Token) ScanFault = λ place. Err (record { kind = ScanKind.NotText; place = place }) in
    tokens_of-no_text c.args.text.now c.if-text-gt-TEXT_LIMIT.false c.in-Err.ensures.cases.0
    ∙ ap refused (sym (c.valid_up_to.ensures ∙ c.in-Err.ensures.valid_len))

pub returns-clause-tokens : goal.returns-clause-tokens
returns-clause-tokens c = rw (tokens_of-text c.args.text.now c.if-text-gt-TEXT_LIMIT.false c.in_default.ensures.cases.1) c.cut.ensures.tokens

pub returns-then-text-gt-TEXT_LIMIT-clause-no_tokens : goal.returns-then-text-gt-TEXT_LIMIT-clause-no_tokens
returns-then-text-gt-TEXT_LIMIT-clause-no_tokens c = λ none. let long = tokens_of-long c.args.text.now c.if-text-gt-TEXT_LIMIT.true in cc

pub returns-in-Err-clause-no_tokens : goal.returns-in-Err-clause-no_tokens
returns-in-Err-clause-no_tokens c = λ none.
    let other = tokens_of-no_text c.args.text.now c.if-text-gt-TEXT_LIMIT.false c.in-Err.ensures.cases.0 in cc

pub returns-clause-no_tokens : goal.returns-clause-no_tokens
returns-clause-no_tokens c = λ none.
    c.cut.ensures.no_tokens (sym (tokens_of-text c.args.text.now c.if-text-gt-TEXT_LIMIT.false c.in_default.ensures.cases.1) ∙ none)
