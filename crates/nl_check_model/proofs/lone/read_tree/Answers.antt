use Rattle.std.proofs.lemmas.Option.{slice_get-get_or}
use Rattle.std.proofs.Common.{[], ◌∙◌, inl, inr, sym, ap, subst}
use Rattle.nl_tree.specs.Vocabulary.{terms}
use Rattle.nl_parse.specs.Outcome.{Refuses}
use Rattle.nl_scan.specs.Tokens.{start_of}
use Rattle.nl_check_model.specs.LoneText.{IsBodyInner, of_body, told_at, whole_text}
use Rattle.nl_check_model.proofs.lone.read_tree.Goals as goal

pub read_body-requires-clause-tokens : goal.read_body-requires-clause-tokens
read_body-requires-clause-tokens c =
    let tokens = c.args.source.now.tokens.now in
    λ k d below. (tokens, k, c.args.source.now.scanned, slice_get-get_or tokens k d below)

pub returns-in-Err-Fault-clause-fault : goal.returns-in-Err-Fault-clause-fault
returns-in-Err-Fault-clause-fault c =
    let text = c.args.source.now.text.now in
    let tokens = c.args.source.now.tokens.now in
    let p = c.args.program.now in
    let refused = rw (c.empty-inputs.ensures, c.declared.ensures.value, c.text-text.ensures.is) at c.in-Err-Fault.ensures.fault in
    let fault = subst (Refuses c.args.form [] (terms p.declared) (whole_text text tokens)) c.in-Err-Fault.field-0-is refused in
    let told = c.told_at.ensures ∙ ap (λ k. told_at text k c.start_of-start.result) c.of_body.ensures ∙ ap (told_at text (of_body c.in-Err-Fault.kind)) c.start_of-start.ensures in
    let inner : IsBodyInner p c.args.form text c.told_at.result =
    record { tokens = tokens; scanned = c.args.source.now.scanned; kind = c.in-Err-Fault.kind; place = c.in-Err-Fault.place; fault = fault; told = told } in
    inr (inl inner)
