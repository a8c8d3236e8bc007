use Rattle.std.proofs.Common.{[], ◌∷◌, ◌++◌, ◌-◌, drop, slice_get, refl, sym, ap, subst}
use Rattle.std.proofs.lemmas.List.Elements.{All-drop, All-take}
use Rattle.std.proofs.lemmas.Option.{slice_get-get_or}
use Rattle.nl_fixed.specs.declared.span.Span.{Span}
use Rattle.nl_scan.specs.Tokens.{IsTokenOf}
use Rattle.nl_tree.specs.BodyFault.{ends_at}
use Rattle.nl_tree.specs.Vocabulary.{terms}
use Rattle.nl_tree.specs.declared.declared.Form.TheVariants as form
use Rattle.nl_parse_grammar.specs.Texts.{plain_tokens}
use Rattle.nl_parse.specs.Outcome.{Refuses}
use Rattle.nl_check_model.specs.ModelFault.{body_of, span_by}
use Rattle.nl_check_model.specs.inner.ProgramParts.{IsBodyRefusal}
use Rattle.nl_check_model.proofs.Programs.{tokens_of_text}
use Rattle.nl_check_model.proofs.program.read_procedure.Goals as goal

pub read_body-requires-clause-tokens : goal.read_body-requires-clause-tokens
read_body-requires-clause-tokens c =
    let text = c.args.source.now.text.now in
    let tokens = c.args.source.now.tokens.now in
    let p = c.args.procedure.now in
    All-take (IsTokenOf text) (p.after - p.first) (drop p.first tokens)
    (All-drop (IsTokenOf text) p.first tokens (tokens_of_text text tokens c.args.source.now.scanned))

pub returns-in-Err-Fault-clause-fault : goal.returns-in-Err-Fault-clause-fault
returns-in-Err-Fault-clause-fault c =
    let code = c.args.source.now.text.now in
    let tokens = c.args.source.now.tokens.now in
    let p = c.args.procedure.now in
    let table = terms c.args.declared.now in
    let end = ap span_by (slice_get-get_or tokens p.after c.index-source-procedure.result c.requires.to) in
    let told = subst (λ (s : Span). Refuses form.Commands p.inputs table (plain_tokens code (body_of tokens p) ++ ends_at s ∷ []) c.in-Err-Fault.field-0) (sym end) c.in-Err-Fault.ensures.fault in
    let fault = subst (Refuses form.Commands p.inputs table (plain_tokens code (body_of tokens p) ++ ends_at (span_by (slice_get tokens p.after)) ∷ [])) c.in-Err-Fault.field-0-is told in
    subst (λ e. IsBodyRefusal code tokens table p e) (sym c.refusal_at.ensures)
    (c.in-Err-Fault.kind, c.start_of-start.result, ((c.in-Err-Fault.place, (fault, c.start_of-start.ensures)), refl))
