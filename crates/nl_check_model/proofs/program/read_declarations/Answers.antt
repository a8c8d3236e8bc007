use Rattle.std.proofs.Common.{refl, sym, subst}
use Rattle.nl_decl.specs.Outcome.{IsRefusedFor}
use Rattle.nl_parse_grammar.specs.Texts.{lexemes_of}
use Rattle.nl_check_model.specs.inner.ProgramParts.{IsCodeRefusal}
use Rattle.nl_check_model.specs.declared.faults.ModelKind.{ModelKind}
use Rattle.nl_check_model.proofs.program.read_declarations.Goals as goal

pub returns-in-Err-Fault-clause-fault : goal.returns-in-Err-Fault-clause-fault
returns-in-Err-Fault-clause-fault c =
    let text = c.args.source.now.text.now in
    let tokens = c.args.source.now.tokens.now in
    let fault = subst (IsRefusedFor (lexemes_of text tokens) c.args.widgets) c.in-Err-Fault.field-0-is c.in-Err-Fault.ensures.fault in
    subst (IsCodeRefusal c.args.widgets text tokens) (sym c.refusal_at.ensures)
    (ModelKind.Declaration c.in-Err-Fault.kind, c.start_of-start.result, ((c.in-Err-Fault.place, (fault, c.start_of-start.ensures)), refl))
