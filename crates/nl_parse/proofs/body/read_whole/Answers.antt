use Rattle.std.proofs.Common.{◌∙◌, ap, sym}
use Rattle.std.proofs.lemmas.Result.{IfOk-weaker, IfErr-weaker}
use Rattle.nl_tree.specs.Vocabulary.{terms}
use Rattle.nl_tree.specs.Views.{plain}
use Rattle.nl_parse_grammar.specs.Machine.{go, run_from}
use Rattle.nl_parse_stack.specs.inner.State.{state_of}
use Rattle.nl_parse_grammar.proofs.Good.{models_have_words}
use Rattle.nl_parse.proofs.Run.{good_text, refused_within, refused_end, toks_of}
use Rattle.nl_parse.proofs.body.read_whole.Goals as goal

pub returns-in-Err-clause-fault : goal.returns-in-Err-clause-fault
returns-in-Err-clause-fault c = λ form names q.
    let d = c.args.declared.now in
    refused_within form names (terms d) c.args.text.now c.args.tokens.now c.args.end (state_of c.args.reader.now) c.in-Err.refusal (models_have_words d) q c.in-Err.ensures.fault

pub returns-clause-ok : goal.returns-clause-ok
returns-clause-ok c = λ form names q.
    let d = c.args.declared.now in
    let a = toks_of (terms d) c.args.text.now c.args.tokens.now in
    IfOk-weaker c.finish.result _ _ (λ tree r. good_text form names (terms d) c.args.text.now c.args.tokens.now c.args.end (state_of c.read_tokens.new.reader) (plain tree) r.0 r.1 (ap (λ s. run_from (go s) a) (sym q) ∙ c.in_default.ensures.ok) r.2.0 r.2.1) c.finish.ensures.ok

pub returns-clause-fault : goal.returns-clause-fault
returns-clause-fault c = λ form names q.
    let d = c.args.declared.now in
    let a = toks_of (terms d) c.args.text.now c.args.tokens.now in
    IfErr-weaker c.finish.result _ _ (λ refusal stops. refused_end form names (terms d) c.args.text.now c.args.tokens.now c.args.end (state_of c.read_tokens.new.reader) refusal (models_have_words d) (ap (λ s. run_from (go s) a) (sym q) ∙ c.in_default.ensures.ok) c.in_default.ensures.allowed stops) c.finish.ensures.fault
