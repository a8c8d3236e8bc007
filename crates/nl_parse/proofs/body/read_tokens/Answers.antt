use Rattle.std.proofs.Common.{◌∙◌, ap, sym, subst}
use Rattle.nl_scan.specs.Tokens.{IsTokenOf}
use Rattle.nl_tree.specs.Vocabulary.{terms}
use Rattle.nl_parse_grammar.specs.Machine.{go, feed}
use Rattle.nl_parse.specs.inner.Stops.{StopsAt}
use Rattle.nl_parse_stack.specs.inner.State.{state_of}
use Rattle.nl_parse.proofs.Run.{run_next, stops_in}
use Rattle.nl_parse.proofs.body.read_tokens.Goals as goal

pub mark_at-requires-clause-token : goal.mark_at-requires-clause-token
mark_at-requires-clause-token c = subst (IsTokenOf c.args.text.now) (sym c.index-tokens-place.is) (c.requires.tokens c.loop-place.place c.index-tokens-place.result c.loop-place-test.true)

pub returns-in-Err-clause-fault : goal.returns-in-Err-clause-fault
returns-in-Err-clause-fault c =
    let z = state_of c.loop-place.reader in
    stops_in (terms c.args.declared.now) c.args.text.now (state_of c.args.reader.now) c.args.tokens.now c.loop-place.place c.index-tokens-place.result z c.in-Err.refusal c.loop-place-test.true c.index-tokens-place.is c.loop-place.invariant.so_far c.loop-place.invariant.allowed (subst (λ tok. StopsAt z tok c.loop-place.place c.in-Err.refusal) c.in_ok-mark.ensures c.in-Err.ensures.fault)

pub loop-place-preserved : goal.loop-place-preserved
loop-place-preserved c =
    let z = state_of c.loop-place.reader in
    record {
      so_far = run_next (terms c.args.declared.now) c.args.text.now (go (state_of c.args.reader.now)) c.args.tokens.now c.loop-place.place c.index-tokens-place.result z c.loop-place-test.true c.index-tokens-place.is c.loop-place.invariant.so_far ∙ ap (feed z) (sym c.in_ok-mark.ensures) ∙ c.in_default.ensures.ok;
      allowed = c.in_default.ensures.allowed;
    }
