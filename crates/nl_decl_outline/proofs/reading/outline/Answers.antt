use Rattle.std.proofs.Common.{◌≡◌, ◌≤◌, ◌<◌, ◌+◌, List, Some, length, arith, ap, sym, subst, refl, ◌∙◌}
use Rattle.std.specs.Prelude.{IfSome}
use Rattle.nl_scan.specs.declared.token.Token.{Token}
use Rattle.nl_decl_outline.specs.declared.mode.Mode.{Mode}
use Rattle.nl_decl_outline.specs.Declarations.{IsBadPlace}
use Rattle.nl_decl_outline.specs.inner.Reading.{State, in_mode, run, start}
use Rattle.nl_scan.specs.Texts.{LiesIn}
use Rattle.nl_decl_outline.specs.Outline.{IsRefused}
use Rattle.nl_decl_outline.specs.inner.Steps.{counted}
use Rattle.nl_parse_grammar.specs.Texts.{lexemes_of}
use Rattle.nl_decl_outline.proofs.Places.{lies_in, read_more, read_all, lexemes-length}
use Rattle.nl_decl_outline.proofs.Begins.{bad_token, bad_end}
use Rattle.nl_decl_outline.proofs.Heard.{sound}
use Rattle.nl_decl_outline.proofs.reading.outline.Goals as goal

-- src/reading.rt:359:15
pub feed-requires-clause-ready : goal.feed-requires-clause-ready
feed-requires-clause-ready c = record {
  kept = c.loop-index.invariant.kept;
  inside = subst (λ t. LiesIn c.args.text.now t.span) (sym c.index-tokens-index.is)
      (lies_in c.args.text.now c.args.tokens.now c.loop-index.index c.index-tokens-index.result c.requires c.loop-index-test.true);
}

-- src/reading.rt:361:21
pub returns-in-None-clause-bad : goal.returns-in-None-clause-bad
returns-in-None-clause-bad c =
    let ls = lexemes_of c.args.text.now c.args.tokens.now in
    let none = read_more c.args.text.now c.args.tokens.now c.loop-index.index c.index-tokens-index.result c.loop-index.mode c.loop-index.reader.done.items c.feed.new.self.done.items _
    c.loop-index-test.true c.index-tokens-index.is c.loop-index.invariant.taken c.in_ok-next.ensures.follows ∙ ap (in_mode c.feed.new.self.done.items) c.in-None.is in
    let below : c.loop-index.index < length ls = omega (arith, c.loop-index-test.true, lexemes-length c.args.text.now c.args.tokens.now) in
    bad_token ls c.loop-index.index _ below c.loop-index.invariant.taken none

-- src/reading.rt:358:5
pub loop-index-preserved : goal.loop-index-preserved
loop-index-preserved c =
    let counts = subst (λ next. IfSome next (λ after. counted after ≤ counted c.loop-index.mode + 1)) c.in-Some.is c.in_ok-next.ensures.counts in
    record {
      kept = c.in_ok-next.ensures.kept;
      counts = omega (arith, counts, c.loop-index.invariant.counts);
      taken = read_more c.args.text.now c.args.tokens.now c.loop-index.index c.index-tokens-index.result c.loop-index.mode c.loop-index.reader.done.items c.feed.new.self.done.items _
          c.loop-index-test.true c.index-tokens-index.is c.loop-index.invariant.taken c.in_ok-next.ensures.follows ∙ ap (in_mode c.feed.new.self.done.items) c.in-Some.is;
    }

-- src/reading.rt:347:1
pub returns-in-Between-clause-ok : goal.returns-in-Between-clause-ok
returns-in-Between-clause-ok c =
    let taken = read_all c.args.text.now c.args.tokens.now c.loop-index.index _ c.loop-index-test.false c.loop-index.invariant.taken in
    sound (lexemes_of c.args.text.now c.args.tokens.now) c.loop-index.reader.done.items
    (taken ∙ ap (λ (m : Mode). Some (record { mode = m; done = c.loop-index.reader.done.items })) c.in-Between.is)

-- src/reading.rt:347:1
pub returns-in_default : goal.returns-in_default
returns-in_default c =
    let ls = lexemes_of c.args.text.now c.args.tokens.now in
    let taken = read_all c.args.text.now c.args.tokens.now c.loop-index.index _ c.loop-index-test.false c.loop-index.invariant.taken in
    record {
      ok = tt;
      bad = subst (IsBadPlace ls) (lexemes-length c.args.text.now c.args.tokens.now) (bad_end ls _ taken c.in_default.not-Between);
      none = λ empty.
          let first : Some start ≡ Some (record { mode = c.loop-index.mode; done = c.loop-index.reader.done.items }) =
          subst (λ (ts : List Token). run (lexemes_of c.args.text.now ts) ≡ Some (record { mode = c.loop-index.mode; done = c.loop-index.reader.done.items })) empty taken in
          let same : start ≡ record { mode = c.loop-index.mode; done = c.loop-index.reader.done.items } = cc first in
          absurd (c.in_default.not-Between (sym (ap (λ (s : State). s.mode) same)));
    }
