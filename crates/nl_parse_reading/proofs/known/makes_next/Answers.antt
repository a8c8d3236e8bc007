use Rattle.std.proofs.Common.{◌≡◌, ◌∙◌, ◌-◌, ap, sym, length, take, [], arith, true, false}
use Rattle.std.proofs.lemmas.List.{take_all}
use Rattle.nl_tree.specs.Vocabulary.{among}
use Rattle.nl_tree.specs.Grammar.{top}
use Rattle.nl_parse_grammar.specs.Machine.{settle}
use Rattle.nl_parse_grammar.specs.Fault.{known_got}
use Rattle.nl_parse_reading.specs.inner.Reading.{frames_onto, names_onto}
use Rattle.nl_parse_reading.proofs.Pending.{none_left, one_less_left, open_left}
use Rattle.nl_parse_reading.proofs.known.makes_next.Goals as goal

pub frames-init : goal.frames-init
frames-init c =
    let fs = c.args.frames.now in
    record {
      within = omega arith;
      same = λ e x t. (x, t, ap (λ gs. settle top x t (frames_onto gs e [])) (sym (take_all (length fs) fs (omega arith))));
    }

pub returns-then-not-closes : goal.returns-then-not-closes
returns-then-not-closes c = λ e known x t.
    let fs = c.args.frames.now in
    let k = c.frames.left - 1 in
    let shut : c.closes.result ≡ false = grind (arith, c.if-not-closes.true) in
    let (y, u, q) = open_left fs c.frames.left k c.index-frames-left.result (omega (arith, c.frames-test.true)) (omega (arith, c.frames-test.true, c.frames.invariant.within)) c.index-frames-left.is (λ g. sym shut ∙ c.closes.ensures g) c.frames.invariant.same e x t in
    ap (λ s. among c.args.name.now (known_got known s)) q ∙ c.lets.ensures (names_onto (take k fs) e) known (frames_onto (take k fs) e []) y u

pub frames-preserved : goal.frames-preserved
frames-preserved c =
    let fs = c.args.frames.now in
    let closed : c.closes.result ≡ true = grind (arith, c.if-not-closes.false) in
    record {
      within = omega (arith, c.frames.invariant.within);
      same = one_less_left fs c.frames.left (c.frames.left - 1) c.index-frames-left.result (omega (arith, c.frames-test.true)) (omega (arith, c.frames-test.true, c.frames.invariant.within)) c.index-frames-left.is (λ g. sym closed ∙ c.closes.ensures g) c.frames.invariant.same;
    }

pub returns : goal.returns
returns c = λ e known x t. none_left c.args.name.now c.args.frames.now c.frames.left known e x t (omega (arith, c.frames-test.false)) (c.frames.invariant.same e x t)
