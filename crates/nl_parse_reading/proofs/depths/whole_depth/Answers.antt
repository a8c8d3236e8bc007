use Rattle.std.proofs.Common.{arith, ◌∙◌, ◌-◌, sym}
use Rattle.nl_parse_reading.proofs.Capped.{at_bottom, one_frame_less}
use Rattle.nl_parse_reading.proofs.depths.whole_depth.Goals as goal

pub frames-preserved : goal.frames-preserved
frames-preserved c =
    let f = c.frames in
    record {
      within = omega (arith, f.invariant.within);
      same = λ e. one_frame_less c.args.frames.now f.left (f.left - 1) c.index-frames-left.result f.literal c.stays_literal-literal.result f.depth c.frame_depth-depth.result e (omega (arith, c.frames-test.true)) (omega (arith, c.frames-test.true, f.invariant.within)) c.index-frames-left.is c.frame_depth-depth.ensures c.stays_literal-literal.ensures ∙ f.invariant.same e;
    }

pub returns : goal.returns
returns c = λ e. c.min.ensures ∙ sym (at_bottom c.args.frames.now c.frames.left c.frames.literal c.frames.depth e (omega (arith, c.frames-test.false))) ∙ c.frames.invariant.same e
