use Rattle.std.proofs.Common.{ap, sym, ◌∙◌, drop}
use Rattle.std.specs.Prelude.{slice_get}
use Rattle.nl_table.proofs.Cuts.{first_end_from, found_here, found_nowhere}
use Rattle.nl_table.proofs.pieces.piece_end.Goals as goal

pub returns-then-byte-eq10 : goal.returns-then-byte-eq10
returns-then-byte-eq10 c =
    sym
    (first_end_from c.args.from (drop c.args.from c.args.rest.now)
    ∙ ap (λ l. slice_get l 0) c.loop-place.invariant
    ∙ found_here c.loop-place.outside c.loop-place.place c.args.rest.now c.loop-place-test.true c.if-outside.true c.if-byte-eq10.true)

pub returns : goal.returns
returns c =
    sym
    (first_end_from c.args.from (drop c.args.from c.args.rest.now)
    ∙ ap (λ l. slice_get l 0) c.loop-place.invariant
    ∙ found_nowhere c.loop-place.outside c.loop-place.place c.args.rest.now c.loop-place-test.false)
