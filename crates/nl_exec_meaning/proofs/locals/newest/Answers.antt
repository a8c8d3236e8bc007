-- The place before is that of a local of the name, or none of it is behind.
use Rattle.std.proofs.Common.{◌==◌, ◌-◌, take, Some, cond, sym, ap, ◌∙◌, arith}
use Rattle.std.proofs.lemmas.Bool.{eq-eqb}
use Rattle.nl_exec_meaning.specs.Variables.{last_index}
use Rattle.nl_exec_meaning.specs.declared.locals.Local.{Local}
use Rattle.nl_exec_meaning.proofs.Newest.{newest_more, not_same}
use Rattle.nl_exec_meaning.proofs.locals.newest.Goals as goal

pub returns-then-locals-left : goal.returns-then-locals-left
returns-then-locals-left c =
    let ls = c.args.locals.now in
    let test = λ (l : Local). l.id == c.args.id in
    sym (ap (λ b. cond b (Some (c.places.left - 1)) (last_index test (take (c.places.left - 1) ls))) (eq-eqb _ c.args.id c.if-locals-left.true))
    ∙ sym (newest_more test ls c.places.left _ c.places-test.true c.places.invariant.within) ∙ c.places.invariant.none

pub places-preserved : goal.places-preserved
places-preserved c = record {
  within = (let w = c.places.invariant.within in omega (arith, w));
  none =
      let ls = c.args.locals.now in
      let test = λ (l : Local). l.id == c.args.id in
      sym (ap (λ b. cond b (Some (c.places.left - 1)) (last_index test (take (c.places.left - 1) ls))) (not_same _ c.args.id c.if-locals-left.false))
      ∙ sym (newest_more test ls c.places.left _ c.places-test.true c.places.invariant.within) ∙ c.places.invariant.none;
}
