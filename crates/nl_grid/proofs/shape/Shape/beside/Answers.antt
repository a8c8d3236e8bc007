use Rattle.std.proofs.Common.{◌≡◌}
use Rattle.std.proofs.lemmas.Result.{err_from_is_err_and}
use Rattle.nl_fixed.specs.Numbers.{sum_of}
use Rattle.nl_grid.proofs.AheadLemmas.{beside-first_fault, beside-second_fault, beside-is, sum_overflows}
use Rattle.nl_grid.proofs.shape.Shape.beside.Goals as goal

pub returns-in_err-x-clause-value : goal.returns-in_err-x-clause-value
returns-in_err-x-clause-value c =
    let sum : c.add.result ≡ sum_of c.args.at.x c.args.dx = assumption in
    let p = err_from_is_err_and c.from_residual.result c.from_residual.ensures.1 in
    rw (p.1, p.2) (beside-first_fault c.args.self.now c.args.at c.args.dx c.args.dy c.add.result _ sum c.in_err-x.was)

pub returns-in_err-x-clause-overflow : goal.returns-in_err-x-clause-overflow
returns-in_err-x-clause-overflow c =
    let sum : c.add.result ≡ sum_of c.args.at.x c.args.dx = assumption in
    let p = err_from_is_err_and c.from_residual.result c.from_residual.ensures.1 in
    rw (p.1, p.2) (sum_overflows c.args.at.x c.args.dx c.add.result _ sum c.in_err-x.was)

pub returns-in_err-y-clause-value : goal.returns-in_err-y-clause-value
returns-in_err-y-clause-value c =
    let first : c.add.result ≡ sum_of c.args.at.x c.args.dx = assumption in
    let second : c.add-2.result ≡ sum_of c.args.at.y c.args.dy = assumption in
    let p = err_from_is_err_and c.from_residual-in_err-y.result c.from_residual-in_err-y.ensures.1 in
    rw (p.1, p.2) (beside-second_fault c.args.self.now c.args.at c.args.dx c.args.dy c.in_ok-x.x c.add.result c.add-2.result _ first
    c.in_ok-x.was second c.in_err-y.was)

pub returns-in_err-y-clause-overflow : goal.returns-in_err-y-clause-overflow
returns-in_err-y-clause-overflow c =
    let second : c.add-2.result ≡ sum_of c.args.at.y c.args.dy = assumption in
    let p = err_from_is_err_and c.from_residual-in_err-y.result c.from_residual-in_err-y.ensures.1 in
    rw (p.1, p.2) (sum_overflows c.args.at.y c.args.dy c.add-2.result _ second c.in_err-y.was)

pub returns-clause-value : goal.returns-clause-value
returns-clause-value c =
    let first : c.add.result ≡ sum_of c.args.at.x c.args.dx = assumption in
    let second : c.add-2.result ≡ sum_of c.args.at.y c.args.dy = assumption in
    beside-is c.args.self.now c.args.at c.args.dx c.args.dy c.in_ok-x.x c.in_ok-y.y c.add.result c.add-2.result
    c.wrap.result first c.in_ok-x.was second c.in_ok-y.was c.wrap.ensures.value
