-- What the text leaves of its units was there when it began.
use Rattle.std.proofs.Common.{◌≡◌, ℕ, ◌+◌, ◌-◌, ◌≤◌, OnOk, Result, Ok, Err, ap, arith}
use Rattle.nl_tree.specs.Views.{plain}
use Rattle.nl_exec_meaning.specs.LoneTexts.{first_state}
use Rattle.nl_exec.specs.Machines.{program_of, rest_of, scene_of, spent_of}
use Rattle.nl_exec_meaning.specs.Meaning.{text as meaning}
use Rattle.nl_run.proofs.Thrift.{text_thrifty}
use Rattle.nl_run.proofs.progress.Progress.open.Goals as goal

on_ok : {X E P Q : Type 0} (r : Result X E) → OnOk r P → (P → Q) → OnOk r Q
on_ok (Ok x) p next = next p
on_ok (Err e) p next = tt

fewer : (units left spare n : ℕ) → units ≡ left → left ≤ n → units ≤ spare + n
fewer units left spare n same few = omega (arith, same, few)

pub returns-clause-gives : goal.returns-clause-gives
returns-clause-gives g c =
    let m = c.args.self.now.machine in
    on_ok c.begin.result c.begin.ensures.rest (λ rest n.
    fewer (rest_of c.begin.new.self n).state.units
    (meaning (program_of m) c.args.form (plain c.args.text.tree.now) (first_state (scene_of m) n)).state.units
    (spent_of c.begin.new.self - c.args.self.now.begun) n
    (ap (λ o. o.state.units) (rest n))
    (text_thrifty (program_of m) c.args.form (plain c.args.text.tree.now) (first_state (scene_of m) n)))
