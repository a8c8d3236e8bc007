use Rattle.std.proofs.Common.{◌≡◌, ◌∙◌, ◌++◌, ◌∷◌, [], ◌≤◌, Some, sym, ap, arith}
use Rattle.nl_store_records.specs.Records.{record_at}
use Rattle.nl_store_records.specs.Filed.{next_of}
use Rattle.nl_store_records.specs.declared.fields.Fields.{Fields}
use Rattle.nl_index.specs.Index.{serial_in}
use Rattle.nl_store_files.proofs.Parts.{fields_in}
use Rattle.nl_store_files.proofs.Left.{left-none, left-done, left-some, left-next, left-as, left-first, left-reads, copied-some}
use Rattle.nl_store_files.proofs.walk.walk.Goals as goal

pub loop-passed-init : goal.loop-passed-init
loop-passed-init g c keys w = left-first c.args.chain (record_at c.args.records.now) c.args.first keys c.args.into.now.items c.args.steps.now w

pub returns-clause-serials : goal.returns-clause-serials
returns-clause-serials g c ks w s = left-done _ _ ks _ _ _ _ c.loop-passed.passed _ (let t : c.args.most ≤ c.loop-passed.passed = c.loop-passed-test.false in omega arith) (c.loop-passed.invariant ks w)

pub returns-clause-reads : goal.returns-clause-reads
returns-clause-reads g c ks w s = left-reads _ _ ks _ _ _ _ _ _ (c.loop-passed.invariant ks w)

pub returns-in_default-clause-serials : goal.returns-in_default-clause-serials
returns-in_default-clause-serials g c ks w s = left-none _ _ ks _ _ _ _ _ _ c.in_default.is (c.loop-passed.invariant ks w)

pub unwrap-record-requires : goal.unwrap-record-requires
unwrap-record-requires g c =
    let h = left-some _ _ c.requires.path.keys _ _ _ _ _ _ _ c.in-Some.is (c.loop-passed.invariant c.requires.path.keys c.requires.path.path) in
    copied-some c.read.result _ c.read.ensures.record h

pub loop-passed-preserved : goal.loop-passed-preserved
loop-passed-preserved g c ks w =
    let at = record_at c.args.records.now in
    let rec : at c.in-Some.key ≡ Some c.unwrap-record.result.now = sym (rw c.unwrap-record.ensures at c.read.ensures.record) in
    left-as c.args.chain at _ _ ks _ _ _ _ _ _ _ (ap (next_of c.args.chain) rec ∙ sym c.next-here.ensures)
    (ap (λ x. c.loop-passed.into.items ++ x ∷ []) (ap (λ r. serial_in (fields_in r)) rec ∙ sym (ap (λ (f : Fields). f.serial) c.fields.ensures)) ∙ sym c.in_ok-push.ensures.items)
    (sym c.read.ensures.reads)
    (left-next _ _ ks _ _ _ _ _ _ _ c.in-Some.is (c.loop-passed.invariant ks w))
