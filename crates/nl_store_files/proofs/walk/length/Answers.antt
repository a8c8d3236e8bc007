use Rattle.std.proofs.Common.{◌≡◌, ◌∙◌, ◌≤◌, ◌∷◌, ◌++◌, [], Some, refl, sym, ap, arith}
use Rattle.nl_store_records.specs.Records.{record_at}
use Rattle.nl_store_records.specs.Filed.{next_of}
use Rattle.nl_index.specs.Index.{serial_at}
use Rattle.nl_store_files.proofs.Left.{left-all, left-far, left-some, left-next, left-as, left-first, left-reads, copied-some}
use Rattle.nl_store_files.proofs.walk.length.Goals as goal

pub loop-passed-init : goal.loop-passed-init
loop-passed-init g c keys w = ([], left-first c.args.chain (record_at c.args.records.now) c.args.first keys [] c.args.steps.now w)

pub returns-clause-many : goal.returns-clause-many
returns-clause-many g c ks w s =
    let (now, left) = c.loop-passed.invariant ks w in
    let far = left-far _ _ ks _ _ _ _ _ _ left in
    let t : c.args.most ≤ c.loop-passed.passed = c.loop-passed-test.false in
    omega (arith, far, t, s)

pub returns-clause-reads : goal.returns-clause-reads
returns-clause-reads g c ks w s = let (now, left) = c.loop-passed.invariant ks w in left-reads _ _ ks _ _ _ _ _ _ left

pub returns-in_default-clause-many : goal.returns-in_default-clause-many
returns-in_default-clause-many g c ks w s = let (now, left) = c.loop-passed.invariant ks w in left-all _ _ ks _ _ _ _ _ _ c.in_default.is left

pub returns-in_default-clause-reads : goal.returns-in_default-clause-reads
returns-in_default-clause-reads g c ks w s = let (now, left) = c.loop-passed.invariant ks w in left-reads _ _ ks _ _ _ _ _ _ left

pub unwrap-requires : goal.unwrap-requires
unwrap-requires g c =
    let (now, left) = c.loop-passed.invariant c.requires.path.keys c.requires.path.path in
    copied-some c.read.result _ c.read.ensures.record (left-some _ _ c.requires.path.keys _ _ _ _ _ _ _ c.in-Some.is left)

pub loop-passed-preserved : goal.loop-passed-preserved
loop-passed-preserved g c ks w =
    let at = record_at c.args.records.now in
    let (now, left) = c.loop-passed.invariant ks w in
    let rec : at c.in-Some.key ≡ Some c.unwrap.result.now = sym (rw c.unwrap.ensures at c.read.ensures.record) in (
      now ++ serial_at at c.in-Some.key ∷ [],
      left-as c.args.chain at _ _ ks _ _ _ _ _ _ _ (ap (next_of c.args.chain) rec ∙ sym c.next-here.ensures) refl (sym c.read.ensures.reads)
          (left-next _ _ ks _ _ _ _ _ _ _ c.in-Some.is left),
    )
