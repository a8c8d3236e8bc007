use Rattle.std.proofs.Common.{ap, refl}
use Rattle.nl_store_records.specs.declared.fields.Fields.{Fields}
use Rattle.trial_index.proofs.Keeping.{filing-more, filing-same, fits-put, may-add}
use Rattle.trial_index.proofs.filing.Filing.bear.Goals as goal

pub invariant_of-self : goal.invariant_of-self
invariant_of-self c = filing-same _ _ _ _ _ _ c.in_default.ensures.kept c.self.invariant

pub add-requires-clause-fits : goal.add-requires-clause-fits
add-requires-clause-fits c = fits-put _ _ _ _ _ _ c.new.result _ c.self.invariant.sized c.in-Ok.ensures.put c.new.ensures.fields (c.if-not-may_stand.ensures.stands refl) (c.if-not-may_stand.ensures.breed refl)

pub add-requires-clause-away : goal.add-requires-clause-away
add-requires-clause-away c = may-add _ _ _ _ _ _ _ c.new.result c.self.invariant c.in-Ok.ensures.vacant c.in-Ok.ensures.put (ap (λ (f : Fields). f.serial) c.new.ensures.fields)

pub invariant_of-self-2 : goal.invariant_of-self-2
invariant_of-self-2 c = filing-more _ _ _ _ _ _ _ _ _ c.new.result c.self.invariant c.in-Ok.ensures.vacant c.in-Ok.ensures.put (ap (λ (f : Fields). f.serial) c.new.ensures.fields) c.add.ensures.added c.add.ensures.others c.add.ensures.size
