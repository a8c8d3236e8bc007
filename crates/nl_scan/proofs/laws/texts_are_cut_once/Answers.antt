use Rattle.nl_scan.proofs.CutLaws.{texts_are_cut_once, stretches_join}
use Rattle.nl_scan.proofs.laws.texts_are_cut_once.Goals as goal

pub returns-clause-once : goal.returns-clause-once
returns-clause-once c = texts_are_cut_once

pub returns-clause-joined : goal.returns-clause-joined
returns-clause-joined c = stretches_join
