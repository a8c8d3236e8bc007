use Rattle.nl_fixed.proofs.SpellingLawProofs.{texts_read_back, texts_differ}
use Rattle.nl_fixed.proofs.spelling_laws.texts_read_back.Goals as goal

pub returns-clause-same : goal.returns-clause-same
returns-clause-same c = texts_read_back

pub returns-clause-apart : goal.returns-clause-apart
returns-clause-apart c = texts_differ
