use Rattle.nl_fixed.proofs.HeadingLemmas.{sines_fit, cosines_fit}
use Rattle.nl_fixed.proofs.headings.products_with_sines_fit.Goals as goal

pub returns-clause-sine : goal.returns-clause-sine
returns-clause-sine c = sines_fit

pub returns-clause-cosine : goal.returns-clause-cosine
returns-clause-cosine c = cosines_fit
