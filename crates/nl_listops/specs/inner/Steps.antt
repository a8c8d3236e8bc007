-- Answers before the limit on values is tested for all words.
use Rattle.std.specs.Prelude.{List}
use Rattle.nl_value.specs.Plain.{Plain}
use Rattle.nl_value.specs.Living.{Living}
use Rattle.nl_listops_series.specs.Outcomes.{ListOutcome, limited}
use Rattle.nl_listops.specs.declared.words.ValueWord.{ValueWord}
use Rattle.nl_listops.specs.declared.words.ValueWord.TheVariants as word
use Rattle.nl_listops.specs.Answers.{answer_of, of_many}

-- words of many values test the limit themselves, so that they need not make what passes it
abbrev pub within_or_not : Living → ValueWord → List Plain → ListOutcome Plain
within_or_not w (word.OfMany which) inputs = limited (of_many w which inputs)
within_or_not w which inputs = answer_of w which inputs
