use Rattle.std.proofs.Common.{[]}
use Rattle.nl_tree.specs.Views.{plain}
use Rattle.nl_tree.specs.Vocabulary.{terms}
use Rattle.nl_check.proofs.SampleModel.{empty_fits}
use Rattle.nl_check.proofs.tests.empty_text_is_right.Goals as goal

pub check_text-requires : goal.check_text-requires
check_text-requires c = empty_fits [] (terms c.args.program.now.declared) (plain c.empty-lone.result) c.empty-lone.ensures
