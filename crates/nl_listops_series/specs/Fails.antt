-- Faults of numbers as errors of words.
use Rattle.nl_fixed.specs.declared.number.NumFault.{NumFault}
use Rattle.nl_fixed.specs.declared.number.NumFault.TheVariants as number
use Rattle.nl_listops_series.specs.declared.fail.ListFail.{ListFail}
use Rattle.nl_listops_series.specs.declared.fail.ListFail.TheVariants.{Overflow, ZeroDivide, Domain}

abbrev pub fail_of : NumFault → ListFail
fail_of number.Overflow = Overflow
fail_of number.ZeroDivide = ZeroDivide
fail_of number.Domain = Domain
