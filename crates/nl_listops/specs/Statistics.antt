-- Which statistic a word is.
use Rattle.std.specs.Prelude.{ℤ, List}
use Rattle.nl_listops_series.specs.Outcomes.{ListOutcome}
use Rattle.nl_listops_series.specs.Statistics.{total_of, least_of, greatest_of, mean_of, median_of, variance_of, deviation_of}
use Rattle.nl_listops.specs.declared.words.Statistic.{Statistic}
use Rattle.nl_listops.specs.declared.words.Statistic.TheVariants.{Sum, Min, Max, Mean, Median, Variance, StandardDeviation}

abbrev pub statistic_of : Statistic → List ℤ → ListOutcome ℤ
statistic_of Sum ns = total_of ns
statistic_of Min ns = least_of ns
statistic_of Max ns = greatest_of ns
statistic_of Mean ns = mean_of ns
statistic_of Median ns = median_of ns
statistic_of Variance ns = variance_of ns
statistic_of StandardDeviation ns = deviation_of ns
