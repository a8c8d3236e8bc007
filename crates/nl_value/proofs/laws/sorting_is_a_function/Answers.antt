use Rattle.nl_value.proofs.StableSorts.{sorted_by-sorted, sorted_by-stable, sorted_by-length, sorted_is}
use Rattle.nl_value.proofs.laws.sorting_is_a_function.Goals as goal

pub returns : goal.returns
returns g c lt o = record {
  sorted = sorted_by-sorted lt o;
  stable = sorted_by-stable lt o;
  long = sorted_by-length lt;
  only = sorted_is lt o;
}
