use Rattle.std.proofs.Common.{◌≡◌, ◌≤◌, length, map, take}
use Rattle.nl_value.specs.Limits.{most_bytes}
use Rattle.nl_value.specs.Views.{plain}
use Rattle.nl_listops_series.specs.Texts.{word_of}
use Rattle.nl_listops_series.proofs.texts.word.Given as goal

abbrev pub invariant-loop-value : goal.invariant-loop-value
invariant-loop-value g l = record {
  so_far : l.whole ≡ word_of (g.L.Life.living l.life) (map plain (take l.value-index l.values));
  within : length l.whole ≤ most_bytes;
}
