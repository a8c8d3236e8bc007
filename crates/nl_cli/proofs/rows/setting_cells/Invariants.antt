use Rattle.std.proofs.Common.{◌≡◌, ◌++◌, true, map, length}
use Rattle.std.specs.List.{list_all}
use Rattle.nl_experiment_sweep.specs.Varied.{plain_setting}
use Rattle.nl_cli.specs.Table.{setting_text}
use Rattle.nl_cli.specs.inner.Stages.{is_short}
use Rattle.nl_cli.proofs.rows.setting_cells.Given as goal

-- the cells so far, and those of the settings that are left, which are short
abbrev pub invariant-settings : goal.invariant-settings
invariant-settings l =
    (l.cells ++ map setting_text (map plain_setting l.left) ≡ map setting_text (map plain_setting l.fn.settings))
    × (list_all is_short (map plain_setting l.left) ≡ true)

abbrev pub decreases-settings : goal.decreases-settings
decreases-settings l = length l.left
