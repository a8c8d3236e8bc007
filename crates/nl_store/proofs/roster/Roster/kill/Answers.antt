use Rattle.std.specs.Prelude.{◌≡◌, false}
use Rattle.std.specs.List.{list_any}
use Rattle.std.proofs.Common.{subst, sym}
use Rattle.nl_agents.specs.Changes.{has_end}
use Rattle.nl_store_files.specs.Agents.{Agents}
use Rattle.nl_store.proofs.Lists.{none-left}
use Rattle.nl_store.proofs.roster.Roster.kill.Goals as goal

pub remove-requires-clause-free : goal.remove-requires-clause-free
remove-requires-clause-free c =
    subst (λ (a : Agents). list_any (has_end c.args.turtle) a.links ≡ false) (sym c.cut_all_of.ensures) (none-left (has_end c.args.turtle) c.args.self.now.links)
