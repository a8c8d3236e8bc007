use Rattle.std.proofs.Common.{◌∙◌, ap, subst, sym}
use Rattle.nl_agents_layout.specs.Layouts.{breeds_count}
use Rattle.nl_agents.specs.Standing.{IsWorld}
use Rattle.nl_agents.proofs.Worlds.{first_is_world}
use Rattle.nl_store_files.specs.Agents.{Agents}
use Rattle.nl_store.proofs.Holds.{made-first}
use Rattle.nl_store.proofs.indexed.IndexedStore.new.Goals as goal

pub invariant_of-result : goal.invariant_of-result
invariant_of-result c =
    let g = c.in_ok-land.land in
    let a = c.in_ok-roster.roster in
    record {
      stands = subst IsWorld (sym (made-first c.args.layout.now c.args.shape c.in-Ok.breeds g a c.in_ok-land.ensures c.in_ok-roster.ensures)) (first_is_world c.args.layout.now c.args.shape c.keeps_to_limits.ensures);
      fits = record {
        shape_is = ap (λ (x : Agents). x.shape) c.in_ok-roster.ensures ∙ sym c.in_ok-land.ensures.shape_is;
        breeds_are = ap (λ (x : Agents). x.breeds) c.in_ok-roster.ensures ∙ c.in-Ok.ensures.1 ∙ c.breeds_count.ensures ∙ ap breeds_count (sym c.in_ok-land.ensures.layout_is);
      };
    }
