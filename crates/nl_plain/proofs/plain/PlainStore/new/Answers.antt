use Rattle.std.specs.Prelude.{ℕ}
use Rattle.std.proofs.Common.{ap, subst, sym, ◌∙◌}
use Rattle.nl_agents.specs.Standing.{IsWorld}
use Rattle.std.specs.Prelude.{replicate}
use Rattle.nl_agents.specs.World.{first_patch_vars}
use Rattle.nl_agents.proofs.Worlds.{first_is_world}
use Rattle.nl_plain.proofs.Holds.{made_first}
use Rattle.nl_plain.proofs.plain.PlainStore.new.Goals as goal

pub invariant_of-result : goal.invariant_of-result
invariant_of-result c =
    record {
      stands = subst IsWorld
          (sym (made_first c.args.shape c.in_ok-layout.layout c.in_ok-globals.globals c.in_ok-run.run' c.new.result.items c.in_ok-patches.patches.items c.empty.result
          c.in_ok-globals.ensures c.in_ok-run.ensures c.new.ensures.items (c.in_ok-patches.ensures ∙ ap (λ (n : ℕ). replicate n (first_patch_vars c.in_ok-layout.layout)) c.patches.ensures.count) c.empty.ensures))
          (first_is_world c.in_ok-layout.layout c.args.shape c.patches.ensures.limits);
    }
