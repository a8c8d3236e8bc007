use Rattle.std.proofs.Common.{sym, subst}
use Rattle.nl_agents_layout.specs.declared.layout.Layout.{Layout}
use Rattle.nl_exec_meaning.specs.Sound.{IsSound}
use Rattle.nl_exec_meaning.proofs.Soundness.{sound}
use Rattle.nl_exec_meaning.proofs.sound.program_is_sound.Goals as goal

pub returns : goal.returns
returns c = subst (λ (layout : Layout). IsSound c.args.program.now layout) (sym c.requires) (sound c.args.program.now c.declared-declared.ensures.checked)
