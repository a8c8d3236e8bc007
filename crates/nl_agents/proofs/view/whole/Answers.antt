use Rattle.std.proofs.Common.{IsSome, sym, subst, ◌∙◌, refl}
use Rattle.std.proofs.lemmas.Option.{same_Some}
use Rattle.nl_agents.proofs.Naming.{whole_of}
use Rattle.nl_agents.proofs.view.whole.Goals as goal

pub unwrap-requires : goal.unwrap-requires
unwrap-requires c = subst IsSome (sym (whole_of c.args.n c.whole.result c.requires c.whole.ensures)) refl

pub returns : goal.returns
returns c = same_Some _ _ (sym c.unwrap.ensures ∙ whole_of c.args.n c.whole.result c.requires c.whole.ensures)
