use Rattle.std.proofs.Common.{IsSome, sym, subst, ap, ◌∙◌, refl, arith}
use Rattle.std.proofs.lemmas.Option.{same_Some}
use Rattle.nl_value.specs.Plain.{PlainNumber}
use Rattle.nl_agents.proofs.Naming.{whole_of}
use Rattle.nl_run.proofs.start.number_of.Goals as goal

pub unwrap-requires : goal.unwrap-requires
unwrap-requires c = subst IsSome (sym (whole_of c.args.number c.whole.result (omega (arith, c.requires)) c.whole.ensures)) refl

pub returns : goal.returns
returns c = ap PlainNumber (same_Some _ _ (sym c.unwrap.ensures ∙ whole_of c.args.number c.whole.result (omega (arith, c.requires)) c.whole.ensures))
