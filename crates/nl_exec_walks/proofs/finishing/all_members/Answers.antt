-- The members ascend and fit.
use Rattle.std.proofs.Common.{IsTrue, List, ℕ, ap, ◌∙◌, sym, subst}
use Rattle.std.specs.List.Sorted.{IsStrictlyIncreasing}
use Rattle.nl_value.specs.Plain.{Plain}
use Rattle.nl_agentset_query.specs.Agents.{listed_value}
use Rattle.nl_exec_meaning.specs.State.{gives}
use Rattle.nl_exec_meaning.specs.Walks.{members_kept}
use Rattle.nl_exec_meaning.specs.Ground.{fits}
use Rattle.nl_exec_walks.proofs.Fitting.{listed_fits}
use Rattle.nl_exec_walks.proofs.finishing.all_members.Goals as goal

pub listed_value-requires : goal.listed_value-requires
listed_value-requires c =
    subst (λ (ms : List ℕ). IsStrictlyIncreasing ms) (sym (c.in_ok-members.ensures ∙ ap members_kept c.as_slice.ensures)) c.requires

pub returns-clause-meaning : goal.returns-clause-meaning
returns-clause-meaning c = λ s.
    ap (λ (p : Plain). gives p s)
    (c.in_ok-listed_value.ensures ∙ ap (listed_value c.args.which) (c.in_ok-members.ensures ∙ ap members_kept c.as_slice.ensures))

pub returns-clause-fits : goal.returns-clause-fits
returns-clause-fits c = λ now fit.
    subst (λ (p : Plain). IsTrue (fits now p))
    (sym (c.in_ok-listed_value.ensures ∙ ap (listed_value c.args.which) (c.in_ok-members.ensures ∙ ap members_kept c.as_slice.ensures)))
    (listed_fits now c.args.which (members_kept c.args.made.now) fit)
