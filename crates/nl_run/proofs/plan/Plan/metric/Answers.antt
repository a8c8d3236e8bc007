-- A metric is there where its text and its tree are.
use Rattle.std.proofs.Common.{◌≡◌, ℕ, ◌+◌, ◌≤◌, ◌<◌, List, [], ◌∷◌, drop, length, get_or, ap, ◌∙◌, sym, subst, arith}
use Rattle.std.specs.Prelude.{MatchOption, Option, Some, slice_get}
use Rattle.std.proofs.lemmas.Option.{slice_get-get_or}
use Rattle.nl_fixed.specs.Nouns.{Bytes}
use Rattle.nl_tree.specs.Views.{plain}
use Rattle.nl_run.specs.Job.{lones}
use Rattle.nl_run.specs.Plans.{job_in, lone_seen}
use Rattle.nl_run.specs.declared.plan.LoneText.{LoneText}
use Rattle.nl_run.proofs.Metrics.{one_metric, past_texts, past_trees}
use Rattle.nl_run.proofs.plan.Plan.metric.Goals as goal

text_at : (lent texts : List Bytes) (i : ℕ) (text : Bytes) → lent ≡ texts → i < length lent → text ≡ get_or lent i text → slice_get texts i ≡ Some text
text_at lent texts i text same within is = subst (λ ts. slice_get ts i ≡ Some text) same (slice_get-get_or lent i text within ∙ ap Some (sym is))

pub returns-then-index-texts-clause-rest : goal.returns-then-index-texts-clause-rest
unfolding job_in
returns-then-index-texts-clause-rest c =
    let p = c.args.self.now in
    past_texts p.metrics.now p.trees.now c.args.index (subst (λ ts. length ts ≤ c.args.index) c.as_slice-texts.ensures c.if-index-texts.true)

pub returns-in_err-tree-clause-rest : goal.returns-in_err-tree-clause-rest
unfolding job_in
returns-in_err-tree-clause-rest c =
    let p = c.args.self.now in
    let metrics = lones p.metrics.now p.trees.now in
    let i = c.args.index in
    subst (λ (r : Option LoneText). MatchOption r (drop i metrics ≡ []) (λ metric. drop i metrics ≡ lone_seen metric ∷ drop (i + 1) metrics)) (sym c.from_residual.ensures)
    (past_trees p.metrics.now p.trees.now i c.in_err-tree.ensures.rest)

pub returns-clause-rest : goal.returns-clause-rest
unfolding job_in
returns-clause-rest c =
    let p = c.args.self.now in
    let i = c.args.index in
    let within : i < length c.as_slice-texts.result.now = omega (arith, c.if-index-texts.false) in
    one_metric p.metrics.now p.trees.now i c.index-texts-index.result (plain c.in_ok-tree.tree.now) (drop (i + 1) p.trees.now)
    (text_at c.as_slice-texts.result.now p.metrics.now i c.index-texts-index.result c.as_slice-texts.ensures within c.index-texts-index.is)
    c.in_ok-tree.ensures.rest
