-- Texts one after another.
use Rattle.std.proofs.Common.{◌≡◌, inl, inr, ℕ, ◌+◌, List, [], ◌∷◌, ◌++◌, length, Result, Ok, Err, append_assoc, subst, sym, arith}
use Rattle.std.specs.Prelude.{IfErr, IsErrAnd}
use Rattle.std.proofs.lemmas.List.{append-nil}
use Rattle.nl_fixed.specs.Nouns.{Bytes, Texts}
use Rattle.nl_tree.specs.Checked.{Checked}
use Rattle.nl_tree.specs.Tree.{Node}
use Rattle.nl_tree.specs.declared.declared.Form.TheVariants as form
use Rattle.nl_experiment_fields.specs.Keys.{go_key, setup_key}
use Rattle.nl_experiment_fields.specs.declared.fields.Fields.{Fields}
use Rattle.nl_experiment.specs.Texts.{AreTreesFor, IsFirstBad, IsTreeFor, LoneText, RefusesTexts, lone, metric, metrics_from, texts_of, until_texts, when_texts}
use Rattle.nl_experiment.specs.declared.faults.PlanFault.{PlanFault}
use Rattle.nl_experiment.specs.declared.faults.PlanRefusal.{PlanRefusal}

-- the trees of texts, and then those of others
pub trees_append : (p : Checked) (ts us : List LoneText) (xs ys : List Node) → AreTreesFor p ts xs → AreTreesFor p us ys → AreTreesFor p (ts ++ us) (xs ++ ys)
trees_append p [] us [] ys first others = others
trees_append p [] us (x ∷ xs) ys first others = absurd first
trees_append p (t ∷ ts) us [] ys first others = absurd first
trees_append p (t ∷ ts) us (x ∷ xs) ys first others = (first.0, trees_append p ts us xs ys first.1 others)

-- the first fault of texts is that of more of them
bad_first : (p : Checked) (ts us : List LoneText) (fault : PlanFault) → IsFirstBad p ts fault → IsFirstBad p (ts ++ us) fault
bad_first p [] us fault bad = absurd bad
bad_first p (t ∷ ts) us fault (inl here) = inl here
bad_first p (t ∷ ts) us fault (inr later) = inr (later.0, bad_first p ts us fault later.1)

pub refused_first : (p : Checked) (ts us : List LoneText) (refusal : PlanRefusal) → RefusesTexts p ts refusal → RefusesTexts p (ts ++ us) refusal
refused_first p ts us (PlanRefusal.Fault fault) bad = bad_first p ts us fault bad
refused_first p ts us PlanRefusal.NoMemory bad = tt

-- and behind texts that have trees
bad_later : (p : Checked) (ts us : List LoneText) (xs : List Node) (fault : PlanFault) → AreTreesFor p ts xs → IsFirstBad p us fault → IsFirstBad p (ts ++ us) fault
bad_later p [] us [] fault trees bad = bad
bad_later p [] us (x ∷ xs) fault trees bad = absurd trees
bad_later p (t ∷ ts) us [] fault trees bad = absurd trees
bad_later p (t ∷ ts) us (x ∷ xs) fault trees bad = inr ((x, trees.0.right), bad_later p ts us xs fault trees.1 bad)

pub refused_later : (p : Checked) (ts us : List LoneText) (xs : List Node) (refusal : PlanRefusal) → AreTreesFor p ts xs → RefusesTexts p us refusal
    → RefusesTexts p (ts ++ us) refusal
refused_later p ts us xs (PlanRefusal.Fault fault) trees bad = bad_later p ts us xs fault trees bad
refused_later p ts us xs PlanRefusal.NoMemory trees bad = tt

-- Of the metrics that are left: their trees stand behind those so far, and their first fault is that of all.
pub record AreLeft (p : Checked) (number : ℕ) (left : Texts) (so_far : List Node) (all : List LoneText) : Type 0 where
  pub trees : (more : List Node) → AreTreesFor p (metrics_from number left) more → AreTreesFor p all (so_far ++ more)
  pub refused : (refusal : PlanRefusal) → RefusesTexts p (metrics_from number left) refusal → RefusesTexts p all refusal

pub left_first : (p : Checked) (metrics : Texts) (so_far : List Node) → so_far ≡ [] → AreLeft p 1 metrics so_far (metrics_from 1 metrics)
left_first p metrics so_far none = record {
  trees = λ more trees. subst (λ xs. AreTreesFor p (metrics_from 1 metrics) (xs ++ more)) (sym none) trees;
  refused = λ refusal bad. bad;
}

pub left_more : (p : Checked) (number : ℕ) (left rest : Texts) (text : Bytes) (so_far so_far' : List Node) (tree : Node) (all : List LoneText)
    → left ≡ text ∷ rest → IsTreeFor p (metric number text) tree → so_far' ≡ so_far ++ tree ∷ [] → AreLeft p number left so_far all → AreLeft p (number + 1) rest so_far' all
left_more p number left rest text so_far so_far' tree all first right pushed are =
    let are' = subst (λ ts. AreLeft p number ts so_far all) first are in
    record {
      trees = λ more trees. subst (λ xs. AreTreesFor p all (xs ++ more)) (sym pushed)
          (subst (AreTreesFor p all) (sym (append_assoc so_far (tree ∷ []) more)) (are'.trees (tree ∷ more) (right, trees)));
      refused = λ refusal bad. are'.refused refusal (refused_later p (metric number text ∷ []) (metrics_from (number + 1) rest) (tree ∷ []) refusal (right, tt) bad);
    }

pub left_bad : (p : Checked) (number : ℕ) (left rest : Texts) (text : Bytes) (so_far : List Node) (refusal : PlanRefusal) (all : List LoneText)
    → left ≡ text ∷ rest → RefusesTexts p (metric number text ∷ []) refusal → AreLeft p number left so_far all → RefusesTexts p all refusal
left_bad p number left rest text so_far refusal all first bad are =
    let are' = subst (λ ts. AreLeft p number ts so_far all) first are in
    are'.refused refusal (refused_first p (metric number text ∷ []) (metrics_from (number + 1) rest) refusal bad)

pub left_done : (p : Checked) (number : ℕ) (left : Texts) (so_far : List Node) (all : List LoneText) → length left ≡ 0 → AreLeft p number left so_far all → AreTreesFor p all so_far
left_done p number [] so_far all none are = subst (AreTreesFor p all) (append-nil so_far) (are.trees [] tt)
left_done p number (text ∷ left) so_far all none are = absurd (omega (arith, none))

pub counted_more : (left rest : Texts) (text : Bytes) (number all : ℕ) → left ≡ text ∷ rest → number + length left ≡ all → number + 1 + length rest ≡ all
counted_more left rest text number all first is = let is' = rw first at is in omega (arith, is')

-- ---- the texts of an experiment, one after another

module _ (p : Checked) (f : Fields) where
  abbrev of_setup : LoneText
  of_setup = lone setup_key.name form.Commands f.setup

  abbrev of_go : LoneText
  of_go = lone go_key.name form.Commands f.go

  abbrev measured : List LoneText
  measured = when_texts f.measure_when ++ metrics_from 1 f.metrics

  pub refused_setup : (refusal : PlanRefusal) → RefusesTexts p (lone setup_key.name form.Commands f.setup ∷ []) refusal → RefusesTexts p (texts_of f) refusal
  refused_setup refusal bad = refused_first p (of_setup ∷ []) (of_go ∷ (until_texts f.until ++ measured)) refusal bad

  pub refused_go : (setup : Node) (refusal : PlanRefusal) → IsTreeFor p (lone setup_key.name form.Commands f.setup) setup
      → RefusesTexts p (lone go_key.name form.Commands f.go ∷ []) refusal → RefusesTexts p (texts_of f) refusal
  refused_go setup refusal first bad =
      refused_later p (of_setup ∷ []) (of_go ∷ (until_texts f.until ++ measured)) (setup ∷ []) refusal (first, tt)
      (refused_first p (of_go ∷ []) (until_texts f.until ++ measured) refusal bad)

  pub refused_until : (setup go : Node) (refusal : PlanRefusal) → IsTreeFor p (lone setup_key.name form.Commands f.setup) setup
      → IsTreeFor p (lone go_key.name form.Commands f.go) go → RefusesTexts p (until_texts f.until) refusal → RefusesTexts p (texts_of f) refusal
  refused_until setup go refusal first second bad =
      refused_later p (of_setup ∷ of_go ∷ []) (until_texts f.until ++ measured) (setup ∷ go ∷ []) refusal (first, (second, tt))
      (refused_first p (until_texts f.until) measured refusal bad)

  pub refused_when : (setup go : Node) (until : List Node) (refusal : PlanRefusal) → IsTreeFor p (lone setup_key.name form.Commands f.setup) setup
      → IsTreeFor p (lone go_key.name form.Commands f.go) go → AreTreesFor p (until_texts f.until) until
      → RefusesTexts p (when_texts f.measure_when) refusal → RefusesTexts p (texts_of f) refusal
  refused_when setup go until refusal first second third bad =
      refused_later p (of_setup ∷ of_go ∷ []) (until_texts f.until ++ measured) (setup ∷ go ∷ []) refusal (first, (second, tt))
      (refused_later p (until_texts f.until) measured until refusal third (refused_first p (when_texts f.measure_when) (metrics_from 1 f.metrics) refusal bad))

  pub refused_metrics : (setup go : Node) (until when : List Node) (refusal : PlanRefusal) → IsTreeFor p (lone setup_key.name form.Commands f.setup) setup
      → IsTreeFor p (lone go_key.name form.Commands f.go) go → AreTreesFor p (until_texts f.until) until → AreTreesFor p (when_texts f.measure_when) when
      → RefusesTexts p (metrics_from 1 f.metrics) refusal → RefusesTexts p (texts_of f) refusal
  refused_metrics setup go until when refusal first second third fourth bad =
      refused_later p (of_setup ∷ of_go ∷ []) (until_texts f.until ++ measured) (setup ∷ go ∷ []) refusal (first, (second, tt))
      (refused_later p (until_texts f.until) measured until refusal third (refused_later p (when_texts f.measure_when) (metrics_from 1 f.metrics) when refusal fourth bad))

  pub all_trees : (setup go : Node) (until when metrics : List Node) → IsTreeFor p (lone setup_key.name form.Commands f.setup) setup
      → IsTreeFor p (lone go_key.name form.Commands f.go) go → AreTreesFor p (until_texts f.until) until → AreTreesFor p (when_texts f.measure_when) when
      → AreTreesFor p (metrics_from 1 f.metrics) metrics → AreTreesFor p (texts_of f) (setup ∷ go ∷ (until ++ (when ++ metrics)))
  all_trees setup go until when metrics first second third fourth fifth = (
    first,
    (
      second,
      trees_append p (until_texts f.until) measured until (when ++ metrics) third
          (trees_append p (when_texts f.measure_when) (metrics_from 1 f.metrics) when metrics fourth fifth),
    ),
  )

-- what a `?` answers
pub refused_by : {X : Type 0} (p : Checked) (ts : List LoneText) (r : Result X PlanRefusal) (refusal : PlanRefusal) → IsErrAnd r (λ mine. mine ≡ refusal) → RefusesTexts p ts refusal
    → IfErr r (RefusesTexts p ts)
refused_by p ts (Ok x) refusal is bad = absurd is
refused_by p ts (Err mine) refusal is bad = subst (RefusesTexts p ts) (sym is) bad
