-- The metrics from an index on are those of the texts and of the trees from there on.
use Rattle.std.proofs.Common.{◌≡◌, ℕ, zero, suc, ◌+◌, ◌≤◌, List, [], ◌∷◌, length, drop, refl, ap, ◌∙◌, arith}
use Rattle.std.specs.Prelude.{slice_get, Some}
use Rattle.nl_fixed.specs.Nouns.{Bytes, Texts}
use Rattle.nl_tree.specs.Tree.{Node}
use Rattle.nl_run.specs.Job.{lone, lones}

pub past_texts : (ts : Texts) (trees : List Node) (i : ℕ) → length ts ≤ i → drop i (lones ts trees) ≡ []
past_texts [] trees zero past = refl
past_texts [] trees (suc i) past = refl
past_texts (t ∷ ts) trees zero past = absurd (omega (arith, past))
past_texts (t ∷ ts) [] (suc i) past = refl
past_texts (t ∷ ts) (tree ∷ trees) (suc i) past = past_texts ts trees i (omega (arith, past))

pub past_trees : (ts : Texts) (trees : List Node) (i : ℕ) → drop i trees ≡ [] → drop i (lones ts trees) ≡ []
past_trees [] trees zero past = refl
past_trees [] trees (suc i) past = refl
past_trees (t ∷ ts) [] zero past = refl
past_trees (t ∷ ts) [] (suc i) past = refl
past_trees (t ∷ ts) (tree ∷ trees) zero past = absurd (cc)
past_trees (t ∷ ts) (tree ∷ trees) (suc i) past = past_trees ts trees i past

at_index : (ts : Texts) (trees : List Node) (i j : ℕ) (text : Bytes) (tree : Node) (rest : List Node) → j ≡ suc i → slice_get ts i ≡ Some text → drop i trees ≡ tree ∷ rest
    → drop i (lones ts trees) ≡ lone text tree ∷ drop j (lones ts trees)
at_index [] trees zero j text tree rest next here there = absurd (cc)
at_index [] trees (suc i) j text tree rest next here there = absurd (cc)
at_index (t ∷ ts) [] zero j text tree rest next here there = absurd (cc)
at_index (t ∷ ts) [] (suc i) j text tree rest next here there = absurd (cc)
at_index (t ∷ ts) (u ∷ trees) zero j text tree rest next here there =
    let is : t ≡ text = cc in
    let was : u ≡ tree = cc in
    ap (λ x. lone x u ∷ lones ts trees) is ∙ ap (λ x. lone text x ∷ lones ts trees) was ∙ ap (λ k. lone text tree ∷ drop k (lone t u ∷ lones ts trees)) (let k : 1 ≡ j = omega (arith, next) in k)
at_index (t ∷ ts) (u ∷ trees) (suc i) j text tree rest next here there =
    at_index ts trees i (suc i) text tree rest refl here there ∙ ap (λ k. lone text tree ∷ drop k (lone t u ∷ lones ts trees)) (let k : suc (suc i) ≡ j = omega (arith, next) in k)

pub one_metric : (ts : Texts) (trees : List Node) (i : ℕ) (text : Bytes) (tree : Node) (rest : List Node) → slice_get ts i ≡ Some text → drop i trees ≡ tree ∷ rest
    → drop i (lones ts trees) ≡ lone text tree ∷ drop (i + 1) (lones ts trees)
one_metric ts trees i text tree rest here there = at_index ts trees i (i + 1) text tree rest (omega arith) here there
