-- The steps of pieces, and the pieces of parts.
use Rattle.std.proofs.Common.{◌≡◌, ℕ, zero, suc, ◌+◌, Bool, true, false, List, [], ◌∷◌, ◌++◌, drop, Some, Result, Ok, Err, refl, sym, ap, subst, ◌∙◌, append_assoc, append-nil, OnOk, cond, add-one}
use Rattle.std.specs.Prelude.{slice_get}
use Rattle.nl_words.specs.declared.entry.Kinds.{Kinds}
use Rattle.nl_words.specs.declared.entry.Input.{Input}
use Rattle.nl_words.specs.declared.entry.Manner.TheVariants.{Run}
use Rattle.nl_tree.specs.Tree.{Node, Nodes, none, more, nodes, listed}
use Rattle.nl_tree.specs.Term.{Term}
use Rattle.nl_tree.specs.Tokens.{inputs_of}
use Rattle.nl_tree.specs.Context.{use_of, is_operator, word_pieces, node_pieces, Piece, Sub, pieces, given, subs, givens, kinds_of_subs, block_kinds, part_pieces, parts_pieces, all_pieces, after_first, flat}
use Rattle.nl_fixed.specs.declared.span.Span.{Span}
use Rattle.nl_fixed.specs.declared.memory.NoMemory.{NoMemory}
use Rattle.nl_tree.specs.declared.tree.Label.{Label}
use Rattle.nl_tree.specs.declared.tree.Label.TheVariants as label
use Rattle.nl_tree.specs.declared.index.Word.{Word}
use Rattle.nl_tree.specs.Vocabulary.{term_named}
use Rattle.nl_tree.proofs.Parts.{listed_nodes}
use Rattle.nl_tree.specs.Index.{named}
use Rattle.nl_check.specs.declared.step.Step.{Step}
use Rattle.nl_check.specs.inner.Steps.{piece_steps, steps_of, used_as}
use Rattle.nl_check.specs.inner.Bodies.{or_value, sub_of, first_of, pieces_from, flat_from, word_step}

pub steps_append : (table : List Term) (inner : Bool) (ps qs : List Piece) → steps_of table inner (ps ++ qs) ≡ steps_of table inner ps ++ steps_of table inner qs
steps_append table inner [] qs = refl
steps_append table inner (p ∷ ps) qs = ap (λ ss. piece_steps table inner p ++ ss) (steps_append table inner ps qs) ∙ sym (append_assoc (piece_steps table inner p) (steps_of table inner ps) (steps_of table inner qs))

pub gives_of_subs : (table : List Term) (ts : Nodes) → kinds_of_subs (subs table ts) ≡ givens table ts
gives_of_subs table none = refl
gives_of_subs table (more t ts) = ap (λ ks. given table t ∷ ks) (gives_of_subs table ts)

drop_one : {A : Type 0} (x : A) (xs : List A) (n : ℕ) → drop (suc n + 1) (x ∷ xs) ≡ drop (n + 1) xs
drop_one x xs n = rw (add-one) (rw (add-one) refl)

-- the part at a place is read by its input
pub parts_at : (t : Term) (first : Kinds) (is : List Input) (at : ℕ) (p : Sub) (ps : List Sub) → parts_pieces t first (drop at is) (p ∷ ps) ≡ part_pieces t first (or_value (slice_get is at)) p ∷ parts_pieces t first (drop (at + 1) is) ps
parts_at t first [] zero p ps = refl
parts_at t first [] (suc n) p ps = rw add-one refl
parts_at t first (i ∷ is) zero p ps = refl
parts_at t first (i ∷ is) (suc n) p ps = rw (drop_one i is n) (parts_at t first is n p ps)

-- one part more
pub pieces_step : (table : List Term) (t : Term) (first : Kinds) (at : ℕ) (parts : List Node) (u : Node) → drop at parts ≡ u ∷ drop (at + 1) parts
    → pieces_from table t first at parts ≡ part_pieces t first (or_value (slice_get (inputs_of t) at)) (sub_of table u) ++ pieces_from table t first (at + 1) parts
pieces_step table t first at parts u here = rw here (ap all_pieces (parts_at t first (inputs_of t) at (sub_of table u) (subs table (nodes (drop (at + 1) parts)))))

pub flat_step : (table : List Term) (at : ℕ) (parts : List Node) (u : Node) → drop at parts ≡ u ∷ drop (at + 1) parts → flat_from table at parts ≡ pieces table u ++ flat_from table (at + 1) parts
flat_step table at parts u here = rw here refl

no_parts : (t : Term) (first : Kinds) (is : List Input) → parts_pieces t first is [] ≡ []
no_parts t first is = refl

pub pieces_end : (table : List Term) (t : Term) (first : Kinds) (at : ℕ) (parts : List Node) → drop at parts ≡ [] → pieces_from table t first at parts ≡ []
pieces_end table t first at parts done = rw done refl

pub flat_end : (table : List Term) (at : ℕ) (parts : List Node) → drop at parts ≡ [] → flat_from table at parts ≡ []
flat_end table at parts done = rw done refl

regroup : (a b c d : List Step) → ((a ++ b) ++ c) ++ d ≡ a ++ (b ++ (c ++ d))
regroup a b c d = append_assoc (a ++ b) c d ∙ append_assoc a b (c ++ d)

pub then_ok : {P Q : Type 0} (r : Result (Unit {0}) NoMemory) → (P → Q) → OnOk r P → OnOk r Q
then_ok (Ok x) f h = f h
then_ok (Err e) f h = tt

-- steps that are appended one after another
module _ (table : List Term) (inner : Bool) where
  pub put_more : (old new last : List Step) (ps qs rs : List Piece) → new ≡ old ++ steps_of table inner ps → rs ≡ ps ++ qs → old ++ steps_of table inner rs ≡ last → new ++ steps_of table inner qs ≡ last
  put_more old new last ps qs rs put parted all =
      ap (λ ss. ss ++ steps_of table inner qs) put ∙ append_assoc old (steps_of table inner ps) (steps_of table inner qs) ∙ sym (ap (λ ss. old ++ ss) (ap (steps_of table inner) parted ∙ steps_append table inner ps qs)) ∙ all

  pub put_end : (now last : List Step) (ps : List Piece) → ps ≡ [] → now ++ steps_of table inner ps ≡ last → now ≡ last
  put_end now last ps nothing all = sym (append-nil now) ∙ sym (ap (λ qs. now ++ steps_of table inner qs) nothing) ∙ all

  -- the word stands before its parts
  module _ (t : Term) (w : List ℕ) (s : Span) (parts : List Node) (row : Some t ≡ term_named table w) where
    abbrev all_first : Kinds
    all_first = first_of table t parts

    abbrev here : Piece
    here = use_of w s Run

    abbrev here_step : Step
    here_step = word_step (used_as (Some t) inner s Run)

    same_step : piece_steps table inner here ≡ here_step ∷ []
    same_step = ap (λ o. word_step (used_as o inner s Run) ∷ []) (sym row)

    same_first : block_kinds t (kinds_of_subs (subs table (nodes parts))) ≡ all_first
    same_first = ap (block_kinds t) (gives_of_subs table (nodes parts))

    abbrev Gives : List Step → List Step → Type 0
    Gives old new = new ≡ old ++ steps_of table inner (word_pieces (Some t) here (subs table (nodes parts)))

    pub word_first : (old mid new : List Step) → is_operator t.role ≡ false → mid ≡ old ++ here_step ∷ [] → new ≡ mid ++ steps_of table inner (pieces_from table t all_first 0 parts) → Gives old new
    word_first old mid new before put rest =
        rest ∙ ap (λ ss. ss ++ steps_of table inner (pieces_from table t all_first 0 parts)) put ∙ append_assoc old (here_step ∷ []) (steps_of table inner (pieces_from table t all_first 0 parts))
        ∙ ap (λ ss. old ++ (ss ++ steps_of table inner (pieces_from table t all_first 0 parts))) (sym same_step)
        ∙ ap (λ k. old ++ steps_of table inner (here ∷ pieces_from table t k 0 parts)) (sym same_first)
        ∙ sym (ap (λ b. old ++ steps_of table inner (cond b (after_first here (parts_pieces t (block_kinds t (kinds_of_subs (subs table (nodes parts)))) (inputs_of t) (subs table (nodes parts)))) (here ∷ pieces_from table t (block_kinds t (kinds_of_subs (subs table (nodes parts)))) 0 parts))) before)

    pub word_alone : (old new : List Step) → is_operator t.role ≡ true → parts ≡ [] → new ≡ old ++ here_step ∷ [] → Gives old new
    word_alone old new operator nothing put =
        put ∙ ap (λ ss. old ++ ss) (sym same_step) ∙ sym (ap (λ b. old ++ steps_of table inner (cond b (here ∷ []) (here ∷ []))) operator)
        ∙ sym (ap (λ ps. old ++ steps_of table inner (word_pieces (Some t) here (subs table (nodes ps)))) nothing)

    module _ (u : Node) (operator : is_operator t.role ≡ true) (parted : parts ≡ u ∷ drop 1 parts) where
      abbrev before : List Piece
      before = part_pieces t all_first (or_value (slice_get (inputs_of t) 0)) (sub_of table u)

      abbrev behind : List Piece
      behind = pieces_from table t all_first 1 parts

      word_is : word_pieces (Some t) here (subs table (nodes parts)) ≡ before ++ here ∷ behind
      word_is =
          let all = parts_pieces t (block_kinds t (kinds_of_subs (subs table (nodes parts)))) (inputs_of t) (subs table (nodes parts)) in
          ap (λ b. cond b (after_first here all) (here ∷ all_pieces all)) operator
          ∙ ap (λ k. after_first here (parts_pieces t k (inputs_of t) (subs table (nodes parts)))) same_first
          ∙ ap (λ ps. after_first here (parts_pieces t all_first (inputs_of t) (subs table (nodes ps)))) parted
          ∙ ap (after_first here) (parts_at t all_first (inputs_of t) 0 (sub_of table u) (subs table (nodes (drop 1 parts))))

      pub word_between : (old one two new : List Step) → one ≡ old ++ steps_of table inner before → two ≡ one ++ here_step ∷ [] → new ≡ two ++ steps_of table inner behind → Gives old new
      word_between old one two new first put rest =
          rest ∙ ap (λ ss. ss ++ steps_of table inner behind) (put ∙ ap (λ ss. ss ++ here_step ∷ []) first) ∙ regroup old (steps_of table inner before) (here_step ∷ []) (steps_of table inner behind)
          ∙ ap (λ ss. old ++ (steps_of table inner before ++ (ss ++ steps_of table inner behind))) (sym same_step)
          ∙ sym (ap (λ ss. old ++ ss) (ap (steps_of table inner) word_is ∙ steps_append table inner before (here ∷ behind)))

-- a node of a word
pub word_node : (table : List Term) (l : Label) (s : Span) (parts : List Node) (name b c : List ℕ) (word : Word) → l ≡ label.Named name → b ≡ name → c ≡ name → Some (named b word) ≡ term_named table b
    → word_pieces (Some (named c word)) (use_of c s Run) (subs table (nodes (listed (nodes parts)))) ≡ node_pieces table l s (subs table (nodes parts))
word_node table l s parts name b c word is same also row =
    ap (λ ts. word_pieces (Some (named c word)) (use_of c s Run) (subs table (nodes ts))) (listed_nodes parts)
    ∙ ap (λ w. word_pieces (Some (named w word)) (use_of w s Run) (subs table (nodes parts))) (also ∙ sym same)
    ∙ ap (λ o. word_pieces o (use_of b s Run) (subs table (nodes parts))) row
    ∙ ap (λ w. word_pieces (term_named table w) (use_of w s Run) (subs table (nodes parts))) same
    ∙ sym (ap (λ x. node_pieces table x s (subs table (nodes parts))) is)

-- a node without a name
pub plain_node : (table : List Term) (l : Label) (s : Span) (parts : List Node) → ((x : List ℕ) → l ≡ label.Named x → ⊥) → flat_from table 0 (listed (nodes parts)) ≡ node_pieces table l s (subs table (nodes parts))
plain_node table (label.Named x) s parts other = absurd (other x refl)
plain_node table (label.Number n) s parts other = ap (λ ts. flat (subs table (nodes ts))) (listed_nodes parts)
plain_node table (label.Text bytes) s parts other = ap (λ ts. flat (subs table (nodes ts))) (listed_nodes parts)
plain_node table label.List s parts other = ap (λ ts. flat (subs table (nodes ts))) (listed_nodes parts)
plain_node table label.Negate s parts other = ap (λ ts. flat (subs table (nodes ts))) (listed_nodes parts)
plain_node table label.Paren s parts other = ap (λ ts. flat (subs table (nodes ts))) (listed_nodes parts)
plain_node table label.Commands s parts other = ap (λ ts. flat (subs table (nodes ts))) (listed_nodes parts)
plain_node table label.Reporter s parts other = ap (λ ts. flat (subs table (nodes ts))) (listed_nodes parts)
plain_node table (label.Arrow names) s parts other = ap (λ ts. flat (subs table (nodes ts))) (listed_nodes parts)

-- what is told of the pieces is told of the same ones
pub told_again : (table : List Term) (inner : Bool) (r : Result (Unit {0}) NoMemory) (old new : List Step) (ps qs : List Piece) → ps ≡ qs → OnOk r (new ≡ old ++ steps_of table inner ps) → OnOk r (new ≡ old ++ steps_of table inner qs)
told_again table inner r old new ps qs same told = subst (λ x. OnOk r (new ≡ old ++ steps_of table inner x)) same told
