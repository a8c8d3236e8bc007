-- The first fault of a text is where the machine stops, or where the least depth passes the limit.
use Rattle.std.proofs.Common.{slice_get, Some, ◌≡◌, ℕ, zero, suc, ◌+◌, List, [], ◌∷◌, ◌++◌, length, take, refl, sym, ◌∙◌, ap, subst, ◌≤◌, ◌<◌, arith}
use Rattle.std.proofs.lemmas.List.{append-nil}
use Rattle.nl_tree.specs.declared.declared.Form.{Form}
use Rattle.nl_tree.specs.Term.{Term}
use Rattle.nl_tree.specs.Tokens.{Token, Tok, mark, marked}
use Rattle.nl_tree.specs.Grammar.{span_of_first}
use Rattle.nl_tree.specs.BodyFault.{BeginsReadable, BeginsGood, IsFaultPlace, deepest}
use Rattle.nl_parse_grammar.specs.Machine.{State, Step, go, stop, feed, run_from, run, start}
use Rattle.nl_parse_grammar.specs.Depth.{least_depth}
use Rattle.nl_parse_grammar.specs.Completion.{HasWords, reading}
use Rattle.nl_parse_grammar.specs.Fault.{reading_to}
use Rattle.nl_parse_grammar.proofs.Sound.{Reached}
use Rattle.nl_parse_grammar.proofs.Good.{run_stop, run_append, reached_go, grows_run, begins, begins_good, good_at, not_stop}

take_marked : (table : List Term) (ts : List Token) (k : ℕ) → take k (marked table ts) ≡ marked table (take k ts)
take_marked table ts zero = refl
take_marked table [] (suc k) = refl
take_marked table (t ∷ ts) (suc k) = ap (λ xs. mark table t ∷ xs) (take_marked table ts k)

-- the tokens between two places
between : (a : List Tok) (j k : ℕ) → j ≤ k → (m : List Tok) × (take k a ≡ take j a ++ m)
between a zero k h = (take k a, refl)
between [] (suc j) zero h = absurd (omega (arith, h))
between [] (suc j) (suc k) h = ([], refl)
between (x ∷ a) (suc j) zero h = absurd (omega (arith, h))
between (x ∷ a) (suc j) (suc k) h = let (m, q) = between a j k (omega (arith, h)) in (m, ap (λ c. x ∷ c) q)

-- what leads to a state leads through states that allow no more depth
through : (form : Form) (e : List (List ℕ)) (a m : List Tok) (s : State) → run (start form e (span_of_first (a ++ m))) (a ++ m) ≡ go s → (z : State) × (run (start form e (span_of_first (a ++ m))) a ≡ go z) × (least_depth z ≤ least_depth s)
through form e a m s q = at (run (start form e (span_of_first (a ++ m))) a) refl
  where
    at : (x : Step) → run (start form e (span_of_first (a ++ m))) a ≡ x → (z : State) × (run (start form e (span_of_first (a ++ m))) a ≡ go z) × (least_depth z ≤ least_depth s)
    at (go z) p = (z, p, grows_run form e (a ++ m) z m [] s (subst (λ c. Reached form e (a ++ m) z c) (sym (append-nil m)) (reached_go form e a m z p)) (sym (ap (λ x. run_from x m) p) ∙ sym (run_append (go (start form e (span_of_first (a ++ m)))) a m) ∙ q))
    at stop p = cc (q, run_append (go (start form e (span_of_first (a ++ m)))) a m, p, run_stop m)

module _ (form : Form) (names : List (List ℕ)) (table : List Term) (t : Token) (ts : List Token) (has : HasWords table) where
  pub to : (j : ℕ) → reading form names table (t ∷ take j ts) ≡ reading_to form names table (t ∷ ts) (suc j)
  to j = ap (λ c. run (start form names (span_of_first (marked table (t ∷ ts)))) (mark table t ∷ c)) (sym (take_marked table ts j))

  good_before : (k : ℕ) (s : State) → reading_to form names table (t ∷ ts) k ≡ go s → least_depth s ≤ deepest → (j : ℕ) → j < k → BeginsGood form names table (take (suc j) (t ∷ ts))
  good_before k s q h j l =
      let (m, p) = between (marked table (t ∷ ts)) (suc j) k (omega (arith, l)) in
      let (z, r, low) = through form names (take (suc j) (marked table (t ∷ ts))) m s (ap (run (start form names (span_of_first (marked table (t ∷ ts))))) (sym p) ∙ q) in
      begins_good form names table t (take j ts) has z (to j ∙ r) (omega (arith, h, low))

  one_more : (k : ℕ) → take (k + 1) (t ∷ ts) ≡ t ∷ take k ts
  one_more k = let next : k + 1 ≡ suc k = omega arith in ap (λ n. take n (t ∷ ts)) next

  fault_place : (k : ℕ) (s : State) → k < length (t ∷ ts) → reading_to form names table (t ∷ ts) k ≡ go s → least_depth s ≤ deepest → (BeginsGood form names table (t ∷ take k ts) → ⊥) → IsFaultPlace form names table (t ∷ ts) k
  fault_place k s l q h bad = (
    l,
    (λ j within. subst (BeginsGood form names table) (sym (one_more j)) (good_before k s q h j within)),
    (λ b. bad (subst (BeginsGood form names table) (one_more k) b)),
  )

  -- where the machine stops, the tokens begin no text
  pub stops : (k : ℕ) → reading_to form names table (t ∷ ts) (suc k) ≡ stop → BeginsReadable form names table (take (k + 1) (t ∷ ts)) → ⊥
  stops k q b = not_stop form names table t (take k ts) has (to k ∙ q) (subst (BeginsReadable form names table) (one_more k) b)

  pub stop_place : (k : ℕ) (s : State) → k < length (t ∷ ts) → reading_to form names table (t ∷ ts) k ≡ go s → least_depth s ≤ deepest → reading_to form names table (t ∷ ts) (suc k) ≡ stop → IsFaultPlace form names table (t ∷ ts) k
  stop_place k s l q h r = fault_place k s l q h (λ b. not_stop form names table t (take k ts) has (to k ∙ r) (b.0, b.1, (b.2.0, b.2.1.0)))

  -- where it goes on and the least depth passes the limit, they begin a text, and no good one
  pub deep_place : (k : ℕ) (s z : State) → k < length (t ∷ ts) → reading_to form names table (t ∷ ts) k ≡ go s → least_depth s ≤ deepest → reading_to form names table (t ∷ ts) (suc k) ≡ go z → deepest < least_depth z → IsFaultPlace form names table (t ∷ ts) k × BeginsReadable form names table (take (k + 1) (t ∷ ts))
  deep_place k s z l q h r d = (
    fault_place k s l q h (λ b. let (y, p, low) = good_at form names table t (take k ts) has b in let same : y ≡ z = cc (sym p ∙ to k ∙ r) in absurd (omega (arith, d, subst (λ x. least_depth x ≤ deepest) same low))),
    subst (BeginsReadable form names table) (sym (one_more k)) (begins form names table t (take k ts) has z (to k ∙ r)),
  )

-- the next token is fed to the state
pub next_token : (form : Form) (names : List (List ℕ)) (table : List Term) (ts : List Token) (k : ℕ) (s : State) (t : Token) → reading_to form names table ts k ≡ go s → slice_get ts k ≡ Some t → reading_to form names table ts (suc k) ≡ feed s (mark table t)
next_token form names table ts k s t q there = from (start form names (span_of_first (marked table ts))) ts k q there
  where
    from : (z : State) (ts : List Token) (k : ℕ) → run z (take k (marked table ts)) ≡ go s → slice_get ts k ≡ Some t → run z (take (suc k) (marked table ts)) ≡ feed s (mark table t)
    from z [] k q there = cc there
    from z (x ∷ ts) zero q there = let same : z ≡ s = cc q in let it : x ≡ t = cc there in ap (λ y. feed y (mark table x)) same ∙ ap (λ y. feed s (mark table y)) it
    from z (x ∷ ts) (suc k) q there = at (feed z (mark table x)) q (λ y r. from y ts k r there)
      where
        at : (y : Step) → run_from y (take k (marked table ts)) ≡ go s → ((y : State) → run y (take k (marked table ts)) ≡ go s → run y (take (suc k) (marked table ts)) ≡ feed s (mark table t)) → run_from y (take (suc k) (marked table ts)) ≡ feed s (mark table t)
        at (go y) r f = f y r
        at stop r f = cc (r, run_stop (take k (marked table ts)))
