-- At its end a text is over, and so each list of tokens that ends is good or has a fault, and not both.
use Rattle.std.proofs.Common.{◌≡◌, ℕ, zero, suc, ◌+◌, ◌⊎◌, inl, inr, Bool, true, false, List, [], ◌∷◌, ◌++◌, length, take, drop, All, Some, slice_get, refl, sym, ◌∙◌, ap, subst, nat_le, ◌≤◌, ◌<◌, arith}
use Rattle.std.proofs.lemmas.Bool.{leb-true, leb-false}
use Rattle.nl_fixed.specs.declared.span.Span.{Span}
use Rattle.nl_tree.specs.declared.declared.Form.{Form}
use Rattle.nl_tree.specs.declared.declared.Form.TheVariants as form
use Rattle.nl_tree.specs.declared.tree.Label.TheVariants as label
use Rattle.nl_tree.specs.Tree.{Node, node, none}
use Rattle.nl_tree.specs.Term.{Term}
use Rattle.nl_tree.specs.Tokens.{Token, IsToken, Tok, end, mark, marked}
use Rattle.nl_tree.specs.declared.needs.Block.TheVariants as blocks
use Rattle.nl_tree.specs.declared.needs.Content.TheVariants as contents
use Rattle.nl_tree.specs.Grammar.{top, span_of_first}
use Rattle.nl_tree.specs.declared.needs.Ending.TheVariants.{AtBracket, AtEnd}
use Rattle.nl_tree.specs.BodyFault.{IsReadable, IsGood, IsFaultPlace, IsOfKind, IsTextFault, deepest, ends_at}
use Rattle.nl_tree.specs.declared.faults.BodyKind.{BodyKind}
use Rattle.nl_tree.specs.declared.faults.BodyKind.TheVariants.{UnknownName, Unexpected, TooDeep}
use Rattle.nl_parse_grammar.specs.Machine.{Frame, InCall, InParen, InMinus, InReporter, InNoHead, InArrowReporter, InArrowCommands, InBracket, InList, InStatementParen, InStatements, Begin, Opening, Heading, InHead, Behind, Optional, Choosing, Have, Blocked, Shut, Listing, Stating, Naming, Ended, Over, Dead, State, st, Step, go, stop, Got, got, next, accept, settle, feed_begin, feed_bracket, feed_paren, feed_no_head, feed_shut, feed_plain, without_maybes, feed_ready, feed_broken, feed, run, start}
use Rattle.nl_parse_grammar.specs.declared.pending.Shape.{Shape}
use Rattle.nl_parse_grammar.specs.declared.pending.Shape.TheVariants.{Literal, Growing, Fixed}
use Rattle.nl_parse_grammar.specs.Depth.{least_depth}
use Rattle.nl_parse_grammar.specs.Completion.{HasWords}
use Rattle.nl_parse_grammar.specs.Fault.{reading_to, kind_at}
use Rattle.nl_parse_grammar.specs.Laws.{TextsAreGoodOrFaulty, FaultsAreUnique, GoodHasNoFault}
use Rattle.nl_parse_grammar.proofs.Taken.{taken_text}
use Rattle.nl_parse_grammar.proofs.Place.{next_token}
use Rattle.nl_parse_grammar.proofs.FaultKinds.{faults_are_told, length-marked}

-- What takes the token that ends a text is over.

abbrev EndStep : Step → Type 0
EndStep (go (st (Over t) e K)) = Unit {0}
EndStep (go s) = ⊥
EndStep stop = Unit {0}

end_begin : (e : List (List ℕ)) (K : List Frame) (r : Span) → EndStep (feed_begin e K (end r))
end_begin e K r = tt

end_bracket_token : (x : Shape) (t : Node) (s : Span) (e : List (List ℕ)) (K : List Frame) (r : Span) → EndStep (feed_bracket x t s e K (end r))
end_bracket_token Literal t s e K r = tt
end_bracket_token Growing t s e K r = tt
end_bracket_token Fixed t s e K r = tt

end_paren_token : (x : Shape) (t : Node) (p : Span) (e : List (List ℕ)) (K : List Frame) (r : Span) → EndStep (feed_paren x t p e K (end r))
end_paren_token Literal t p e K r = tt
end_paren_token Growing (node l s ts) p e K r = tt
end_paren_token Fixed t p e K r = tt

end_no_head : (t : Node) (s : Span) (e : List (List ℕ)) (K : List Frame) (r : Span) → EndStep (feed_no_head t s e K (end r))
end_no_head (node label.List q none) s e K r = tt
end_no_head t s e K r = tt

end_shut : (x : Shape) (t : Node) (e : List (List ℕ)) (K : List Frame) (r : Span) → EndStep (feed_shut x t e K (end r))
end_shut x t e [] r = tt
end_shut x t e (InParen p ∷ K) r = end_paren_token x t p e K r
end_shut x t e (InMinus p s ∷ K) r = tt
end_shut x t e (InReporter s ∷ K) r = tt
end_shut x t e (InNoHead s n ∷ K) r = end_no_head t s e K r
end_shut x t e (InArrowReporter s before ns ∷ K) r = tt
end_shut x t e (InBracket s ∷ K) r = end_bracket_token x t s e K r
end_shut x t e (f ∷ K) r = tt

end_plain : (s : State) (r : Span) → EndStep (feed_plain s (end r))
end_plain (st Begin e K) r = tt
end_plain (st (Opening blocks.Commands) e K) r = tt
end_plain (st (Opening blocks.Reporter) e K) r = tt
end_plain (st (Opening (blocks.Arrow k n)) e K) r = tt
end_plain (st (Heading contents.Commands n s) e K) r = tt
end_plain (st (Heading contents.Reporter n s) e K) r = tt
end_plain (st (InHead k m s before ns) e K) r = tt
end_plain (st (Behind k s before ns) e K) r = tt
end_plain (st Optional e K) r = tt
end_plain (st Choosing e K) r = tt
end_plain (st (Have x t) e K) r = tt
end_plain (st (Blocked b) e K) r = tt
end_plain (st (Shut x t) e K) r = end_shut x t e K r
end_plain (st Listing e []) r = tt
end_plain (st Listing e (InList s ts ∷ K)) r = tt
end_plain (st Listing e (f ∷ K)) r = tt
end_plain (st Stating e []) r = tt
end_plain (st Stating e (InStatements s AtBracket before ts ∷ K)) r = tt
end_plain (st Stating e (InStatements s AtEnd before ts ∷ K)) r = tt
end_plain (st Stating e (InArrowCommands s before ns ts ∷ K)) r = tt
end_plain (st Stating e (InStatementParen s ∷ K)) r = tt
end_plain (st Stating e (f ∷ K)) r = tt
end_plain (st (Naming w s) e K) r = tt
end_plain (st (Ended t) e []) r = tt
end_plain (st (Ended t) e (InStatementParen s ∷ K)) r = tt
end_plain (st (Ended t) e (f ∷ K)) r = tt
end_plain (st (Over t) e K) r = tt
end_plain (st Dead e K) r = tt

end_ready : (s : State) (r : Span) → EndStep (feed_ready s (end r))
end_ready (st Optional e []) r = tt
end_ready (st Optional e (InCall w s ts i is last ∷ K)) r = end_plain (next w s ts (without_maybes is) last e K) r
end_ready (st Optional e (f ∷ K)) r = tt
end_ready s r = end_plain s r

end_broken : (e : List (List ℕ)) (g : Got) (r : Span) → EndStep (feed_broken e g (end r))
end_broken e (got x t K) r = end_ready (accept x t e K) r

end_step : (s : State) (r : Span) → EndStep (feed s (end r))
end_step (st (Have x t) e K) r = end_broken e (settle top x t K) r
end_step s r = end_ready s r

pub ends_over : (s z : State) (r : Span) → feed s (end r) ≡ go z → (t : Node) × (e : List (List ℕ)) × (K : List Frame) × (z ≡ st (Over t) e K)
ends_over s z r q = at z (subst EndStep q (end_step s r))
  where
    at : (z : State) → EndStep (go z) → (t : Node) × (e : List (List ℕ)) × (K : List Frame) × (z ≡ st (Over t) e K)
    at (st (Over t) e K) h = (t, e, K, refl)
    at (st m e K) h = absurd h

-- Before the first token no depth is too great.

pub start_depth : (form : Form) (names : List (List ℕ)) (s : Span) → least_depth (start form names s) ≤ deepest
start_depth form.Commands names s = omega arith
start_depth form.Reporter names s = omega arith

-- Each list that ends has an outcome.

there_is : (ts : List Token) (k : ℕ) → k < length ts → (t : Token) × (slice_get ts k ≡ Some t)
there_is [] k h = absurd (omega (arith, h))
there_is (t ∷ ts) zero h = (t, refl)
there_is (t ∷ ts) (suc k) h = there_is ts k (omega (arith, h))

last_is : (ts : List Token) (x : Token) (k : ℕ) → suc k ≡ length (ts ++ x ∷ []) → slice_get (ts ++ x ∷ []) k ≡ Some x
last_is [] x zero h = refl
last_is [] x (suc k) h = absurd (omega (arith, h))
last_is (t ∷ ts) x zero h = absurd (at ts h)
  where
    at : (ts : List Token) → 1 ≡ suc (length (ts ++ x ∷ [])) → ⊥
    at [] h = absurd (omega (arith, h))
    at (t ∷ ts) h = absurd (omega (arith, h))
last_is (t ∷ ts) x (suc k) h = last_is ts x k (omega (arith, h))

take_all : (a : List Tok) (k : ℕ) → length a ≤ k → take k a ≡ a
take_all [] zero h = refl
take_all [] (suc k) h = refl
take_all (x ∷ a) zero h = absurd (omega (arith, h))
take_all (x ∷ a) (suc k) h = ap (λ c. x ∷ c) (take_all a k (omega (arith, h)))

module _ (form : Form) (names : List (List ℕ)) (table : List Term) (ts : List Token) (sp : Span) (has : HasWords table) where
  all : List Token
  all = ts ++ ends_at sp ∷ []

  abbrev Outcome : Type 0
  Outcome = ((t : Node) × IsGood form names table (ts ++ ends_at sp ∷ []) t) ⊎ ((k : ℕ) × (kind : BodyKind) × IsTextFault form names table (ts ++ ends_at sp ∷ []) k kind)

  -- the token at a place, with which the state goes on or not
  module _ (k : ℕ) (s : State) (inside : k < length (ts ++ ends_at sp ∷ [])) (reached : reading_to form names table (ts ++ ends_at sp ∷ []) k ≡ go s) (low : least_depth s ≤ deepest) where
    stopped : (t : Token) → slice_get (ts ++ ends_at sp ∷ []) k ≡ Some t → feed s (mark table t) ≡ stop → Outcome
    stopped t there q = inr (k, kind_at s (mark table t), (faults_are_told form names table (ts ++ ends_at sp ∷ []) k s t has inside reached low there).0 q)

    deep : (t : Token) (z : State) → slice_get (ts ++ ends_at sp ∷ []) k ≡ Some t → feed s (mark table t) ≡ go z → deepest < least_depth z → Outcome
    deep t z there q h = inr (k, TooDeep, (faults_are_told form names table (ts ++ ends_at sp ∷ []) k s t has inside reached low there).1 z q h)

    on : (t : Token) → slice_get (ts ++ ends_at sp ∷ []) k ≡ Some t → ((z : State) → feed s (mark table t) ≡ go z → least_depth z ≤ deepest → Outcome) → Outcome
    on t there f = at (feed s (mark table t)) refl
      where
        low_or_deep : (b : Bool) (z : State) → nat_le (least_depth z) deepest ≡ b → feed s (mark table t) ≡ go z → Outcome
        low_or_deep true z h q = f z q (leb-true (least_depth z) deepest h)
        low_or_deep false z h q = deep t z there q (leb-false (least_depth z) deepest h)

        at : (x : Step) → feed s (mark table t) ≡ x → Outcome
        at (go z) q = low_or_deep (nat_le (least_depth z) deepest) z refl q
        at stop q = stopped t there q

  whole : (t : Node) (e : List (List ℕ)) (K : List Frame) (k : ℕ) → suc k ≡ length (ts ++ ends_at sp ∷ []) → reading_to form names table (ts ++ ends_at sp ∷ []) (suc k) ≡ go (st (Over t) e K) → IsReadable form names table (ts ++ ends_at sp ∷ []) t
  whole t e K k h q = taken_text form names e K (marked table (ts ++ ends_at sp ∷ [])) t (ap (run (start form names (span_of_first (marked table (ts ++ ends_at sp ∷ []))))) (sym (take_all (marked table (ts ++ ends_at sp ∷ [])) (suc k) (omega (arith, h, length-marked table (ts ++ ends_at sp ∷ []))))) ∙ q)

  outcome : (m k : ℕ) (s : State) → k + suc m ≡ length (ts ++ ends_at sp ∷ []) → reading_to form names table (ts ++ ends_at sp ∷ []) k ≡ go s → least_depth s ≤ deepest → Outcome
  outcome zero k s h q low = on k s (omega (arith, h)) q low (ends_at sp) there (λ z r d.
      let (t, e, K, is) = ends_over s z sp r in
      let over : reading_to form names table (ts ++ ends_at sp ∷ []) (suc k) ≡ go (st (Over t) e K) = next_token form names table (ts ++ ends_at sp ∷ []) k s (ends_at sp) q there ∙ r ∙ ap go is in
      inl (t, (whole t e K k (omega (arith, h)) over, subst (λ y. least_depth y ≤ deepest) is d)))
    where
      there : slice_get (ts ++ ends_at sp ∷ []) k ≡ Some (ends_at sp)
      there = last_is ts (ends_at sp) k (omega (arith, h))
  outcome (suc m) k s h q low =
      let (t, there) = there_is (ts ++ ends_at sp ∷ []) k (omega (arith, h)) in
      on k s (omega (arith, h)) q low t there (λ z r d. outcome m (suc k) z (omega (arith, h)) (next_token form names table (ts ++ ends_at sp ∷ []) k s t q there ∙ r) d)

length-end : (ts : List Token) (x : Token) → length (ts ++ x ∷ []) ≡ suc (length ts)
length-end [] x = refl
length-end (t ∷ ts) x = ap suc (length-end ts x)

pub texts_are_good_or_faulty : TextsAreGoodOrFaulty
texts_are_good_or_faulty form names table ts sp has =
    outcome form names table ts sp has (length ts) 0 (start form names (span_of_first (marked table (ts ++ ends_at sp ∷ [])))) (omega (arith, length-end ts (ends_at sp))) refl (start_depth form names (span_of_first (marked table (ts ++ ends_at sp ∷ []))))

all_left : (ts : List Token) (n : ℕ) → All IsToken ts → All IsToken (drop n ts)
all_left ts zero h = h
all_left [] (suc n) h = h
all_left (t ∷ ts) (suc n) h = all_left ts n (λ j d l. h (suc j) d (omega (arith, l)))

joined : (ts : List Token) (n : ℕ) → take n ts ++ drop n ts ≡ ts
joined ts zero = refl
joined [] (suc n) = refl
joined (t ∷ ts) (suc n) = ap (λ us. t ∷ us) (joined ts n)

pub good_has_no_fault : GoodHasNoFault
good_has_no_fault form names table ts t k kind tokens good fault = fault.0.2 (drop (k + 1) ts, t, (all_left ts (k + 1) tokens, subst (λ us. IsGood form names table us t) (sym (joined ts (k + 1))) good))

same_place : (form : Form) (names : List (List ℕ)) (table : List Term) (ts : List Token) (j k : ℕ) → IsFaultPlace form names table ts j → IsFaultPlace form names table ts k → j ≡ k
same_place form names table ts j k f g = at (nat_le j k) (nat_le k j) refl refl
  where
    at : (x y : Bool) → nat_le j k ≡ x → nat_le k j ≡ y → j ≡ k
    at true true p q = omega (arith, leb-true j k p, leb-true k j q)
    at true false p q = absurd (f.2 (g.1 j (leb-false k j q)))
    at false y p q = absurd (g.2 (f.1 k (leb-false j k p)))

same_kind : (form : Form) (names : List (List ℕ)) (table : List Term) (ts : List Token) (k : ℕ) (x y : BodyKind) → IsOfKind form names table ts k x → IsOfKind form names table ts k y → x ≡ y
same_kind form names table ts k TooDeep TooDeep f g = refl
same_kind form names table ts k TooDeep UnknownName f g = absurd (g.0 f)
same_kind form names table ts k TooDeep Unexpected f g = absurd (g.0 f)
same_kind form names table ts k UnknownName TooDeep f g = absurd (f.0 g)
same_kind form names table ts k UnknownName UnknownName f g = refl
same_kind form names table ts k UnknownName Unexpected f g = absurd (g.1 f.1)
same_kind form names table ts k Unexpected TooDeep f g = absurd (f.0 g)
same_kind form names table ts k Unexpected UnknownName f g = absurd (f.1 g.1)
same_kind form names table ts k Unexpected Unexpected f g = refl

pub faults_are_unique : FaultsAreUnique
faults_are_unique form names table ts j k x y f g =
    let place : j ≡ k = same_place form names table ts j k f.0 g.0 in
    (place, same_kind form names table ts k x y (subst (λ i. IsOfKind form names table ts i x) place f.1) g.1)
