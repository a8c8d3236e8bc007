-- What a test chooses.
use Rattle.std.proofs.Common.{◌≡◌, ◌+◌, ◌<◌, ℕ, suc, Bool, true, false, List, [], ◌∷◌, Option, Some, length, slice_get, refl, ap, ◌∙◌, arith}
use Rattle.nl_words.specs.declared.entry.Kinds.{Kinds}
use Rattle.nl_agents_layout.specs.Nouns.{BreedNumber}
use Rattle.nl_value.specs.Plain.{Plain, PlainTruth}
use Rattle.nl_tree.specs.Tree.{Node, label, parts, span}
use Rattle.nl_tree.specs.Checked.{Checked}
use Rattle.nl_exec_acts.specs.declared.fail.ErrorKind.TheVariants.{WrongType}
use Rattle.nl_agents.specs.declared.store.Store.{Ghosts}
use Rattle.nl_exec_meaning.specs.Cases.{case_of}
use Rattle.nl_exec_meaning.specs.Cases as case
use Rattle.nl_exec_meaning.specs.Code.{Code, node_at}
use Rattle.nl_exec_meaning.specs.declared.words.Built.TheVariants as built
use Rattle.nl_exec_meaning.specs.Running.{allowed}
use Rattle.nl_exec_meaning.specs.State.{State, Outcome, Eval, choose, found, gives, goes_on, with_truth, ◌>>=◌}
use Rattle.nl_exec_meaning.specs.Blocks.{chosen, part_of, tested}
use Rattle.nl_exec_meaning.specs.Meaning.{control_case, evaluator, limited}
use Rattle.nl_exec_meaning.specs.Seen.{state_of}
use Rattle.nl_exec_meaning.specs.declared.hands.Hands.{Hands}
use Rattle.nl_exec_short.specs.Had.{IsDrawn}
use Rattle.nl_exec_at_once.specs.AtOnce.{GoesUpTo, choosing, left_of}
use Rattle.nl_exec_at_once.specs.declared.statements.Done.{Done}
use Rattle.nl_exec_at_once.specs.declared.statements.Done.TheVariants as done
use Rattle.nl_exec_at_once.specs.declared.statements.TheConstants.{PLAIN_NESTED as plain_nested, MOST_NESTED as most_nested}
use Rattle.nl_exec_at_once.proofs.Controls.{word_comes_to}

-- a part that gives a truth
tested_as : (prev : Eval) (t part : Node) (truth : Bool) (s s1 : State) (next : Bool → State → Outcome) → slice_get (parts t) 0 ≡ Some part →
    prev part s ≡ gives (PlainTruth truth) s1 → tested prev t 0 s next ≡ next truth s1
tested_as prev t part truth s s1 next there gives_it =
    let behind = λ (value : Plain) (s2 : State). with_truth value (span t) s2 (λ b. next b s2) in
    ap (λ (o : Option Node). found o WrongType (span t) s (λ x. prev x s >>= behind)) there
    ∙ ap (λ (o : Outcome). o >>= behind) gives_it

-- ---- what the word's case is then

module _ (p : Checked) (runs : Kinds) (prev : Eval) (t part : Node) (s s1 : State) (there : slice_get (parts t) 0 ≡ Some part) where
  -- what comes of the test of two blocks
  abbrev behind : Node → Node → Outcome → Outcome
  behind first second o = o >>= λ value s2. with_truth value (span t) s2 (λ truth. choose truth (prev first s2) (prev second s2))

  first_of_two : (ts : List Node) → length ts ≡ 3 → slice_get ts 0 ≡ Some part → prev part s ≡ gives (PlainTruth true) s1 →
      chosen prev (span t) goes_on ts s ≡ found (slice_get ts 1) WrongType (span t) s1 (λ x. prev x s1)
  first_of_two [] three is gives_it = absurd (omega (arith, three))
  first_of_two (x ∷ []) three is gives_it = absurd (omega (arith, three))
  first_of_two (x ∷ y ∷ []) three is gives_it = absurd (omega (arith, three))
  first_of_two (x ∷ y ∷ z ∷ []) three is gives_it =
      let same : x ≡ part = cc in ap (behind y z) (ap (λ (n : Node). prev n s) same ∙ gives_it)
  first_of_two (x ∷ y ∷ z ∷ w ∷ ts) three is gives_it = absurd (omega (arith, three))

  second_of_two : (ts : List Node) → length ts ≡ 3 → slice_get ts 0 ≡ Some part → prev part s ≡ gives (PlainTruth false) s1 →
      chosen prev (span t) goes_on ts s ≡ found (slice_get ts 2) WrongType (span t) s1 (λ x. prev x s1)
  second_of_two [] three is gives_it = absurd (omega (arith, three))
  second_of_two (x ∷ []) three is gives_it = absurd (omega (arith, three))
  second_of_two (x ∷ y ∷ []) three is gives_it = absurd (omega (arith, three))
  second_of_two (x ∷ y ∷ z ∷ []) three is gives_it =
      let same : x ≡ part = cc in ap (behind y z) (ap (λ (n : Node). prev n s) same ∙ gives_it)
  second_of_two (x ∷ y ∷ z ∷ w ∷ ts) three is gives_it = absurd (omega (arith, three))

  pub chooses_first : (either : Bool) → (either ≡ true → length (parts t) ≡ 3) → prev part s ≡ gives (PlainTruth true) s1 → control_case (choosing either) p runs prev t s ≡ part_of prev t 1 s1
  chooses_first true plain gives_it = first_of_two (parts t) (plain refl) there gives_it
  chooses_first false plain gives_it = tested_as prev t part true s s1 (λ truth s2. choose truth (part_of prev t 1 s2) (goes_on s2)) there gives_it

  pub chooses_second : (either : Bool) → (either ≡ true → length (parts t) ≡ 3) → either ≡ true → prev part s ≡ gives (PlainTruth false) s1 → control_case (choosing either) p runs prev t s ≡ part_of prev t 2 s1
  chooses_second true plain is gives_it = second_of_two (parts t) (plain refl) there gives_it
  chooses_second false plain is gives_it = absurd (cc)

  pub chooses_nothing : (either : Bool) → either ≡ false → prev part s ≡ gives (PlainTruth false) s1 → control_case (choosing either) p runs prev t s ≡ goes_on s1
  chooses_nothing true is gives_it = absurd (cc)
  chooses_nothing false is gives_it = tested_as prev t part false s s1 (λ truth s2. choose truth (part_of prev t 1 s2) (goes_on s2)) there gives_it

-- ---- how far the word goes then

module _ {S : Type 0} {G : Ghosts S} (c : Code) (node part : ℕ) (runs : Kinds) (breed : Option BreedNumber) (either : Bool) (drawn before : Hands S G) (units : ℕ)
    (is : case.Word runs breed (built.Control (choosing either)) ≡ case_of c.program.declared (label (node_at c node)))
    (may : (n : ℕ) (next : Outcome) → allowed runs (span (node_at c node)) (state_of c.names before n) next ≡ next)
    (there : slice_get (parts (node_at c node)) 0 ≡ Some (node_at c part)) (plain : either ≡ true → length (parts (node_at c node)) ≡ 3) where
  -- the block at the index comes to what is left of it
  abbrev pub Chosen : ℕ → Done → (after : Hands S G) → ℕ → Type 0
  Chosen index how after left = (room n : ℕ) → suc plain_nested < room →
      limited (span (node_at c node)) (part_of (evaluator c.program room) (node_at c node) index (state_of c.names drawn (units + n)))
      ≡ left_of c (suc room) how (state_of c.names after (left + n))

  by-case : (how : Done) (after : Hands S G) (left : ℕ) →
      ((room n : ℕ) → 9 < room →
      limited (span (node_at c node)) (control_case (choosing either) c.program runs (evaluator c.program room) (node_at c node) (state_of c.names before (units + n)))
      ≡ left_of c (suc room) how (state_of c.names after (left + n))) →
      GoesUpTo c node most_nested how after left before units
  by-case how after left comes = λ room n enough.
      word_comes_to c.program (node_at c node) runs breed (built.Control (choosing either)) (state_of c.names before (units + n)) 9
      (λ r. left_of c r how (state_of c.names after (left + n))) is (may (units + n)) (λ r deep. comes r n deep) room enough

  pub goes_by_first : (how : Done) (after : Hands S G) (left : ℕ) → IsDrawn c drawn before part 9 (PlainTruth true) → Chosen 1 how after left →
      GoesUpTo c node most_nested how after left before units
  goes_by_first how after left draws chosen = by-case how after left (λ room n deep.
      ap (limited (span (node_at c node)))
      (chooses_first c.program runs (evaluator c.program room) (node_at c node) (node_at c part) (state_of c.names before (units + n)) (state_of c.names drawn (units + n)) there
      either plain (draws room (units + n) deep))
      ∙ chosen room n (omega (arith, deep)))

  pub goes_by_second : either ≡ true → (how : Done) (after : Hands S G) (left : ℕ) → IsDrawn c drawn before part 9 (PlainTruth false) → Chosen 2 how after left →
      GoesUpTo c node most_nested how after left before units
  goes_by_second both how after left draws chosen = by-case how after left (λ room n deep.
      ap (limited (span (node_at c node)))
      (chooses_second c.program runs (evaluator c.program room) (node_at c node) (node_at c part) (state_of c.names before (units + n)) (state_of c.names drawn (units + n)) there
      either plain both (draws room (units + n) deep))
      ∙ chosen room n (omega (arith, deep)))

  pub goes_by_none : either ≡ false → IsDrawn c drawn before part 9 (PlainTruth false) → GoesUpTo c node most_nested done.Whole drawn units before units
  goes_by_none one draws = by-case done.Whole drawn units (λ room n deep.
      ap (limited (span (node_at c node)))
      (chooses_nothing c.program runs (evaluator c.program room) (node_at c node) (node_at c part) (state_of c.names before (units + n)) (state_of c.names drawn (units + n)) there
      either one (draws room (units + n) deep)))
