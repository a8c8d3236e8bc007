-- A walk begins at the first member that lives.
use Rattle.std.proofs.Common.{◌≡◌, ℕ, zero, suc, ◌+◌, Bool, true, false, List, [], ◌∷◌, Option, Some, None, option_map, drop, slice_get, refl, ap, ◌∙◌, sym, arith}
use Rattle.nl_value.specs.declared.sets.AgentKind.{AgentKind}
use Rattle.nl_tree.specs.Tree.{Node, span, parts}
use Rattle.nl_exec_acts.specs.declared.fail.ErrorKind.TheVariants.{WrongType}
use Rattle.nl_exec_meaning.specs.State as meant
use Rattle.nl_exec_meaning.specs.State.{State, Eval, Outcome, at_site, choose, fails, goes_on, rest_of, spend, with_part}
use Rattle.nl_exec_meaning.specs.Walks.{asked, lives, turn_over, walk}
use Rattle.nl_exec_meaning.specs.declared.sites.Site.{Site}
use Rattle.nl_exec_walks.specs.Turning.{first_by, first_of}

-- the turn of a member, and those after it
abbrev pub taken : Eval → Node → ℕ → Site → AgentKind → ℕ → List ℕ → State → Outcome
taken prev t index site which m ms s =
    with_part t index (span t) s (λ block. spend (at_site (asked which m site) s) (λ s1.
    turn_over site (prev block s1) (λ s2. walk prev t index site which ms s2)))

-- the turn of the member at an index, if there is one
abbrev pub turn_at : Option ℕ → ℕ → Eval → Node → ℕ → Site → AgentKind → List ℕ → State → Outcome
turn_at None i prev t index site which ms s = goes_on s
turn_at (Some m) i prev t index site which ms s = taken prev t index site which m (drop (i + 1) ms) s

abbrev pub turn_from : Option ℕ → Eval → Node → ℕ → Site → AgentKind → List ℕ → State → Outcome
turn_from None prev t index site which ms s = goes_on s
turn_from (Some i) prev t index site which ms s = turn_at (slice_get ms i) i prev t index site which ms s

turn-more : (o : Option ℕ) (i : ℕ) (prev : Eval) (t : Node) (index : ℕ) (site : Site) (which : AgentKind) (m : ℕ) (ms : List ℕ) (s : State) →
    turn_at o i prev t index site which ms s ≡ turn_at o (suc i) prev t index site which (m ∷ ms) s
turn-more None i prev t index site which m ms s = refl
turn-more (Some x) i prev t index site which m ms s =
    let same : suc (i + 1) ≡ suc i + 1 = omega arith in
    ap (λ n. taken prev t index site which x (drop n (m ∷ ms)) s) same

pub walk_turns : (prev : Eval) (t : Node) (index : ℕ) (site : Site) (which : AgentKind) (ms : List ℕ) (s : State) →
    walk prev t index site which ms s ≡ turn_from (first_of (rest_of s) which ms) prev t index site which ms s
walk_turns prev t index site which [] s = refl
walk_turns prev t index site which (m ∷ ms) s =
    by (lives (rest_of s) which m) (first_of (rest_of s) which ms) refl (walk_turns prev t index site which ms s)
  where
    later : (o : Option ℕ) → turn_from o prev t index site which ms s ≡ turn_from (option_map suc o) prev t index site which (m ∷ ms) s
    later None = refl
    later (Some i) = turn-more (slice_get ms i) i prev t index site which m ms s

    by : (here : Bool) (o : Option ℕ) → lives (rest_of s) which m ≡ here → walk prev t index site which ms s ≡ turn_from o prev t index site which ms s →
        walk prev t index site which (m ∷ ms) s ≡ turn_from (first_by here o) prev t index site which (m ∷ ms) s
    by true o is rest = ap (λ b. choose b (taken prev t index site which m ms s) (walk prev t index site which ms s)) is
    by false o is rest = ap (λ b. choose b (taken prev t index site which m ms s) (walk prev t index site which ms s)) is ∙ rest ∙ later o

-- the same by indices of the whole list
moved-some : (at i j : ℕ) → j ≡ at + i → (prev : Eval) (t : Node) (index : ℕ) (site : Site) (which : AgentKind) (ms : List ℕ) (s : State) →
    turn_from (Some i) prev t index site which (drop at ms) s ≡ turn_from (Some j) prev t index site which ms s
moved-some zero i j is prev t index site which ms s =
    let same : i ≡ j = omega (arith, is) in
    ap (λ k. turn_from (Some k) prev t index site which ms s) same
moved-some (suc at) i j is prev t index site which [] s = refl
moved-some (suc at) i zero is prev t index site which (m ∷ ms) s = absurd (omega (arith, is))
moved-some (suc at) i (suc j) is prev t index site which (m ∷ ms) s =
    moved-some at i j (omega (arith, is)) prev t index site which ms s ∙ turn-more (slice_get ms j) j prev t index site which m ms s

moved : (at : ℕ) (o : Option ℕ) (prev : Eval) (t : Node) (index : ℕ) (site : Site) (which : AgentKind) (ms : List ℕ) (s : State) →
    turn_from o prev t index site which (drop at ms) s ≡ turn_from (option_map (λ i. at + i) o) prev t index site which ms s
moved at None prev t index site which ms s = refl
moved at (Some i) prev t index site which ms s = moved-some at i (at + i) refl prev t index site which ms s

-- a walk from an index on begins at the first member there that lives
pub walk_from : (prev : Eval) (t : Node) (index : ℕ) (site : Site) (which : AgentKind) (ms : List ℕ) (at : ℕ) (s : State) (found : Option ℕ) →
    found ≡ option_map (λ i. at + i) (first_of (rest_of s) which (drop at ms)) →
    walk prev t index site which (drop at ms) s ≡ turn_from found prev t index site which ms s
walk_from prev t index site which ms at s found is =
    walk_turns prev t index site which (drop at ms) s
    ∙ moved at (first_of (rest_of s) which (drop at ms)) prev t index site which ms s
    ∙ ap (λ o. turn_from o prev t index site which ms s) (sym is)

-- ---- what comes of the first member from an index on that lives

module _ (prev : Eval) (t : Node) (index : ℕ) (site : Site) (which : AgentKind) (ms : List ℕ) (at : ℕ) (s : State) (found : Option ℕ)
    (is : found ≡ option_map (λ i. at + i) (first_of (rest_of s) which (drop at ms))) where
  begun : walk prev t index site which (drop at ms) s ≡ turn_from found prev t index site which ms s
  begun = walk_from prev t index site which ms at s found is

  pub none_lives : found ≡ None → walk prev t index site which (drop at ms) s ≡ goes_on s
  none_lives none = begun ∙ ap (λ o. turn_from o prev t index site which ms s) none

  pub no_member : (i : ℕ) → found ≡ Some i → slice_get ms i ≡ None → walk prev t index site which (drop at ms) s ≡ goes_on s
  no_member i one none =
      begun ∙ ap (λ o. turn_from o prev t index site which ms s) one
      ∙ ap (λ o. turn_at o i prev t index site which ms s) none

  pub turn_comes : (i m : ℕ) → found ≡ Some i → slice_get ms i ≡ Some m →
      walk prev t index site which (drop at ms) s ≡ taken prev t index site which m (drop (i + 1) ms) s
  turn_comes i m one some =
      begun ∙ ap (λ o. turn_from o prev t index site which ms s) one
      ∙ ap (λ o. turn_at o i prev t index site which ms s) some

  pub no_block : (i m : ℕ) → found ≡ Some i → slice_get ms i ≡ Some m → slice_get (parts t) index ≡ None →
      walk prev t index site which (drop at ms) s ≡ fails WrongType (span t) s
  no_block i m one some none =
      turn_comes i m one some
      ∙ ap (λ o. meant.found o WrongType (span t) s (λ block. spend (at_site (asked which m site) s) (λ s1.
      turn_over site (prev block s1) (λ s2. walk prev t index site which (drop (i + 1) ms) s2)))) none

  pub block_runs : (i m : ℕ) (b : Node) → found ≡ Some i → slice_get ms i ≡ Some m → slice_get (parts t) index ≡ Some b →
      walk prev t index site which (drop at ms) s
      ≡ spend (at_site (asked which m site) s) (λ s1. turn_over site (prev b s1) (λ s2. walk prev t index site which (drop (i + 1) ms) s2))
  block_runs i m b one some part =
      turn_comes i m one some
      ∙ ap (λ o. meant.found o WrongType (span t) s (λ block. spend (at_site (asked which m site) s) (λ s1.
      turn_over site (prev block s1) (λ s2. walk prev t index site which (drop (i + 1) ms) s2)))) part
