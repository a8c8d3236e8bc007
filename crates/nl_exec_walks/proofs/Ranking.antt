-- Sorts of answers, as contracts see them.
use Rattle.std.proofs.Common.{◌≡◌, ◌<◌, ℕ, Bool, true, false, List, [], ◌∷◌, map, filter, length, take, get_or, refl, ap, sym, ◌∙◌, subst, arith}
use Rattle.std.specs.Prelude.{All}
use Rattle.std.specs.Ordering.{int_cmp, is_lt}
use Rattle.std.specs.Cmp.{IsStrictWeakOrder}
use Rattle.std.proofs.Math.ListN.{get_or-map}
use Rattle.std.proofs.lemmas.Cmp.{int_cmp_total}
use Rattle.std.proofs.lemmas.List.{length-map, take-map}
use Rattle.std.proofs.lemmas.List.Sorted.{ranks_by, IsStrictWeakOrder-flip}
use Rattle.nl_value.specs.Sorting.{inserted, sorted_by}
use Rattle.nl_value.specs.Living.{Living}
use Rattle.nl_value.specs.Order.{comes_first}
use Rattle.nl_value.specs.Plain.{Plain}
use Rattle.nl_value.specs.declared.sets.AgentKind.{AgentKind}
use Rattle.nl_value.specs.declared.sets.AgentKind.TheVariants as kind
use Rattle.nl_value.proofs.StableSorts.{sorted_by-map}
use Rattle.nl_agentset_query.specs.Agents.{agent_value}
use Rattle.nl_exec_meaning.specs.Walks.{Answer, members_kept, is_number, in_order_of_agents, in_order_of_numbers, in_order_of_values}
use Rattle.nl_exec_meaning.specs.inner.Seen.{answered}
use Rattle.nl_exec_meaning.specs.declared.turns.Answered.{Answered}
use Rattle.nl_exec_walks.specs.inner.Passes.{ranked, outranks, paired, placed_in_order}
use Rattle.nl_exec_walks.specs.declared.several.Ranked.{Ranked}
use Rattle.nl_exec_walks.proofs.Best.{int_less}

-- ---- tests that agree sort alike

module _ {X : Type 0} (p q : X → X → Bool) (same : (a b : X) → p a b ≡ q a b) where
  inserted_same : (x : X) (ys : List X) → inserted p x ys ≡ inserted q x ys
  inserted_same x [] = refl
  inserted_same x (y ∷ ys) = rw (same y x, inserted_same x ys) refl

  pub sorted_same : (xs : List X) → sorted_by p xs ≡ sorted_by q xs
  sorted_same [] = refl
  sorted_same (x ∷ xs) = rw (sorted_same xs) (inserted_same x (sorted_by q xs))

-- ---- by numbers

abbrev pub less : Ranked → Ranked → Bool
less a b = is_lt (int_cmp a.count b.count)

abbrev pub more : Ranked → Ranked → Bool
more a b = is_lt (int_cmp b.count a.count)

pub less_order : IsStrictWeakOrder less
less_order = ranks_by int_cmp_total (λ (r : Ranked). r.count)

pub more_order : IsStrictWeakOrder more
more_order = IsStrictWeakOrder-flip less less_order

pub more_is : (xs : List Ranked) → sorted_by more xs ≡ sorted_by (outranks true) xs
more_is xs = sorted_same more (outranks true) (λ a b. int_less b.count a.count) xs

pub less_is : (xs : List Ranked) → sorted_by less xs ≡ sorted_by (outranks false) xs
less_is xs = sorted_same less (outranks false) (λ a b. int_less a.count b.count) xs

members_of_ranked : (made : List Answer) → map (λ (r : Ranked). r.member) (map ranked made) ≡ members_kept made
members_of_ranked [] = refl
members_of_ranked (a ∷ made) = ap (λ ms. a.member ∷ ms) (members_of_ranked made)

-- the members of the first so many by their numbers
pub first_ranked : (up : Bool) (count : ℕ) (made : List Answer) (ranks sorted front : List Ranked) (members : List ℕ)
    → ranks ≡ map ranked (filter is_number made) → sorted ≡ sorted_by (outranks up) ranks → front ≡ take count sorted → members ≡ map (λ (r : Ranked). r.member) front
    → members ≡ members_kept (take count (in_order_of_numbers up made))
first_ranked up count made ranks sorted front members are in_order cut told =
    let by_ranks : sorted ≡ map ranked (in_order_of_numbers up made) =
    in_order ∙ ap (sorted_by (outranks up)) are ∙ sym (sorted_by-map ranked (outranks up) (filter is_number made)) in
    told
    ∙ ap (map (λ (r : Ranked). r.member)) (cut ∙ ap (take count) by_ranks ∙ take-map ranked count (in_order_of_numbers up made))
    ∙ members_of_ranked (take count (in_order_of_numbers up made))

-- ---- by values

agents_of_paired : (which : AgentKind) (made : List Answer) → map (λ (p : Plain × Plain). p.0) (map (paired which) made) ≡ map (λ (a : Answer). agent_value which a.member) made
agents_of_paired which [] = refl
agents_of_paired which (a ∷ made) = ap (λ ps. agent_value which a.member ∷ ps) (agents_of_paired which made)

paired_in_order : (w : Living) (which : AgentKind) (made : List Answer) → placed_in_order w which (map (paired which) made) ≡ map (paired which) (in_order_of_agents w which made)
paired_in_order w kind.Turtle made = refl
paired_in_order w kind.Patch made = refl
paired_in_order w kind.Link made = sym (sorted_by-map (paired kind.Link) (λ a b. comes_first w a.0 b.0) made)

pub agents_in_order : (w : Living) (which : AgentKind) (made : List Answer) (first second third : List (Plain × Plain)) (agents : List Plain)
    → first ≡ map (paired which) made → second ≡ placed_in_order w which first → third ≡ sorted_by (λ a b. comes_first w a.1 b.1) second
    → agents ≡ map (λ p. p.0) third → agents ≡ map (λ a. agent_value which a.member) (in_order_of_values w which made)
agents_in_order w which made first second third agents one two three told =
    let by_agents = in_order_of_agents w which made in
    let pairs : second ≡ map (paired which) by_agents = two ∙ ap (placed_in_order w which) one ∙ paired_in_order w which made in
    let by_values : third ≡ map (paired which) (in_order_of_values w which made) =
    three ∙ ap (sorted_by (λ a b. comes_first w a.1 b.1)) pairs ∙ sym (sorted_by-map (paired which) (λ a b. comes_first w a.1 b.1) by_agents) in
    told ∙ ap (map (λ p. p.0)) by_values ∙ agents_of_paired which (in_order_of_values w which made)

-- ---- a member of many

pub small_at : (xs : List Answered) (k : ℕ) (x : Answered) → All (λ n. n < 4294967296) (members_kept (map answered xs)) → k < length xs → x ≡ get_or xs k x → x.member < 4294967296
small_at xs k x all inside here =
    let low = all k x.member (omega (arith, inside, length-map xs answered, length-map (map answered xs) (λ (a : Answer). a.member))) in
    let at : get_or (members_kept (map answered xs)) k x.member ≡ x.member =
    get_or-map (λ (a : Answer). a.member) (map answered xs) k (answered x)
    ∙ ap (λ (a : Answer). a.member) (get_or-map answered xs k x)
    ∙ ap (λ (y : Answered). y.member) (sym here) in
    subst (λ n. n < 4294967296) at low
