-- What is given of the answers, and what is left of the stream.
use Rattle.std.proofs.Common.{◌≡◌, ◌≤◌, ℕ, ℤ, pos, Bool, true, false, List, [], ◌∷◌, Option, map, filter, take, length, nat_lt, refl, ap, sym, ◌∙◌}
use Rattle.std.specs.Prelude.{int_lt}
use Rattle.std.proofs.lemmas.Bool.{le-ltb}
use Rattle.nl_fixed.specs.declared.span.Span.{Span}
use Rattle.nl_value.specs.Plain.{Plain, PlainItems, plains}
use Rattle.nl_value.specs.declared.sets.AgentKind.{AgentKind}
use Rattle.nl_draw.specs.Stream.{chosen, shuffled}
use Rattle.nl_draw.proofs.Shuffles.{shuffled-map}
use Rattle.nl_agents.specs.Members.{is_listed}
use Rattle.nl_agents.specs.Names.{living_of}
use Rattle.nl_agentset_query.specs.Agents.{agent_or_nobody, agent_value, listed_value}
use Rattle.nl_agentset_query.specs.Orders.{SameNumbers}
use Rattle.nl_birth.specs.Births as births
use Rattle.nl_exec_acts.specs.declared.fail.ErrorKind.TheVariants.{Domain, TooFew, WrongType}
use Rattle.nl_exec_meaning.specs.State.{State, choose, fails, gives, rest_of}
use Rattle.nl_exec_meaning.specs.Walks.{Answer, are_comparable, at_stream, extremes, first_extremes, in_order_of_numbers, in_order_of_values, is_number, members_kept, one_extreme, some_extremes, sorted_on}
use Rattle.nl_exec_meaning.specs.inner.Seen.{answered}
use Rattle.nl_exec_meaning.specs.declared.turns.Answered.{Answered}

given : (v w : Plain) (m n : ℕ) (s : State) → v ≡ w → m ≡ n → gives v (at_stream m s) ≡ gives w (at_stream n s)
given v w m n s e f = ap (λ x. gives x (at_stream m s)) e ∙ ap (λ k. gives w (at_stream k s)) f

-- one of the extremes, by the draw
pub extreme_given : (up : Bool) (which : AgentKind) (made : List Answer) (s : State) (members : List ℕ) (o : Option ℕ) (v : Plain) (n : ℕ)
    → members ≡ extremes up made → v ≡ agent_or_nobody which o → o ≡ (chosen members s.stage.stream).0 → n ≡ (chosen members s.stage.stream).1
    → gives v (at_stream n s) ≡ one_extreme up which made s
extreme_given up which made s members o v n are is choice after =
    let stream = s.stage.stream in
    given v (agent_or_nobody which (chosen (extremes up made) stream).0) n (chosen (extremes up made) stream).1 s
    (is ∙ ap (agent_or_nobody which) (choice ∙ ap (λ ms. (chosen ms stream).0) are))
    (after ∙ ap (λ ms. (chosen ms stream).1) are)

same_filter : (p q : ℕ → Bool) (xs : List ℕ) → ((x : ℕ) → p x ≡ q x) → filter p xs ≡ filter q xs
same_filter p q [] h = refl
same_filter p q (x ∷ xs) h = rw (h x, same_filter p q xs h) refl

abbrev firsts : Bool → ℕ → List Answer → List ℕ
firsts up count answers = members_kept (take count (in_order_of_numbers up answers))

-- the first so many of the members in a shuffled order
pub first_given : (up : Bool) (which : AgentKind) (count : ℕ) (list mixed : List Answered) (made : List Answer) (s : State) (n : ℕ) (members first kept : List ℕ) (v : Plain)
    → map answered list ≡ made → mixed ≡ (shuffled list s.stage.stream).0 → n ≡ (shuffled list s.stage.stream).1
    → SameNumbers (members_kept (take count (in_order_of_numbers up (map answered mixed)))) first
    → members ≡ members_kept made → kept ≡ filter (is_listed first) members → v ≡ listed_value which kept
    → gives v (at_stream n s) ≡ first_extremes up which count made s
first_given up which count list mixed made s n members first kept v are order after same all few is =
    given v (listed_value which (filter (is_listed (firsts up count (shuffled made s.stage.stream).0)) (members_kept made))) n (shuffled made s.stage.stream).1 s
    (is ∙ ap (listed_value which) (few ∙ ap (filter (is_listed first)) all ∙ same_filter (is_listed first) (is_listed (firsts up count (shuffled made s.stage.stream).0)) (members_kept made) listed))
    (sym (ap (λ (p : List Answer × ℕ). p.1) pairs))
  where
    pairs : shuffled made s.stage.stream ≡ (map answered mixed, n)
    pairs =
        ap (λ (xs : List Answer). shuffled xs s.stage.stream) (sym are)
        ∙ shuffled-map answered list s.stage.stream
        ∙ ap (λ (xs : List Answered). (map answered xs, (shuffled list s.stage.stream).1)) (sym order)
        ∙ ap (λ (k : ℕ). (map answered mixed, k)) (sym after)

    listed : (z : ℕ) → is_listed first z ≡ is_listed (firsts up count (shuffled made s.stage.stream).0) z
    listed z = same z ∙ ap (λ (p : List Answer × ℕ). is_listed (firsts up count p.0) z) (sym pairs)

-- there are enough members, and the number isn't below 0
pub enough_given : (up : Bool) (which : AgentKind) (number : ℤ) (made : List Answer) (place : Span) (s : State) (wanted : ℕ) → wanted ≡ births.count_of number
    → (many : ℕ) → many ≡ length (filter is_number made) → wanted ≤ many → (below : Bool) → below ≡ int_lt number (pos 0) → below ≡ false
    → first_extremes up which wanted made s ≡ some_extremes up which number made place s
enough_given up which number made place s wanted are many all enough below is above =
    let first = λ (n : ℕ). first_extremes up which n made s in
    let few : nat_lt (length (filter is_number made)) (births.count_of number) ≡ false =
    ap (λ (n : ℕ). nat_lt n (births.count_of number)) (sym all) ∙ ap (λ (n : ℕ). nat_lt many n) (sym are) ∙ le-ltb many wanted enough in
    let low : int_lt number (pos 0) ≡ false = sym is ∙ above in
    ap first are
    ∙ sym (ap (λ b. choose b (fails Domain place s) (first (births.count_of number))) low)
    ∙ sym (ap (λ b. choose b (fails TooFew place s) (choose (int_lt number (pos 0)) (fails Domain place s) (first (births.count_of number)))) few)

-- ---- members by their values

pub unordered : (which : AgentKind) (made : List Answer) (place : Span) (s : State) (b : Bool) → b ≡ are_comparable (living_of (rest_of s)) made → b ≡ false
    → fails WrongType place s ≡ sorted_on which made place s
unordered which made place s b is fails_test =
    sym (ap (λ (t : Bool). choose t (gives (PlainItems (plains (map (λ a. agent_value which a.member) (in_order_of_values (living_of (rest_of s)) which made)))) s) (fails WrongType place s)) (sym is ∙ fails_test))

pub ordered : (which : AgentKind) (made : List Answer) (place : Span) (s : State) (b : Bool) → b ≡ are_comparable (living_of (rest_of s)) made → b ≡ true
    → (agents : List Plain) → agents ≡ map (λ a. agent_value which a.member) (in_order_of_values (living_of (rest_of s)) which made)
    → gives (PlainItems (plains agents)) s ≡ sorted_on which made place s
ordered which made place s b is passes agents are =
    ap (λ (ps : List Plain). gives (PlainItems (plains ps)) s) are
    ∙ sym (ap (λ (t : Bool). choose t (gives (PlainItems (plains (map (λ a. agent_value which a.member) (in_order_of_values (living_of (rest_of s)) which made)))) s) (fails WrongType place s)) (sym is ∙ passes))
