-- Choices among items and members, and what they leave of the stream.
use Rattle.std.specs.Prelude.{◌≡◌, ℕ, zero, suc, ◌<◌, ◌≤◌, ◌+◌, List, [], length, map, filter, slice_get, All, Contains, Option, Some, None, MatchOption, IfSome, Ok, Err, refl}
use Rattle.std.proofs.Common.{ap, sym, ◌∙◌, get_or, arith}
use Rattle.std.specs.List.{range_with_len}
use Rattle.std.specs.List.Sorted.{IsStrictlyIncreasing}
use Rattle.std.proofs.Math.ListN.{get_or-map}
use Rattle.std.proofs.lemmas.List.{length-map}
use Rattle.std.proofs.lemmas.List.Elements.{All-filter, All-contains}
use Rattle.std.proofs.lemmas.List.FromFn.{length-range_with_len, get_or-range_with_len}
use Rattle.std.proofs.lemmas.List.Kept.{IsStrictlyIncreasing-filter}
use Rattle.nl_value.specs.Plain.{Plain}
use Rattle.nl_value.specs.Sets.{set_kind}
use Rattle.nl_value.specs.Views.{plain}
use Rattle.nl_value.specs.declared.sets.AgentKind.{AgentKind}
use Rattle.nl_value.specs.declared.sets.AgentKind.TheVariants as kind
use Rattle.nl_value.specs.declared.sets.AgentSet.{AgentSet}
use Rattle.nl_value.specs.declared.values.Value.{Value}
use Rattle.nl_draw.specs.Stream.{drawn, chosen, chosen_index}
use Rattle.nl_draw.proofs.Shuffles.{chosen-none, chosen-some, chosen-after, chosen_index-none, chosen_index-some}
use Rattle.nl_grid.specs.Geometry.{patches_of}
use Rattle.nl_agents.proofs.Ascending.{range_ascends}
use Rattle.nl_agents.specs.World.{World}
use Rattle.nl_agents.specs.Members.{members_of, is_listed}
use Rattle.nl_agents.specs.Standing.{IsWorld}
use Rattle.nl_agentset_query.specs.Choices.{item_or_few, places_drawn, kept_from, some_of}
use Rattle.nl_agentset_query.specs.declared.fail.QueryFail.TheVariants.{TooFew}
use Rattle.nl_agentset_query.proofs.Inside.{patch_members}
use Rattle.nl_agentset_query.specs.Laws.{AreAtPlaces}
use Rattle.nl_agentset_query.specs.Orders.{SameNumbers}
use Rattle.nl_agentset_query.proofs.Counted.{drawn_many, all_drawn}
use Rattle.nl_agentset_query.proofs.Places.{kept_same, kept_at, kept_long, kept_all, kept_ascends}

-- ---- one

-- no index among none, and the stream stays
pub none_stays : (n state after : ℕ) (answer : Option ℕ) → answer ≡ None → answer ≡ (chosen_index n state).0 → after ≡ (chosen_index n state).1 → after ≡ state
none_stays zero state after answer none is now = now ∙ ap (λ (c : Option ℕ × ℕ). c.1) (chosen_index-none zero state refl)
none_stays (suc n) state after answer none is now =
    let some : answer ≡ Some (drawn (suc n) state).0 = is ∙ ap (λ (c : Option ℕ × ℕ). c.0) (chosen_index-some (suc n) state (omega arith)) in
    let wrong : None ≡ Some (drawn (suc n) state).0 = sym none ∙ some in
    cc

same_index : (items : List Plain) (values : List Value) (state : ℕ) → map plain values ≡ items → chosen_index (length values) state ≡ chosen_index (length items) state
same_index items values state are = ap (λ n. chosen_index n state) (sym (length-map values plain) ∙ ap length are)

-- no item of none
pub no_item : (items : List Plain) (values : List Value) (state : ℕ) (answer : Option ℕ) → map plain values ≡ items → answer ≡ None → answer ≡ (chosen_index (length values) state).0
    → item_or_few (chosen items state) ≡ Err TooFew
no_item items values state answer are none is =
    by (chosen items state) (chosen-none items state answer none (is ∙ ap (λ (c : Option ℕ × ℕ). c.0) (same_index items values state are)))
  where
    by : (c : Option Plain × ℕ) → None ≡ c.0 → item_or_few c ≡ Err TooFew
    by (None, s) known = refl
    by (Some x, s) known = cc

pub mapped_at : (values : List Value) (i : ℕ) (v : Value) → v ≡ get_or values i v → plain v ≡ get_or (map plain values) i (plain v)
mapped_at values i v at = ap plain at ∙ sym (get_or-map plain values i v)

-- the item at the index that was chosen
pub one_item : (items : List Plain) (values : List Value) (state i after : ℕ) (answer : Option ℕ) (v w : Value) → map plain values ≡ items → answer ≡ Some i
    → answer ≡ (chosen_index (length values) state).0 → after ≡ (chosen_index (length values) state).1 → i < length values → v ≡ get_or values i v → plain w ≡ plain v
    → item_or_few (chosen items state) ≡ Ok (plain w, after)
one_item items values state i after answer v w are some is now inside at again =
    by (chosen items state)
    (ap Some again ∙ chosen-some items state i answer (plain v) some (is ∙ ap (λ (c : Option ℕ × ℕ). c.0) same) (omega (arith, inside, long)) here)
    (chosen-after items state after (now ∙ ap (λ (c : Option ℕ × ℕ). c.1) same))
  where
    same : chosen_index (length values) state ≡ chosen_index (length items) state
    same = same_index items values state are

    long : length items ≡ length values
    long = sym (ap length are) ∙ length-map values plain

    here : plain v ≡ get_or items i (plain v)
    here = mapped_at values i v at ∙ ap (λ l. get_or l i (plain v)) are

    by : (c : Option Plain × ℕ) → Some (plain w) ≡ c.0 → after ≡ c.1 → item_or_few c ≡ Ok (plain w, after)
    by (None, s) one two = cc
    by (Some x, s) one two =
        let first : plain w ≡ x = cc in
        ap (λ y. Ok (y, s)) (sym first) ∙ ap (λ y. Ok (plain w, y)) (sym two)

-- a patch's number is small
pub member_small : (w : World) (agents : AgentSet) (which : AgentKind) (o : Option ℕ) → IsWorld w → which ≡ set_kind agents
    → MatchOption o (members_of w.rest agents ≡ []) (Contains (members_of w.rest agents)) → which ≡ kind.Patch → IfSome o (λ n. n < 4294967296)
member_small w agents which None world is among patch = tt
member_small w agents which (Some number) world is among patch =
    let below = All-contains (λ n. n < patches_of w.rest.shape) (members_of w.rest agents) number (patch_members w.rest agents (sym is ∙ patch)) among in
    omega (arith, below, world.shape.few)

-- ---- several

-- what is kept at places with the same numbers as those drawn is what is drawn
pub some_is : {X : Type 0} (wanted : ℕ) (xs : List X) (state many : ℕ) (places : List ℕ) → many ≡ length xs → SameNumbers (places_drawn wanted many state).0 places
    → kept_from 0 places xs ≡ (some_of wanted xs state).0
some_is wanted xs state many places long same =
    kept_same (places_drawn wanted many state).0 places same 0 xs ∙ ap (λ n. kept_from 0 (places_drawn wanted n state).0 xs) long

pub state_is : {X : Type 0} (wanted : ℕ) (xs : List X) (state many after : ℕ) → many ≡ length xs → after ≡ (places_drawn wanted many state).1 → after ≡ (some_of wanted xs state).1
state_is wanted xs state many after long is = is ∙ ap (λ n. (places_drawn wanted n state).1) long

-- ---- the laws

range_below : (n : ℕ) → All (λ place. place < n) (range_with_len 0 n)
range_below n k z inside = omega (arith, get_or-range_with_len 0 n k z (omega (arith, inside, length-range_with_len 0 n)), inside, length-range_with_len 0 n)

pub some_at_places : {X : Type 0} (wanted : ℕ) (xs : List X) (state : ℕ) → AreAtPlaces xs (some_of wanted xs state).0
some_at_places wanted xs state =
    let drawn = (places_drawn wanted (length xs) state).0 in
    let all = range_with_len 0 (length xs) in
    record {
      places = filter (is_listed drawn) all;
      ascend = IsStrictlyIncreasing-filter (is_listed drawn) all (range_ascends 0 (length xs));
      inside = All-filter (is_listed drawn) (λ place. place < length xs) all (range_below (length xs));
      are = kept_at drawn 0 xs (slice_get xs) (λ k inside. let same : 0 + k ≡ k = omega arith in ap (slice_get xs) same);
    }

pub some_many : {X : Type 0} (wanted : ℕ) (xs : List X) (state : ℕ) → wanted ≤ length xs → length (some_of wanted xs state).0 ≡ wanted
some_many wanted xs state few = kept_long (places_drawn wanted (length xs) state).0 0 xs ∙ drawn_many wanted (length xs) state few

pub all_kept : {X : Type 0} (wanted : ℕ) (xs : List X) (state : ℕ) → length xs ≤ wanted → (some_of wanted xs state).0 ≡ xs
all_kept wanted xs state many = kept_all (places_drawn wanted (length xs) state).0 0 xs (λ k inside. let same : 0 + k ≡ k = omega arith in ap (is_listed (places_drawn wanted (length xs) state).0) same ∙ all_drawn wanted (length xs) state many k inside)

pub some_ascend : (wanted : ℕ) (members : List ℕ) (state : ℕ) → IsStrictlyIncreasing members → IsStrictlyIncreasing (some_of wanted members state).0
some_ascend wanted members state up = kept_ascends (places_drawn wanted (length members) state).0 0 members up
