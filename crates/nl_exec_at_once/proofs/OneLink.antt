-- A word that makes links with the turtles of a set, of which there is one.
use Rattle.std.proofs.Common.{◌≡◌, ℕ, false, List, [], ◌∷◌, None, slice_get, ap, ◌∙◌, sym}
use Rattle.nl_fixed.specs.Nouns.{Names}
use Rattle.nl_words.specs.declared.entry.Kinds.{Kinds}
use Rattle.nl_value.specs.Nouns.{Serials}
use Rattle.nl_value.specs.Plain.{Plain, PlainSet}
use Rattle.nl_value.specs.Living.{same_kind}
use Rattle.nl_value.specs.Sets.{set_kind}
use Rattle.nl_value.specs.declared.sets.AgentKind.{AgentKind}
use Rattle.nl_value.specs.declared.sets.AgentKind.TheVariants as kind
use Rattle.nl_value.specs.declared.sets.AgentSet.{AgentSet}
use Rattle.nl_tree.specs.Tree.{Node, parts, span}
use Rattle.nl_agents.specs.World.{World}
use Rattle.nl_agents.specs.Members.{members_of}
use Rattle.nl_agents.specs.declared.agents.Owner.{Owner}
use Rattle.nl_agents.specs.declared.agents.Owner.TheVariants as owner
use Rattle.nl_agents.specs.declared.store.Store.{Ghosts}
use Rattle.nl_birth.specs.Keeping.{Keeps}
use Rattle.nl_birth.specs.Links.{linked}
use Rattle.nl_birth.specs.Outcomes.{IsMade, Made}
use Rattle.nl_birth.specs.declared.way.Way.{Way}
use Rattle.nl_exec_acts.specs.Acts.{turtle_in}
use Rattle.nl_exec_acts.specs.Stage.{bare}
use Rattle.nl_exec_acts.specs.declared.fail.ErrorKind.TheVariants.{WrongType}
use Rattle.nl_exec_meaning.specs.declared.words.Making.TheVariants as making
use Rattle.nl_exec_meaning.specs.State.{State, Outcome, Eval, come_to, found, gives, goes_on, rest_of, with_stage, with_world, ◌>>=◌}
use Rattle.nl_exec_meaning.specs.Running.{staying}
use Rattle.nl_exec_meaning.specs.Makings.{after_world, linked_by, made_by, made_of, making_case, run_by_new, targets_in, turtles_or_wrong}
use Rattle.nl_exec_meaning.specs.Seen.{state_of}
use Rattle.nl_exec_meaning.specs.declared.hands.Hands.{Hands}
use Rattle.nl_exec_walks.proofs.Births.{bare_world, keeps_globals, linked_bare, mapped}

-- what is left where the links are made
links_left : (prev : Eval) (t x : Node) (runs : Kinds) (way : Way) (s : State) (caller target : ℕ) (set : AgentSet) (w : World) (made : Serials) →
    parts t ≡ x ∷ [] → prev x s ≡ gives (PlainSet set) s → ((next : Outcome) → staying runs s next ≡ next) →
    s.site.agent ≡ owner.Turtle caller → set_kind set ≡ kind.Turtle → members_of (rest_of s) set ≡ target ∷ [] →
    linked way 0 caller (target ∷ []) (bare (rest_of s)) ≡ Made made w →
    making_case (making.Link way false) None runs prev t s ≡ goes_on (with_stage (after_world w s.stage) s)
links_left prev t x runs way s caller target set w made are had stays turtle kind_is members is =
    let after : Serials → State → Outcome = λ ms s1. run_by_new prev t 1 kind.Link ms (slice_get (parts t) 1) s1 in
    let rest : Plain → State → Outcome = λ value s1. staying runs s1 (made_of (making.Link way false) None value (span t) s1 after) in
    let by_targets : ℕ → Serials → Outcome = λ n ts. made_by (linked way 0 n ts (bare (rest_of s))) after_world (span t) s after in
    let by_caller : ℕ → Outcome = λ n. come_to (targets_in (rest_of s) false (PlainSet set)) (span t) s (by_targets n) in
    ap (λ (ps : List Node). found (slice_get ps 0) WrongType (span t) s (λ part. prev part s >>= rest)) are
    ∙ ap (λ (o : Outcome). o >>= rest) had
    ∙ stays (linked_by way false None (PlainSet set) (span t) s after)
    ∙ ap (λ (agent : Owner). come_to (turtle_in agent) (span t) s by_caller) turtle
    ∙ ap (λ (k : AgentKind). come_to (turtles_or_wrong (same_kind k kind.Turtle) (members_of (rest_of s) set)) (span t) s (by_targets caller)) kind_is
    ∙ ap (by_targets caller) members
    ∙ ap (λ o. made_by o after_world (span t) s after) is
    ∙ ap (λ (ps : List Node). run_by_new prev t 1 kind.Link made (slice_get ps 1) (with_stage (after_world w s.stage) s)) are

-- where a link with the only other turtle is made, the word goes on
pub link_goes_on : {S : Type 0} {G : Ghosts S} (before : Hands S G) (v : World) (after : State) (names : Names) (n : ℕ) (prev : Eval) (t x : Node) (runs : Kinds) (way : Way) (caller target : ℕ) (set : AgentSet) →
    parts t ≡ x ∷ [] → prev x (state_of names before n) ≡ gives (PlainSet set) (state_of names before n) →
    ((next : Outcome) → staying runs (state_of names before n) next ≡ next) →
    before.site.agent ≡ owner.Turtle caller → set_kind set ≡ kind.Turtle → members_of (G.world before.stage.store).rest set ≡ target ∷ [] →
    IsMade (linked way 0 caller (target ∷ []) (G.world before.stage.store)) v → Keeps (G.world before.stage.store) v →
    after ≡ with_world v (state_of names before n) →
    making_case (making.Link way false) None runs prev t (state_of names before n) ≡ goes_on after
link_goes_on {G = g} before v after names n prev t x runs way caller target set are had stays turtle kind_is members done keeps leaves =
    let w = g.world before.stage.store in
    let s = state_of names before n in
    let s1 : State = with_stage (after_world (bare_world v) s.stage) s in
    links_left prev t x runs way s caller target set (bare_world v) done.0 are had stays turtle kind_is members
    (sym (linked_bare way 0 caller (target ∷ []) w) ∙ ap (mapped bare_world) done.1)
    ∙ ap (λ (gs : List Plain). goes_on (record s1 { globals = gs })) (sym (keeps_globals w v keeps))
    ∙ ap goes_on (sym leaves)
