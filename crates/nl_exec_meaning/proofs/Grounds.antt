-- What fits the world.
use Rattle.std.proofs.Common.{◌≡◌, ◌&&◌, ℕ, zero, suc, Bool, true, IsTrue, List, [], ◌∷◌, ◌++◌, Some, take, slice_get, slice_set, refl, ap, ◌∙◌, sym}
use Rattle.std.specs.List.{list_all}
use Rattle.std.proofs.lemmas.Bool.{and_parts}
use Rattle.nl_value.specs.Plain.{Plain, PlainItems, plains}
use Rattle.nl_value.proofs.Fitting.{values_fit-plains}
use Rattle.nl_agents.specs.World.{Rest}
use Rattle.nl_agents.specs.Standing.{fits_rest}
use Rattle.nl_agents.specs.declared.agents.Owner.{Owner}
use Rattle.nl_agents.specs.declared.agents.Owner.TheVariants as owner
use Rattle.nl_agentset_query.specs.Inputs.{inputs_fit}
use Rattle.nl_exec_acts.specs.Performing.{owner_fits}
use Rattle.nl_exec_meaning.specs.Standing.{FrameFits, HoldsNothing}
use Rattle.nl_exec_meaning.specs.declared.frames.Frame.{Frame}
use Rattle.nl_exec_meaning.specs.declared.frames.Frame.TheVariants as frame
use Rattle.nl_exec_meaning.specs.Ground.{Ground, ground_of, patch_in, set_in, fits, all_fit, agent_fits}

-- ---- the same of a world's lists

pub fits_is : (r : Rest) (value : Plain) → fits (ground_of r) value ≡ fits_rest r value
unfolding patch_in set_in
fits_is r value = refl

pub all_fit_is : (r : Rest) (values : List Plain) → all_fit (ground_of r) values ≡ inputs_fit r values
unfolding patch_in set_in
all_fit_is r values = refl

pub agent_fits_is : (r : Rest) (agent : Owner) → agent_fits (ground_of r) agent ≡ owner_fits r agent
unfolding patch_in
agent_fits_is r owner.Observer = refl
agent_fits_is r (owner.Turtle turtle) = refl
agent_fits_is r (owner.Patch patch) = refl
agent_fits_is r (owner.Link link) = refl

-- ---- lists as values

pub items_fit : (g : Ground) (values : List Plain) → IsTrue (all_fit g values) → IsTrue (fits g (PlainItems (plains values)))
items_fit g values all = values_fit-plains (patch_in g) (set_in g) values ∙ all

-- ---- lists of which all pass a test

pub pass_push : {A : Type 0} (test : A → Bool) (xs : List A) (x : A) → IsTrue (list_all test xs) → IsTrue (test x) → IsTrue (list_all test (xs ++ x ∷ []))
pass_push test [] x all one = ap (λ b. b && true) one
pass_push test (y ∷ xs) x all one =
    let both = and_parts (test y) (list_all test xs) all in
    ap (λ b. b && list_all test (xs ++ x ∷ [])) both.0 ∙ pass_push test xs x both.1 one

pub pass_take : {A : Type 0} (test : A → Bool) (n : ℕ) (xs : List A) → IsTrue (list_all test xs) → IsTrue (list_all test (take n xs))
pass_take test zero xs all = refl
pass_take test (suc n) [] all = refl
pass_take test (suc n) (x ∷ xs) all =
    let both = and_parts (test x) (list_all test xs) all in
    ap (λ b. b && list_all test (take n xs)) both.0 ∙ pass_take test n xs both.1

pub pass_set : {A : Type 0} (test : A → Bool) (xs : List A) (i : ℕ) (x : A) → IsTrue (list_all test xs) → IsTrue (test x) → IsTrue (list_all test (slice_set xs i x))
pass_set test [] i x all one = refl
pass_set test (y ∷ xs) zero x all one =
    let both = and_parts (test y) (list_all test xs) all in
    ap (λ b. b && list_all test xs) one ∙ both.1
pass_set test (y ∷ xs) (suc i) x all one =
    let both = and_parts (test y) (list_all test xs) all in
    ap (λ b. b && list_all test (slice_set xs i x)) both.0 ∙ pass_set test xs i x both.1 one

pub pass_get : {A : Type 0} (test : A → Bool) (xs : List A) (i : ℕ) (x : A) → IsTrue (list_all test xs) → slice_get xs i ≡ Some x → IsTrue (test x)
pass_get test [] i x all is = absurd (cc)
pass_get test (y ∷ xs) zero x all is = let same : y ≡ x = cc in ap test (sym same) ∙ (and_parts (test y) (list_all test xs) all).0
pass_get test (y ∷ xs) (suc i) x all is = pass_get test xs i x (and_parts (test y) (list_all test xs) all).1 is

-- ---- frames without values

pub plain_fits : (g : Ground) (f : Frame) → HoldsNothing f → FrameFits g f
plain_fits g (frame.Part node at made) none = absurd none
plain_fits g (frame.Step node turtle by left rest way) none = absurd none
plain_fits g (frame.Body node reporter saved site) none = absurd none
plain_fits g (frame.Inside node) none = tt
plain_fits g (frame.Negated node) none = tt
plain_fits g (frame.Statement node at kept) none = tt
plain_fits g (frame.TextStatement node at stopped) none = tt
plain_fits g (frame.LetValue node id) none = tt
plain_fits g (frame.SetValue node variable) none = tt
plain_fits g (frame.ReportValue node) none = tt
plain_fits g (frame.AndLeft node) none = tt
plain_fits g (frame.OrLeft node) none = tt
plain_fits g (frame.RightSide node) none = tt
plain_fits g (frame.IfTest node) none = tt
plain_fits g (frame.EitherTest node at valued) none = tt
plain_fits g (frame.RepeatCount node) none = tt
plain_fits g (frame.RepeatTurn node left) none = tt
plain_fits g (frame.WhileTest node) none = tt
plain_fits g (frame.WhileTurn node) none = tt
plain_fits g (frame.LoopTurn node) none = tt
plain_fits g (frame.Distance node runs back) none = tt
plain_fits g (frame.Share node runs slot four) none = tt
plain_fits g (frame.SomeSet node word up number) none = absurd none
plain_fits g (frame.ArrowInput node word at made) none = absurd none
plain_fits g (frame.RoundWanted node index word rounds) none = absurd none
plain_fits g (frame.Round node index word kept rounds) none = absurd none
plain_fits g (frame.Asked node index turns) none = absurd none
plain_fits g (frame.Answering node index word member turns made what) none = absurd none
plain_fits g (frame.MakingInput node word breed runs) none = absurd none
plain_fits g (frame.AskWho node) none = tt
plain_fits g (frame.SetWho node word index) none = tt
plain_fits g (frame.SomeNumber node word up) none = tt
plain_fits g (frame.OfWho node) none = tt
