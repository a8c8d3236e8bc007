-- What stands behind a move, and behind draws that are taken back.
use Rattle.std.proofs.Common.{◌≡◌, ℕ, List, [], ◌∷◌, drop, length, None, Result, Ok, Err, ap, ◌∙◌, sym, arith}
use Rattle.nl_fixed.specs.Nouns.{Names}
use Rattle.nl_value.specs.Plain.{Plain}
use Rattle.nl_value.specs.Views.{plain}
use Rattle.nl_value.specs.declared.values.Value.{Value}
use Rattle.nl_tree.specs.Tree.{Node}
use Rattle.nl_agents.specs.declared.store.Store.{Ghosts}
use Rattle.nl_exec_acts.specs.declared.words.Act.TheVariants as act
use Rattle.nl_exec_acts.specs.declared.words.Move.{Move}
use Rattle.nl_exec_acts.specs.declared.fail.ActFail.{ActFail}
use Rattle.nl_exec_acts.specs.Acts.{move_told}
use Rattle.nl_exec_acts.specs.Performing.{Performs}
use Rattle.nl_exec_acts.specs.Stage.{Scene, scene, stage_of}
use Rattle.nl_exec_meaning.proofs.Ground.{performed_ground}
use Rattle.nl_exec_meaning.specs.State.{State}
use Rattle.nl_exec_meaning.specs.Walks.{at_stream}
use Rattle.nl_exec_meaning.specs.Means.{Stands}
use Rattle.nl_exec_meaning.specs.Seen.{state_of}
use Rattle.nl_exec_meaning.specs.Standing.{HandsFit}
use Rattle.nl_exec_meaning.specs.declared.hands.Hands.{Hands}
use Rattle.nl_exec_meaning.proofs.Standing.{ground_same, stands_on}
use Rattle.nl_exec_short.specs.Had.{OnlyDraws}
use Rattle.nl_exec_short.proofs.Drawing.{drawn_stands}
use Rattle.nl_exec_at_once.specs.AtOnce.{IsAsBefore}

-- what the hands have of a run
abbrev scene_seen : {S : Type 0} {G : Ghosts S} → Hands S G → Scene
scene_seen {G = g} h = scene (g.world h.stage.store) h.stage.ticks h.stage.stream

-- what is held stands, whether the move was made or not
pub moved_stands : {S : Type 0} {G : Ghosts S} (after before : Hands S G) (which : Move) (inputs : List Plain) (result : Result Value ActFail) →
    Performs result (scene_seen before) (scene_seen after) (move_told which before.site.agent inputs (stage_of (scene_seen before))) →
    after.locals ≡ before.locals → after.site ≡ before.site → HandsFit before → Stands after before
moved_stands after before which inputs (Ok value) does-it locals site fit =
    let now = scene_seen after in
    let was = scene_seen before in
    let same = performed_ground (act.Move which) None before.site.agent before.site.asker inputs (stage_of was) (plain value, stage_of now) does-it.answer in
    stands_on after before (rw locals fit.locals) (rw site fit.site) (ground_same now.world.rest was.world.rest same)
moved_stands after before which inputs (Err why) does-it locals site fit = drawn_stands after before (ap (λ (s : Scene). s.world) does-it.stays) locals site fit

-- where nothing more is changed, only draws were made
pub draws_before : {S : Type 0} {G : Ghosts S} (after between before : Hands S G) → IsAsBefore after between → OnlyDraws between before → OnlyDraws after before
draws_before after between before same draws names n =
    same names n ∙ draws names n
    ∙ ap (λ stream. at_stream stream (state_of names before n)) (sym (ap (λ (s : State). s.stage.stream) (same names n)))

-- where the stream is put back, all is as it was before the draws
pub put_back : {S : Type 0} {G : Ghosts S} (now drawn before : Hands S G) (stream : ℕ) → now ≡ drawn → OnlyDraws drawn before → stream ≡ before.stage.stream →
    (names : Names) (n : ℕ) → at_stream stream (state_of names now n) ≡ state_of names before n
put_back now drawn before stream is draws same names n =
    ap (λ h. at_stream stream (state_of names h n)) is
    ∙ ap (λ to. at_stream to (state_of names drawn n)) same
    ∙ ap (at_stream before.stage.stream) (draws names n)

-- ---- parts

pub only_part : (ts : List Node) (x : Node) → length ts ≡ 1 → drop 0 ts ≡ x ∷ drop 1 ts → ts ≡ x ∷ []
only_part [] x one first = absurd (omega (arith, one))
only_part (t ∷ []) x one first = first
only_part (t ∷ u ∷ us) x one first = absurd (omega (arith, one))

pub both_parts : (ts : List Node) (x y : Node) → length ts ≡ 2 → drop 0 ts ≡ x ∷ drop 1 ts → drop 1 ts ≡ y ∷ drop 2 ts → ts ≡ x ∷ y ∷ []
both_parts [] x y two first second = absurd (omega (arith, two))
both_parts (t ∷ []) x y two first second = absurd (omega (arith, two))
both_parts (t ∷ u ∷ []) x y two first second = first ∙ ap (λ rest. x ∷ rest) second
both_parts (t ∷ u ∷ v ∷ vs) x y two first second = absurd (omega (arith, two))
