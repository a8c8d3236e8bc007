-- The next turn comes, or none is left.
use Rattle.std.proofs.Common.{rules, length, ◌≡◌, ◌+◌, ◌<◌, ◌∷◌, ◌++◌, ℕ, List, Some, drop, get_or, slice_get, ap, ◌∙◌, sym, subst}
use Rattle.std.specs.Option.{option_map}
use Rattle.nl_fixed.specs.declared.span.Span.{Span}
use Rattle.nl_exec_acts.specs.declared.fail.ErrorKind.TheVariants.{WrongType}
use Rattle.nl_tree.specs.Tree.{span}
use Rattle.nl_exec_meaning.specs.Code.{node_at}
use Rattle.nl_exec_meaning.specs.State.{fails, spend}
use Rattle.nl_exec_meaning.specs.Walks.{Answer, members_kept}
use Rattle.nl_exec_meaning.specs.Frames.{finished, gathered_from, resumed}
use Rattle.nl_exec_meaning.specs.Ground.{Ground}
use Rattle.nl_exec_meaning.specs.Standing.{AnsweringFits, MembersAscend, MembersFit, TurnsFit}
use Rattle.nl_exec_meaning.specs.Seen.{ended, ground, state_of}
use Rattle.nl_exec_meaning.specs.declared.exits.Exit.{Exit}
use Rattle.nl_exec_meaning.specs.declared.frames.Frame.TheVariants as frame
use Rattle.nl_exec_meaning.specs.declared.turns.Turns.{Turns}
use Rattle.nl_exec_walks.specs.Turning.{first_of}
use Rattle.nl_exec_walks.proofs.Collecting.{members_ascend_on, place_below}
use Rattle.nl_exec_walks.proofs.Fitting.{ascend_front, members_one, members_push}
use Rattle.nl_exec_walks.proofs.Turning.{all_answered, no_block, place_read, turn_wanted}
use Rattle.nl_exec_walks.proofs.answering.next_answer.Goals as goal

pub finish-requires-clause-ascend : goal.finish-requires-clause-ascend
finish-requires-clause-ascend g c =
    subst (λ (told : List Answer). MembersAscend c.args.gathered (members_kept told)) (sym c.into_answers-made.ensures)
    (ascend_front c.args.gathered (members_kept c.args.made) (drop c.args.turns.at c.args.turns.members) c.requires.ascend)

pub finish-requires-clause-members : goal.finish-requires-clause-members
finish-requires-clause-members g c =
    let now = ground c.args.hands.now in
    let all = subst (λ (x : Turns). MembersFit now x.which (members_kept c.args.made)) (sym c.get-all.ensures) c.requires.members in
    subst (λ (told : List Answer). MembersFit now c.get-all.result.now.which (members_kept told)) (sym c.into_answers-made.ensures) all

pub returns-in_default-clause-meaning : goal.returns-in_default-clause-meaning
returns-in_default-clause-meaning g c = λ prev units thrifty.
    let code = c.args.code.now in
    let turns = c.get-all.result.now in
    let r = (g.S.Store.world c.args.hands.now.stage.store).rest in
    let s = state_of code.names c.args.hands.now units in
    c.in_ok-exit.ensures.meaning units
    ∙ ap (λ (told : List Answer). finished c.args.gathered turns.which (span (node_at code c.args.node)) told s) c.into_answers-made.ensures
    ∙ all_answered code prev c.args.node c.args.index c.args.word c.args.gathered turns c.args.made (state_of code.names c.args.hands.now units) c.first_living.result
    c.in_default.is (c.first_living.ensures ∙ ap (λ (ms : List ℕ). option_map (λ i. turns.at + i) (first_of r turns.which (drop turns.at ms))) c.as_slice-members.ensures)
    ∙ ap (λ (x : Turns). gathered_from prev (node_at code c.args.node) c.args.index c.args.word c.args.gathered x c.args.made s) c.get-all.ensures

pub bounds-members-at : goal.bounds-members-at
bounds-members-at g c =
    place_below (g.S.Store.world c.args.hands.now.stage.store).rest c.get-all.result.now.which c.as_slice-members.result.now c.get-all.result.now.at c.in-Some.at c.first_living.result c.in-Some.is c.first_living.ensures

pub offset_bounds-members-at : goal.offset_bounds-members-at
offset_bounds-members-at g c =
    let inside : c.in-Some.at < length c.as_slice-members.result.now = place_below (g.S.Store.world c.args.hands.now.stage.store).rest c.get-all.result.now.which c.as_slice-members.result.now c.get-all.result.now.at c.in-Some.at c.first_living.result c.in-Some.is c.first_living.ensures in
    search rules

pub returns-in_default-part-clause-meaning : goal.returns-in_default-part-clause-meaning
returns-in_default-part-clause-meaning g c = λ prev units thrifty.
    let code = c.args.code.now in
    let turns = c.get-all.result.now in
    let r = (g.S.Store.world c.args.hands.now.stage.store).rest in
    let s = state_of code.names c.args.hands.now units in
    let ms = c.as_slice-members.result.now in
    let member = get_or ms c.in-Some.at 0 in
    let there : slice_get turns.members c.in-Some.at ≡ Some member =
    ap (λ (l : List ℕ). slice_get l c.in-Some.at) (sym c.as_slice-members.ensures) ∙ place_read ms c.in-Some.at (place_below r turns.which ms turns.at c.in-Some.at c.first_living.result c.in-Some.is c.first_living.ensures) in
    ap (λ (e : Exit). ended e s) c.fault.ensures
    ∙ ap (λ (p : Span). fails WrongType p s) c.span.ensures
    ∙ no_block code prev c.args.node c.args.index c.args.word c.args.gathered turns c.args.made s c.in-Some.at member c.first_living.result
    c.in-Some.is (c.first_living.ensures ∙ ap (λ (l : List ℕ). option_map (λ i. turns.at + i) (first_of r turns.which (drop turns.at l))) c.as_slice-members.ensures) there c.in_default-part.ensures.value
    ∙ ap (λ (x : Turns). gathered_from prev (node_at code c.args.node) c.args.index c.args.word c.args.gathered x c.args.made s) c.get-all.ensures

pub agent_of-agent-requires : goal.agent_of-agent-requires
agent_of-agent-requires g c =
    let turns = c.get-all.result.now in
    let ms = c.as_slice-members.result.now in
    let place = c.in-Some.at in
    let inside = place_below (g.S.Store.world c.args.hands.now.stage.store).rest turns.which ms turns.at place c.first_living.result c.in-Some.is c.first_living.ensures in
    let held = subst (λ (x : Turns). TurnsFit (ground c.args.hands.now) x) (sym c.get-all.ensures) c.requires.turns in
    members_one (ground c.args.hands.now) turns.which turns.members place (get_or ms place 0) held.members
    (ap (λ (l : List ℕ). slice_get l place) (sym c.as_slice-members.ensures) ∙ place_read ms place inside)

pub overflow_add-at : goal.overflow_add-at
overflow_add-at g c =
    let inside : c.in-Some.at < length c.as_slice-members.result.now = place_below (g.S.Store.world c.args.hands.now.stage.store).rest c.get-all.result.now.which c.as_slice-members.result.now c.get-all.result.now.at c.in-Some.at c.first_living.result c.in-Some.is c.first_living.ensures in
    search rules

pub returns-clause-meaning : goal.returns-clause-meaning
returns-clause-meaning g c = λ prev units thrifty.
    let code = c.args.code.now in
    let turns = c.get-all.result.now in
    let r = (g.S.Store.world c.args.hands.now.stage.store).rest in
    let ms = c.as_slice-members.result.now in
    let place = c.in-Some.at in
    let member = get_or ms place 0 in
    let there : slice_get turns.members place ≡ Some member =
    ap (λ (l : List ℕ). slice_get l place) (sym c.as_slice-members.ensures) ∙ place_read ms place (place_below r turns.which ms turns.at place c.first_living.result c.in-Some.is c.first_living.ensures) in
    let s = state_of code.names c.args.hands.now units in
    let block = node_at code c.in-Some-part.block in
    let moved : c.go_to.new.self ≡ record turns { at = place + 1 } = c.go_to.ensures ∙ ap (λ (x : Turns). record x { at = place + 1 }) (sym c.get-all.ensures) in
    let first = c.first_living.ensures ∙ ap (λ (l : List ℕ). option_map (λ i. turns.at + i) (first_of r turns.which (drop turns.at l))) c.as_slice-members.ensures in
    ap (λ (x : Turns). spend (state_of code.names c.run_as.new.hands units) (λ s1. resumed code prev (frame.Answering c.args.node c.args.index c.args.word member x c.args.made c.args.gathered) (prev block s1))) moved
    ∙ turn_wanted code prev c.args.node c.args.index c.args.word c.args.gathered turns c.args.made (state_of code.names c.args.hands.now units)
    (state_of code.names c.run_as.new.hands units) place member c.in-Some-part.block c.agent_of-agent.result c.first_living.result c.in-Some.is first there
    c.in-Some-part.ensures.value c.agent_of-agent.ensures.owner (c.run_as.ensures.state code units)
    ∙ ap (λ (x : Turns). gathered_from prev (node_at code c.args.node) c.args.index c.args.word c.args.gathered x c.args.made s) c.get-all.ensures

pub returns-clause-fits : goal.returns-clause-fits
returns-clause-fits g c =
    let now = ground c.args.hands.now in
    let turns = c.get-all.result.now in
    let r = (g.S.Store.world c.args.hands.now.stage.store).rest in
    let ms = c.as_slice-members.result.now in
    let place = c.in-Some.at in
    let member = get_or ms place 0 in
    let there : slice_get turns.members place ≡ Some member =
    ap (λ (l : List ℕ). slice_get l place) (sym c.as_slice-members.ensures) ∙ place_read ms place (place_below r turns.which ms turns.at place c.first_living.result c.in-Some.is c.first_living.ensures) in
    let first = c.first_living.ensures ∙ ap (λ (l : List ℕ). option_map (λ i. turns.at + i) (first_of r turns.which (drop turns.at l))) c.as_slice-members.ensures in
    let kept = members_kept c.args.made in
    let held = subst (λ (x : Turns). TurnsFit now x) (sym c.get-all.ensures) c.requires.turns in
    let rising = subst (λ (x : Turns). MembersAscend c.args.gathered (kept ++ drop x.at x.members)) (sym c.get-all.ensures) c.requires.ascend in
    let those = subst (λ (x : Turns). MembersFit now x.which kept) (sym c.get-all.ensures) c.requires.members in
    let moved : c.go_to.new.self ≡ record turns { at = place + 1 } = c.go_to.ensures ∙ ap (λ (x : Turns). record x { at = place + 1 }) (sym c.get-all.ensures) in
    let fit : AnsweringFits now member (record turns { at = place + 1 }) c.args.made = record {
      turns = record { members = held.members; site = held.site };
      values = c.requires.values;
      members = members_push now turns.which kept turns.members place member those held.members there;
    } in
    let there_fit = subst (λ (x : Ground). AnsweringFits x member (record turns { at = place + 1 }) c.args.made) (sym c.run_as.ensures.stands.same) fit in
    subst (λ (x : Turns). AnsweringFits (ground c.run_as.new.hands) member x c.args.made × MembersAscend c.args.gathered (kept ++ member ∷ drop x.at x.members)) (sym moved) (
      there_fit,
      members_ascend_on c.args.gathered kept turns.members turns.at place member (first_of r turns.which (drop turns.at turns.members)) (sym c.in-Some.is ∙ first) there rising,
    )
