-- The values of a turn have the names of the head, one after another.
use Rattle.std.proofs.Common.{◌≡◌, ◌++◌, [], ◌∷◌, ℕ, List, Some, None, IsTrue, map, take, slice_get, get_or, ap, ◌∙◌, sym}
use Rattle.std.specs.List.{list_all}
use Rattle.std.specs.Option.{option_map}
use Rattle.std.proofs.lemmas.List.{append_assoc, map-append}
use Rattle.std.proofs.lemmas.Option.{slice_get-get_or, slice_get-map}
use Rattle.nl_fixed.specs.Nouns.{Names}
use Rattle.nl_value.specs.Views.{plain}
use Rattle.nl_exec_meaning.specs.Calls.{bound}
use Rattle.nl_exec_meaning.specs.Code.{name_of}
use Rattle.nl_exec_meaning.specs.Ground.{fits}
use Rattle.nl_exec_meaning.specs.Kept.{Kept, all_held, held}
use Rattle.nl_exec_meaning.specs.Rounds.{given}
use Rattle.nl_exec_meaning.specs.State.{Held}
use Rattle.nl_exec_meaning.proofs.Grounds.{pass_get, pass_push}
use Rattle.nl_exec_arrows.proofs.Naming.{bound_next, bound_out}
use Rattle.nl_exec_arrows.proofs.giving.name_values.Goals as goal

pub returns-in_default-clause-held : goal.returns-in_default-clause-held
returns-in_default-clause-held c =
    let all = c.args.code.now.names in
    let names = map (name_of all) c.head-head.result.now in
    let values = given c.args.word c.args.rounds.now in
    let out = sym c.in_ok-value.ensures ∙ ap (option_map plain) c.in_default.is in
    c.loop-which.invariant.0
    ∙ ap (λ (hs : List Held). all_held all c.args.locals.now ++ hs) (bound_out names values c.loop-which.which out ∙ ap (λ (ns : Names). bound ns values) c.head-head.ensures)

pub loop-which-preserved : goal.loop-which-preserved
loop-which-preserved c =
    let all = c.args.code.now.names in
    let head = c.head-head.result.now in
    let names = map (name_of all) head in
    let values = given c.args.word c.args.rounds.now in
    let which = c.loop-which.which in
    let value = plain c.in-Some.value in
    let id = get_or head which 0 in
    let has : slice_get values which ≡ Some value = sym c.in_ok-value.ensures ∙ ap (option_map plain) c.in-Some.is in
    let is : slice_get names which ≡ Some (name_of all id) = slice_get-map (name_of all) head which ∙ ap (option_map (name_of all)) (slice_get-get_or head which 0 c.loop-which-test.true) in (
      ap (all_held all) c.in_ok-push.ensures.ok
          ∙ map-append (held all) c.loop-which.locals _
          ∙ ap (λ (hs : List Held). hs ++ record { name = name_of all id; value = value } ∷ []) c.loop-which.invariant.0
          ∙ append_assoc (all_held all c.args.locals.now) (bound (take which names) values) _
          ∙ ap (λ (hs : List Held). all_held all c.args.locals.now ++ hs) (sym (bound_next names values which (name_of all id) value is has)),
      λ g fit old. ap (list_all (λ (k : Kept). fits g k.value)) c.in_ok-push.ensures.ok
          ∙ pass_push (λ (k : Kept). fits g k.value) c.loop-which.locals _ (c.loop-which.invariant.1 g fit old) (pass_get (fits g) values which value fit has),
    )
