-- The first so many are members, which ascend.
use Rattle.std.proofs.Common.{IsTrue, List, ℕ, refl, ap, sym, subst, ◌∙◌}
use Rattle.std.specs.List.Sorted.{IsStrictlyIncreasing}
use Rattle.std.proofs.lemmas.List.Kept.{IsStrictlyIncreasing-filter}
use Rattle.nl_value.specs.Plain.{Plain}
use Rattle.nl_draw.specs.Stream.{shuffled}
use Rattle.nl_agents.specs.Members.{is_listed}
use Rattle.nl_exec_meaning.specs.State.{State, gives}
use Rattle.nl_exec_meaning.specs.Walks.{members_kept}
use Rattle.nl_exec_meaning.specs.Ground.{Ground, fits}
use Rattle.nl_exec_meaning.specs.Seen.{ground, state_of}
use Rattle.nl_exec_meaning.specs.Standing.{MembersFit}
use Rattle.nl_value.specs.Views.{plain}
use Rattle.nl_exec_walks.proofs.Fitting.{filtered_fit, listed_fits}
use Rattle.nl_exec_walks.proofs.Giving.{first_given}
use Rattle.nl_exec_walks.proofs.several.first_extremes.Goals as goal

pub listed_value-requires : goal.listed_value-requires
listed_value-requires g c =
    subst (λ (ms : List ℕ). IsStrictlyIncreasing ms) (sym c.in_ok-kept.ensures)
    (IsStrictlyIncreasing-filter (is_listed c.in_ok-first.first) c.deref-2.result.now
    (subst (λ (ms : List ℕ). IsStrictlyIncreasing ms) (sym (c.deref-2.ensures.value ∙ c.in_ok-members.ensures ∙ ap members_kept c.as_slice.ensures)) c.requires.ascend))

pub returns-clause-meaning : goal.returns-clause-meaning
returns-clause-meaning g c = λ code units.
    let names = code.names in
    let s = state_of names c.args.hands.now units in
    let list = c.into_vec.result.items in
    ap (λ (x : State). gives (plain c.in_ok-listed_value.field-0) x) (c.mixed-list.ensures.state names units)
    ∙ first_given c.args.up c.args.which c.args.count list c.deref.result.now c.args.answers s (shuffled list s.stage.stream).1
    c.deref-2.result.now c.in_ok-first.first c.in_ok-kept.kept.items (plain c.in_ok-listed_value.field-0)
    c.into_vec.ensures (c.deref.ensures.value ∙ c.mixed-list.ensures.order) refl c.in_ok-first.ensures (c.deref-2.ensures.value ∙ c.in_ok-members.ensures ∙ ap members_kept c.as_slice.ensures) c.in_ok-kept.ensures c.in_ok-listed_value.ensures

pub returns-clause-fits : goal.returns-clause-fits
returns-clause-fits g c =
    let now = ground c.args.hands.now in
    let which = c.args.which in
    subst (λ (r : Ground). IsTrue (fits r (plain c.in_ok-listed_value.field-0))) (sym c.mixed-list.ensures.stands.same)
    (subst (λ (p : Plain). IsTrue (fits now p)) (sym c.in_ok-listed_value.ensures)
    (listed_fits now which c.in_ok-kept.kept.items
    (subst (λ (ms : List ℕ). MembersFit now which ms) (sym c.in_ok-kept.ensures)
    (filtered_fit now which (is_listed c.in_ok-first.first) c.deref-2.result.now
    (subst (λ (ms : List ℕ). MembersFit now which ms) (sym (c.deref-2.ensures.value ∙ c.in_ok-members.ensures ∙ ap members_kept c.as_slice.ensures)) c.requires.members)))))
