use Rattle.std.proofs.Common.{length, min, sym, subst, ◌∙◌}
use Rattle.std.specs.List.Sorted.{IsStrictlyIncreasing}
use Rattle.nl_birth.specs.declared.failing.BirthFail.TheVariants.{NoMemory}
use Rattle.nl_birth.specs.Links.{link_room, most_links, linked, linkings}
use Rattle.nl_birth.proofs.Counting.{exits}
use Rattle.nl_birth.proofs.Keeping.{all_stay, tied_keep}
use Rattle.nl_birth.proofs.Tying.{none_linked, passed_live, passed_apart, passed_free}
use Rattle.nl_birth.proofs.linking.link.Goals as goal

pub returns-in_err-wanted-clause-outcome : goal.returns-in_err-wanted-clause-outcome
returns-in_err-wanted-clause-outcome g c =
    let w = g.S.Store.world c.args.store.now in
    let ts = c.args.targets.now in
    let most = most_links c.args.way c.args.breed c.args.caller ts w in
    exits (linked c.args.way c.args.breed c.args.caller ts w) (linkings c.args.way c.args.breed c.args.caller ts w) most w c.from_residual.result NoMemory c.from_residual.ensures.1
    (none_linked c.args.way c.args.breed c.args.caller ts w most)

pub tie_all-requires-clause-ascending : goal.tie_all-requires-clause-ascending
tie_all-requires-clause-ascending g c = subst IsStrictlyIncreasing (sym c.deref.ensures.value) c.in_ok-wanted.ensures.ascending

pub tie_all-requires-clause-targets : goal.tie_all-requires-clause-targets
tie_all-requires-clause-targets g c =
    passed_live c.args.way c.args.breed c.args.caller c.args.targets.now c.in_ok-wanted.wanted.items c.deref.result.now (g.S.Store.world c.args.store.now) c.in_ok-wanted.ensures.list c.deref.ensures.value c.requires.targets

pub tie_all-requires-clause-apart : goal.tie_all-requires-clause-apart
tie_all-requires-clause-apart g c =
    passed_apart c.args.way c.args.breed c.args.caller c.args.targets.now c.in_ok-wanted.wanted.items c.deref.result.now (g.S.Store.world c.args.store.now) c.in_ok-wanted.ensures.list c.deref.ensures.value
    (sym c.contains.ensures ∙ c.if-contains.false)

pub tie_all-requires-clause-free : goal.tie_all-requires-clause-free
tie_all-requires-clause-free g c =
    passed_free c.args.way c.args.breed c.args.caller c.args.targets.now c.in_ok-wanted.wanted.items c.deref.result.now (g.S.Store.world c.args.store.now) c.in_ok-wanted.ensures.list c.deref.ensures.value

pub returns-in_err-wanted-clause-keeps : goal.returns-in_err-wanted-clause-keeps
returns-in_err-wanted-clause-keeps g c = all_stay (g.S.Store.world c.args.store.now)

pub returns-then-contains-clause-keeps : goal.returns-then-contains-clause-keeps
returns-then-contains-clause-keeps g c = all_stay (g.S.Store.world c.args.store.now)

pub returns-then-other_kind_lives-clause-keeps : goal.returns-then-other_kind_lives-clause-keeps
returns-then-other_kind_lives-clause-keeps g c = all_stay (g.S.Store.world c.args.store.now)

pub returns-clause-keeps : goal.returns-clause-keeps
returns-clause-keeps g c =
    let w = g.S.Store.world c.args.store.now in
    let ts = c.deref.result.now in
    tied_keep c.args.way c.args.breed c.args.caller ts w (g.S.Store.world c.tie_all.new.store) (length ts) (min (length ts) (link_room w)) c.tie_all.result c.tie_all.ensures
