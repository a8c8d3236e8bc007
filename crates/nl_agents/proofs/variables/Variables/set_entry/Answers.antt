use Rattle.std.specs.Prelude.{◌<◌, Option, None, length, map, slice_set, slice_index_or}
use Rattle.std.specs.Option.{option_map}
use Rattle.std.proofs.Common.{ap, ◌∙◌, refl, sym, subst}
use Rattle.std.proofs.lemmas.List.{map-set}
use Rattle.std.proofs.lemmas.Option.{get_or_from_slice_get}
use Rattle.nl_value.specs.Plain.{Plain}
use Rattle.nl_value.specs.Views.{plain}
use Rattle.nl_agents.specs.Nouns.{Vars}
use Rattle.nl_agents.specs.Changes.{set_entry}
use Rattle.nl_agents.proofs.Replaced.{stood}
use Rattle.nl_agents.proofs.variables.Variables.set_entry.Goals as goal

pub returns-clause-new : goal.returns-clause-new
returns-clause-new c =
    let value = plain c.args.value in
    let at = c.args.at in
    let old = c.index_mut.result.now in
    let l : at < length c.args.self.now = subst (λ n. at < n) c.len.ensures c.if-at-len.false in
    let there = get_or_from_slice_get c.args.self.now at (option_map plain old) None (stood (option_map plain) c.self.inside.list.items c.args.self.now at old old c.self.view_is l refl c.index_mut.ensures.value) in
    map-set (option_map plain) c.self.inside.list.items at c.put.new.entry
    ∙ ap (λ (e : Option Plain). slice_set (map (option_map plain) c.self.inside.list.items) at e) (c.put.ensures.new ∙ ap (set_entry value) (sym there))
    ∙ ap (λ (vs : Vars). slice_set vs at (set_entry value (slice_index_or c.args.self.now at None))) c.self.view_is
