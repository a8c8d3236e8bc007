use Rattle.std.specs.Prelude.{◌≡◌, List, not, filter, true, false}
use Rattle.std.proofs.Common.{◌∙◌, subst, sym}
use Rattle.nl_agents.specs.Changes.{is_link}
use Rattle.nl_agents.specs.Members.{is_unbreeded}
use Rattle.nl_agents.specs.declared.agents.Link.{Link}
use Rattle.nl_plain.specs.Lists.{LinksAscend}
use Rattle.nl_plain.proofs.Found.{removed_found, found_inside}
use Rattle.nl_plain.proofs.Counted.{counted_one, removed}
use Rattle.nl_plain.proofs.links.Links.remove.Goals as goal

pub less-self-inside-requires : goal.less-self-inside-requires
less-self-inside-requires c =
    let xs = c.self.inside.list.items in
    let inside = found_inside (λ (a : Link). a.serial) xs c.deref.result.now c.args.serial c.link_place.result c.unwrap-at.result c.deref.ensures.value c.link_place.ensures c.unwrap-at.ensures in
    counted_one (is_unbreeded true) xs c.unwrap-at.result c.index-gone.result.now c.is_unbreeded-directed.result c.self.inside.directed c.self.invariant.0 inside c.index-gone.ensures c.is_unbreeded-directed.ensures

pub less-self-inside-requires-2 : goal.less-self-inside-requires-2
less-self-inside-requires-2 c =
    let xs = c.self.inside.list.items in
    let inside = found_inside (λ (a : Link). a.serial) xs c.deref.result.now c.args.serial c.link_place.result c.unwrap-at.result c.deref.ensures.value c.link_place.ensures c.unwrap-at.ensures in
    counted_one (is_unbreeded false) xs c.unwrap-at.result c.index-gone.result.now c.is_unbreeded-undirected.result c.self.inside.undirected c.self.invariant.1 inside c.index-gone.ensures c.is_unbreeded-undirected.ensures

pub invariant_of-self : goal.invariant_of-self
invariant_of-self c =
    let xs = c.self.inside.list.items in
    let inside = found_inside (λ (a : Link). a.serial) xs c.deref.result.now c.args.serial c.link_place.result c.unwrap-at.result c.deref.ensures.value c.link_place.ensures c.unwrap-at.ensures in (
      removed (is_unbreeded true) xs c.remove.new.self.items c.unwrap-at.result c.index-gone.result.now c.is_unbreeded-directed.result c.self.inside.directed c.less-self-inside.result c.self.invariant.0 inside c.index-gone.ensures c.is_unbreeded-directed.ensures c.remove.ensures.items c.less-self-inside.ensures,
      removed (is_unbreeded false) xs c.remove.new.self.items c.unwrap-at.result c.index-gone.result.now c.is_unbreeded-undirected.result c.self.inside.undirected c.less-self-inside-2.result c.self.invariant.1 inside c.index-gone.ensures c.is_unbreeded-undirected.ensures c.remove.ensures.items c.less-self-inside-2.ensures,
    )

pub returns : goal.returns
returns c =
    let xs = c.self.inside.list.items in
    let order = subst LinksAscend (sym c.self.view_is) c.requires.order in
    subst (λ (old : List Link). c.remove.new.self.items ≡ filter (λ l. not (is_link c.args.serial l)) old) c.self.view_is
    (c.remove.ensures.items ∙ removed_found (λ (a : Link). a.serial) xs c.deref.result.now c.args.serial c.link_place.result c.unwrap-at.result order c.deref.ensures.value c.link_place.ensures c.unwrap-at.ensures)
