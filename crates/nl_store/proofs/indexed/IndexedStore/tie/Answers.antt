use Rattle.std.specs.Prelude.{ℕ, ◌<◌, ◌+◌, ◌++◌, ◌∷◌, []}
use Rattle.std.proofs.Common.{refl, subst, sym}
use Rattle.nl_agents.specs.Nouns.{Vars}
use Rattle.nl_agents.specs.Standing.{IsWorld}
use Rattle.nl_agents.specs.declared.agents.Link.{Link}
use Rattle.nl_agents.proofs.Worlds.{tied_is_world}
use Rattle.nl_store_files.specs.Agents.{Agents}
use Rattle.nl_store.specs.Held.{world_in}
use Rattle.nl_store.specs.Worlds.{world_with, AreOf}
use Rattle.nl_store.proofs.Holds.{either-way, room-for-links, still-of}
use Rattle.nl_store.proofs.indexed.IndexedStore.tie.Goals as goal

pub invariant_of-self : goal.invariant_of-self
invariant_of-self c =
    let s = c.args.self.now in
    let a = s.roster in
    let link : Vars → Link = λ vars. record { serial = a.links_given; breed = c.args.breed; directed = c.args.directed; end1 = c.args.end1; end2 = c.args.end2; vars = vars } in
    let joined : Vars → Agents = λ vars. record a { links = a.links ++ link vars ∷ []; links_given = a.links_given + 1 } in
    let room = room-for-links (world_in s) (subst (λ (n : ℕ). n < 400_000) c.link_count.ensures c.if-link_count-ge-MOST_LINKS.false)
    (subst (λ (x : Agents). x.links_given < 9_000_000_000_000) c.files.ensures (subst (λ (n : ℕ). n < 9_000_000_000_000) c.links_given.ensures c.if-links_given-ge-MOST_SERIALS.false)) in
    let world = subst (λ (vars : Vars). IsWorld (world_with s.land (joined vars) s.base)) (sym c.in_ok-vars.ensures)
    (tied_is_world c.args.breed c.args.directed c.args.end1 c.args.end2 (world_in s) s.stands c.requires.breed c.requires.first c.requires.second c.requires.apart c.requires.none room) in
    let e = c.add_link.ensures in
    record {
      stands = either-way (λ (x : Agents). IsWorld (world_with s.land x s.base)) c.add_link.result c.add_link.new.self (joined c.in_ok-vars.vars) a e.added e.kept world s.stands;
      fits = either-way (AreOf s.land) c.add_link.result c.add_link.new.self (joined c.in_ok-vars.vars) a e.added e.kept (still-of s.land a (joined c.in_ok-vars.vars) s.fits refl refl) s.fits;
    }
