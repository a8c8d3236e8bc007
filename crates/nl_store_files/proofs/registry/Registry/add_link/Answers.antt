use Rattle.std.proofs.Common.{◌∙◌, ◌+◌, ◌++◌, ◌∷◌, [], find, IsSome, sym, ap, subst}
use Rattle.nl_agents.specs.Changes.{is_turtle}
use Rattle.nl_store_records.specs.Records.{record_at}
use Rattle.nl_store_files.specs.Agents.{Agents}
use Rattle.nl_store_files.proofs.Filed.{agents-same, counted-same, files-same, on-err, same-keys, same-sides, turtle-key}
use Rattle.nl_store_files.proofs.Tied.{link-added, link-agents, link-counted, link-ends-held, link-may-add, link-may-join}
use Rattle.nl_store_files.proofs.registry.Registry.add_link.Goals as goal

pub invariant_of-self : goal.invariant_of-self
invariant_of-self c =
    let f = c.self.inside in (
      files-same f.chains f.ends (record_at f.records) f.turtle_keys f.link_keys f.turtles_given f.links_given c.self.invariant.0 c.self.invariant.1 f.ends (record_at c.make_room.new.records) f.turtle_keys c.make_room.new.keys (same-sides f.ends) c.make_room.ensures.records (same-keys f.turtle_keys) c.make_room.ensures.keys,
      counted-same f.chains f.ends (record_at f.records) f.turtle_keys f.link_keys f.turtles_given f.links_given c.self.invariant.0 c.self.invariant.1 f.ends (record_at c.make_room.new.records) f.turtle_keys c.make_room.new.keys (same-sides f.ends) c.make_room.ensures.records (same-keys f.turtle_keys) c.make_room.ensures.keys,
    )

pub returns-in_err-make_room-clause-kept : goal.returns-in_err-make_room-clause-kept
returns-in_err-make_room-clause-kept c =
    let f = c.self.inside in
    on-err c.from_residual.result (agents-same f.chains f.ends (record_at f.records) f.turtle_keys f.link_keys f.turtles_given f.links_given c.self.invariant.0 c.self.invariant.1 f.ends (record_at c.make_room.new.records) f.turtle_keys c.make_room.new.keys (same-sides f.ends) c.make_room.ensures.records (same-keys f.turtle_keys) c.make_room.ensures.keys ∙ c.self.view_is)

pub add-requires-clause-away : goal.add-requires-clause-away
add-requires-clause-away c =
    let f = c.self.inside in
    link-may-add f.chains f.ends (record_at f.records) f.turtle_keys f.link_keys f.turtles_given f.links_given c.self.invariant.0 c.self.invariant.1 (record_at c.make_room.new.records) (record_at c.put_new-key.new.records) c.put_new-key.result c.make_room.ensures.records c.put_new-key.ensures.vacant c.args.directed c.args.end1 c.args.end2 c.args.breed c.args.vars c.put_new-key.ensures.put

pub add-requires-2-clause-away : goal.add-requires-2-clause-away
add-requires-2-clause-away c =
    let f = c.self.inside in
    let one = turtle-key f.chains f.ends (record_at f.records) f.turtle_keys f.link_keys f.turtles_given f.links_given c.self.invariant.0 c.self.invariant.1 c.args.end1 (subst (λ (a : Agents). IsSome (find (is_turtle c.args.end1) a.turtles)) (sym c.self.view_is) c.requires.first) in
    let two = turtle-key f.chains f.ends (record_at f.records) f.turtle_keys f.link_keys f.turtles_given f.links_given c.self.invariant.0 c.self.invariant.1 c.args.end2 (subst (λ (a : Agents). IsSome (find (is_turtle c.args.end2) a.turtles)) (sym c.self.view_is) c.requires.second) in
    link-may-join f.chains f.ends (record_at f.records) f.turtle_keys f.link_keys f.turtles_given f.links_given c.self.invariant.0 c.self.invariant.1 (record_at c.make_room.new.records) (record_at c.put_new-key.new.records) c.put_new-key.result c.make_room.ensures.records c.put_new-key.ensures.vacant c.args.directed c.args.end1 c.args.end2 c.args.breed c.args.vars c.put_new-key.ensures.put c.add.new.self (record_at c.add.new.records) c.add.ensures.added c.add.ensures.others c.add.ensures.size one two

pub add-requires-2-clause-ends : goal.add-requires-2-clause-ends
add-requires-2-clause-ends c =
    let f = c.self.inside in
    let one = turtle-key f.chains f.ends (record_at f.records) f.turtle_keys f.link_keys f.turtles_given f.links_given c.self.invariant.0 c.self.invariant.1 c.args.end1 (subst (λ (a : Agents). IsSome (find (is_turtle c.args.end1) a.turtles)) (sym c.self.view_is) c.requires.first) in
    let two = turtle-key f.chains f.ends (record_at f.records) f.turtle_keys f.link_keys f.turtles_given f.links_given c.self.invariant.0 c.self.invariant.1 c.args.end2 (subst (λ (a : Agents). IsSome (find (is_turtle c.args.end2) a.turtles)) (sym c.self.view_is) c.requires.second) in
    link-ends-held f.chains f.ends (record_at f.records) f.turtle_keys f.link_keys f.turtles_given f.links_given c.self.invariant.0 c.self.invariant.1 (record_at c.make_room.new.records) (record_at c.put_new-key.new.records) c.put_new-key.result c.make_room.ensures.records c.put_new-key.ensures.vacant c.args.directed c.args.end1 c.args.end2 c.args.breed c.args.vars c.put_new-key.ensures.put c.add.new.self (record_at c.add.new.records) c.add.ensures.added c.add.ensures.others c.add.ensures.size one two

pub invariant_of-self-2 : goal.invariant_of-self-2
invariant_of-self-2 c =
    let f = c.self.inside in
    let one = turtle-key f.chains f.ends (record_at f.records) f.turtle_keys f.link_keys f.turtles_given f.links_given c.self.invariant.0 c.self.invariant.1 c.args.end1 (subst (λ (a : Agents). IsSome (find (is_turtle c.args.end1) a.turtles)) (sym c.self.view_is) c.requires.first) in
    let two = turtle-key f.chains f.ends (record_at f.records) f.turtle_keys f.link_keys f.turtles_given f.links_given c.self.invariant.0 c.self.invariant.1 c.args.end2 (subst (λ (a : Agents). IsSome (find (is_turtle c.args.end2) a.turtles)) (sym c.self.view_is) c.requires.second) in (
      link-added f.chains f.ends (record_at f.records) f.turtle_keys f.link_keys f.turtles_given f.links_given c.self.invariant.0 c.self.invariant.1 (record_at c.make_room.new.records) (record_at c.put_new-key.new.records) c.put_new-key.result c.make_room.ensures.records c.put_new-key.ensures.vacant c.args.directed c.args.end1 c.args.end2 c.args.breed c.args.vars c.put_new-key.ensures.put c.add.new.self (record_at c.add.new.records) c.add.ensures.added c.add.ensures.others c.add.ensures.size one two c.add-2.new.self (record_at c.add-2.new.records) c.make_room.new.keys c.put.new.self c.add-2.ensures.joined c.add-2.ensures.others c.add-2.ensures.turtles c.requires.apart c.make_room.ensures.keys c.put.ensures.put c.put.ensures.count,
      link-counted f.chains f.ends (record_at f.records) f.turtle_keys f.link_keys f.turtles_given f.links_given c.self.invariant.0 c.self.invariant.1 (record_at c.make_room.new.records) (record_at c.put_new-key.new.records) c.put_new-key.result c.make_room.ensures.records c.put_new-key.ensures.vacant c.args.directed c.args.end1 c.args.end2 c.args.breed c.args.vars c.put_new-key.ensures.put c.add.new.self (record_at c.add.new.records) c.add.ensures.added c.add.ensures.others c.add.ensures.size one two c.add-2.new.self (record_at c.add-2.new.records) c.make_room.new.keys c.put.new.self c.add-2.ensures.joined c.add-2.ensures.others c.add-2.ensures.turtles c.requires.apart c.make_room.ensures.keys c.put.ensures.put c.put.ensures.count,
    )

pub returns-clause-added : goal.returns-clause-added
returns-clause-added c =
    let f = c.self.inside in
    let one = turtle-key f.chains f.ends (record_at f.records) f.turtle_keys f.link_keys f.turtles_given f.links_given c.self.invariant.0 c.self.invariant.1 c.args.end1 (subst (λ (a : Agents). IsSome (find (is_turtle c.args.end1) a.turtles)) (sym c.self.view_is) c.requires.first) in
    let two = turtle-key f.chains f.ends (record_at f.records) f.turtle_keys f.link_keys f.turtles_given f.links_given c.self.invariant.0 c.self.invariant.1 c.args.end2 (subst (λ (a : Agents). IsSome (find (is_turtle c.args.end2) a.turtles)) (sym c.self.view_is) c.requires.second) in
    link-agents f.chains f.ends (record_at f.records) f.turtle_keys f.link_keys f.turtles_given f.links_given c.self.invariant.0 c.self.invariant.1 (record_at c.make_room.new.records) (record_at c.put_new-key.new.records) c.put_new-key.result c.make_room.ensures.records c.put_new-key.ensures.vacant c.args.directed c.args.end1 c.args.end2 c.args.breed c.args.vars c.put_new-key.ensures.put c.add.new.self (record_at c.add.new.records) c.add.ensures.added c.add.ensures.others c.add.ensures.size one two c.add-2.new.self (record_at c.add-2.new.records) c.make_room.new.keys c.put.new.self c.add-2.ensures.joined c.add-2.ensures.others c.add-2.ensures.turtles c.requires.apart c.make_room.ensures.keys c.put.ensures.put c.put.ensures.count
    ∙ ap (λ (a : Agents). record a { links = a.links ++ (record { serial = a.links_given; breed = c.args.breed; directed = c.args.directed; end1 = c.args.end1; end2 = c.args.end2; vars = c.args.vars }) ∷ []; links_given = a.links_given + 1 }) c.self.view_is
