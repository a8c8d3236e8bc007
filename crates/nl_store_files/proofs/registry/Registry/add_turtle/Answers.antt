use Rattle.std.proofs.Common.{◌∙◌, ◌+◌, ◌++◌, ◌∷◌, [], ap}
use Rattle.nl_store_records.specs.Records.{record_at}
use Rattle.nl_store_files.specs.Agents.{Agents}
use Rattle.nl_store_files.proofs.Filed.{agents-same, counted-same, files-same, on-err, same-keys, same-sides, turtle-added, turtle-agents, turtle-counted, turtle-key-next, turtle-may-add}
use Rattle.nl_store_files.proofs.registry.Registry.add_turtle.Goals as goal

pub invariant_of-self : goal.invariant_of-self
invariant_of-self c =
    let f = c.self.inside in (
      files-same f.chains f.ends (record_at f.records) f.turtle_keys f.link_keys f.turtles_given f.links_given c.self.invariant.0 c.self.invariant.1 f.ends (record_at c.make_room.new.records) c.make_room.new.keys f.link_keys (same-sides f.ends) c.make_room.ensures.records c.make_room.ensures.keys (same-keys f.link_keys),
      counted-same f.chains f.ends (record_at f.records) f.turtle_keys f.link_keys f.turtles_given f.links_given c.self.invariant.0 c.self.invariant.1 f.ends (record_at c.make_room.new.records) c.make_room.new.keys f.link_keys (same-sides f.ends) c.make_room.ensures.records c.make_room.ensures.keys (same-keys f.link_keys),
    )

pub returns-in_err-make_room-clause-kept : goal.returns-in_err-make_room-clause-kept
returns-in_err-make_room-clause-kept c =
    let f = c.self.inside in
    on-err c.from_residual.result (agents-same f.chains f.ends (record_at f.records) f.turtle_keys f.link_keys f.turtles_given f.links_given c.self.invariant.0 c.self.invariant.1 f.ends (record_at c.make_room.new.records) c.make_room.new.keys f.link_keys (same-sides f.ends) c.make_room.ensures.records c.make_room.ensures.keys (same-keys f.link_keys) ∙ c.self.view_is)

pub invariant_of-self-in_err-enter : goal.invariant_of-self-in_err-enter
invariant_of-self-in_err-enter c =
    let f = c.self.inside in (
      files-same f.chains f.ends (record_at f.records) f.turtle_keys f.link_keys f.turtles_given f.links_given c.self.invariant.0 c.self.invariant.1 c.enter.new.self (record_at c.make_room.new.records) c.make_room.new.keys f.link_keys c.in_err-enter.ensures.kept c.make_room.ensures.records c.make_room.ensures.keys (same-keys f.link_keys),
      counted-same f.chains f.ends (record_at f.records) f.turtle_keys f.link_keys f.turtles_given f.links_given c.self.invariant.0 c.self.invariant.1 c.enter.new.self (record_at c.make_room.new.records) c.make_room.new.keys f.link_keys c.in_err-enter.ensures.kept c.make_room.ensures.records c.make_room.ensures.keys (same-keys f.link_keys),
    )

pub add-requires-clause-away : goal.add-requires-clause-away
add-requires-clause-away c =
    let f = c.self.inside in
    turtle-may-add f.chains f.ends (record_at f.records) f.turtle_keys f.link_keys f.turtles_given f.links_given c.self.invariant.0 c.self.invariant.1 (record_at c.make_room.new.records) (record_at c.put_new-key.new.records) c.put_new-key.result c.make_room.ensures.records c.put_new-key.ensures.vacant c.args.at c.args.breed c.args.vars c.put_new-key.ensures.put

pub put-requires-clause-new : goal.put-requires-clause-new
put-requires-clause-new c =
    let f = c.self.inside in
    turtle-key-next f.chains f.ends (record_at f.records) f.turtle_keys f.link_keys f.turtles_given f.links_given c.self.invariant.0 c.self.invariant.1 c.make_room.new.keys c.make_room.ensures.keys

pub invariant_of-self-2 : goal.invariant_of-self-2
invariant_of-self-2 c =
    let f = c.self.inside in (
      turtle-added f.chains f.ends (record_at f.records) f.turtle_keys f.link_keys f.turtles_given f.links_given c.self.invariant.0 c.self.invariant.1 (record_at c.make_room.new.records) (record_at c.put_new-key.new.records) c.put_new-key.result c.make_room.ensures.records c.put_new-key.ensures.vacant c.args.at c.args.breed c.args.vars c.put_new-key.ensures.put c.add.new.self c.enter.new.self (record_at c.add.new.records) c.make_room.new.keys c.put.new.self c.add.ensures.added c.add.ensures.others c.add.ensures.size c.in_ok-enter.ensures.held c.in_ok-enter.ensures.ended c.make_room.ensures.keys c.put.ensures.put c.put.ensures.count,
      turtle-counted f.chains f.ends (record_at f.records) f.turtle_keys f.link_keys f.turtles_given f.links_given c.self.invariant.0 c.self.invariant.1 (record_at c.make_room.new.records) (record_at c.put_new-key.new.records) c.put_new-key.result c.make_room.ensures.records c.put_new-key.ensures.vacant c.args.at c.args.breed c.args.vars c.put_new-key.ensures.put c.add.new.self c.enter.new.self (record_at c.add.new.records) c.make_room.new.keys c.put.new.self c.add.ensures.added c.add.ensures.others c.add.ensures.size c.in_ok-enter.ensures.held c.in_ok-enter.ensures.ended c.make_room.ensures.keys c.put.ensures.put c.put.ensures.count,
    )

pub returns-clause-added : goal.returns-clause-added
returns-clause-added c =
    let f = c.self.inside in
    turtle-agents f.chains f.ends (record_at f.records) f.turtle_keys f.link_keys f.turtles_given f.links_given c.self.invariant.0 c.self.invariant.1 (record_at c.make_room.new.records) (record_at c.put_new-key.new.records) c.put_new-key.result c.make_room.ensures.records c.put_new-key.ensures.vacant c.args.at c.args.breed c.args.vars c.put_new-key.ensures.put c.add.new.self c.enter.new.self (record_at c.add.new.records) c.make_room.new.keys c.put.new.self c.add.ensures.added c.add.ensures.others c.add.ensures.size c.in_ok-enter.ensures.held c.in_ok-enter.ensures.ended c.make_room.ensures.keys c.put.ensures.put c.put.ensures.count
    ∙ ap (λ (a : Agents). record a { turtles = a.turtles ++ (record { serial = a.turtles_given; breed = c.args.breed; at = c.args.at; vars = c.args.vars }) ∷ []; turtles_given = a.turtles_given + 1 }) c.self.view_is
