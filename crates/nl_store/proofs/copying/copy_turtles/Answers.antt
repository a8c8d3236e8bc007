use Rattle.std.specs.Prelude.{ℕ, slice_index_or}
use Rattle.std.proofs.Common.{◌∙◌, refl}
use Rattle.nl_store_files.specs.Agents.{turtle_serial}
use Rattle.nl_store.proofs.Lists.{stands, Stands}
use Rattle.nl_store.proofs.Copies.{next-turtle, turtle-among, turtle-found, turtle-taken, turtle-was-given}
use Rattle.nl_store.proofs.copying.copy_turtles.Goals as goal

pub copy_turtle-requires-clause-lives : goal.copy_turtle-requires-clause-lives
copy_turtle-requires-clause-lives c =
    let serial : ℕ = slice_index_or c.as_slice-serial-items.result.now c.loop-serial.serial-index 0 in
    let s : Stands turtle_serial c.args.from.now.turtles c.loop-serial.serial-index serial = stands turtle_serial c.args.from.now.turtles c.requires.sound.turtles_ascend c.as_slice-serial-items.result.now c.loop-serial.serial-index serial (c.as_slice-serial-items.ensures.value ∙ c.in_ok-serials.ensures) c.loop-serial-test.true refl in
    turtle-found c.args.from.now c.requires.sound c.loop-serial.into c.loop-serial.serial-index serial c.loop-serial.invariant s

pub copy_turtle-requires-clause-next : goal.copy_turtle-requires-clause-next
copy_turtle-requires-clause-next c =
    let serial : ℕ = slice_index_or c.as_slice-serial-items.result.now c.loop-serial.serial-index 0 in
    let s : Stands turtle_serial c.args.from.now.turtles c.loop-serial.serial-index serial = stands turtle_serial c.args.from.now.turtles c.requires.sound.turtles_ascend c.as_slice-serial-items.result.now c.loop-serial.serial-index serial (c.as_slice-serial-items.ensures.value ∙ c.in_ok-serials.ensures) c.loop-serial-test.true refl in
    next-turtle c.args.from.now c.requires.sound c.loop-serial.into c.loop-serial.serial-index serial c.loop-serial.invariant s

pub copy_turtle-requires-clause-given : goal.copy_turtle-requires-clause-given
copy_turtle-requires-clause-given c =
    let serial : ℕ = slice_index_or c.as_slice-serial-items.result.now c.loop-serial.serial-index 0 in
    let s : Stands turtle_serial c.args.from.now.turtles c.loop-serial.serial-index serial = stands turtle_serial c.args.from.now.turtles c.requires.sound.turtles_ascend c.as_slice-serial-items.result.now c.loop-serial.serial-index serial (c.as_slice-serial-items.ensures.value ∙ c.in_ok-serials.ensures) c.loop-serial-test.true refl in
    turtle-was-given c.args.from.now c.requires.sound c.loop-serial.into c.loop-serial.serial-index serial c.loop-serial.invariant s

pub copy_turtle-requires-clause-among : goal.copy_turtle-requires-clause-among
copy_turtle-requires-clause-among c =
    turtle-among c.args.from.now c.requires.sound (slice_index_or c.as_slice-serial-items.result.now c.loop-serial.serial-index 0)

pub loop-serial-preserved : goal.loop-serial-preserved
loop-serial-preserved c =
    let serial : ℕ = slice_index_or c.as_slice-serial-items.result.now c.loop-serial.serial-index 0 in
    let s : Stands turtle_serial c.args.from.now.turtles c.loop-serial.serial-index serial = stands turtle_serial c.args.from.now.turtles c.requires.sound.turtles_ascend c.as_slice-serial-items.result.now c.loop-serial.serial-index serial (c.as_slice-serial-items.ensures.value ∙ c.in_ok-serials.ensures) c.loop-serial-test.true refl in
    turtle-taken c.args.from.now c.requires.sound c.loop-serial.into c.loop-serial.serial-index serial c.loop-serial.invariant s c.copy_turtle.new.into c.in_ok-copy_turtle.ensures
