use Rattle.std.specs.Prelude.{ℕ, slice_index_or}
use Rattle.std.proofs.Common.{◌∙◌, refl}
use Rattle.nl_store_files.specs.Agents.{link_serial}
use Rattle.nl_store.proofs.Lists.{stands, Stands}
use Rattle.nl_store.proofs.Copies.{link-among, link-found, link-taken, link-was-given, next-link}
use Rattle.nl_store.proofs.copying.copy_links.Goals as goal

pub copy_link-requires-clause-lives : goal.copy_link-requires-clause-lives
copy_link-requires-clause-lives c =
    let serial : ℕ = slice_index_or c.as_slice-serial-items.result.now c.loop-serial.serial-index 0 in
    let s : Stands link_serial c.args.from.now.links c.loop-serial.serial-index serial = stands link_serial c.args.from.now.links c.requires.sound.links_ascend c.as_slice-serial-items.result.now c.loop-serial.serial-index serial (c.as_slice-serial-items.ensures.value ∙ c.in_ok-serials.ensures) c.loop-serial-test.true refl in
    link-found c.args.from.now c.requires.sound c.loop-serial.into c.loop-serial.serial-index serial c.loop-serial.invariant s

pub copy_link-requires-clause-next : goal.copy_link-requires-clause-next
copy_link-requires-clause-next c =
    let serial : ℕ = slice_index_or c.as_slice-serial-items.result.now c.loop-serial.serial-index 0 in
    let s : Stands link_serial c.args.from.now.links c.loop-serial.serial-index serial = stands link_serial c.args.from.now.links c.requires.sound.links_ascend c.as_slice-serial-items.result.now c.loop-serial.serial-index serial (c.as_slice-serial-items.ensures.value ∙ c.in_ok-serials.ensures) c.loop-serial-test.true refl in
    next-link c.args.from.now c.requires.sound c.loop-serial.into c.loop-serial.serial-index serial c.loop-serial.invariant s

pub copy_link-requires-clause-given : goal.copy_link-requires-clause-given
copy_link-requires-clause-given c =
    let serial : ℕ = slice_index_or c.as_slice-serial-items.result.now c.loop-serial.serial-index 0 in
    let s : Stands link_serial c.args.from.now.links c.loop-serial.serial-index serial = stands link_serial c.args.from.now.links c.requires.sound.links_ascend c.as_slice-serial-items.result.now c.loop-serial.serial-index serial (c.as_slice-serial-items.ensures.value ∙ c.in_ok-serials.ensures) c.loop-serial-test.true refl in
    link-was-given c.args.from.now c.requires.sound c.loop-serial.into c.loop-serial.serial-index serial c.loop-serial.invariant s

pub copy_link-requires-clause-among : goal.copy_link-requires-clause-among
copy_link-requires-clause-among c =
    link-among c.args.from.now c.requires.sound (slice_index_or c.as_slice-serial-items.result.now c.loop-serial.serial-index 0)

pub loop-serial-preserved : goal.loop-serial-preserved
loop-serial-preserved c =
    let serial : ℕ = slice_index_or c.as_slice-serial-items.result.now c.loop-serial.serial-index 0 in
    let s : Stands link_serial c.args.from.now.links c.loop-serial.serial-index serial = stands link_serial c.args.from.now.links c.requires.sound.links_ascend c.as_slice-serial-items.result.now c.loop-serial.serial-index serial (c.as_slice-serial-items.ensures.value ∙ c.in_ok-serials.ensures) c.loop-serial-test.true refl in
    link-taken c.args.from.now c.requires.sound c.loop-serial.into c.loop-serial.serial-index serial c.loop-serial.invariant s c.copy_link.new.into c.in_ok-copy_link.ensures
