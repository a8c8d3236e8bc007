use Rattle.std.proofs.Common.{◌≤◌, length, length-set, take, ap, sym, subst, ◌∙◌, arith}
use Rattle.nl_grid.specs.Geometry.{is_in_line}
use Rattle.nl_grid.proofs.WalkLemmas.{pick_begins, pick_keeps, pick_skips, pick_ends, room_to_pick, in_line_are}
use Rattle.nl_grid.proofs.FewLemmas.{neighbors4_few}
use Rattle.nl_grid.specs.Geometry.{ArePatchesOf}
use Rattle.nl_grid.proofs.LawLemmas.{neighbors4_of_world}
use Rattle.nl_grid.proofs.shape.Shape.neighbors4.Goals as goal
use Rattle.nl_grid.proofs.shape.Shape.neighbors4.Goals.{then-is_in_line, else-is_in_line}

pub loop-other-init : goal.loop-other-init
loop-other-init c = pick_begins (is_in_line c.args.self.now c.args.patch) (take c.neighbors-found.result c.neighbors-found.new.out) c.args.out.now

pub bounds-out-count : goal.bounds-out-count
bounds-out-count c =
    let test = is_in_line c.args.self.now c.args.patch in
    let list = take c.neighbors-found.result c.neighbors-found.new.out in
    let few = subst (λ xs. length xs ≤ 4) (sym (in_line_are c.args.self.now c.args.patch list c.neighbors-found.ensures.patches)) (neighbors4_few c.args.self.now c.args.patch c.requires) in
    room_to_pick test list c.loop-other.out c.loop-other.other-index c.loop-other.count 4 c.loop-other.invariant c.loop-other-test.true (sym c.is_in_line.ensures ∙ c.if-is_in_line.true) few

pub offset_bounds-out-count : goal.offset_bounds-out-count
offset_bounds-out-count c =
    let test = is_in_line c.args.self.now c.args.patch in
    let list = take c.neighbors-found.result c.neighbors-found.new.out in
    let few = subst (λ xs. length xs ≤ 4) (sym (in_line_are c.args.self.now c.args.patch list c.neighbors-found.ensures.patches)) (neighbors4_few c.args.self.now c.args.patch c.requires) in
    omega (arith, room_to_pick test list c.loop-other.out c.loop-other.other-index c.loop-other.count 4 c.loop-other.invariant c.loop-other-test.true (sym c.is_in_line.ensures ∙ c.if-is_in_line.true) few)

pub loop-other-preserved : goal.loop-other-preserved
loop-other-preserved c =
    let test = is_in_line c.args.self.now c.args.patch in
    let list = take c.neighbors-found.result c.neighbors-found.new.out in
    elim c.if-is_in_line.branch [
      | then-is_in_line w ↦
          let few = subst (λ xs. length xs ≤ 4) (sym (in_line_are c.args.self.now c.args.patch list c.neighbors-found.ensures.patches)) (neighbors4_few c.args.self.now c.args.patch c.requires) in
          let passes = sym c.is_in_line.ensures ∙ w.if-is_in_line.true in
          let room = room_to_pick test list c.loop-other.out c.loop-other.other-index c.loop-other.count 4 c.loop-other.invariant c.loop-other-test.true passes few in
          let long = sym (length-set c.loop-other.out c.loop-other.count _) ∙ sym (ap length w.out-is) ∙ c.if-is_in_line.array_long in
          rw (w.out-is, w.count-is) (pick_keeps test list c.loop-other.out c.loop-other.other-index c.loop-other.count c.loop-other.invariant c.loop-other-test.true passes (omega (arith, room, long)))
      | else-is_in_line w ↦
          rw (w.out-is, w.count-is) (pick_skips test list c.loop-other.out c.loop-other.other-index c.loop-other.count c.loop-other.invariant c.loop-other-test.true (sym c.is_in_line.ensures ∙ w.if-is_in_line.false))
    ]

pub returns : goal.returns
returns c =
    let test = is_in_line c.args.self.now c.args.patch in
    let list = take c.neighbors-found.result c.neighbors-found.new.out in
    let ends = pick_ends test list c.loop-other.out c.loop-other.other-index c.loop-other.count c.loop-other.invariant c.loop-other-test.false in
    let all = in_line_are c.args.self.now c.args.patch list c.neighbors-found.ensures.patches in
    let count = ends.1 ∙ ap length all in
    let patches = ends.0 ∙ all in
    record {
      count = count;
      few = omega (arith, count, neighbors4_few c.args.self.now c.args.patch c.requires);
      world = subst (ArePatchesOf c.args.self.now) (sym patches) (neighbors4_of_world c.args.self.now c.args.patch);
      patches = patches;
    }
