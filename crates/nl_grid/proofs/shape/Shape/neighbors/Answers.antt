use Rattle.std.proofs.Common.{◌≤◌, length, length-set, ap, sym, subst, ◌∙◌, arith}
use Rattle.nl_grid.proofs.WalkLemmas.{walk_begins, walk_keeps, walk_skips, walk_ends, walk_goes_on, room_for, neighbors_are, not_some}
use Rattle.nl_grid.proofs.FewLemmas.{neighbors_at_most}
use Rattle.nl_grid.specs.Geometry.{ArePatchesOf}
use Rattle.nl_grid.proofs.LawLemmas.{neighbors_of_world}
use Rattle.nl_grid.proofs.shape.Shape.neighbors.Goals as goal
use Rattle.nl_grid.proofs.shape.Shape.neighbors.Goals.{then-other-patch, else-other-patch}

pub loop-next-init : goal.loop-next-init
loop-next-init c = walk_begins c.args.patch c.around-around.result c.args.out.now c.first-next.result c.first-next.ensures

pub bounds-out-count : goal.bounds-out-count
bounds-out-count c =
    let few = subst (λ xs. length xs ≤ 8) (sym (neighbors_are c.args.self.now c.args.patch c.around-around.result c.around-around.ensures.patches)) (neighbors_at_most c.args.self.now c.args.patch c.requires) in
    room_for c.args.patch c.around-around.result c.loop-next.out c.loop-next.next c.loop-next.count c.in-Some.other 8 c.loop-next.invariant c.in-Some.is c.if-other-patch.true few

pub offset_bounds-out-count : goal.offset_bounds-out-count
offset_bounds-out-count c =
    let few = subst (λ xs. length xs ≤ 8) (sym (neighbors_are c.args.self.now c.args.patch c.around-around.result c.around-around.ensures.patches)) (neighbors_at_most c.args.self.now c.args.patch c.requires) in
    omega (arith, room_for c.args.patch c.around-around.result c.loop-next.out c.loop-next.next c.loop-next.count c.in-Some.other 8 c.loop-next.invariant c.in-Some.is c.if-other-patch.true few)

pub loop-next-preserved : goal.loop-next-preserved
loop-next-preserved c =
    elim c.if-other-patch.branch [
      | then-other-patch w ↦
          let few = subst (λ xs. length xs ≤ 8) (sym (neighbors_are c.args.self.now c.args.patch c.around-around.result c.around-around.ensures.patches)) (neighbors_at_most c.args.self.now c.args.patch c.requires) in
          let room = room_for c.args.patch c.around-around.result c.loop-next.out c.loop-next.next c.loop-next.count c.in-Some.other 8 c.loop-next.invariant c.in-Some.is w.if-other-patch.true few in
          let long = sym (length-set c.loop-next.out c.loop-next.count c.in-Some.other) ∙ sym (ap length w.out-is) ∙ c.if-other-patch.array_long in
          rw (w.out-is, w.count-is) (walk_keeps c.args.patch c.around-around.result c.loop-next.out c.loop-next.next c.next-next.result c.loop-next.count c.in-Some.other c.loop-next.invariant c.in-Some.is w.if-other-patch.true (omega (arith, room, long)) c.next-next.ensures.walk)
      | else-other-patch w ↦
          rw (w.out-is, w.count-is) (walk_skips c.args.patch c.around-around.result c.loop-next.out c.loop-next.next c.next-next.result c.loop-next.count c.in-Some.other c.loop-next.invariant c.in-Some.is w.if-other-patch.false c.next-next.ensures.walk)
    ]

pub loop-next-smaller : goal.loop-next-smaller
loop-next-smaller c = walk_goes_on c.around-around.result c.in-Some.other c.loop-next.next c.next-next.result (omega arith) c.in-Some.is c.next-next.ensures.after

pub returns : goal.returns
returns c =
    let ends = walk_ends c.args.patch c.around-around.result c.loop-next.out c.loop-next.next c.loop-next.count c.loop-next.invariant (not_some c.loop-next.next c.in_default.not-Some) in
    let all = neighbors_are c.args.self.now c.args.patch c.around-around.result c.around-around.ensures.patches in
    let count = ends.1 ∙ ap length all in
    let patches = ends.0 ∙ all in
    let few = neighbors_at_most c.args.self.now c.args.patch c.requires in
    record {
      count = count;
      few = omega (arith, count, few);
      world = subst (ArePatchesOf c.args.self.now) (sym patches) (neighbors_of_world c.args.self.now c.args.patch);
      patches = patches;
    }
