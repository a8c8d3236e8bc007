-- The patches near a patch, by bands of columns and rows.
use Rattle.std.proofs.Common.{ℕ, zero, suc, ◌+◌, ◌*◌, ◌/◌, ◌%◌, ◌<◌, ◌≤◌, ◌≡◌, Bool, ◌&&◌, ℤ, filter, arith, refl, ap, ◌∙◌}
use Rattle.std.specs.List.{range_with_len}
use Rattle.nl_grid.specs.declared.band.Band.{Band}
use Rattle.nl_grid.specs.inner.Bands.{in_band, in_bands, patches_in}
use Rattle.nl_grid.specs.Geometry.{Plane, side, patches_of, column, row, is_within, is_near, patches_near}
use Rattle.nl_grid.proofs.ShapeLemmas.{column_below, row_below}

-- two tests that agree on a run keep the same numbers of it
pub filter_same : (p q : ℕ → Bool) (a n : ℕ) → ((j : ℕ) → a ≤ j → j < a + n → p j ≡ q j) → filter p (range_with_len a n) ≡ filter q (range_with_len a n)
filter_same p q a zero same = refl
filter_same p q a (suc n) same =
    let first = same a (omega arith) (omega arith) in
    let later = filter_same p q (a + 1) n (λ j start below. same j (omega (arith, start)) (omega (arith, below))) in
    rw (first, later) refl

pub bands_are_near : (plane : Plane) (columns rows : Band) (reach taken : ℤ) (patch index_x index_y : ℕ) → taken ≡ reach → columns.side ≡ side plane.x → rows.side ≡ side plane.y → index_x ≡ column plane patch → index_y ≡ row plane patch → ((other : ℕ) → other < side plane.x → in_band columns other ≡ is_within plane.x taken index_x other) → ((other : ℕ) → other < side plane.y → in_band rows other ≡ is_within plane.y taken index_y other) → patches_in columns rows ≡ patches_near plane reach patch
unfolding patches_near is_near
bands_are_near plane columns rows reach taken patch index_x index_y is_reach width height is_x is_y in_columns in_rows =
    let all : columns.side * rows.side ≡ patches_of plane = rw (width, height) refl in
    ap (λ n. filter (in_bands columns rows) (range_with_len 0 n)) all
    ∙ filter_same (in_bands columns rows) (is_near plane reach patch) 0 (patches_of plane)
    (λ other start below.
    let index : other % columns.side ≡ column plane other = ap (λ w. other % w) width in
    let line : other / columns.side ≡ row plane other = ap (λ w. other / w) width in
    let across : in_band columns (other % columns.side) ≡ is_within plane.x reach (column plane patch) (column plane other) =
    ap (in_band columns) index ∙ in_columns (column plane other) (column_below plane other) ∙ ap (λ i. is_within plane.x taken i (column plane other)) is_x ∙ ap (λ k. is_within plane.x k (column plane patch) (column plane other)) is_reach in
    let up : in_band rows (other / columns.side) ≡ is_within plane.y reach (row plane patch) (row plane other) =
    ap (in_band rows) line ∙ in_rows (row plane other) (row_below plane other (omega (arith, below))) ∙ ap (λ i. is_within plane.y taken i (row plane other)) is_y ∙ ap (λ k. is_within plane.y k (row plane patch) (row plane other)) is_reach in
    ap (λ a. a && in_band rows (other / columns.side)) across ∙ ap (λ b. is_within plane.x reach (column plane patch) (column plane other) && b) up)
