-- Codes of shapes and points, by which a proof tells two of them apart, for whoever has one as part of a value.
use Rattle.std.specs.Prelude.{ℤ, Bool, refl}
use Rattle.std.specs.Coded.{Coded, code_by, coded_ℤ, coded_bool, coded×}
use Rattle.nl_grid.specs.declared.axis.Axis.{Axis}
use Rattle.nl_grid.specs.declared.point.Point.{Point}
use Rattle.nl_grid.specs.Geometry.{Plane}

abbrev pub axis_code : Coded Axis
axis_code = code_by (ℤ × (ℤ × Bool)) (coded× coded_ℤ (coded× coded_ℤ coded_bool))
    (λ axis. (axis.least, (axis.greatest, axis.wraps)))
    (λ c. record { least = c.0; greatest = c.1.0; wraps = c.1.1 })
    (λ _. refl)

abbrev pub plane_code : Coded Plane
plane_code = code_by (Axis × Axis) (coded× axis_code axis_code)
    (λ plane. (plane.x, plane.y))
    (λ c. record { x = c.0; y = c.1 })
    (λ _. refl)

abbrev pub point_code : Coded Point
point_code = code_by (ℤ × ℤ) (coded× coded_ℤ coded_ℤ)
    (λ at. (at.x, at.y))
    (λ c. record { x = c.0; y = c.1 })
    (λ _. refl)
