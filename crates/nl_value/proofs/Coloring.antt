-- The table of colors, row by row.
use Rattle.std.specs.Prelude.{◌≡◌, ℕ, ℤ, pos, zero, ◌+◌, ◌*◌, ◌<◌, ◌≤◌, Bool, true, false, if◌then◌else◌, Option, Some, None, List, [], ◌∷◌, ◌++◌, length, map, take, slice_get, refl}
use Rattle.std.proofs.Common.{arith, get_or, drop, suc, ap, ◌∙◌, sym}
use Rattle.std.proofs.lemmas.List.{drop_more}
use Rattle.std.proofs.Math.ListN.{drop_of_length-le}
use Rattle.std.specs.List.{list_all}
use Rattle.std.specs.Str.{bytes_eq}
use Rattle.nl_fixed.specs.Nouns.{Name}
use Rattle.nl_value.specs.declared.colors.NamedColor.{NamedColor}
use Rattle.nl_fixed.specs.Numbers.{in_range}
use Rattle.nl_value.specs.Colors.{Color, number_among}
use Rattle.nl_value.proofs.Sameness.{and_left, and_right}
use Rattle.nl_value.specs.inner.Rows.{color_of}

-- what is left to look through from a row on
abbrev pub among_rest : List NamedColor → Name → ℕ → Option ℤ
among_rest rows name i = number_among (map color_of (drop i rows)) name

pub among_rest-step : (rows : List NamedColor) (name : Name) (i : ℕ) (row : NamedColor) → i < length rows → row ≡ get_or rows i row
    → among_rest rows name i ≡ (if bytes_eq row.name.now name then Some (pos (row.tenths * 100000)) else among_rest rows name (i + 1))
among_rest-step rows name i row h e =
    ap (λ (rs : List NamedColor). number_among (map color_of rs) name) (drop_more rows i row h ∙ ap (λ (r : NamedColor). r ∷ drop (i + 1) rows) (sym e))

pub among_rest-end : (rows : List NamedColor) (name : Name) (i : ℕ) → length rows ≤ i → among_rest rows name i ≡ None
among_rest-end rows name i h = rw (drop_of_length-le rows h) refl

among_in_range_by : (c : Color) (name : Name) (m : ℤ) (b : Bool) (rest : Option ℤ) → in_range c.millionths ≡ true → (rest ≡ Some m → in_range m ≡ true) → (if b then Some c.millionths else rest) ≡ Some m → in_range m ≡ true
among_in_range_by c name m true rest r f h = let same : c.millionths ≡ m = cc in ap in_range (sym same) ∙ r
among_in_range_by c name m false rest r f h = f h

-- the number of a named color is in range where all are
pub among_in_range : (cs : List Color) (name : Name) (m : ℤ) → list_all (λ c. in_range c.millionths) cs ≡ true → number_among cs name ≡ Some m → in_range m ≡ true
among_in_range [] name m r h = cc
among_in_range (c ∷ cs) name m r h =
    among_in_range_by c name m (bytes_eq c.name name) (number_among cs name) (and_left (in_range c.millionths) (list_all (λ d. in_range d.millionths) cs) r)
    (among_in_range cs name m (and_right (in_range c.millionths) (list_all (λ d. in_range d.millionths) cs) r)) h

pub taken_next : (xs : List ℤ) (k : ℕ) (x : ℤ) → slice_get xs k ≡ Some x → take (k + 1) xs ≡ take k xs ++ x ∷ []
taken_next [] k x h = cc
taken_next (y ∷ ys) zero x h = let same : y ≡ x = cc in ap (λ (z : ℤ). z ∷ []) same
taken_next (y ∷ ys) (suc k) x h = rw (suc-next k) (ap (λ (zs : List ℤ). y ∷ zs) (taken_next ys k x h))
  where
    suc-next : (n : ℕ) → suc n + 1 ≡ suc (n + 1)
    suc-next n = omega arith
