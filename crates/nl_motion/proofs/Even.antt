-- Fields that diffusion leaves as they are.
use Rattle.std.proofs.Common.{◌≡◌, ℕ, zero, suc, ◌*◌, ◌<◌, Bool, true, false, List, [], ◌∷◌, length, map, ℤ, pos, ◌+ℤ◌, ◌*ℤ◌, refl, sym, ap, ◌∙◌, subst, arith}
use Rattle.std.specs.Prelude.{replicate}
use Rattle.std.specs.List.{Contains}
use Rattle.std.proofs.lemmas.Int.{ints}
use Rattle.std.proofs.lemmas.List.{get_or-map, get_or-replicate, length-replicate}
use Rattle.std.proofs.lemmas.List.Elements.{Contains-append_right}
use Rattle.std.proofs.lemmas.List.FromFn.{fill_by_all}
use Rattle.nl_fixed.specs.Numbers.{one, floor_quotient}
use Rattle.nl_grid.specs.Geometry.{Plane, patches_of}
use Rattle.nl_motion.specs.Climbing.{ring_of}
use Rattle.nl_motion.specs.Diffusion.{total, count_at, parts_of, one_share, count_after, diffused_field}
use Rattle.nl_motion.proofs.Rings.{ring_of_world}

-- a total of one count, so many times
pub times_suc : (n : ℕ) (c : ℤ) → pos (suc n) *ℤ c ≡ c +ℤ (pos n *ℤ c)
times_suc n c = omega (arith, ints)

over_one : (g : ℕ → ℤ) (s : ℤ) (xs : List ℕ) → ((x : ℕ) → Contains xs x → g x ≡ s) → total (map g xs) ≡ pos (length xs) *ℤ s
over_one g s [] same = omega (arith, ints)
over_one g s (x ∷ xs) same =
    let first : g x ≡ s = same x (0, omega arith, refl) in
    let rest = over_one g s xs (λ y held. same y (Contains-append_right (x ∷ []) xs y held)) in
    ap (λ z. z +ℤ total (map g xs)) first ∙ ap (λ z. s +ℤ z) rest ∙ sym (times_suc (length xs) s)

-- where a patch and its neighbors have one share, the patch keeps what it had
level : (four : Bool) (plane : Plane) (field shares : List ℤ) (patch : ℕ) (s : ℤ) → count_at shares patch ≡ s
    → ((q : ℕ) → q < patches_of plane → count_at shares q ≡ s) → count_after four plane field shares patch ≡ count_at field patch
unfolding count_after
level four plane field shares patch s own around =
    let ring = ring_of four plane patch in
    let got = over_one (count_at shares) s ring (λ q held. around q (ring_of_world four plane patch q held)) in
    let given = ap (λ z. pos (length ring) *ℤ z) own in
    omega (arith, ints, got, given)

-- ---- a part of 0

none_of : (four : Bool) → floor_quotient (pos 0) (parts_of four * one) ≡ pos 0
none_of true = refl
none_of false = refl

no_share : (four : Bool) (count : ℤ) → one_share (parts_of four) (pos 0) count ≡ pos 0
unfolding one_share
no_share four count =
    let none : count *ℤ pos 0 ≡ pos 0 = omega (arith, ints) in
    ap (λ p. floor_quotient p (parts_of four * one)) none ∙ none_of four

no_shares : (four : Bool) (field : List ℤ) (q : ℕ) → count_at (map (one_share (parts_of four) (pos 0)) field) q ≡ pos 0
no_shares four [] zero = refl
no_shares four [] (suc q) = refl
no_shares four (count ∷ field) zero = no_share four count
no_shares four (count ∷ field) (suc q) = no_shares four field q

pub nothing_given : (four : Bool) (plane : Plane) (field : List ℤ) → length field ≡ patches_of plane → diffused_field four plane (pos 0) field ≡ field
nothing_given four plane field many =
    let shares = map (one_share (parts_of four) (pos 0)) field in
    sym (fill_by_all (count_after four plane field shares) field (patches_of plane) (pos 0) many
    (λ k below. sym (level four plane field shares k (pos 0) (no_shares four field k) (λ q q_below. no_shares four field q))))

-- ---- one value everywhere

even_shares : (f : ℤ → ℤ) (n : ℕ) (count : ℤ) (q : ℕ) → q < n → count_at (map f (replicate n count)) q ≡ f count
even_shares f n count q below =
    let within : q < length (replicate n count) = subst (λ m. q < m) (sym (length-replicate n count)) below in
    get_or-map f (replicate n count) q (pos 0) (pos 0) within ∙ ap f (get_or-replicate n q count (pos 0) below)

pub even_stays : (four : Bool) (plane : Plane) (part count : ℤ)
    → diffused_field four plane part (replicate (patches_of plane) count) ≡ replicate (patches_of plane) count
even_stays four plane part count =
    let n = patches_of plane in
    let field = replicate n count in
    let share = one_share (parts_of four) part in
    sym (fill_by_all (count_after four plane field (map share field)) field n (pos 0) (length-replicate n count)
    (λ k below. sym (level four plane field (map share field) k (share count) (even_shares share n count k below)
    (λ q q_below. even_shares share n count q q_below))))
