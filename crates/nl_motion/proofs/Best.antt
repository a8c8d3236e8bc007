-- A walk over patches that keeps the best of them.
use Rattle.std.proofs.Common.{◌≡◌, ℕ, ℤ, ◌+◌, ◌<◌, ◌≤◌, Bool, true, false, cond, List, [], ◌∷◌, ◌++◌, length, map, take, get_or, Option, length-append, sym, ap, ◌∙◌, subst, take_all, arith}
use Rattle.std.specs.List.{filter, Contains}
use Rattle.std.proofs.lemmas.List.{get_or-map, append-nil}
use Rattle.std.proofs.lemmas.List.Elements.{filter_more}
use Rattle.nl_grid.specs.Geometry.{Plane, ArePatchesOf}
use Rattle.nl_grid.proofs.RangeLemmas.{in_kept}
use Rattle.nl_motion.specs.Climbing.{is_best}

abbrev test : Bool → (ℕ → Option ℤ) → List ℕ → ℕ → Bool
test up number patches patch = is_best up (map number patches) (number patch)

-- the number at a place of the numbers is that of the patch at that place
number_at : (number : ℕ → Option ℤ) (patches : List ℕ) (others : List (Option ℤ)) (i : ℕ) (n : Option ℤ)
    → i < length patches → others ≡ map number patches → n ≡ get_or others i n → n ≡ number (get_or patches i 0)
number_at number patches others i n within same at = at ∙ ap (λ xs. get_or xs i n) same ∙ get_or-map number patches i 0 n within

pub same_test : (up : Bool) (number : ℕ → Option ℤ) (patches : List ℕ) (others : List (Option ℤ)) (i : ℕ) (n : Option ℤ) (b : Bool)
    → i < length patches → others ≡ map number patches → n ≡ get_or others i n → b ≡ is_best up others n → test up number patches (get_or patches i 0) ≡ b
same_test up number patches others i n b within same at is =
    let e = number_at number patches others i n within same at in
    sym (is ∙ ap (λ xs. is_best up xs n) same ∙ ap (λ m. is_best up (map number patches) m) e)

pub best_passed : (up : Bool) (number : ℕ → Option ℤ) (patches best more : List ℕ) (i : ℕ)
    → i < length patches → test up number patches (get_or patches i 0) ≡ false → more ≡ best
    → (length best ≤ i) × (best ≡ filter (test up number patches) (take i patches))
    → (length more ≤ i + 1) × (more ≡ filter (test up number patches) (take (i + 1) patches))
best_passed up number patches best more i within fails is so_far =
    let step = filter_more (test up number patches) patches i 0 within in
    let left : filter (test up number patches) (take (i + 1) patches) ≡ filter (test up number patches) (take i patches) =
    step ∙ ap (λ b. filter (test up number patches) (take i patches) ++ cond b (get_or patches i 0 ∷ []) []) fails ∙ append-nil _ in
    let long = ap length is in
    (omega (arith, so_far.0, long), is ∙ so_far.1 ∙ sym left)

pub best_taken : (up : Bool) (number : ℕ → Option ℤ) (patches best more : List ℕ) (i : ℕ)
    → i < length patches → test up number patches (get_or patches i 0) ≡ true → more ≡ best ++ get_or patches i 0 ∷ []
    → (length best ≤ i) × (best ≡ filter (test up number patches) (take i patches))
    → (length more ≤ i + 1) × (more ≡ filter (test up number patches) (take (i + 1) patches))
best_taken up number patches best more i within passes is so_far =
    let step = filter_more (test up number patches) patches i 0 within in
    let taken : filter (test up number patches) (take (i + 1) patches) ≡ filter (test up number patches) (take i patches) ++ get_or patches i 0 ∷ [] =
    step ∙ ap (λ b. filter (test up number patches) (take i patches) ++ cond b (get_or patches i 0 ∷ []) []) passes in
    let long = ap length is ∙ length-append best (get_or patches i 0 ∷ []) in
    (omega (arith, so_far.0, long), is ∙ ap (λ xs. xs ++ get_or patches i 0 ∷ []) so_far.1 ∙ sym taken)

-- the best of some patches are of the world where these are
pub best_of_world : (plane : Plane) (up : Bool) (number : ℕ → Option ℤ) (patches best : List ℕ) (i : ℕ)
    → ArePatchesOf plane patches → length patches ≤ i → best ≡ filter (test up number patches) (take i patches) → ArePatchesOf plane best
best_of_world plane up number patches best i world whole is patch held =
    let all : best ≡ filter (test up number patches) patches = is ∙ ap (filter (test up number patches)) (take_all i patches whole) in
    world patch (in_kept (test up number patches) patches patch (subst (λ xs. Contains xs patch) all held)).0
