-- Seeds of different runs differ.
use Rattle.std.proofs.Common.{◌≡◌, ℕ, ◌+◌, ◌-◌, ◌*◌, ◌/◌, ◌%◌, ◌^◌, ◌<◌, ◌≤◌, sym, ap, ◌∙◌, arith}
use Rattle.std.proofs.Math.Nat.{mod-add-div'}
use Rattle.nl_experiment_sweep.specs.Laws.{SeedsDiffer}
use Rattle.nl_experiment_sweep.specs.Sweep.{most_runs, seed_by, seed_of}

-- ---- numbers of one remainder that are less than the divisor apart

farther : (p q m r a b : ℕ) → r + p * m ≡ a → r + q * m ≡ b → p < q → a + m ≤ b
farther p q m r a b is_a is_b less = grind arith

pub no_nearer : (m n x y : ℕ) → (n + x) % m ≡ (n + y) % m → x < m → y < m → (n + x) / m < (n + y) / m → ⊥
no_nearer m n x y same low high less =
    let apart = farther ((n + x) / m) ((n + y) / m) m ((n + x) % m) (n + x) (n + y) (mod-add-div' (n + x) m)
    (ap (λ r. r + (n + y) / m * m) same ∙ mod-add-div' (n + y) m) less in
    omega (arith, apart, high)

pub same_below : (m n x y : ℕ) → (n + x) % m ≡ (n + y) % m → x < m → y < m → x ≡ y
same_below m n x y same low high =
    let up = no_nearer m n x y same low high in
    let down = no_nearer m n y x (sym same) high low in
    let even : (n + x) / m ≡ (n + y) / m = omega (arith, up, down) in
    let sums : n + x ≡ n + y = sym (mod-add-div' (n + x) m) ∙ ap (λ r. r + (n + x) / m * m) same ∙ ap (λ q. (n + y) % m + q * m) even ∙ mod-add-div' (n + y) m in
    omega (arith, sums)

-- ---- seeds

few : (run runs : ℕ) → run ≤ runs → runs ≤ most_runs → run - 1 < 2 ^ 64
few run runs here all = omega (arith, here, all)

pub seeds_differ : SeedsDiffer
unfolding seed_of
seeds_differ order vs seed j k all is_j is_k none_j none_k same =
    let seed_j = ap (λ varied. seed_by varied seed j) none_j in
    let seed_k = ap (λ varied. seed_by varied seed k) none_k in
    let rest = same_below (2 ^ 64) seed (j - 1) (k - 1) (sym seed_j ∙ same ∙ seed_k) (few j _ is_j.to all) (few k _ is_k.to all) in
    omega (arith, rest, is_j.from, is_k.from)
