-- Sets of kinds of agents.
use Rattle.std.specs.Prelude.{ℕ, ◌+◌, Bool, true, false, not, ◌&&◌, ◌||◌}
use Rattle.nl_words.specs.declared.entry.Kinds.{Kinds}
use Rattle.nl_words.specs.Kinds.{kinds}

-- the kinds that are in both
abbrev pub meet : Kinds → Kinds → Kinds
meet a b = kinds (a.observer && b.observer) (a.turtle && b.turtle) (a.patch && b.patch) (a.link && b.link)

abbrev pub is_none : Kinds → Bool
is_none ks = not (ks.observer || ks.turtle || ks.patch || ks.link)

abbrev pub one_if : Bool → ℕ
one_if true = 1
one_if false = 0

-- how many kinds there are
abbrev pub count : Kinds → ℕ
count ks = one_if ks.observer + one_if ks.turtle + one_if ks.patch + one_if ks.link
