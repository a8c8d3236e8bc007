-- Sets of kinds.
use Rattle.std.proofs.Common.{◌≡◌, ◌≤◌, Bool, true, false, not, ◌&&◌, ◌||◌, IsTrue, inl, inr, ◌⊎◌, refl, sym, arith}
use Rattle.nl_words.specs.declared.entry.Kinds.{Kinds}
use Rattle.nl_words.specs.Kinds.{everyone}
use Rattle.nl_tree.specs.Context.{Kind, Observer, Turtle, Patch, Link, allows}
use Rattle.nl_check.specs.inner.Kinds.{meet, is_none, one_if, count}
use Rattle.nl_check.specs.inner.Reach.{Under}

bad : IsTrue false → ⊥
bad h = cc

both_left : (a b : Bool) → IsTrue (a && b) → IsTrue a
both_left true b h = refl
both_left false b h = cc

both_right : (a b : Bool) → IsTrue (a && b) → IsTrue b
both_right true b h = h
both_right false b h = cc

both : (a b : Bool) → IsTrue a → IsTrue b → IsTrue (a && b)
both true b h k = k
both false b h k = cc

pub meet_left : (a b : Kinds) → Under (meet a b) a
meet_left a b Observer h = both_left a.observer b.observer h
meet_left a b Turtle h = both_left a.turtle b.turtle h
meet_left a b Patch h = both_left a.patch b.patch h
meet_left a b Link h = both_left a.link b.link h

pub meet_right : (a b : Kinds) → Under (meet a b) b
meet_right a b Observer h = both_right a.observer b.observer h
meet_right a b Turtle h = both_right a.turtle b.turtle h
meet_right a b Patch h = both_right a.patch b.patch h
meet_right a b Link h = both_right a.link b.link h

pub meet_both : (a b : Kinds) (kind : Kind) → IsTrue (allows a kind) → IsTrue (allows b kind) → IsTrue (allows (meet a b) kind)
meet_both a b Observer h k = both a.observer b.observer h k
meet_both a b Turtle h k = both a.turtle b.turtle h k
meet_both a b Patch h k = both a.patch b.patch h k
meet_both a b Link h k = both a.link b.link h k

-- a test is true or false
pub true_or_not : (b : Bool) → IsTrue b ⊎ IsTrue (not b)
true_or_not true = inl refl
true_or_not false = inr refl

pub not_both : (b : Bool) → IsTrue b → IsTrue (not b) → ⊥
not_both true h k = cc
not_both false h k = cc

-- what isn't in both isn't in one of them
pub meet_lacks : (a b : Kinds) (kind : Kind) → IsTrue (not (allows (meet a b) kind)) → IsTrue (not (allows a kind)) ⊎ IsTrue (not (allows b kind))
meet_lacks a b kind h = elim (true_or_not (allows a kind)) [
  | inr out ↦ inl out
  | inl in_a ↦ elim (true_or_not (allows b kind)) [
    | inr out ↦ inr out
    | inl in_b ↦ absurd (not_both (allows (meet a b) kind) (meet_both a b kind in_a in_b) h)
  ]
]

fewer : (a b : Bool) → one_if (a && b) ≤ one_if a
fewer true true = omega arith
fewer true false = omega arith
fewer false b = omega arith

pub count_meet : (a b : Kinds) → count (meet a b) ≤ count a
count_meet a b = omega (arith, fewer a.observer b.observer, fewer a.turtle b.turtle, fewer a.patch b.patch, fewer a.link b.link)

kept : (a b : Bool) → one_if a ≤ one_if (a && b) → IsTrue a → IsTrue (a && b)
kept true true h k = refl
kept true false h k = absurd (omega (arith, h))
kept false b h k = cc

-- where none is lost, each is kept
pub none_lost : (a b : Kinds) → count a ≤ count (meet a b) → Under a (meet a b)
none_lost a b h Observer = kept a.observer b.observer (omega (arith, h, fewer a.observer b.observer, fewer a.turtle b.turtle, fewer a.patch b.patch, fewer a.link b.link))
none_lost a b h Turtle = kept a.turtle b.turtle (omega (arith, h, fewer a.observer b.observer, fewer a.turtle b.turtle, fewer a.patch b.patch, fewer a.link b.link))
none_lost a b h Patch = kept a.patch b.patch (omega (arith, h, fewer a.observer b.observer, fewer a.turtle b.turtle, fewer a.patch b.patch, fewer a.link b.link))
none_lost a b h Link = kept a.link b.link (omega (arith, h, fewer a.observer b.observer, fewer a.turtle b.turtle, fewer a.patch b.patch, fewer a.link b.link))

pub everyone_allowed : (kind : Kind) → IsTrue (allows everyone kind)
everyone_allowed Observer = refl
everyone_allowed Turtle = refl
everyone_allowed Patch = refl
everyone_allowed Link = refl

and_assoc : (a b c : Bool) → ((a && b) && c) ≡ (a && (b && c))
and_assoc true b c = refl
and_assoc false b c = refl

pub meet_assoc : (a b c : Kinds) → meet (meet a b) c ≡ meet a (meet b c)
meet_assoc a b c = rw (and_assoc a.observer b.observer c.observer, and_assoc a.turtle b.turtle c.turtle, and_assoc a.patch b.patch c.patch, and_assoc a.link b.link c.link) refl

none_of : (a b c d : Bool) → IsTrue (not (a || b || c || d)) → (IsTrue a → ⊥) × (IsTrue b → ⊥) × (IsTrue c → ⊥) × (IsTrue d → ⊥)
none_of true b c d h = absurd (bad h)
none_of false true c d h = absurd (bad h)
none_of false false true d h = absurd (bad h)
none_of false false false true h = absurd (bad h)
none_of false false false false h = (bad, bad, bad, bad)

-- no kind is left where the test says so
pub none_left : (a : Kinds) → IsTrue (is_none a) → (kind : Kind) → IsTrue (allows a kind) → ⊥
none_left a h Observer = (none_of a.observer a.turtle a.patch a.link h).0
none_left a h Turtle = (none_of a.observer a.turtle a.patch a.link h).1
none_left a h Patch = (none_of a.observer a.turtle a.patch a.link h).2
none_left a h Link = (none_of a.observer a.turtle a.patch a.link h).3

some_of : (a b c d : Bool) → (not (a || b || c || d)) ≡ false → IsTrue a ⊎ (IsTrue b ⊎ (IsTrue c ⊎ IsTrue d))
some_of true b c d h = inl refl
some_of false true c d h = inr (inl refl)
some_of false false true d h = inr (inr (inl refl))
some_of false false false true h = inr (inr (inr refl))
some_of false false false false h = absurd (bad (sym h))

-- some kind is left where it doesn't
pub some_left : (a : Kinds) → is_none a ≡ false → (kind : Kind) × IsTrue (allows a kind)
some_left a h = elim (some_of a.observer a.turtle a.patch a.link h) [
  | inl o ↦ (Observer, o)
  | inr (inl t) ↦ (Turtle, t)
  | inr (inr (inl p)) ↦ (Patch, p)
  | inr (inr (inr l)) ↦ (Link, l)
]
