-- The laws of the first fault of context, of a model's bodies and of a lone text.
use Rattle.std.specs.Prelude.{◌≡◌, ◌⊎◌, ℕ, List, length}
use Rattle.nl_fixed.specs.declared.span.Span.{Span}
use Rattle.nl_tree.specs.declared.declared.Declared.{Declared}
use Rattle.nl_tree.specs.Tree.{Node}
use Rattle.nl_tree.specs.Vocabulary.{terms}
use Rattle.nl_tree.specs.declared.faults.CheckKind.{CheckKind}
use Rattle.nl_tree.specs.Context.{IsRightText}
use Rattle.nl_tree.specs.Checked.{BodiesAreRight, IsModelFault, IsLoneFault}

-- the bodies of a model have one first fault at most: one body, one kind of fault and one place
abbrev pub FaultsAreUnique : Type 0
FaultsAreUnique =
    (d : Declared) (bodies : List Node) (i j : ℕ) (x y : CheckKind) (p q : Span) → IsModelFault d bodies i x p → IsModelFault d bodies j y q →
    (i ≡ j) × (x ≡ y) × (p ≡ q)

-- bodies that are right have none
abbrev pub RightBodiesHaveNoFault : Type 0
RightBodiesHaveNoFault = (d : Declared) (bodies : List Node) (i : ℕ) (x : CheckKind) (p : Span) → BodiesAreRight d bodies → IsModelFault d bodies i x p → ⊥

-- and bodies, one a procedure, are right or have one
abbrev pub BodiesAreRightOrFaulty : Type 0
BodiesAreRightOrFaulty =
    (d : Declared) (bodies : List Node) → length bodies ≡ length d.procedures →
    BodiesAreRight d bodies ⊎ ((i : ℕ) × (x : CheckKind) × (p : Span) × IsModelFault d bodies i x p)

-- a lone text has one first fault at most: one kind and one place
abbrev pub LoneFaultsAreUnique : Type 0
LoneFaultsAreUnique =
    (d : Declared) (bodies : List Node) (t : Node) (x y : CheckKind) (p q : Span) → IsLoneFault d bodies t x p → IsLoneFault d bodies t y q → (x ≡ y) × (p ≡ q)

-- a lone text that is right has none
abbrev pub RightTextsHaveNoFault : Type 0
RightTextsHaveNoFault = (d : Declared) (bodies : List Node) (t : Node) (x : CheckKind) (p : Span) → IsRightText (terms d) bodies t → IsLoneFault d bodies t x p → ⊥

-- and a lone text beside bodies, one a procedure, is right or has one
abbrev pub TextsAreRightOrFaulty : Type 0
TextsAreRightOrFaulty =
    (d : Declared) (bodies : List Node) (t : Node) → length bodies ≡ length d.procedures →
    IsRightText (terms d) bodies t ⊎ ((x : CheckKind) × (p : Span) × IsLoneFault d bodies t x p)
