-- A first fault is one fault at one place, and what is right has none.
use Rattle.std.proofs.Common.{◌≡◌, ℕ, ◌<◌, ◌≤◌, Bool, true, false, not, IsTrue, List, [], ◌∷◌, ◌++◌, Some, All, inl, inr, ◌⊎◌, refl, sym, ap, subst, ◌∙◌, arith}
use Rattle.std.proofs.lemmas.Bool.{cases_lt}
use Rattle.std.proofs.lemmas.List.Elements.{All-head, All-tail}
use Rattle.nl_fixed.specs.declared.span.Span.{Span}
use Rattle.nl_tree.specs.declared.declared.Declared.{Declared}
use Rattle.nl_tree.specs.declared.faults.CheckKind.{CheckKind}
use Rattle.nl_tree.specs.declared.faults.CheckKind.TheVariants.{WrongContext, NotSettable, NoReport}
use Rattle.nl_tree.specs.declared.declared.Procedure.{Procedure}
use Rattle.nl_tree.specs.Tree.{Node}
use Rattle.nl_tree.specs.Term.{Term}
use Rattle.nl_tree.specs.Vocabulary.{terms}
use Rattle.nl_words.specs.Kinds.{everyone, observers}
use Rattle.nl_tree.specs.Context.{Use, uses, is_not_settable, IsFaultAt, IsRight, IsFirstFault}
use Rattle.nl_tree.specs.Checked.{IsModelFault}
use Rattle.nl_check.specs.Laws.{FaultsAreUnique, RightBodiesHaveNoFault, LoneFaultsAreUnique, RightTextsHaveNoFault}

-- ---- lists: the elements that are right, and those that have a fault

module _ {X F : Type 0} (Right : X → Type 0) (Has : X → F → Type 0) (apart : (x : X) (f : F) → Right x → Has x f → ⊥) where
  -- the first element that has a fault is one element at one place
  pub firsts_are_unique : (front ahead : List X) (u v : X) (rest later : List X) (f g : F)
      → front ++ u ∷ rest ≡ ahead ++ v ∷ later → All Right front → All Right ahead → Has u f → Has v g → (front ≡ ahead) × (u ≡ v)
  firsts_are_unique [] [] u v rest later f g same right_front right_ahead at_u at_v = let one : u ≡ v = cc in (refl, one)
  firsts_are_unique [] (b ∷ ahead) u v rest later f g same right_front right_ahead at_u at_v =
      let one : b ≡ u = cc in
      absurd (apart u f (subst Right one (All-head Right b ahead right_ahead)) at_u)
  firsts_are_unique (a ∷ front) [] u v rest later f g same right_front right_ahead at_u at_v =
      let one : a ≡ v = cc in
      absurd (apart v g (subst Right one (All-head Right a front right_front)) at_v)
  firsts_are_unique (a ∷ front) (b ∷ ahead) u v rest later f g same right_front right_ahead at_u at_v =
      let one : a ≡ b = cc in
      let tails : front ++ u ∷ rest ≡ ahead ++ v ∷ later = cc in
      let (fronts, us) = firsts_are_unique front ahead u v rest later f g tails (All-tail Right a front right_front) (All-tail Right b ahead right_ahead) at_u at_v in
      (cc, us)

  -- where all elements are right, none has a fault
  pub right_has_none : (xs front : List X) (u : X) (rest : List X) (f : F) → xs ≡ front ++ u ∷ rest → All Right xs → Has u f → ⊥
  right_has_none xs front u rest f is right at = none_in front (subst (All Right) is right)
    where
      none_in : (ahead : List X) → All Right (ahead ++ u ∷ rest) → ⊥
      none_in [] all = apart u f (All-head Right u rest all) at
      none_in (a ∷ ahead) all = none_in ahead (All-tail Right a (ahead ++ u ∷ rest) all)

-- ---- uses of one text

not_both : (b : Bool) → IsTrue b → IsTrue (not b) → ⊥
not_both true h k = cc
not_both false h k = cc

module _ (table : List Term) (bodies : List Node) (reporter : Bool) where
  -- at most one fault holds at one word
  pub one_fault_at : (u : Use) (x y : CheckKind) → IsFaultAt table bodies reporter u x → IsFaultAt table bodies reporter u y → x ≡ y
  one_fault_at u WrongContext WrongContext h k = refl
  one_fault_at u WrongContext NotSettable h k = absurd (k.0 h)
  one_fault_at u WrongContext NoReport h k = absurd (k.0 h)
  one_fault_at u NotSettable WrongContext h k = absurd (h.0 k)
  one_fault_at u NotSettable NotSettable h k = refl
  one_fault_at u NotSettable NoReport h k = absurd (not_both (is_not_settable table u.manner u.name) h.1 k.1)
  one_fault_at u NoReport WrongContext h k = absurd (h.0 k)
  one_fault_at u NoReport NotSettable h k = absurd (not_both (is_not_settable table u.manner u.name) k.1 h.1)
  one_fault_at u NoReport NoReport h k = refl

  right_is_apart : (u : Use) (x : CheckKind) → IsRight table bodies reporter u → IsFaultAt table bodies reporter u x → ⊥
  right_is_apart u x right at = right x at

  -- the uses of a text have one first fault at most
  pub first_faults_are_unique : (us : List Use) (x y : CheckKind) (p q : Span) → IsFirstFault table bodies reporter us x p → IsFirstFault table bodies reporter us y q → (x ≡ y) × (p ≡ q)
  first_faults_are_unique us x y p q (front, u, rest, (is, right, at, there)) (ahead, v, later, (js, all, here, where_it)) =
      let (_, one) = firsts_are_unique (IsRight table bodies reporter) (IsFaultAt table bodies reporter) right_is_apart front ahead u v rest later x y (sym is ∙ js) right all at here in
      (one_fault_at v x y (subst (λ (w : Use). IsFaultAt table bodies reporter w x) one at) here, sym there ∙ ap (λ (w : Use). w.span) one ∙ where_it)

  -- uses that are all right have none
  pub right_uses_have_none : (us : List Use) (x : CheckKind) (p : Span) → All (IsRight table bodies reporter) us → IsFirstFault table bodies reporter us x p → ⊥
  right_uses_have_none us x p right (front, u, rest, (is, _, at, _)) =
      right_has_none (IsRight table bodies reporter) (IsFaultAt table bodies reporter) right_is_apart us front u rest x is right at

-- ---- the bodies of a model

-- a body with a fault stands before no first fault
none_earlier : (d : Declared) (bodies : List Node) (i j : ℕ) (x y : CheckKind) (p q : Span) → IsModelFault d bodies i x p → IsModelFault d bodies j y q → i < j → ⊥
none_earlier d bodies i j x y p q (a, t, (is_a, is_t, first, _)) (_, _, (_, _, _, before)) earlier =
    right_uses_have_none (terms d) bodies a.reporter (uses (terms d) everyone t) x p (before i a t earlier is_a is_t) first

-- two first faults of one body are one
one_in_body : (d : Declared) (bodies : List Node) (i : ℕ) (x y : CheckKind) (p q : Span) → IsModelFault d bodies i x p → IsModelFault d bodies i y q → (x ≡ y) × (p ≡ q)
one_in_body d bodies i x y p q (a, t, (is_a, is_t, first, _)) (b, u, (is_b, is_u, other, _)) =
    let procedures : Some a ≡ Some b = sym is_a ∙ is_b in
    let trees : Some t ≡ Some u = sym is_t ∙ is_u in
    let one : a ≡ b = cc in
    let same : t ≡ u = cc in
    let of_b = subst (λ (c : Procedure). IsFirstFault (terms d) bodies c.reporter (uses (terms d) everyone t) x p) one first in
    let of_u = subst (λ (v : Node). IsFirstFault (terms d) bodies b.reporter (uses (terms d) everyone v) x p) same of_b in
    first_faults_are_unique (terms d) bodies b.reporter (uses (terms d) everyone u) x y p q of_u other

pub model_faults_are_unique : FaultsAreUnique
model_faults_are_unique d bodies i j x y p q h k = at (cases_lt i j) (cases_lt j i)
  where
    at : (i < j) ⊎ (j ≤ i) → (j < i) ⊎ (i ≤ j) → (i ≡ j) × (x ≡ y) × (p ≡ q)
    at (inl earlier) _ = absurd (none_earlier d bodies i j x y p q h k earlier)
    at (inr _) (inl later) = absurd (none_earlier d bodies j i y x q p k h later)
    at (inr up) (inr down) =
        let same : i ≡ j = omega (arith, up, down) in
        let (one, place) = one_in_body d bodies j x y p q (subst (λ (n : ℕ). IsModelFault d bodies n x p) same h) k in
        (same, one, place)

pub right_bodies_have_no_fault : RightBodiesHaveNoFault
right_bodies_have_no_fault d bodies i x p right (a, t, (is_a, is_t, first, _)) =
    right_uses_have_none (terms d) bodies a.reporter (uses (terms d) everyone t) x p (right i a t is_a is_t) first

-- ---- a lone text that the observer runs

pub lone_faults_are_unique : LoneFaultsAreUnique
lone_faults_are_unique d bodies t x y p q h k = first_faults_are_unique (terms d) bodies false (uses (terms d) observers t) x y p q h k

pub right_texts_have_no_fault : RightTextsHaveNoFault
right_texts_have_no_fault d bodies t x p right h = right_uses_have_none (terms d) bodies false (uses (terms d) observers t) x p right h
