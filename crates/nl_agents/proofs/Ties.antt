-- That no two links of one breed join two turtles the same way, after a list of links was changed.
use Rattle.std.specs.Prelude.{◌≡◌, ◌&&◌, Bool, true, false, not, IsTrue, List, [], ◌∷◌, ◌++◌, map, filter}
use Rattle.std.specs.List.{list_all, list_any}
use Rattle.std.proofs.Common.{ap₂, refl}
use Rattle.std.proofs.lemmas.Bool.{cond_both, and_parts, and_from, or_parts, not_from_false}
use Rattle.nl_agents.specs.Changes.{joins}
use Rattle.nl_agents.specs.Standing.{links_differ}
use Rattle.nl_agents.specs.declared.agents.Link.{Link}

-- no link after this one joins its turtles the same way
abbrev pub alone_before : Link → List Link → Bool
alone_before l ls = list_all (λ later. not (joins later.breed later.directed later.end1 later.end2 l)) ls

all_filtered : {X : Type 0} (test keep : X → Bool) (xs : List X) → list_all test xs ≡ true → list_all test (filter keep xs) ≡ true
all_filtered test keep [] h = refl
all_filtered test keep (x ∷ xs) h =
    let parts = and_parts (test x) (list_all test xs) h in
    cond_both (keep x) (x ∷ filter keep xs) (filter keep xs) (λ l. list_all test l ≡ true)
    (λ _. and_from (test x) (list_all test (filter keep xs)) parts.0 (all_filtered test keep xs parts.1))
    (λ _. all_filtered test keep xs parts.1)

all_appended : {X : Type 0} (test : X → Bool) (xs : List X) (x : X) → list_all test xs ≡ true → test x ≡ true → list_all test (xs ++ x ∷ []) ≡ true
all_appended test [] x h e = and_from (test x) true e refl
all_appended test (y ∷ ys) x h e =
    let parts = and_parts (test y) (list_all test ys) h in
    and_from (test y) (list_all test (ys ++ x ∷ [])) parts.0 (all_appended test ys x parts.1 e)

pub differ_filtered : (keep : Link → Bool) (ls : List Link) → IsTrue (links_differ ls) → IsTrue (links_differ (filter keep ls))
differ_filtered keep [] h = refl
differ_filtered keep (l ∷ ls) h =
    let parts = and_parts (alone_before l ls) (links_differ ls) h in
    cond_both (keep l) (l ∷ filter keep ls) (filter keep ls) (λ xs. links_differ xs ≡ true)
    (λ _. and_from (alone_before l (filter keep ls)) (links_differ (filter keep ls))
    (all_filtered (λ later. not (joins later.breed later.directed later.end1 later.end2 l)) keep ls parts.0)
    (differ_filtered keep ls parts.1))
    (λ _. differ_filtered keep ls parts.1)

pub differ_appended : (ls : List Link) (new : Link) → list_any (joins new.breed new.directed new.end1 new.end2) ls ≡ false → IsTrue (links_differ ls) → IsTrue (links_differ (ls ++ new ∷ []))
differ_appended [] new h d = refl
differ_appended (l ∷ ls) new h d =
    let none = or_parts (joins new.breed new.directed new.end1 new.end2 l) (list_any (joins new.breed new.directed new.end1 new.end2) ls) h in
    let parts = and_parts (alone_before l ls) (links_differ ls) d in
    and_from (alone_before l (ls ++ new ∷ [])) (links_differ (ls ++ new ∷ []))
    (all_appended (λ later. not (joins later.breed later.directed later.end1 later.end2 l)) ls new parts.0
    (not_from_false (joins new.breed new.directed new.end1 new.end2 l) none.0))
    (differ_appended ls new none.1 parts.1)

-- a change of links that leaves their breeds, directions and ends
pub record KeepsTies (change : Link → Link) : Type 0 where
  pub breed : (l : Link) → (change l).breed ≡ l.breed
  pub directed : (l : Link) → (change l).directed ≡ l.directed
  pub end1 : (l : Link) → (change l).end1 ≡ l.end1
  pub end2 : (l : Link) → (change l).end2 ≡ l.end2

joins_still : (change : Link → Link) → KeepsTies change → (l later : Link)
    → joins (change later).breed (change later).directed (change later).end1 (change later).end2 (change l) ≡ joins later.breed later.directed later.end1 later.end2 l
joins_still change k l later =
    rw (k.breed l, k.directed l, k.end1 l, k.end2 l, k.breed later, k.directed later, k.end1 later, k.end2 later) refl

alone_changed : (change : Link → Link) → KeepsTies change → (l : Link) (ls : List Link) → alone_before (change l) (map change ls) ≡ alone_before l ls
alone_changed change k l [] = refl
alone_changed change k l (later ∷ ls) = ap₂ (λ a b. not a && b) (joins_still change k l later) (alone_changed change k l ls)

pub differ_changed : (change : Link → Link) → KeepsTies change → (ls : List Link) → links_differ (map change ls) ≡ links_differ ls
differ_changed change k [] = refl
differ_changed change k (l ∷ ls) = ap₂ (λ a b. a && b) (alone_changed change k l ls) (differ_changed change k ls)
