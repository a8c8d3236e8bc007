-- Lemmas on turtles that are held or let go.
use Rattle.std.proofs.Common.{◌≡◌, ◌≢◌, ℕ, Bool, true, false, List, [], ◌∷◌, Option, Some, None, IsSome, IsSomeAnd, is_some, eqb, cond, refl, sym, ap, ap₂, ◌∙◌, subst}
use mathlib.Core.Path.{fun_ext}
use Rattle.nl_store_lists.specs.Chained.{has, IsPlace, IsWalk}
use Rattle.nl_store_lists.proofs.Threaded.{listed}
use Rattle.nl_store_lists.proofs.Threaded.{no_keys as none_threaded}
use Rattle.nl_store_records.specs.Records.{fields_at}
use Rattle.nl_store_records.specs.Filed.{after, before, no_keys, IsFiled}
use Rattle.nl_store_records.specs.declared.fields.Body.{Body}
use Rattle.nl_store_records.specs.declared.fields.Body.TheVariants.{Turtle, Link}
use Rattle.nl_store_records.specs.declared.fields.Fields.{Fields}
use Rattle.nl_store_records.specs.declared.places.Border.{Border}
use Rattle.nl_store_records.specs.declared.record.Record.{Record}
use Rattle.nl_index.specs.Index.{chain_of, first_of, home_by}
use Rattle.nl_index.proofs.Moves.{home-here}
use Rattle.nl_links.specs.declared.sides.Side.{Side}
use Rattle.nl_links.specs.declared.sides.Side.TheVariants.{First, Second}
use Rattle.nl_links.specs.declared.sides.Sides.{Sides}
use Rattle.nl_links.specs.declared.ends.Ends.{Ends}
use Rattle.nl_links.specs.Sides.{border_in, border_of, borders_of, no_links, sides_at, SetsSides}
use Rattle.nl_links.specs.Ends.{by_first, by_second, first_end, second_end, AreEndsOf, HasEnds, Holds, IsEnded, IsHeldBy, LinkLists}
use Rattle.nl_links.proofs.Borders.{sides-each}

-- the same borders
pub filed-borders : (chain : ℕ) (old new : ℕ → Border) (at : ℕ → Option Record) (home : ℕ → Option ℕ) (lists : ℕ → List ℕ) → ((t : ℕ) → new t ≡ old t) → IsFiled chain old at home lists → IsFiled chain new at home lists
filed-borders chain old new at home lists same d = subst (λ b. IsFiled chain b at home lists) (fun_ext (λ t. sym (same t))) d

-- ---- chains that are empty, and first keys

pub none-filed : (chain : ℕ) (borders : ℕ → Border) (at : ℕ → Option Record) → ((n : ℕ) → borders n ≡ no_keys) → IsFiled chain borders at (λ _. None) (λ _. [])
none-filed chain borders at none = record {
  threaded = none_threaded (λ _. None) (after chain borders at) (before chain borders at) (λ _. refl) (λ n. ap (λ b. b.first) (none n)) (λ n. ap (λ b. b.last) (none n));
  held = λ key number e. absurd (cc);
}

pub first-key : (chain : ℕ) (borders : ℕ → Border) (at : ℕ → Option Record) (home : ℕ → Option ℕ) (lists : ℕ → List ℕ) (n : ℕ) → IsFiled chain borders at home lists → (borders n).first ≡ first_of (lists n)
first-key chain borders at home lists n d = go (lists n) (d.threaded.walk n)
  where
    go : (ks : List ℕ) → IsWalk (after chain borders at n) None ks → (borders n).first ≡ first_of ks
    go [] w = w
    go (k ∷ ks) w = w.0

pub empty-border : (chain : ℕ) (borders : ℕ → Border) (at : ℕ → Option Record) (home : ℕ → Option ℕ) (lists : ℕ → List ℕ) (n : ℕ) → IsFiled chain borders at home lists → lists n ≡ [] → borders n ≡ no_keys
empty-border chain borders at home lists n d e = ap₂ border (first-key chain borders at home lists n d ∙ ap first_of e) (last (borders n).last refl)
  where
    border : Option ℕ → Option ℕ → Border
    border a b = record { first = a; last = b }

    last : (o : Option ℕ) → (borders n).last ≡ o → (borders n).last ≡ None
    last None q = q
    last (Some j) q =
        let place : IsPlace home n (before chain borders at n None) = d.threaded.back.stays n None tt in
        let there : home j ≡ Some n = subst (IsPlace home n) q place in
        let in_it = listed home _ _ lists n j d.threaded there in
        let none : has (lists n) j ≡ false = ap (λ ks. has ks j) e in
        absurd (cc)

-- ---- ends that are held

pub is-link : (ends : Ends) (o : Option Fields) → IsSomeAnd o (HasEnds ends) → IsSome (chain_of by_first o)
is-link ends None h = absurd h
is-link ends (Some f) h = go f.body refl
  where
    go : (b : Body) → f.body ≡ b → IsSome (first_end f.body)
    go (Turtle at) e = absurd (subst (AreEndsOf ends) e h)
    go (Link directed end1 end2) e = ap (λ b. is_some (first_end b)) e

pub first-held : (ends : Ends) (o : Option Fields) (t : ℕ) → IsSomeAnd o (HasEnds ends) → chain_of by_first o ≡ Some t → IsHeldBy ends t
first-held ends None t h e = absurd h
first-held ends (Some f) t h e = go f.body refl
  where
    go : (b : Body) → f.body ≡ b → IsHeldBy ends t
    go (Turtle at) q = absurd (subst (AreEndsOf ends) q h)
    go (Link directed end1 end2) q =
        let z = sym (ap first_end q) ∙ e in
        let s : end1 ≡ t = cc in
        let both = subst (AreEndsOf ends) q h in
        subst (IsHeldBy ends) s both.0

pub second-held : (ends : Ends) (o : Option Fields) (t : ℕ) → IsSomeAnd o (HasEnds ends) → chain_of by_second o ≡ Some t → IsHeldBy ends t
second-held ends None t h e = absurd h
second-held ends (Some f) t h e = go f.body refl
  where
    go : (b : Body) → f.body ≡ b → IsHeldBy ends t
    go (Turtle at) q = absurd (subst (AreEndsOf ends) q h)
    go (Link directed end1 end2) q =
        let z = sym (ap second_end q) ∙ e in
        let s : end2 ≡ t = cc in
        let both = subst (AreEndsOf ends) q h in
        subst (IsHeldBy ends) s both.1

-- ends that stay held
pub ends-stay : (old new : Ends) (f : Fields) → ((t : ℕ) → first_end f.body ≡ Some t → IsHeldBy old t → IsHeldBy new t) → ((t : ℕ) → second_end f.body ≡ Some t → IsHeldBy old t → IsHeldBy new t) → HasEnds old f → HasEnds new f
ends-stay old new f one two h = go f.body one two h
  where
    go : (b : Body) → ((t : ℕ) → first_end b ≡ Some t → IsHeldBy old t → IsHeldBy new t) → ((t : ℕ) → second_end b ≡ Some t → IsHeldBy old t → IsHeldBy new t) → AreEndsOf old b → AreEndsOf new b
    go (Turtle at) p q h = h
    go (Link directed end1 end2) p q h = (p end1 refl h.0, q end2 refl h.1)

pub some-ends-stay : (old new : Ends) (o : Option Fields) → ((t : ℕ) → chain_of by_first o ≡ Some t → IsHeldBy old t → IsHeldBy new t) → ((t : ℕ) → chain_of by_second o ≡ Some t → IsHeldBy old t → IsHeldBy new t) → IsSomeAnd o (HasEnds old) → IsSomeAnd o (HasEnds new)
some-ends-stay old new None one two h = h
some-ends-stay old new (Some f) one two h = ends-stay old new f one two h

-- ---- a turtle is held

pub holds-set : (old new : Ends) (turtle : ℕ) (slot : Option Sides) → SetsSides (sides_at old) (sides_at new) turtle slot → Holds old new turtle (is_some slot)
holds-set old new turtle slot sets t = ap is_some (sets t) ∙ go (eqb t turtle)
  where
    go : (b : Bool) → is_some (cond b slot (sides_at old t)) ≡ cond b (is_some slot) (is_some (sides_at old t))
    go true = refl
    go false = refl

no-border : (side : Side) → border_of side no_links ≡ no_keys
no-border First = refl
no-border Second = refl

entered-border : (side : Side) (old new : Ends) (turtle : ℕ) → sides_at old turtle ≡ None → SetsSides (sides_at old) (sides_at new) turtle (Some no_links) → (t : ℕ) → borders_of side new t ≡ borders_of side old t
entered-border side old new turtle none sets = sides-each (sides_at old) (sides_at new) turtle (Some no_links) (λ t o. border_in side o ≡ borders_of side old t) sets
    (no-border side ∙ sym (ap (border_in side) none)) (λ t ne. refl)

still-held : (old new : Ends) (turtle : ℕ) → SetsSides (sides_at old) (sides_at new) turtle (Some no_links) → (t : ℕ) → IsHeldBy old t → IsHeldBy new t
still-held old new turtle sets t h = sides-each (sides_at old) (sides_at new) turtle (Some no_links) (λ i o. IsSome (sides_at old i) → IsSome o) sets (λ _. refl) (λ i ne g. g) t h

pub entered : (old new : Ends) (turtle : ℕ) → sides_at old turtle ≡ None → SetsSides (sides_at old) (sides_at new) turtle (Some no_links) →
    (at : ℕ → Option Record) (filed : ℕ → Bool) (lists : LinkLists) → IsEnded old at filed lists → IsEnded new at filed lists
entered old new turtle none sets at filed lists d = record {
  first = filed-borders 3 _ _ at _ lists.first (entered-border First old new turtle none sets) d.first;
  second = filed-borders 4 _ _ at _ lists.second (entered-border Second old new turtle none sets) d.second;
  fit = λ k h. some-ends-stay old new (fields_at at k) (λ t _. still-held old new turtle sets t) (λ t _. still-held old new turtle sets t) (d.fit k h);
}

-- ---- a turtle is let go

left-border : (side : Side) (old new : Ends) (turtle : ℕ) → borders_of side old turtle ≡ no_keys → SetsSides (sides_at old) (sides_at new) turtle None → (t : ℕ) → borders_of side new t ≡ borders_of side old t
left-border side old new turtle none sets = sides-each (sides_at old) (sides_at new) turtle None (λ t o. border_in side o ≡ borders_of side old t) sets (sym none) (λ t ne. refl)

left-held : (old new : Ends) (turtle : ℕ) → SetsSides (sides_at old) (sides_at new) turtle None → (t : ℕ) → t ≢ turtle → IsHeldBy old t → IsHeldBy new t
left-held old new turtle sets t ne h = sides-each (sides_at old) (sides_at new) turtle None (λ i o. i ≢ turtle → IsSome (sides_at old i) → IsSome o) sets (λ apart _. absurd (apart refl)) (λ i _ _ g. g) t ne h

-- no end of a filed link has an empty chain
away : (number : Fields → Option ℕ) (chain : ℕ) (borders : ℕ → Border) (at : ℕ → Option Record) (filed : ℕ → Bool) (lists : ℕ → List ℕ) (turtle k t : ℕ) → IsFiled chain borders at (home_by number filed at) lists → lists turtle ≡ [] → filed k ≡ true → chain_of number (fields_at at k) ≡ Some t → t ≢ turtle
away number chain borders at filed lists turtle k t d none here is s =
    let there = listed (home_by number filed at) _ _ lists t k d.threaded (home-here number filed at k here ∙ is) in
    let z : has (lists t) k ≡ false = ap (λ i. has (lists i) k) s ∙ ap (λ ks. has ks k) none in
    absurd (cc)

pub left : (old new : Ends) (turtle : ℕ) → SetsSides (sides_at old) (sides_at new) turtle None →
    (at : ℕ → Option Record) (filed : ℕ → Bool) (lists : LinkLists) → IsEnded old at filed lists → lists.first turtle ≡ [] → lists.second turtle ≡ [] → IsEnded new at filed lists
left old new turtle sets at filed lists d one two = record {
  first = filed-borders 3 _ _ at _ lists.first (left-border First old new turtle (empty-border 3 _ at _ lists.first turtle d.first one) sets) d.first;
  second = filed-borders 4 _ _ at _ lists.second (left-border Second old new turtle (empty-border 4 _ at _ lists.second turtle d.second two) sets) d.second;
  fit = λ k h. some-ends-stay old new (fields_at at k)
      (λ t is g. left-held old new turtle sets t (away by_first 3 _ at filed lists.first turtle k t d.first one h is) g)
      (λ t is g. left-held old new turtle sets t (away by_second 4 _ at filed lists.second turtle k t d.second two h is) g)
      (d.fit k h);
}
