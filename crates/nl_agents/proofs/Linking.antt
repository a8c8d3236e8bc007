-- The links of a world have two living ends, and no two of a breed join two turtles the same way.
use Rattle.std.specs.Prelude.{◌≡◌, ℕ, ◌==◌, ◌&&◌, ◌||◌, Bool, true, false, not, cond, IsTrue, List, [], ◌∷◌, find, Some}
use Rattle.std.proofs.Common.{◌∙◌, sym, subst}
use Rattle.std.proofs.lemmas.Bool.{cond_both, and_parts, not-true, both_ways, eqb-true, eqb-false, eq-eqb}
use Rattle.std.proofs.lemmas.Bool.Decides.{Decides-eqb, same_from_decides}
use Rattle.std.proofs.lemmas.Option.{none-some, same_Some}
use Rattle.nl_agents.specs.World.{World}
use Rattle.nl_agents.specs.Changes.{is_link, link_of, TurtleLives, joins}
use Rattle.nl_agents.specs.Standing.{IsWorld, IsLinkOf, links_differ}
use Rattle.nl_agents.specs.declared.agents.Link.{Link}
use Rattle.nl_agents.proofs.Finding.{found_all}
use Rattle.nl_agents.proofs.Ties.{alone_before}

pub ends_live : (w : World) (serial : ℕ) (l : Link) → IsWorld w → link_of serial w.rest ≡ Some l → TurtleLives l.end1 w × TurtleLives l.end2 w × (l.end1 ≡ l.end2 → ⊥)
ends_live w serial l h e =
    let is = found_all (is_link serial) (IsLinkOf w.rest) w.rest.links l h.agents.links e in
    (is.first, is.second, eqb-false l.end1 l.end2 is.apart)

-- ---- the same way round is the same from both

turned : (breeds one other c d e f : Bool) → (breeds && cond one other (not other) && ((c && d) || (not other && e && f))) ≡ true
    → (breeds && cond other one (not one) && ((c && d) || (not one && f && e))) ≡ true
turned false one other c d e f h = h
turned true true true c d e f h = h
turned true true false c d e f h = h
turned true false true c d e f h = h
turned true false false c d true true h = h
turned true false false c d true false h = h
turned true false false c d false true h = h
turned true false false c d false false h = h

eqb_comm : (m n : ℕ) → (m == n) ≡ (n == m)
eqb_comm m n = same_from_decides (m == n) (n == m) (Decides-eqb m n) (λ t. sym (eqb-true n m t), λ e. eq-eqb n m (sym e))

pub joins_both : (l m : Link) → joins m.breed m.directed m.end1 m.end2 l ≡ true → joins l.breed l.directed l.end1 l.end2 m ≡ true
joins_both l m h =
    rw (eqb_comm m.breed l.breed, eqb_comm m.end1 l.end1, eqb_comm m.end2 l.end2, eqb_comm m.end1 l.end2, eqb_comm m.end2 l.end1)
    (turned (l.breed == m.breed) l.directed m.directed (l.end1 == m.end1) (l.end2 == m.end2) (l.end1 == m.end2) (l.end2 == m.end1) h)

none_joins : (l : Link) (ls : List Link) (serial : ℕ) (m : Link) → alone_before l ls ≡ true → find (is_link serial) ls ≡ Some m → joins m.breed m.directed m.end1 m.end2 l ≡ false
none_joins l [] serial m h e = absurd (none-some m e)
none_joins l (x ∷ xs) serial m h e =
    let parts = and_parts (not (joins x.breed x.directed x.end1 x.end2 l)) (alone_before l xs) h in
    cond_both (is_link serial x) (Some x) (find (is_link serial) xs) (λ o. o ≡ Some m → joins m.breed m.directed m.end1 m.end2 l ≡ false)
    (λ t q. subst (λ y. joins y.breed y.directed y.end1 y.end2 l ≡ false) (same_Some x m q) (not-true (joins x.breed x.directed x.end1 x.end2 l) parts.0))
    (λ t q. none_joins l xs serial m parts.1 q)
    e

same_key : (x : Link) (one other : ℕ) → is_link one x ≡ true → is_link other x ≡ true → one ≡ other
same_key x one other p q = sym (eqb-true x.serial one p) ∙ eqb-true x.serial other q

single : (ls : List Link) (one other : ℕ) (l m : Link) → links_differ ls ≡ true → find (is_link one) ls ≡ Some l → find (is_link other) ls ≡ Some m → joins m.breed m.directed m.end1 m.end2 l ≡ true → one ≡ other
single [] one other l m h p q j = absurd (none-some l p)
single (x ∷ xs) one other l m h p q j =
    let parts = and_parts (alone_before x xs) (links_differ xs) h in
    cond_both (is_link one x) (Some x) (find (is_link one) xs) (λ o. o ≡ Some l → one ≡ other)
    (λ s a. cond_both (is_link other x) (Some x) (find (is_link other) xs) (λ o. o ≡ Some m → one ≡ other)
    (λ t b. same_key x one other s t)
    (λ t b. absurd (both_ways (joins m.breed m.directed m.end1 m.end2 l)
    (subst (λ y. joins m.breed m.directed m.end1 m.end2 y ≡ false) (same_Some x l a) (none_joins x xs other m parts.0 b)) j))
    q)
    (λ s a. cond_both (is_link other x) (Some x) (find (is_link other) xs) (λ o. o ≡ Some m → one ≡ other)
    (λ t b. absurd (both_ways (joins l.breed l.directed l.end1 l.end2 m)
    (subst (λ y. joins l.breed l.directed l.end1 l.end2 y ≡ false) (same_Some x m b) (none_joins x xs one l parts.0 a)) (joins_both l m j)))
    (λ t b. single xs one other l m parts.1 a b j)
    q)
    p

pub ties_are_single : (w : World) (one other : ℕ) (l m : Link) → IsWorld w → link_of one w.rest ≡ Some l → link_of other w.rest ≡ Some m → IsTrue (joins m.breed m.directed m.end1 m.end2 l) → one ≡ other
ties_are_single w one other l m h p q j = single w.rest.links one other l m h.agents.links_differ p q j
