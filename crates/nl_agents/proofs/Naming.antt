-- The texts of agents and sets: numbers in range, and texts made piece by piece.
use Rattle.std.specs.Prelude.{◌≡◌, ℕ, ◌+◌, ◌*◌, ◌<◌, ◌≤◌, ℤ, pos, ◌*ℤ◌, List, [], ◌∷◌, ◌++◌, Option, Some, None, option_map, length, codes, if◌then◌else◌, refl}
use Rattle.std.proofs.Common.{ap, sym, ◌∙◌, get_or, take, arith, append_assoc, to_z, w64}
use Rattle.std.proofs.lemmas.Int.{to_z_pos}
use Rattle.std.proofs.lemmas.Bool.{le-leb}
use Rattle.std.proofs.lemmas.List.{take_more, append-nil}
use Rattle.nl_fixed.specs.Nouns.{Bytes}
use Rattle.nl_fixed.specs.Numbers.{one, limit, number_at}
use Rattle.nl_fixed.specs.Spelling.{number_text}
use Rattle.nl_grid.specs.Geometry.{center_of}
use Rattle.nl_grid.specs.declared.point.Point.{Point}
use Rattle.nl_agents_layout.specs.Nouns.{BreedNumber}
use Rattle.nl_agents_layout.specs.Layouts.{breed_of}
use Rattle.nl_agents.specs.World.{Rest, World}
use Rattle.nl_agents.specs.Members.{members_of}
use Rattle.nl_value.specs.declared.sets.AgentSet.{AgentSet}
use Rattle.nl_agents.specs.Changes.{turtle_of, link_of}
use Rattle.nl_agents.specs.Names.{agent_text, patch_text, turtle_text, link_text, singular_or, who_of, whole_text, members_word, set_text}
use Rattle.nl_agents.specs.Standing.{IsWorld}
use Rattle.nl_agents.specs.inner.Views.{counts_text}
use Rattle.nl_agents.specs.declared.agents.Turtle.{Turtle}
use Rattle.nl_agents.specs.declared.agents.Link.{Link}
use Rattle.nl_agents.proofs.LivingMembers.{turtle_found}

-- ---- numbers

pub whole_in_range : (n : ℕ) → n ≤ 9_000_000_000_000 → number_at (pos n *ℤ pos one) ≡ Some (pos n *ℤ pos one)
whole_in_range n few = ap (λ b. if b then Some (pos n *ℤ pos one) else None) (le-leb (n * one) limit (omega (arith, few)))

-- ---- a text that grows

counts-append : (ns : List ℤ) (n : ℤ) → counts_text (ns ++ n ∷ []) ≡ counts_text ns ++ (codes " " ++ number_text n)
counts-append [] n = append-nil (codes " " ++ number_text n)
counts-append (m ∷ ms) n =
    ap (λ l. codes " " ++ number_text m ++ l) (counts-append ms n) ∙ sym (append_assoc (codes " " ++ number_text m) (counts_text ms) (codes " " ++ number_text n))

-- one more number, with a space before it
pub name_more : (front : Bytes) (ns : List ℤ) (i : ℕ) (n : ℤ) (text old spaced new : Bytes) → i < length ns → n ≡ get_or ns i n → text ≡ number_text n
    → old ≡ front ++ counts_text (take i ns) → spaced ≡ old ++ codes " " → new ≡ spaced ++ text
    → new ≡ front ++ counts_text (take (i + 1) ns)
name_more front ns i n text old spaced new inside at is so_far space grown =
    grown ∙ ap (λ l. spaced ++ l) is ∙ ap (λ l. l ++ number_text n) space ∙ append_assoc old (codes " ") (number_text n)
    ∙ ap (λ l. l ++ (codes " " ++ number_text n)) so_far
    ∙ append_assoc front (counts_text (take i ns)) (codes " " ++ number_text n)
    ∙ ap (λ l. front ++ l) (sym (ap counts_text (take_more ns i n inside ∙ ap (λ x. take i ns ++ x ∷ []) (sym at)) ∙ counts-append (take i ns) n))

-- ---- agents

pub turtle_named : (w : World) (serial : ℕ) (breed : BreedNumber) → IsWorld w → option_map (λ (t : Turtle). t.breed) (turtle_of serial w.rest) ≡ Some breed
    → agent_text (singular_or (codes "turtle") (breed_of w.rest.layout breed)) (pos (who_of w.rest serial) ∷ []) ≡ turtle_text w.rest (turtle_of serial w.rest)
turtle_named w serial breed world h = by (turtle_of serial w.rest) refl h
  where
    by : (o : Option Turtle) → turtle_of serial w.rest ≡ o → option_map (λ (t : Turtle). t.breed) o ≡ Some breed
        → agent_text (singular_or (codes "turtle") (breed_of w.rest.layout breed)) (pos (who_of w.rest serial) ∷ []) ≡ turtle_text w.rest o
    by None is bred = cc
    by (Some t) is bred =
        let same : breed ≡ t.breed = cc in
        let serials : serial ≡ t.serial = sym (turtle_found w serial t world is).0 in
        ap (λ b. agent_text (singular_or (codes "turtle") (breed_of w.rest.layout b)) (pos (who_of w.rest serial) ∷ [])) same
        ∙ ap (λ s. agent_text (singular_or (codes "turtle") (breed_of w.rest.layout t.breed)) (pos (who_of w.rest s) ∷ [])) serials

pub link_named : (w : World) (serial : ℕ) (breed : BreedNumber) (end1 end2 : ℕ) → option_map (λ (l : Link). l.breed) (link_of serial w.rest) ≡ Some breed
    → option_map (λ (l : Link). l.end1) (link_of serial w.rest) ≡ Some end1 → option_map (λ (l : Link). l.end2) (link_of serial w.rest) ≡ Some end2
    → agent_text (singular_or (codes "link") (breed_of w.rest.layout breed)) (pos (who_of w.rest end1) ∷ pos (who_of w.rest end2) ∷ []) ≡ link_text w.rest (link_of serial w.rest)
link_named w serial breed end1 end2 = by (link_of serial w.rest)
  where
    by : (o : Option Link) → option_map (λ (l : Link). l.breed) o ≡ Some breed → option_map (λ (l : Link). l.end1) o ≡ Some end1 → option_map (λ (l : Link). l.end2) o ≡ Some end2
        → agent_text (singular_or (codes "link") (breed_of w.rest.layout breed)) (pos (who_of w.rest end1) ∷ pos (who_of w.rest end2) ∷ []) ≡ link_text w.rest o
    by None bred first second = cc
    by (Some l) bred first second =
        let same : breed ≡ l.breed = cc in
        let one_end : end1 ≡ l.end1 = cc in
        let other_end : end2 ≡ l.end2 = cc in
        ap (λ b. agent_text (singular_or (codes "link") (breed_of w.rest.layout b)) (pos (who_of w.rest end1) ∷ pos (who_of w.rest end2) ∷ [])) same
        ∙ ap (λ e. agent_text (singular_or (codes "link") (breed_of w.rest.layout l.breed)) (pos (who_of w.rest e) ∷ pos (who_of w.rest end2) ∷ [])) one_end
        ∙ ap (λ e. agent_text (singular_or (codes "link") (breed_of w.rest.layout l.breed)) (pos (who_of w.rest l.end1) ∷ pos (who_of w.rest e) ∷ [])) other_end

pub patch_named : (w : World) (patch : ℕ) (center : Point) → center ≡ center_of w.rest.shape patch
    → codes "(" ++ codes "patch" ++ counts_text (center.x ∷ center.y ∷ []) ++ codes ")" ≡ patch_text w.rest patch
unfolding center_of
patch_named w patch center is = ap (λ (at : Point). codes "(" ++ codes "patch" ++ counts_text (at.x ∷ at.y ∷ []) ++ codes ")") is

pub whole_of : (n : ℕ) (found : Option ℤ) → n ≤ 9_000_000_000_000 → found ≡ number_at (to_z w64 n *ℤ pos one) → found ≡ Some (pos n *ℤ pos one)
whole_of n found few is =
    let small : to_z w64 n ≡ pos n = to_z_pos w64 n (omega (arith, few)) in
    is ∙ ap (λ z. number_at (z *ℤ pos one)) small ∙ whole_in_range n few

-- ---- sets

pub set_named : (r : Rest) (set : AgentSet) (count : ℕ) (number word began counted spaced named whole : Bytes) → count ≡ length (members_of r set)
    → number ≡ number_text (pos count *ℤ pos one) → word ≡ members_word r.layout set
    → began ≡ codes "(agentset, " → counted ≡ began ++ number → spaced ≡ counted ++ codes " " → named ≡ spaced ++ word → whole ≡ named ++ codes ")"
    → whole ≡ set_text r set
set_named r set count number word began counted spaced named whole many is called b c s n w =
    let text : number ≡ whole_text (pos (length (members_of r set))) = is ∙ ap (λ k. number_text (pos k *ℤ pos one)) many in
    w ∙ ap (λ l. l ++ codes ")") (n ∙ ap (λ l. spaced ++ l) called
    ∙ ap (λ l. l ++ members_word r.layout set) (s ∙ ap (λ l. l ++ codes " ") (c ∙ ap (λ l. began ++ l) text ∙ ap (λ l. l ++ whole_text (pos (length (members_of r set)))) b)))
