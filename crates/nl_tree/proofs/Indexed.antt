-- What a look-up among named words says of the rows that they are.
use Rattle.std.proofs.Common.{◌≡◌, ℕ, List, map, Option, Some, None, All, MatchOption, bytes_eq, false, ap, sym, subst, ◌∙◌, ◌<◌, Bor}
use Rattle.std.specs.List.{Contains}
use Rattle.std.proofs.lemmas.List.Elements.{All-map}
use Rattle.std.proofs.lemmas.List.{get_or-map, length-map}
use Rattle.nl_tree.specs.declared.index.NamedWord.{NamedWord}
use Rattle.nl_tree.specs.Index.{term_of}
use Rattle.nl_tree.specs.Term.{Term}

has : (ws : List NamedWord) (w : NamedWord) → Contains ws w → Contains (map term_of ws) (term_of w)
has ws w (k, within, is) = (k, subst (λ n. k < n) (sym (length-map ws term_of)) within, get_or-map term_of ws k w (term_of w) within ∙ ap term_of is)

pub as_terms : (ws : List NamedWord) (name : List ℕ) (r : Option (Bor NamedWord))
    → MatchOption r (All (λ w. bytes_eq w.name name ≡ false) ws) (λ w. (w.now.name ≡ name) × Contains ws w.now)
    → MatchOption r (All (λ (t : Term). bytes_eq t.name name ≡ false) (map term_of ws)) (λ w. (w.now.name ≡ name) × Contains (map term_of ws) (term_of w.now))
as_terms ws name None none = All-map (λ (t : Term). bytes_eq t.name name ≡ false) term_of ws none
as_terms ws name (Some w) found = (found.0, has ws w.now found.1)
