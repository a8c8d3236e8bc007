-- What the marks of one declaration add to those before it.
use Rattle.std.proofs.Common.{◌≡◌, ℕ, Bool, true, false, ◌&&◌, ◌||◌, if◌then◌else◌, List, Some, None, sym, ap, ◌∙◌, refl}
use Rattle.std.specs.Str.{bytes_eq}
use Rattle.nl_decl.specs.declared.claims.Claim.{Claim}
use Rattle.nl_decl.specs.declared.marks.Mark.{Mark}
use Rattle.nl_decl.specs.declared.marks.Marked.{Marked}
use Rattle.nl_decl.specs.inner.Marks.{common_mark, own_mark}
use Rattle.nl_decl.specs.inner.Ledger.{same_mark, same_marked, has_own, Notes}

on_name : (key q : Marked) → same_marked key q ≡ (bytes_eq key.name.items q.name.items && same_mark key.mark q.mark)
on_name key q = refl

one_law : (n a o : Bool) → (if n && a then true else o) ≡ ((n && (a || false)) || o)
one_law true true o = refl
one_law true false o = refl
one_law false a o = refl

two_law : (n a b o : Bool) → (if n && b then true else (if n && a then true else o)) ≡ ((n && (a || b)) || o)
two_law true true true o = refl
two_law true true false o = refl
two_law true false true o = refl
two_law true false false o = refl
two_law false a b o = refl

module _ (name : List ℕ) (c : Claim) (old : Marked → Bool) (key : Marked) (named : key.name.items ≡ name) (marked : key.mark ≡ common_mark c) where
  first : (q : Marked) → (if same_marked key q then true else old q) ≡ (if bytes_eq name q.name.items && same_mark (common_mark c) q.mark then true else old q)
  first q = ap (λ b. if b then true else old q) (on_name key q ∙ ap (λ n. bytes_eq n q.name.items && same_mark key.mark q.mark) named ∙ ap (λ m. bytes_eq name q.name.items && same_mark m q.mark) marked)

  pub one_noted : (new : Marked → Bool) → own_mark c ≡ None → ((q : Marked) → new q ≡ (if same_marked key q then true else old q)) → Notes name c old new
  one_noted new none put q = put q ∙ first q ∙ one_law (bytes_eq name q.name.items) (same_mark (common_mark c) q.mark) (old q) ∙ ap (λ o. (bytes_eq name q.name.items && (same_mark (common_mark c) q.mark || has_own o q.mark)) || old q) (sym none)

  pub two_noted : (mid new : Marked → Bool) (other : Marked) (m : Mark) → own_mark c ≡ Some m → other.name.items ≡ name → other.mark ≡ m
      → ((q : Marked) → mid q ≡ (if same_marked key q then true else old q))
      → ((q : Marked) → new q ≡ (if same_marked other q then true else mid q))
      → Notes name c old new
  two_noted mid new other m some same is before after q =
      let second : (if same_marked other q then true else mid q) ≡ (if bytes_eq name q.name.items && same_mark m q.mark then true else mid q) =
      ap (λ b. if b then true else mid q) (on_name other q ∙ ap (λ n. bytes_eq n q.name.items && same_mark other.mark q.mark) same ∙ ap (λ x. bytes_eq name q.name.items && same_mark x q.mark) is) in
      after q ∙ second ∙ ap (λ o. if bytes_eq name q.name.items && same_mark m q.mark then true else o) (before q ∙ first q)
      ∙ two_law (bytes_eq name q.name.items) (same_mark (common_mark c) q.mark) (same_mark m q.mark) (old q)
      ∙ ap (λ o. (bytes_eq name q.name.items && (same_mark (common_mark c) q.mark || has_own o q.mark)) || old q) (sym some)
