-- The laws of declarations and of the place at which tokens are none.
use Rattle.std.proofs.Common.{◌≡◌, ℕ, zero, suc, ◌+◌, ◌<◌, ◌≤◌, ◌⊎◌, inl, inr, ⊎_elim, List, [], ◌∷◌, ◌++◌, Option, Some, None, length, take, drop, refl, sym, ◌∙◌, ap, subst, arith, append_assoc, append-nil}
use Rattle.std.proofs.lemmas.List.{take-append-drop}
use Rattle.std.proofs.lemmas.Bool.{cases_lt}
use Rattle.nl_decl_outline.specs.declared.declaration.Declaration.{Declaration}
use Rattle.nl_decl_outline.specs.declared.mode.Mode.{Mode}
use Rattle.nl_tree.specs.Tokens.{Lexeme}
use Rattle.nl_decl_outline.specs.Declarations.{AreDeclarations, BeginsDeclarations, IsBadPlace}
use Rattle.nl_decl_outline.specs.inner.Reading.{State, feed, run_from, run, start}
use Rattle.nl_decl_outline.specs.Laws.{DeclarationsAreUnique, DeclarationsAreTaken, BeginningsAreTaken, BadPlacesAreUnique, DeclarationsOrBadPlace}
use Rattle.nl_decl_outline.proofs.Taken.{taken}
use Rattle.nl_decl_outline.proofs.Heard.{sound}
use Rattle.nl_decl_outline.proofs.Begins.{begins, begins_none, bad_token, bad_end}

pub unique : DeclarationsAreUnique
unique ls ds es h k = sym (ap done_of (taken ls ds h)) ∙ ap done_of (taken ls es k)
  where
    done_of : Option State → List Declaration
    done_of None = []
    done_of (Some s) = s.done

pub are_taken : DeclarationsAreTaken
are_taken ls ds = (taken ls ds, sound ls ds)

pub beginnings : BeginningsAreTaken
beginnings ls = (at (run ls) refl, λ t. begins ls t.0 t.1)
  where
    at : (s : Option State) → run ls ≡ s → BeginsDeclarations ls → (t : State) × (run ls ≡ Some t)
    at None e b = absurd (begins_none ls e b)
    at (Some t) e b = (t, e)

-- ---- places

begins_front : (xs ys : List Lexeme) → BeginsDeclarations (xs ++ ys) → BeginsDeclarations xs
begins_front xs ys b = (ys ++ b.0, b.1, subst (λ zs. AreDeclarations zs b.1) (append_assoc xs ys b.0) b.2)

longer_front : (ls : List Lexeme) (j k : ℕ) → j ≤ k → (rest : List Lexeme) × (take k ls ≡ take j ls ++ rest)
longer_front ls zero k h = (take k ls, refl)
longer_front ls (suc j) zero h = absurd (omega (arith, h))
longer_front [] (suc j) (suc k) h = ([], refl)
longer_front (l ∷ ls) (suc j) (suc k) h = let r = longer_front ls j k (omega (arith, h)) in (r.0, ap (λ xs. l ∷ xs) r.1)

begins_sooner : (ls : List Lexeme) (j k : ℕ) → j ≤ k → BeginsDeclarations (take k ls) → BeginsDeclarations (take j ls)
begins_sooner ls j k h b = let r = longer_front ls j k h in begins_front (take j ls) r.0 (subst BeginsDeclarations r.1 b)

no_later : (ls : List Lexeme) (j k : ℕ) → IsBadPlace ls j → IsBadPlace ls k → j < k → ⊥
no_later ls j k a b h =
    ⊎_elim (λ x. x.1 (begins_sooner ls (j + 1) k (omega (arith, h)) b.0))
    (λ x. ⊎_elim (λ y. omega (arith, h, x.0, y.0)) (λ y. omega (arith, h, x.0, y.0)) b.1) a.1

pub one_place : BadPlacesAreUnique
one_place ls j k a b = at (cases_lt j k) (cases_lt k j)
  where
    at : (j < k) ⊎ (k ≤ j) → (k < j) ⊎ (j ≤ k) → j ≡ k
    at (inl h) y = absurd (no_later ls j k a b h)
    at (inr h) (inl g) = absurd (no_later ls k j b a g)
    at (inr h) (inr g) = omega (arith, h, g)

stops : (s : State) (ls : List Lexeme) → run_from (Some s) ls ≡ None
    → (k : ℕ) × (t : State) × ((k < length ls) × (run_from (Some s) (take k ls) ≡ Some t) × (run_from (Some s) (take (k + 1) ls) ≡ None))
stops s [] h = cc
stops s (l ∷ ls) h = at (feed s l) refl h (λ t g. stops t ls g)
  where
    at : (t : Option State) → feed s l ≡ t → run_from t ls ≡ None
        → ((t : State) → run_from (Some t) ls ≡ None → (k : ℕ) × (u : State) × ((k < length ls) × (run_from (Some t) (take k ls) ≡ Some u) × (run_from (Some t) (take (k + 1) ls) ≡ None)))
        → (k : ℕ) × (u : State) × ((k < length (l ∷ ls)) × (run_from (Some s) (take k (l ∷ ls)) ≡ Some u) × (run_from (Some s) (take (k + 1) (l ∷ ls)) ≡ None))
    at None e g more = (0, s, (omega arith, refl, e))
    at (Some t) e g more =
        let r = more t g in
        (suc r.0, r.1, (omega (arith, r.2.0), ap (λ u. run_from u (take r.0 ls)) e ∙ r.2.1, further r.0 r.2.2))
      where
        further : (k : ℕ) → run_from (Some t) (take (k + 1) ls) ≡ None → run_from (Some s) (take (suc k + 1) (l ∷ ls)) ≡ None
        further k h = let same : suc k + 1 ≡ suc (k + 1) = omega arith in rw same (ap (λ u. run_from u (take (k + 1) ls)) e ∙ h)

pub or_place : DeclarationsOrBadPlace
or_place ls = (λ p. none_behind p.0 p.1, λ none. at (run ls) refl none)
  where
    none_behind : (k : ℕ) → IsBadPlace ls k → (ds : List Declaration) → AreDeclarations ls ds → ⊥
    none_behind k h ds d =
        ⊎_elim (λ x. x.1 (begins_front (take (k + 1) ls) (drop (k + 1) ls) ([], ds, subst (λ xs. AreDeclarations xs ds) (sym (append-nil _ ∙ take-append-drop (k + 1) ls)) d)))
        (λ x. x.1 ds d) h.1

    at : (s : Option State) → run ls ≡ s → ((ds : List Declaration) → AreDeclarations ls ds → ⊥) → (k : ℕ) × IsBadPlace ls k
    at None e none = let r = stops start ls e in (r.0, bad_token ls r.0 r.1 r.2.0 r.2.1 r.2.2)
    at (Some s) e none =
        (length ls, bad_end ls s e (λ m. none s.done (sound ls s.done (e ∙ ap (λ (n : Mode). Some (record { mode = n; done = s.done })) m))))
