-- Each state that is reached can be ended, and one that isn't reached can't.
use Rattle.std.proofs.Math.Seq.{take-length}
use Rattle.std.proofs.Common.{inl, inr, ◌≡◌, ℕ, ◌+◌, ◌<◌, ◌≤◌, Bool, List, [], ◌∷◌, ◌++◌, Option, Some, None, length, take, refl, sym, ◌∙◌, ap, arith}
use Rattle.std.specs.Prelude.{codes}
use Rattle.nl_decl_outline.specs.declared.declaration.Sort.{Sort}
use Rattle.nl_decl_outline.specs.declared.declaration.Declaration.{Declaration}
use Rattle.nl_decl_outline.specs.declared.mode.Subject.{Subject}
use Rattle.nl_decl_outline.specs.declared.mode.Subject.TheVariants as subject
use Rattle.nl_decl_outline.specs.declared.mode.Mode.{Mode}
use Rattle.nl_decl_outline.specs.declared.mode.Mode.TheVariants.{Between, Awaiting, Listing, Titling, Heading, Inside}
use Rattle.nl_tree.specs.Tokens.{Lexeme, Word, Open, Close}
use Rattle.nl_decl_outline.specs.Declarations.{plurals, BeginsDeclarations, IsBadPlace}
use Rattle.nl_decl_outline.specs.inner.Reading.{State, in_mode, feed, run_from, run}
use Rattle.nl_decl_outline.proofs.Taken.{run_append, run_none, taken}
use Rattle.nl_decl_outline.proofs.Heard.{Heard, Begun, AreTaken, heard, sound}

-- so many tokens lead to the end of a declaration
abbrev Ends : Option State → Type 0
Ends s = (more : List Lexeme) × (ds : List Declaration) × (run_from s more ≡ Some (record { mode = Between; done = ds }))

before_ends : (s : State) (l : Lexeme) → Ends (feed s l) → Ends (Some s)
before_ends s l h = (l ∷ h.0, h.1, h.2)

ends_inside : (ds : List Declaration) (r : Bool) (name : List ℕ) (inputs : Option (List (List ℕ))) (n : ℕ) → Ends (in_mode ds (Some (Inside r name inputs n)))
ends_inside ds r name inputs n = (Word (codes "end") ∷ [], _, refl)

ends_breed : (ds : List Declaration) (s : Sort) (names : List (List ℕ)) → length names ≤ 2 → Ends (in_mode ds (Some (Listing (subject.Breed s) names)))
ends_breed ds s [] h = (Word [] ∷ Word [] ∷ Close ∷ [], _, refl)
ends_breed ds s (p ∷ []) h = (Word [] ∷ Close ∷ [], _, refl)
ends_breed ds s (p ∷ q ∷ []) h = (Close ∷ [], _, refl)
ends_breed ds s (p ∷ q ∷ r ∷ names) h = absurd (omega (arith, h))

ends_listing : (ds : List Declaration) (s : Subject) (names : List (List ℕ)) → AreTaken s names → Ends (in_mode ds (Some (Listing s names)))
ends_listing ds subject.Globals names h = (Close ∷ [], _, refl)
ends_listing ds (subject.Own o) names h = (Close ∷ [], _, refl)
ends_listing ds (subject.Breed s) names h = ends_breed ds s names h
ends_listing ds (subject.Inputs r name) names h = (Close ∷ Word (codes "end") ∷ [], _, refl)

ends_awaiting : (ds : List Declaration) (s : Subject) → Ends (in_mode ds (Some (Awaiting s)))
ends_awaiting ds subject.Globals = (Open ∷ Close ∷ [], _, refl)
ends_awaiting ds (subject.Own o) = (Open ∷ Close ∷ [], _, refl)
ends_awaiting ds (subject.Breed s) = (Open ∷ Word [] ∷ Word [] ∷ Close ∷ [], _, refl)
ends_awaiting ds (subject.Inputs r name) = (Open ∷ Close ∷ Word (codes "end") ∷ [], _, refl)

ends_in : (ds : List Declaration) (m : Mode) (rest : List Lexeme) → Begun (plurals ds) m rest → Ends (in_mode ds (Some m))
ends_in ds Between rest h = ([], ds, refl)
ends_in ds (Awaiting s) rest h = ends_awaiting ds s
ends_in ds (Listing s names) rest h = ends_listing ds s names h.1.1
ends_in ds (Titling r) rest h = (Word [] ∷ Word (codes "end") ∷ [], _, refl)
ends_in ds (Heading r name) rest h = (Word (codes "end") ∷ [], _, refl)
ends_in ds (Inside r name inputs n) rest h = ends_inside ds r name inputs n

-- What the machine has taken begins declarations.
pub begins : (ls : List Lexeme) (s : State) → run ls ≡ Some s → BeginsDeclarations ls
begins ls s h =
    let k : Heard s ls = heard ls s h in
    let e : Ends (Some s) = ends_in s.done s.mode k.rest k.begun in
    (e.0, e.1, sound (ls ++ e.0) e.1 (run_append _ ls e.0 ∙ ap (λ t. run_from t e.0) h ∙ e.2))

-- What the machine refuses begins none.
pub begins_none : (ls : List Lexeme) → run ls ≡ None → BeginsDeclarations ls → ⊥
begins_none ls h b =
    let t = taken (ls ++ b.0) b.1 b.2 in
    let e = run_append _ ls b.0 ∙ ap (λ s. run_from s b.0) h ∙ run_none b.0 in
    cc (t, e)

-- The token that the machine refuses is the first bad place.
pub bad_token : (ls : List Lexeme) (k : ℕ) (s : State) → k < length ls → run (take k ls) ≡ Some s → run (take (k + 1) ls) ≡ None → IsBadPlace ls k
bad_token ls k s below h none = (begins (take k ls) s h, inl (below, begins_none (take (k + 1) ls) none))

-- Where the machine stops within a declaration, the text's end is.
pub bad_end : (ls : List Lexeme) (s : State) → run ls ≡ Some s → (s.mode ≡ Between → ⊥) → IsBadPlace ls (length ls)
bad_end ls s h within = (begins (take (length ls) ls) s (ap run (take-length ls) ∙ h), inr (refl, λ ds d. within (mode_is s ds (sym h ∙ taken ls ds d))))
  where
    mode_is : (s : State) (ds : List Declaration) → Some s ≡ Some (record { mode = Between; done = ds }) → s.mode ≡ Between
    mode_is s ds e = cc
