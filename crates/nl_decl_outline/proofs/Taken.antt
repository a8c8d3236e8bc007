-- What a list of declarations spells is taken by the machine.
use Rattle.std.proofs.Common.{◌≡◌, ℕ, ◌+◌, Bool, true, false, not, ◌&&◌, if◌then◌else◌, List, [], ◌∷◌, ◌++◌, Option, Some, None, length, refl, sym, ◌∙◌, ap, subst, IsTrue, arith, append_assoc, append-nil, nat_eq}
use Rattle.std.specs.Prelude.{bytes_eq, codes}
use Rattle.std.specs.List.{list_all}
use Rattle.std.proofs.lemmas.Slice.Eq.{bytes_eq-Decides}
use Rattle.nl_decl_outline.specs.declared.declaration.Sort.{Sort}
use Rattle.nl_decl_outline.specs.declared.declaration.Sort.TheVariants as sort
use Rattle.nl_decl_outline.specs.declared.declaration.Owner.{Owner}
use Rattle.nl_decl_outline.specs.declared.declaration.Declaration.{Declaration}
use Rattle.nl_decl_outline.specs.declared.declaration.Declaration.TheVariants.{Globals, Own, Breed, Procedure}
use Rattle.nl_decl_outline.specs.declared.mode.Subject.{Subject}
use Rattle.nl_decl_outline.specs.declared.mode.Subject.TheVariants as subject
use Rattle.nl_decl_outline.specs.declared.mode.Mode.TheVariants.{Between, Awaiting, Listing, Titling, Heading, Inside}
use Rattle.nl_tree.specs.Tokens.{Lexeme, Word, Number, Text, Open, Close, OpenParen, CloseParen, End}
use Rattle.nl_decl_outline.specs.Declarations.{plural_of, plurals, owning, breed_owning, owner_of_breed, owner_by, word_of_sort, word_of_procedure, words, listed, listed_or_none, is_end, is_open, is_body, Spells, SpellAll, AreDeclarations}
use Rattle.nl_decl_outline.specs.inner.Reading.{State, mode_of_owner, begun_by, in_mode, and_done, takes_name, end_list, go_on, head, feed, run_from, run}

-- ---- the machine over tokens put together

pub run_none : (ls : List Lexeme) → run_from None ls ≡ None
run_none [] = refl
run_none (l ∷ ls) = refl

pub run_append : (s : Option State) (xs ys : List Lexeme) → run_from s (xs ++ ys) ≡ run_from (run_from s xs) ys
run_append s [] ys = refl
run_append None (x ∷ xs) ys = sym (run_none ys)
run_append (Some s) (x ∷ xs) ys = run_append (feed s x) xs ys

-- ---- a word that declares the variables of a breed is none of the others

-- no part at its end is `-own`
abbrev pub is_other : List ℕ → Bool
is_other [] = true
is_other (b ∷ bs) = not (bytes_eq (codes "-own") (b ∷ bs)) && is_other bs

pub and_left : (a b : Bool) → IsTrue (a && b) → IsTrue a
and_left true b h = refl
and_left false b h = h

pub and_right : (a b : Bool) → IsTrue (a && b) → IsTrue b
and_right true b h = h
and_right false b h = cc

not_true : (a : Bool) → IsTrue (not a) → a ≡ false
not_true true h = cc
not_true false h = refl

and_false : (a b : Bool) → b ≡ false → (a && b) ≡ false
and_false true b h = h
and_false false b h = refl

pub owning_apart : (p w : List ℕ) → IsTrue (is_other w) → bytes_eq (owning p) w ≡ false
owning_apart [] [] h = refl
owning_apart (x ∷ p) [] h = refl
owning_apart [] (b ∷ bs) h = not_true (bytes_eq (codes "-own") (b ∷ bs)) (and_left _ (is_other bs) h)
owning_apart (x ∷ p) (b ∷ bs) h = and_false (nat_eq x b) (bytes_eq (owning p) bs) (owning_apart p bs (and_right (not (bytes_eq (codes "-own") (b ∷ bs))) _ h))

pub no_breed : (breeds : List (List ℕ)) (w : List ℕ) → IsTrue (is_other w) → breed_owning breeds w ≡ None
no_breed [] w h = refl
no_breed (p ∷ breeds) w h = rw (owning_apart p w h, no_breed breeds w h) refl

-- ---- the word that begins a declaration

if_eq : {A : Type 0} (b : Bool) (x y : A) → b ≡ false → (if b then x else y) ≡ y
if_eq true x y h = cc
if_eq false x y h = refl

no_owner : (breeds : List (List ℕ)) (w : List ℕ) → IsTrue (is_other w) → owner_of_breed (breed_owning breeds w) ≡ None
no_owner breeds w h = ap owner_of_breed (no_breed breeds w h)

apart_from : (breeds : List (List ℕ)) (w v : List ℕ) (o : Owner) → owner_by breeds w ≡ Some o → owner_by breeds v ≡ None → bytes_eq w v ≡ false
apart_from breeds w v o h none = at (bytes_eq w v) refl
  where
    at : (b : Bool) → bytes_eq w v ≡ b → b ≡ false
    at true e = let same : w ≡ v = (bytes_eq-Decides w v).0 e in cc
    at false e = refl

pub begun_own : (breeds : List (List ℕ)) (w : List ℕ) (o : Owner) → owner_by breeds w ≡ Some o → begun_by breeds w ≡ Some (Awaiting (subject.Own o))
begun_own breeds w o h =
    if_eq _ _ _ (apart_from breeds w (codes "globals") o h (no_owner breeds _ refl))
    ∙ if_eq _ _ _ (apart_from breeds w (codes "breed") o h (no_owner breeds _ refl))
    ∙ if_eq _ _ _ (apart_from breeds w (codes "directed-link-breed") o h (no_owner breeds _ refl))
    ∙ if_eq _ _ _ (apart_from breeds w (codes "undirected-link-breed") o h (no_owner breeds _ refl))
    ∙ if_eq _ _ _ (apart_from breeds w (codes "to") o h (no_owner breeds _ refl))
    ∙ if_eq _ _ _ (apart_from breeds w (codes "to-report") o h (no_owner breeds _ refl))
    ∙ ap mode_of_owner h

begun_breed : (breeds : List (List ℕ)) (s : Sort) → begun_by breeds (word_of_sort s) ≡ Some (Awaiting (subject.Breed s))
begun_breed breeds sort.Turtles = refl
begun_breed breeds sort.Directed = refl
begun_breed breeds sort.Undirected = refl

begun_procedure : (breeds : List (List ℕ)) (r : Bool) → begun_by breeds (word_of_procedure r) ≡ Some (Titling r)
begun_procedure breeds true = refl
begun_procedure breeds false = refl

-- ---- lists and bodies

-- a subject that takes any number of names
abbrev IsOpen : Subject → Type 0
IsOpen s = (n : ℕ) → takes_name s n ≡ true

listing : (ds : List Declaration) (s : Subject) (begun names : List (List ℕ)) (ls : List Lexeme) → IsOpen s
    → run_from (in_mode ds (Some (Listing s begun))) (words names ++ Close ∷ ls) ≡ run_from (end_list ds s (begun ++ names)) ls
listing ds s begun [] ls any = rw append-nil refl
listing ds s begun (w ∷ names) ls any =
    ap (λ (b : Bool). run_from (if b then in_mode ds (Some (Listing s (begun ++ w ∷ []))) else None) (words names ++ Close ∷ ls)) (any (length begun))
    ∙ listing ds s (begun ++ w ∷ []) names ls any ∙ ap (λ (ns : List (List ℕ)). run_from (end_list ds s ns) ls) (append_assoc begun (w ∷ []) names)

-- a body without `end`, and its end
body_taken : (ds : List Declaration) (r : Bool) (name : List ℕ) (inputs : Option (List (List ℕ))) (n : ℕ) (body : List Lexeme)
    → IsTrue (list_all (λ l. not (is_end l)) body)
    → run_from (in_mode ds (Some (Inside r name inputs n))) (body ++ Word (codes "end") ∷ []) ≡ and_done ds (Procedure r name inputs (n + length body))
body_taken ds r name inputs n [] h = ap (λ k. and_done ds (Procedure r name inputs k)) (omega arith)
body_taken ds r name inputs n (l ∷ body) h =
    ap (λ (b : Bool). run_from (if b then and_done ds (Procedure r name inputs n) else in_mode ds (Some (Inside r name inputs (n + 1)))) (body ++ Word (codes "end") ∷ [])) (not_true (is_end l) (and_left _ (list_all (λ k. not (is_end k)) body) h))
    ∙ body_taken ds r name inputs (n + 1) body (and_right (not (is_end l)) _ h)
    ∙ ap (λ k. and_done ds (Procedure r name inputs k)) (omega arith)

-- a body behind a name, without inputs
head_is : (ds : List Declaration) (r : Bool) (name : List ℕ) (l : Lexeme) → IsTrue (not (is_open l)) → head ds r name l ≡ go_on ds r name None 0 l
head_is ds r name (Word w) h = refl
head_is ds r name (Number n) h = refl
head_is ds r name (Text bytes) h = refl
head_is ds r name Open h = cc
head_is ds r name Close h = refl
head_is ds r name OpenParen h = refl
head_is ds r name CloseParen h = refl
head_is ds r name End h = refl

headed : (ds : List Declaration) (r : Bool) (name : List ℕ) (body : List Lexeme) → IsTrue (is_body None body)
    → run_from (in_mode ds (Some (Heading r name))) (body ++ Word (codes "end") ∷ []) ≡ and_done ds (Procedure r name None (length body))
headed ds r name [] h = refl
headed ds r name (l ∷ body) h =
    ap (λ s. run_from s (body ++ Word (codes "end") ∷ [])) (head_is ds r name l (and_left _ (list_all (λ k. not (is_end k)) (l ∷ body)) h))
    ∙ body_taken ds r name None 0 (l ∷ body) (and_right (not (is_open l)) _ h)
    ∙ ap (λ k. and_done ds (Procedure r name None k)) (omega arith)

-- what follows the name of a procedure
behind_name : (ds : List Declaration) (r : Bool) (name : List ℕ) (inputs : Option (List (List ℕ))) (body : List Lexeme) → IsTrue (is_body inputs body)
    → run_from (in_mode ds (Some (Heading r name))) (listed_or_none inputs ++ body ++ Word (codes "end") ∷ []) ≡ and_done ds (Procedure r name inputs (length body))
behind_name ds r name None body h = headed ds r name body h
behind_name ds r name (Some names) body h =
    ap (λ ls. run_from (in_mode ds (Some (Listing (subject.Inputs r name) []))) ls) (append_assoc (words names ++ Close ∷ []) body _ ∙ append_assoc (words names) (Close ∷ []) _)
    ∙ listing ds (subject.Inputs r name) [] names (body ++ Word (codes "end") ∷ []) (λ n. refl)
    ∙ body_taken ds r name (Some names) 0 body h
    ∙ ap (λ k. and_done ds (Procedure r name (Some names) k)) (omega arith)

-- ---- one declaration, and a list of them

pub taken_one : (done : List Declaration) (d : Declaration) (ls : List Lexeme) → Spells (plurals done) d ls
    → run_from (Some (record { mode = Between; done = done })) ls ≡ and_done done d
taken_one done (Globals names) ls h = rw h (listing done subject.Globals [] names [] (λ n. refl))
taken_one done (Own o names) ls h =
    ap (run_from (Some (record { mode = Between; done = done }))) h.1.1
    ∙ ap (λ m. run_from (in_mode done m) (listed names)) (begun_own (plurals done) h.0 o h.1.0)
    ∙ listing done (subject.Own o) [] names [] (λ n. refl)
taken_one done (Breed s plural singular) ls h =
    ap (run_from (Some (record { mode = Between; done = done }))) h
    ∙ ap (λ m. run_from (in_mode done m) (listed (plural ∷ singular ∷ []))) (begun_breed (plurals done) s)
taken_one done (Procedure r name inputs tokens) ls h =
    ap (run_from (Some (record { mode = Between; done = done }))) h.1.2
    ∙ ap (λ m. run_from (in_mode done m) (Word name ∷ listed_or_none inputs ++ h.0 ++ Word (codes "end") ∷ [])) (begun_procedure (plurals done) r)
    ∙ behind_name done r name inputs h.0 h.1.0
    ∙ ap (λ k. and_done done (Procedure r name inputs k)) h.1.1

pub plurals-append : (xs ys : List Declaration) → plurals (xs ++ ys) ≡ plurals xs ++ plurals ys
plurals-append [] ys = refl
plurals-append (x ∷ xs) ys = ap (λ ps. plural_of x ++ ps) (plurals-append xs ys) ∙ sym (append_assoc (plural_of x) (plurals xs) (plurals ys))

pub plurals-push : (ds : List Declaration) (d : Declaration) → plurals (ds ++ d ∷ []) ≡ plurals ds ++ plural_of d
plurals-push ds d = plurals-append ds (d ∷ []) ∙ ap (λ ps. plurals ds ++ ps) (append-nil (plural_of d))

pub taken_all : (done ds : List Declaration) (ls : List Lexeme) → SpellAll (plurals done) ds ls
    → run_from (Some (record { mode = Between; done = done })) ls ≡ Some (record { mode = Between; done = done ++ ds })
taken_all done [] ls h = rw (h, append-nil) refl
taken_all done (d ∷ ds) ls h =
    ap (run_from (Some (record { mode = Between; done = done }))) h.2.0
    ∙ run_append (Some (record { mode = Between; done = done })) h.0 h.1
    ∙ ap (λ s. run_from s h.1) (taken_one done d h.0 h.2.1)
    ∙ taken_all (done ++ d ∷ []) ds h.1 (subst (λ ps. SpellAll ps ds h.1) (sym (plurals-push done d)) h.2.2)
    ∙ ap (λ es. Some (record { mode = Between; done = es })) (append_assoc done (d ∷ []) ds)

-- What is spelled is taken.
pub taken : (ls : List Lexeme) (ds : List Declaration) → AreDeclarations ls ds → run ls ≡ Some (record { mode = Between; done = ds })
taken ls ds h = taken_all [] ds ls h
