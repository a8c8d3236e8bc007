-- What the machine has taken are the tokens of the declarations that are done, and those that its mode has begun.
use Rattle.std.proofs.Common.{◌≡◌, ℕ, ◌+◌, ◌<◌, ◌≤◌, Bool, true, false, not, ◌&&◌, if◌then◌else◌, List, [], ◌∷◌, ◌++◌, Option, Some, None, length, refl, sym, ◌∙◌, ap, subst, IsTrue, arith, append_assoc, append-nil, length-append}
use Rattle.std.specs.Prelude.{bytes_eq, codes}
use Rattle.std.specs.List.{list_all}
use Rattle.std.proofs.lemmas.Slice.Eq.{bytes_eq-Decides}
use Rattle.std.proofs.lemmas.Bool.{ltb-true}
use Rattle.nl_decl_outline.specs.declared.declaration.Sort.{Sort}
use Rattle.nl_decl_outline.specs.declared.declaration.Owner.{Owner}
use Rattle.nl_decl_outline.specs.declared.declaration.Declaration.{Declaration}
use Rattle.nl_decl_outline.specs.declared.declaration.Declaration.TheVariants.{Globals, Own, Breed, Procedure}
use Rattle.nl_decl_outline.specs.declared.mode.Subject.{Subject}
use Rattle.nl_decl_outline.specs.declared.mode.Subject.TheVariants as subject
use Rattle.nl_decl_outline.specs.declared.mode.Mode.{Mode}
use Rattle.nl_decl_outline.specs.declared.mode.Mode.TheVariants.{Between, Awaiting, Listing, Titling, Heading, Inside}
use Rattle.nl_tree.specs.Tokens.{Lexeme, Word, Number, Text, Open, Close, OpenParen, CloseParen, End}
use Rattle.nl_decl_outline.specs.Declarations.{plural_of, plurals, owner_by, word_of_sort, word_of_procedure, words, listed, listed_or_none, is_end, is_open, is_body, Spells, SpellAll, AreDeclarations}
use Rattle.nl_decl_outline.specs.inner.Reading.{State, mode_of_owner, begun_by, in_mode, and_done, begin_one, open_list, takes_name, end_breed, end_list, list_more, title, go_on, head, feed_in, feed, run_from, run, start}
use Rattle.nl_decl_outline.proofs.Taken.{run_none, and_left, and_right}

-- ---- what a mode has begun

-- the tokens before the list of a subject
abbrev pub Announces : List (List ℕ) → Subject → List Lexeme → Type 0
Announces breeds subject.Globals ls = ls ≡ Word (codes "globals") ∷ []
Announces breeds (subject.Own o) ls = (word : List ℕ) × ((owner_by breeds word ≡ Some o) × (ls ≡ Word word ∷ []))
Announces breeds (subject.Breed s) ls = ls ≡ Word (word_of_sort s) ∷ []
Announces breeds (subject.Inputs r name) ls = ls ≡ Word (word_of_procedure r) ∷ Word name ∷ []

-- a breed has two names at most
abbrev pub AreTaken : Subject → List (List ℕ) → Type 0
AreTaken (subject.Breed s) names = length names ≤ 2
AreTaken subject.Globals names = Unit {0}
AreTaken (subject.Own o) names = Unit {0}
AreTaken (subject.Inputs r name) names = Unit {0}

-- without inputs in brackets the first token of a body tells it
abbrev pub IsStarted : Option (List (List ℕ)) → ℕ → Type 0
IsStarted None n = 0 < n
IsStarted (Some names) n = Unit {0}

abbrev pub Begun : List (List ℕ) → Mode → List Lexeme → Type 0
Begun breeds Between ls = ls ≡ []
Begun breeds (Awaiting s) ls = Announces breeds s ls
Begun breeds (Listing s names) ls = (front : List Lexeme) × (Announces breeds s front × AreTaken s names × (ls ≡ front ++ Open ∷ words names))
Begun breeds (Titling r) ls = ls ≡ Word (word_of_procedure r) ∷ []
Begun breeds (Heading r name) ls = ls ≡ Word (word_of_procedure r) ∷ Word name ∷ []
Begun breeds (Inside r name inputs n) ls =
    (body : List Lexeme)
    × (IsTrue (is_body inputs body) × (length body ≡ n) × IsStarted inputs n
    × (ls ≡ Word (word_of_procedure r) ∷ Word name ∷ listed_or_none inputs ++ body))

pub record Heard (s : State) (ls : List Lexeme) : Type 0 where
  pub front : List Lexeme
  pub rest : List Lexeme
  pub whole : ls ≡ front ++ rest
  pub spelled : SpellAll [] s.done front
  pub begun : Begun (plurals s.done) s.mode rest

-- ---- a declaration behind others

pub spell_push : (breeds : List (List ℕ)) (ds : List Declaration) (d : Declaration) (xs ys : List Lexeme) → SpellAll breeds ds xs → Spells (breeds ++ plurals ds) d ys → SpellAll breeds (ds ++ d ∷ []) (xs ++ ys)
spell_push breeds [] d xs ys h k = (ys, [], (rw (h, append-nil) refl, subst (λ ps. Spells ps d ys) (append-nil breeds) k, refl))
spell_push breeds (e ∷ ds) d xs ys h k =
    (h.0, h.1 ++ ys, (ap (λ zs. zs ++ ys) h.2.0 ∙ append_assoc h.0 h.1 ys, h.2.1, spell_push (breeds ++ plural_of e) ds d h.1 ys h.2.2 (subst (λ ps. Spells ps d ys) (sym (append_assoc breeds (plural_of e) (plurals ds))) k)))

-- ---- what a step leaves

-- where the step goes on, its mode has begun these tokens, or one declaration more is spelled by them
abbrev After : List Declaration → List Lexeme → Option State → Type 0
After ds rest None = Unit {0}
After ds rest (Some s) = (front ls : List Lexeme) → SpellAll [] ds front → ls ≡ front ++ rest → Heard s ls

going : (ds : List Declaration) (m : Mode) (rest : List Lexeme) → Begun (plurals ds) m rest → After ds rest (in_mode ds (Some m))
going ds m rest h front ls spelled whole = record { front = front; rest = rest; whole = whole; spelled = spelled; begun = h }

ended : (ds : List Declaration) (d : Declaration) (rest : List Lexeme) → Spells (plurals ds) d rest → After ds rest (and_done ds d)
ended ds d rest h front ls spelled whole =
    record { front = front ++ rest; rest = []; whole = whole ∙ sym (append-nil _); spelled = spell_push [] ds d front rest spelled h; begun = refl }

-- ---- the word that begins a declaration

abbrev begins_as : (breeds : List (List ℕ)) (w : List ℕ) → Option Mode → Type 0
begins_as breeds w None = Unit {0}
begins_as breeds w (Some m) = Begun breeds m (Word w ∷ [])

choose : {A : Type 0} (P : A → Type 0) (b : Bool) (x y : A) → (b ≡ true → P x) → (b ≡ false → P y) → P (if b then x else y)
choose P true x y h k = h refl
choose P false x y h k = k refl

same : (w v : List ℕ) → bytes_eq w v ≡ true → w ≡ v
same w v h = (bytes_eq-Decides w v).0 h

begins_own : (breeds : List (List ℕ)) (w : List ℕ) (o : Option Owner) → owner_by breeds w ≡ o → begins_as breeds w (mode_of_owner o)
begins_own breeds w None h = tt
begins_own breeds w (Some o) h = (w, (h, refl))

begins_word : (breeds : List (List ℕ)) (w : List ℕ) → begins_as breeds w (begun_by breeds w)
begins_word breeds w =
    let P : Option Mode → Type 0 = begins_as breeds w in
    choose P (bytes_eq w (codes "globals")) _ _ (λ e. ap (λ v. Word v ∷ []) (same w _ e)) (λ a.
    choose P (bytes_eq w (codes "breed")) _ _ (λ e. ap (λ v. Word v ∷ []) (same w _ e)) (λ b.
    choose P (bytes_eq w (codes "directed-link-breed")) _ _ (λ e. ap (λ v. Word v ∷ []) (same w _ e)) (λ c.
    choose P (bytes_eq w (codes "undirected-link-breed")) _ _ (λ e. ap (λ v. Word v ∷ []) (same w _ e)) (λ d.
    choose P (bytes_eq w (codes "to")) _ _ (λ e. ap (λ v. Word v ∷ []) (same w _ e)) (λ f.
    choose P (bytes_eq w (codes "to-report")) _ _ (λ e. ap (λ v. Word v ∷ []) (same w _ e)) (λ g.
    begins_own breeds w (owner_by breeds w) refl))))))

after_word : (ds : List Declaration) (w : List ℕ) (m : Option Mode) → begins_as (plurals ds) w m → After ds (Word w ∷ []) (in_mode ds m)
after_word ds w None h = tt
after_word ds w (Some m) h = going ds m (Word w ∷ []) h

step_between : (ds : List Declaration) (l : Lexeme) → After ds (l ∷ []) (begin_one ds l)
step_between ds (Word w) = after_word ds w (begun_by (plurals ds) w) (begins_word (plurals ds) w)
step_between ds (Number n) = tt
step_between ds (Text bytes) = tt
step_between ds Open = tt
step_between ds Close = tt
step_between ds OpenParen = tt
step_between ds CloseParen = tt
step_between ds End = tt

-- ---- lists

no_names : (s : Subject) → AreTaken s []
no_names subject.Globals = tt
no_names (subject.Own o) = tt
no_names (subject.Breed s) = omega arith
no_names (subject.Inputs r name) = tt

step_awaiting : (ds : List Declaration) (s : Subject) (rest : List Lexeme) (l : Lexeme) → Announces (plurals ds) s rest → After ds (rest ++ l ∷ []) (open_list ds s l)
step_awaiting ds s rest Open h = going ds (Listing s []) (rest ++ Open ∷ []) (rest, (h, no_names s, refl))
step_awaiting ds s rest (Word w) h = tt
step_awaiting ds s rest (Number n) h = tt
step_awaiting ds s rest (Text bytes) h = tt
step_awaiting ds s rest Close h = tt
step_awaiting ds s rest OpenParen h = tt
step_awaiting ds s rest CloseParen h = tt
step_awaiting ds s rest End h = tt

pub words-append : (xs ys : List (List ℕ)) → words (xs ++ ys) ≡ words xs ++ words ys
words-append [] ys = refl
words-append (x ∷ xs) ys = ap (λ ls. Word x ∷ ls) (words-append xs ys)

one_more : (s : Subject) (names : List (List ℕ)) (w : List ℕ) → takes_name s (length names) ≡ true → AreTaken s (names ++ w ∷ [])
one_more subject.Globals names w h = tt
one_more (subject.Own o) names w h = tt
one_more (subject.Breed s) names w h = omega (arith, ltb-true (length names) 2 h, length-append names (w ∷ []))
one_more (subject.Inputs r name) names w h = tt

longer : (front : List Lexeme) (names : List (List ℕ)) (w : List ℕ) → (front ++ Open ∷ words names) ++ Word w ∷ [] ≡ front ++ Open ∷ words (names ++ w ∷ [])
longer front names w = append_assoc front (Open ∷ words names) _ ∙ ap (λ ls. front ++ Open ∷ ls) (sym (words-append names (w ∷ [])))

shut : (front : List Lexeme) (names : List (List ℕ)) → (front ++ Open ∷ words names) ++ Close ∷ [] ≡ front ++ listed names
shut front names = append_assoc front (Open ∷ words names) _

-- a breed ends behind two names
end_two : (ds : List Declaration) (s : Sort) (names : List (List ℕ)) (rest : List Lexeme) → rest ≡ Word (word_of_sort s) ∷ listed names → After ds rest (end_breed ds names (Breed s))
end_two ds s [] rest h = tt
end_two ds s (p ∷ []) rest h = tt
end_two ds s (p ∷ q ∷ []) rest h = ended ds (Breed s p q) rest h
end_two ds s (p ∷ q ∷ r ∷ names) rest h = tt

step_close : (ds : List Declaration) (s : Subject) (names : List (List ℕ)) (front rest : List Lexeme) → Announces (plurals ds) s front → rest ≡ front ++ listed names → After ds rest (end_list ds s names)
step_close ds subject.Globals names front rest h whole = ended ds (Globals names) rest (whole ∙ ap (λ ls. ls ++ listed names) h)
step_close ds (subject.Own o) names front rest h whole = ended ds (Own o names) rest (h.0, (h.1.0, whole ∙ ap (λ ls. ls ++ listed names) h.1.1))
step_close ds (subject.Breed s) names front rest h whole = end_two ds s names rest (whole ∙ ap (λ ls. ls ++ listed names) h)
step_close ds (subject.Inputs r name) names front rest h whole =
    going ds (Inside r name (Some names) 0) rest ([], (refl, refl, tt, whole ∙ ap (λ ls. ls ++ listed names) h ∙ ap (λ ls. Word (word_of_procedure r) ∷ Word name ∷ ls) (sym (append-nil (listed names)))))

step_listing : (ds : List Declaration) (s : Subject) (names : List (List ℕ)) (front rest : List Lexeme) (l : Lexeme)
    → Announces (plurals ds) s front → AreTaken s names → rest ≡ front ++ Open ∷ words names → After ds (rest ++ l ∷ []) (list_more ds s names l)
step_listing ds s names front rest (Word w) h few whole =
    choose (After ds (rest ++ Word w ∷ [])) (takes_name s (length names)) _ _
    (λ e. going ds (Listing s (names ++ w ∷ [])) (rest ++ Word w ∷ []) (front, (h, one_more s names w e, ap (λ ls. ls ++ Word w ∷ []) whole ∙ longer front names w)))
    (λ e. tt)
step_listing ds s names front rest Close h few whole = step_close ds s names front (rest ++ Close ∷ []) h (ap (λ ls. ls ++ Close ∷ []) whole ∙ shut front names)
step_listing ds s names front rest (Number n) h few whole = tt
step_listing ds s names front rest (Text bytes) h few whole = tt
step_listing ds s names front rest Open h few whole = tt
step_listing ds s names front rest OpenParen h few whole = tt
step_listing ds s names front rest CloseParen h few whole = tt
step_listing ds s names front rest End h few whole = tt

-- ---- procedures

step_titling : (ds : List Declaration) (r : Bool) (rest : List Lexeme) (l : Lexeme) → rest ≡ Word (word_of_procedure r) ∷ [] → After ds (rest ++ l ∷ []) (title ds r l)
step_titling ds r rest (Word w) h = going ds (Heading r w) (rest ++ Word w ∷ []) (ap (λ ls. ls ++ Word w ∷ []) h)
step_titling ds r rest (Number n) h = tt
step_titling ds r rest (Text bytes) h = tt
step_titling ds r rest Open h = tt
step_titling ds r rest Close h = tt
step_titling ds r rest OpenParen h = tt
step_titling ds r rest CloseParen h = tt
step_titling ds r rest End h = tt

list_all-push : (test : Lexeme → Bool) (ls : List Lexeme) (l : Lexeme) → IsTrue (list_all test ls) → IsTrue (test l) → IsTrue (list_all test (ls ++ l ∷ []))
list_all-push test [] l h k = rw k refl
list_all-push test (x ∷ ls) l h k = both (test x) (list_all test (ls ++ l ∷ [])) (and_left (test x) (list_all test ls) h) (list_all-push test ls l (and_right (test x) (list_all test ls) h) k)
  where
    both : (a b : Bool) → IsTrue a → IsTrue b → IsTrue (a && b)
    both true b h k = k
    both false b h k = h

-- one token more, which isn't `end`
body_more : (inputs : Option (List (List ℕ))) (body : List Lexeme) (l : Lexeme) → IsTrue (is_body inputs body) → IsStarted inputs (length body) → is_end l ≡ false → IsTrue (is_body inputs (body ++ l ∷ []))
body_more None [] l h started e = absurd (omega (arith, started))
body_more None (x ∷ body) l h started e =
    pair (not (is_open x)) (and_left (not (is_open x)) (list_all (λ k. not (is_end k)) (x ∷ body)) h)
    (list_all-push (λ k. not (is_end k)) (x ∷ body) l (and_right (not (is_open x)) (list_all (λ k. not (is_end k)) (x ∷ body)) h) (ap not e))
  where
    pair : (a : Bool) {b : Bool} → IsTrue a → IsTrue b → IsTrue (a && b)
    pair true h k = k
    pair false h k = cc
body_more (Some names) body l h started e = list_all-push (λ k. not (is_end k)) body l h (ap not e)

is_word_end : (l : Lexeme) → is_end l ≡ true → l ≡ Word (codes "end")
is_word_end (Word w) h = ap Word (same w _ h)
is_word_end (Number n) h = cc
is_word_end (Text bytes) h = cc
is_word_end Open h = cc
is_word_end Close h = cc
is_word_end OpenParen h = cc
is_word_end CloseParen h = cc
is_word_end End h = cc

-- a body without inputs or behind them, of no token too, and the next token
step_body : (ds : List Declaration) (r : Bool) (name : List ℕ) (inputs : Option (List (List ℕ))) (body rest : List Lexeme) (n : ℕ) (l : Lexeme)
    → IsTrue (is_body inputs body) → (is_end l ≡ false → IsTrue (is_body inputs (body ++ l ∷ []))) → length body ≡ n
    → rest ≡ Word (word_of_procedure r) ∷ Word name ∷ listed_or_none inputs ++ body
    → After ds (rest ++ l ∷ []) (go_on ds r name inputs n l)
step_body ds r name inputs body rest n l good more long whole =
    choose (After ds (rest ++ l ∷ [])) (is_end l) _ _
    (λ e. ended ds (Procedure r name inputs n) (rest ++ l ∷ []) (body, (good, long, ap (λ ls. ls ++ l ∷ []) whole ∙ ap (λ k. Word (word_of_procedure r) ∷ Word name ∷ listed_or_none inputs ++ body ++ k ∷ []) (is_word_end l e))))
    (λ e. going ds (Inside r name inputs (n + 1)) (rest ++ l ∷ [])
    (body ++ l ∷ [], (more e, omega (arith, long, length-append body (l ∷ [])), started inputs, ap (λ ls. ls ++ l ∷ []) whole ∙ ap (λ ls. Word (word_of_procedure r) ∷ Word name ∷ ls) (append_assoc (listed_or_none inputs) body (l ∷ [])))))
  where
    started : (inputs : Option (List (List ℕ))) → IsStarted inputs (n + 1)
    started None = omega arith
    started (Some names) = tt

step_heading : (ds : List Declaration) (r : Bool) (name : List ℕ) (rest : List Lexeme) (l : Lexeme)
    → rest ≡ Word (word_of_procedure r) ∷ Word name ∷ [] → After ds (rest ++ l ∷ []) (head ds r name l)
step_heading ds r name rest Open h = going ds (Listing (subject.Inputs r name) []) (rest ++ Open ∷ []) (rest, (h, tt, refl))
step_heading ds r name rest (Word w) h = step_body ds r name None [] rest 0 (Word w) refl (λ e. rw e refl) refl h
step_heading ds r name rest (Number n) h = step_body ds r name None [] rest 0 (Number n) refl (λ e. refl) refl h
step_heading ds r name rest (Text bytes) h = step_body ds r name None [] rest 0 (Text bytes) refl (λ e. refl) refl h
step_heading ds r name rest Close h = step_body ds r name None [] rest 0 Close refl (λ e. refl) refl h
step_heading ds r name rest OpenParen h = step_body ds r name None [] rest 0 OpenParen refl (λ e. refl) refl h
step_heading ds r name rest CloseParen h = step_body ds r name None [] rest 0 CloseParen refl (λ e. refl) refl h
step_heading ds r name rest End h = step_body ds r name None [] rest 0 End refl (λ e. refl) refl h

-- ---- every step

step_in : (ds : List Declaration) (m : Mode) (rest : List Lexeme) (l : Lexeme) → Begun (plurals ds) m rest → After ds (rest ++ l ∷ []) (feed_in ds m l)
step_in ds Between rest l h = subst (λ ls. After ds (ls ++ l ∷ []) (begin_one ds l)) (sym h) (step_between ds l)
step_in ds (Awaiting s) rest l h = step_awaiting ds s rest l h
step_in ds (Listing s names) rest l h = step_listing ds s names h.0 rest l h.1.0 h.1.1 h.1.2
step_in ds (Titling r) rest l h = step_titling ds r rest l h
step_in ds (Heading r name) rest l h = step_heading ds r name rest l h
step_in ds (Inside r name inputs n) rest l h =
    step_body ds r name inputs h.0 rest n l h.1.0 (body_more inputs h.0 l h.1.0 (subst (IsStarted inputs) (sym h.1.1) h.1.2)) h.1.1 h.1.3

abbrev pub HeardBy : Option State → List Lexeme → Type 0
HeardBy None ls = Unit {0}
HeardBy (Some s) ls = Heard s ls

heard_more : (s : State) (xs ls : List Lexeme) → Heard s xs → HeardBy (run_from (Some s) ls) (xs ++ ls)
heard_more s xs [] h = subst (Heard s) (sym (append-nil xs)) h
heard_more s xs (l ∷ ls) h = after_one (feed s l) (λ u k. heard_more u (xs ++ l ∷ []) ls k) (step_in s.done s.mode h.rest l h.begun)
  where
    after_one : (t : Option State) → ((u : State) → Heard u (xs ++ l ∷ []) → HeardBy (run_from (Some u) ls) ((xs ++ l ∷ []) ++ ls)) → After s.done (h.rest ++ l ∷ []) t → HeardBy (run_from t ls) (xs ++ l ∷ ls)
    after_one None more k = subst (λ t. HeardBy t (xs ++ l ∷ ls)) (sym (run_none ls)) tt
    after_one (Some t) more k =
        subst (HeardBy (run_from (Some t) ls)) (append_assoc xs (l ∷ []) ls)
        (more t (k h.front (xs ++ l ∷ []) h.spelled (ap (λ ys. ys ++ l ∷ []) h.whole ∙ append_assoc h.front h.rest (l ∷ []))))

-- What the machine takes is heard.
pub heard : (ls : List Lexeme) (s : State) → run ls ≡ Some s → Heard s ls
heard ls s h = subst (λ t. HeardBy t ls) h (heard_more start [] ls (record { front = []; rest = []; whole = refl; spelled = refl; begun = refl }))

-- What the machine takes whole are declarations.
pub sound : (ls : List Lexeme) (ds : List Declaration) → run ls ≡ Some (record { mode = Between; done = ds }) → AreDeclarations ls ds
sound ls ds h =
    let k : Heard (record { mode = Between; done = ds }) ls = heard ls _ h in
    subst (SpellAll [] ds) (sym (k.whole ∙ ap (λ ys. k.front ++ ys) k.begun ∙ append-nil k.front)) k.spelled
