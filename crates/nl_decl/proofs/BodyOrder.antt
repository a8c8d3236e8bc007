-- The bodies of procedures lie in the text in order.
use Rattle.std.proofs.Common.{◌≡◌, ℕ, zero, suc, ◌+◌, ◌<◌, ◌≤◌, Bool, not, List, [], ◌∷◌, ◌++◌, map, Option, Some, None, length, refl, sym, ◌∙◌, ap, subst, IsTrue, arith, append_assoc, length-append}
use Rattle.std.specs.Prelude.{codes, slice_get}
use Rattle.std.specs.List.{list_all}
use Rattle.nl_decl_outline.specs.declared.declaration.Declaration.{Declaration}
use Rattle.nl_decl_outline.specs.declared.declaration.Declaration.TheVariants.{Globals, Own, Breed, Procedure}
use Rattle.nl_tree.specs.Tokens.{Lexeme, Word}
use Rattle.nl_decl_outline.specs.Declarations.{AreDeclarations, listed_or_none, word_of_procedure, is_end, begins_open, is_body, Spells, SpellAll}
use Rattle.nl_decl_outline.specs.Lengths.{inputs_length, length_of}
use Rattle.nl_decl.specs.Gathered.{procedure_at, procedures_from}
use Rattle.nl_decl.specs.Bodies.{span_of, places_from, LieFrom}
use Rattle.nl_decl.specs.Laws.{BodiesLieInOrder}
use Rattle.nl_decl_outline.proofs.Lengths.{inputs_long, size}
use Rattle.nl_decl_outline.proofs.Taken.{and_left, and_right}

pub get_behind : {A : Type 0} (xs ys : List A) (y : A) → slice_get (xs ++ y ∷ ys) (length xs) ≡ Some y
get_behind [] ys y = refl
get_behind (x ∷ xs) ys y = get_behind xs ys y

-- none of a body's tokens is `end`
none_ends : (body ys : List Lexeme) (k : ℕ) → k < length body → IsTrue (list_all (λ l. not (is_end l)) body) → slice_get (body ++ ys) k ≡ Some (Word (codes "end")) → ⊥
none_ends [] ys k h good e = omega (arith, h)
none_ends (x ∷ body) ys zero h good e = no_end x (and_left (not (is_end x)) (list_all (λ l. not (is_end l)) body) good) e
  where
    no_end : (x : Lexeme) → IsTrue (not (is_end x)) → Some x ≡ Some (Word (codes "end")) → ⊥
    no_end x h e = let same : x ≡ Word (codes "end") = cc e in let f = subst (λ l. IsTrue (not (is_end l))) same h in cc f
none_ends (x ∷ body) ys (suc k) h good e = none_ends body ys k (omega (arith, h)) (and_right (not (is_end x)) (list_all (λ l. not (is_end l)) body) good) e

none_inside : (xs body ys : List Lexeme) (k : ℕ) → length xs ≤ k → k < length xs + length body → IsTrue (list_all (λ l. not (is_end l)) body)
    → slice_get (xs ++ (body ++ ys)) k ≡ Some (Word (codes "end")) → ⊥
none_inside [] body ys k h below good e = none_ends body ys k (omega (arith, below)) good e
none_inside (x ∷ xs) body ys zero h below good e = omega (arith, h)
none_inside (x ∷ xs) body ys (suc k) h below good e = none_inside xs body ys k (omega (arith, h)) (omega (arith, below)) good e

no_ends : (inputs : Option (List (List ℕ))) (body : List Lexeme) → IsTrue (is_body inputs body) → IsTrue (list_all (λ l. not (is_end l)) body)
no_ends None body h = and_right (not (begins_open body)) (list_all (λ l. not (is_end l)) body) h
no_ends (Some names) body h = h

-- a procedure's tokens: what stands before its body, the body, and the word `end`
abbrev before_body : Bool → List ℕ → Option (List (List ℕ)) → List Lexeme
before_body r name inputs = Word (word_of_procedure r) ∷ Word name ∷ listed_or_none inputs

parts : (r : Bool) (name : List ℕ) (inputs : Option (List (List ℕ))) (body before rest : List Lexeme)
    → before ++ ((Word (word_of_procedure r) ∷ Word name ∷ listed_or_none inputs ++ body ++ Word (codes "end") ∷ []) ++ rest)
    ≡ (before ++ before_body r name inputs) ++ (body ++ Word (codes "end") ∷ rest)
parts r name inputs body before rest = simp append_assoc

-- the same tokens, put together otherwise
same_tokens : (before front behind rest : List Lexeme) → rest ≡ front ++ behind → (before ++ front) ++ behind ≡ before ++ rest
same_tokens before front behind rest e = append_assoc before front behind ∙ ap (λ ls. before ++ ls) (sym e)

longer : (breeds : List (List ℕ)) (d : Declaration) (before front : List Lexeme) (n : ℕ) → n ≡ length before → Spells breeds d front → n + length_of d ≡ length (before ++ front)
longer breeds d before front n e h = omega (arith, e, size breeds d front h, length-append before front)

-- a procedure's body, which stands behind so many tokens
body_lies : (r : Bool) (name : List ℕ) (inputs : Option (List (List ℕ))) (body before rest whole : List Lexeme) (n : ℕ)
    → n ≡ length before → IsTrue (is_body inputs body)
    → whole ≡ (before ++ before_body r name inputs) ++ (body ++ Word (codes "end") ∷ rest)
    → (slice_get whole (n + 2 + inputs_length inputs + length body) ≡ Some (Word (codes "end")))
    × ((k : ℕ) → n + 2 + inputs_length inputs ≤ k → k < n + 2 + inputs_length inputs + length body → slice_get whole k ≡ Some (Word (codes "end")) → ⊥)
body_lies r name inputs body before rest whole n e good w = (
  ap (slice_get whole) (omega (arith, e, long, length-append (before ++ front) body)) ∙ ap (λ ls. slice_get ls (length ((before ++ front) ++ body))) (w ∙ sym (append_assoc (before ++ front) body _)) ∙ get_behind ((before ++ front) ++ body) rest (Word (codes "end")),
  λ k h below f. none_inside (before ++ front) body (Word (codes "end") ∷ rest) k (omega (arith, e, long, h)) (omega (arith, e, long, below)) (no_ends inputs body good) (subst (λ ls. slice_get ls k ≡ Some (Word (codes "end"))) w f),
)
  where
    front : List Lexeme
    front = before_body r name inputs

    long : length (before ++ before_body r name inputs) ≡ length before + 2 + inputs_length inputs
    long = omega (arith, length-append before (before_body r name inputs), inputs_long inputs)

lies : (ds : List Declaration) (breeds : List (List ℕ)) (before rest : List Lexeme) (at n : ℕ) → SpellAll breeds ds rest → n ≡ length before → at ≤ n
    → LieFrom (before ++ rest) at (places_from n ds)
lies [] breeds before rest at n h e below = omega (arith, length-append before rest)
lies (Globals names ∷ ds) breeds before rest at n h e below =
    subst (λ ls. LieFrom ls at (places_from (n + length_of (Globals names)) ds)) (same_tokens before h.0 h.1 rest h.2.0)
    (lies ds _ (before ++ h.0) h.1 at _ h.2.2 (longer breeds (Globals names) before h.0 n e h.2.1) (omega (arith, below)))
lies (Own o names ∷ ds) breeds before rest at n h e below =
    subst (λ ls. LieFrom ls at (places_from (n + length_of (Own o names)) ds)) (same_tokens before h.0 h.1 rest h.2.0)
    (lies ds _ (before ++ h.0) h.1 at _ h.2.2 (longer breeds (Own o names) before h.0 n e h.2.1) (omega (arith, below)))
lies (Breed s p q ∷ ds) breeds before rest at n h e below =
    subst (λ ls. LieFrom ls at (places_from (n + length_of (Breed s p q)) ds)) (same_tokens before h.0 h.1 rest h.2.0)
    (lies ds _ (before ++ h.0) h.1 at _ h.2.2 (longer breeds (Breed s p q) before h.0 n e h.2.1) (omega (arith, below)))
lies (Procedure r name inputs tokens ∷ ds) breeds before rest at n h e below =
    let b = body_lies r name inputs h.2.1.0 before h.1 (before ++ rest) n e h.2.1.1.0
    (ap (λ ls. before ++ ls) (h.2.0 ∙ ap (λ ls. ls ++ h.1) h.2.1.1.2) ∙ parts r name inputs h.2.1.0 before h.1) in
    let long : n + 2 + inputs_length inputs + length h.2.1.0 ≡ n + 2 + inputs_length inputs + tokens = ap (λ k. n + 2 + inputs_length inputs + k) h.2.1.1.1 in (
      omega (arith, below),
      omega arith,
      ap (slice_get (before ++ rest)) (sym long) ∙ b.0,
      λ k f g. b.1 k f (omega (arith, g, long)),
      subst (λ ls. LieFrom ls (n + 2 + inputs_length inputs + tokens + 1) (places_from (n + length_of (Procedure r name inputs tokens)) ds)) (same_tokens before h.0 h.1 rest h.2.0)
          (lies ds _ (before ++ h.0) h.1 _ _ h.2.2 (longer breeds (Procedure r name inputs tokens) before h.0 n e h.2.1) (omega arith)),
    )

in_order : (ls : List Lexeme) (ds : List Declaration) → AreDeclarations ls ds → LieFrom ls 0 (places_from 0 ds)
in_order ls ds h = lies ds [] [] ls 0 0 h refl (omega arith)

-- where the bodies of the procedures lie that are declared
procedure_places : (at : ℕ) (ds : List Declaration) → map span_of (procedures_from at ds) ≡ places_from at ds
procedure_places at [] = refl
procedure_places at (Globals names ∷ ds) = procedure_places (at + length_of (Globals names)) ds
procedure_places at (Own o names ∷ ds) = procedure_places (at + length_of (Own o names)) ds
procedure_places at (Breed s plural singular ∷ ds) = procedure_places (at + length_of (Breed s plural singular)) ds
procedure_places at (Procedure reporter name inputs tokens ∷ ds) = ap (λ ps. span_of (procedure_at at reporter name inputs tokens) ∷ ps) (procedure_places (at + length_of (Procedure reporter name inputs tokens)) ds)

pub procedures_in_order : BodiesLieInOrder
procedures_in_order ls ds are = subst (λ ps. LieFrom ls 0 ps) (sym (procedure_places 0 ds)) (in_order ls ds are)
