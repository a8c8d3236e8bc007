-- The reading of declarations, token by token.
use Rattle.std.specs.Prelude.{ℕ, ◌+◌, Bool, true, false, if◌then◌else◌, List, [], ◌∷◌, ◌++◌, Option, Some, None, bytes_eq, codes, length, nat_lt}
use Rattle.nl_fixed.specs.Nouns.{Name, Names}
use Rattle.nl_decl_outline.specs.declared.declaration.Sort.TheVariants as sort
use Rattle.nl_decl_outline.specs.declared.declaration.Owner.{Owner}
use Rattle.nl_decl_outline.specs.declared.declaration.Declaration.{Declaration}
use Rattle.nl_decl_outline.specs.declared.declaration.Declaration.TheVariants as declaration
use Rattle.nl_decl_outline.specs.declared.mode.Subject.{Subject}
use Rattle.nl_decl_outline.specs.declared.mode.Subject.TheVariants as subject
use Rattle.nl_decl_outline.specs.declared.mode.Mode.{Mode}
use Rattle.nl_decl_outline.specs.declared.mode.Mode.TheVariants.{Between, Awaiting, Listing, Titling, Heading, Inside}
use Rattle.nl_tree.specs.Tokens.{Lexeme, Word, Open, Close}
use Rattle.nl_decl_outline.specs.Declarations.{plurals, owner_by, is_end}

-- what comes next, behind these declarations
pub record State : Type 0 where
  pub mode : Mode
  pub done : List Declaration

abbrev pub mode_of_owner : Option Owner → Option Mode
mode_of_owner None = None
mode_of_owner (Some o) = Some (Awaiting (subject.Own o))

-- what follows the word that begins a declaration
abbrev pub begun_by : Names → Name → Option Mode
begun_by breeds w =
    if bytes_eq w (codes "globals") then Some (Awaiting subject.Globals)
    else (if bytes_eq w (codes "breed") then Some (Awaiting (subject.Breed sort.Turtles))
    else (if bytes_eq w (codes "directed-link-breed") then Some (Awaiting (subject.Breed sort.Directed))
    else (if bytes_eq w (codes "undirected-link-breed") then Some (Awaiting (subject.Breed sort.Undirected))
    else (if bytes_eq w (codes "to") then Some (Titling false)
    else (if bytes_eq w (codes "to-report") then Some (Titling true)
    else mode_of_owner (owner_by breeds w))))))

abbrev pub in_mode : List Declaration → Option Mode → Option State
in_mode ds None = None
in_mode ds (Some m) = Some (record { mode = m; done = ds })

abbrev pub and_done : List Declaration → Declaration → Option State
and_done ds d = Some (record { mode = Between; done = ds ++ d ∷ [] })

abbrev pub begin_one : List Declaration → Lexeme → Option State
begin_one ds (Word w) = in_mode ds (begun_by (plurals ds) w)
begin_one ds l = None

abbrev pub open_list : List Declaration → Subject → Lexeme → Option State
open_list ds s Open = in_mode ds (Some (Listing s []))
open_list ds s l = None

-- whether there may be a name behind so many: a breed has two
abbrev pub takes_name : Subject → ℕ → Bool
takes_name (subject.Breed s) n = nat_lt n 2
takes_name subject.Globals n = true
takes_name (subject.Own o) n = true
takes_name (subject.Inputs r name) n = true

abbrev pub end_breed : List Declaration → Names → (Name → Name → Declaration) → Option State
end_breed ds (p ∷ q ∷ []) breed = and_done ds (breed p q)
end_breed ds names breed = None

abbrev pub end_list : List Declaration → Subject → Names → Option State
end_list ds subject.Globals names = and_done ds (declaration.Globals names)
end_list ds (subject.Own o) names = and_done ds (declaration.Own o names)
end_list ds (subject.Breed s) names = end_breed ds names (declaration.Breed s)
end_list ds (subject.Inputs r name) names = in_mode ds (Some (Inside r name (Some names) 0))

abbrev pub list_more : List Declaration → Subject → Names → Lexeme → Option State
list_more ds s names (Word w) = if takes_name s (length names) then in_mode ds (Some (Listing s (names ++ w ∷ []))) else None
list_more ds s names Close = end_list ds s names
list_more ds s names l = None

abbrev pub title : List Declaration → Bool → Lexeme → Option State
title ds r (Word w) = in_mode ds (Some (Heading r w))
title ds r l = None

abbrev pub go_on : List Declaration → Bool → Name → Option (Names) → ℕ → Lexeme → Option State
go_on ds r name inputs tokens l = if is_end l then and_done ds (declaration.Procedure r name inputs tokens) else in_mode ds (Some (Inside r name inputs (tokens + 1)))

abbrev pub head : List Declaration → Bool → Name → Lexeme → Option State
head ds r name Open = in_mode ds (Some (Listing (subject.Inputs r name) []))
head ds r name l = go_on ds r name None 0 l

abbrev pub feed_in : List Declaration → Mode → Lexeme → Option State
feed_in ds Between l = begin_one ds l
feed_in ds (Awaiting s) l = open_list ds s l
feed_in ds (Listing s names) l = list_more ds s names l
feed_in ds (Titling r) l = title ds r l
feed_in ds (Heading r name) l = head ds r name l
feed_in ds (Inside r name inputs tokens) l = go_on ds r name inputs tokens l

-- what follows the next token, where there may be one
abbrev pub feed : State → Lexeme → Option State
feed s l = feed_in s.done s.mode l

abbrev pub run_from : Option State → List Lexeme → Option State
run_from s [] = s
run_from None (l ∷ ls) = None
run_from (Some s) (l ∷ ls) = run_from (feed s l) ls

abbrev pub start : State
start = record { mode = Between; done = [] }

abbrev pub run : List Lexeme → Option State
run ls = run_from (Some start) ls
