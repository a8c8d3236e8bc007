-- Who may run some texts.
use Rattle.std.proofs.Common.{◌≡◌, ℕ, zero, suc, ◌<◌, inl, inr, Bool, true, false, not, ◌&&◌, List, [], ◌∷◌, length, get_or, Option, Some, None, All, refl, subst, arith, codes}
use Rattle.std.specs.List.{list_all, Contains}
use Rattle.std.specs.Cmp.{first_so, second_so}
use Rattle.nl_words.specs.Rows.{rows}
use Rattle.nl_words.specs.Kinds.{everyone, observers, turtles, patches, agents}
use Rattle.nl_words.specs.declared.entry.Kinds.{Kinds}
use Rattle.nl_tree.specs.declared.tree.Label.TheVariants as label
use Rattle.nl_tree.specs.declared.declared.Declared.{Declared}
use Rattle.nl_tree.specs.declared.declared.Procedure.{Procedure}
use Rattle.nl_tree.specs.declared.declared.What.{What}
use Rattle.nl_tree.specs.declared.declared.What.TheVariants as what
use Rattle.nl_tree.specs.Tree.{Node, node, none}
use Rattle.nl_tree.specs.Term.{Term}
use Rattle.nl_tree.specs.Vocabulary.{terms, term_named}
use Rattle.nl_tree.specs.Grammar.{one, two}
use Rattle.nl_words.specs.declared.entry.Manner.TheVariants as manner
use Rattle.nl_tree.specs.Context.{Kind, Observer, Turtle, Patch, Link, allows, given, Use, uses, words_at, Leads, at_word, by_call, Bars, IsWrongContext, IsRight, IsFaultAt, IsFirstFault, IsRightText, is_not_settable, has_no_report, AreLeft}
use Rattle.nl_tree.specs.declared.faults.CheckKind.TheVariants.{WrongContext, NotSettable, NoReport}
use Rattle.nl_tree.proofs.GrammarExamples.{bare, at, num, named}

-- A test: the words have no row, or one that the kind may run and that calls no procedure. Then none of them bars the kind.

abbrev calls_nothing : What → Bool
calls_nothing (what.Procedure n) = false
calls_nothing (what.Base c) = true
calls_nothing (what.Global n) = true
calls_nothing (what.Own n) = true
calls_nothing (what.Made n c) = true

abbrev is_free : Kind → Option Term → Bool
is_free kind None = true
is_free kind (Some t) = allows t.runs kind && calls_nothing t.what

true_or_not : (b : Bool) → b ≡ true → not b ≡ true → ⊥
true_or_not true h k = cc
true_or_not false h k = cc

calls_or_not : (it : What) (j : ℕ) → calls_nothing it ≡ true → it ≡ what.Procedure j → ⊥
calls_or_not it j h k = let g = subst (λ x. calls_nothing x ≡ true) k h in cc

one_is_free : (table : List Term) (bodies : List Node) (kind : Kind) (w : List ℕ) → is_free kind (term_named table w) ≡ true → Bars table bodies kind w → ⊥
one_is_free table bodies kind w free (t, (here, by)) =
    let passes : is_free kind (Some t) ≡ true = subst (λ o. is_free kind o ≡ true) here free in
    elim by [
      | inl barred ↦ true_or_not (allows t.runs kind) (first_so (allows t.runs kind) (calls_nothing t.what) passes) barred
      | inr called ↦ calls_or_not t.what called.0 (second_so (allows t.runs kind) (calls_nothing t.what) passes) called.1.0
    ]

all_free_at : (test : List ℕ → Bool) (ws : List (List ℕ)) (k : ℕ) (d : List ℕ) → list_all test ws ≡ true → k < length ws → test (get_or ws k d) ≡ true
all_free_at test [] k d h within = absurd (omega (arith, within))
all_free_at test (w ∷ ws) zero d h within = first_so (test w) (list_all test ws) h
all_free_at test (w ∷ ws) (suc k) d h within = all_free_at test ws k d (second_so (test w) (list_all test ws) h) (omega (arith, within))

pub unbarred : (table : List Term) (bodies : List Node) (kind : Kind) (ws : List (List ℕ)) → list_all (λ w. is_free kind (term_named table w)) ws ≡ true → (w : List ℕ) → Contains ws w → Bars table bodies kind w → ⊥
unbarred table bodies kind ws free w (k, within, is) =
    one_is_free table bodies kind w (subst (λ x. is_free kind (term_named table x) ≡ true) is (all_free_at (λ x. is_free kind (term_named table x)) ws k w free within))

-- no kind is barred from such words, so none of them is out of context
pub left_is_right : (table : List Term) (bodies : List Node) (reporter : Bool) (u : Use) (kind : Kind) → allows u.first kind ≡ true → list_all (λ w. is_free kind (term_named table w)) u.so_far ≡ true → is_not_settable table u.manner u.name ≡ false → has_no_report table reporter u.in_block u.name ≡ false → IsRight table bodies reporter u
left_is_right table bodies reporter u kind first free settable reports WrongContext fault = fault kind (first, unbarred table bodies kind u.so_far free)
left_is_right table bodies reporter u kind first free settable reports NotSettable fault = let no = fault.1 in cc
left_is_right table bodies reporter u kind first free settable reports NoReport fault = let no = fault.2 in cc

abbrev pub body : Node → Node
body t = node label.Commands (at 0) (one t)

abbrev pub block : ℕ → Node → Node
block i t = node label.Commands (at i) (one t)

-- ask patches [ fd 1 ]: the block is run by patches, which may not run fd
abbrev asks_patches : Node
asks_patches = body (named "ask" 0 (two (named "patches" 1 none) (block 2 (named "fd" 3 (one (num 1 4))))))

words_and_blocks : uses (terms bare) everyone asks_patches ≡
    record { name = codes "ask"; span = at 0; manner = manner.Run; so_far = codes "ask" ∷ []; first = everyone; in_block = false }
    ∷ record { name = codes "patches"; span = at 1; manner = manner.Run; so_far = codes "ask" ∷ codes "patches" ∷ []; first = everyone; in_block = false }
    ∷ record { name = codes "fd"; span = at 3; manner = manner.Run; so_far = codes "fd" ∷ []; first = patches; in_block = true }
    ∷ []
unfolding rows
words_and_blocks = refl

-- what bars a kind from a word of a site, by its row alone
pub barred : (table : List Term) (bodies : List Node) (kind : Kind) (ws : List (List ℕ)) (w : List ℕ) (t : Term) → Contains ws w → term_named table w ≡ Some t → not (allows t.runs kind) ≡ true → ((v : List ℕ) → Contains ws v → Bars table bodies kind v → ⊥) → ⊥
barred table bodies kind ws w t within here bars free = free w within (t, (here, inl bars))

-- a chain of calls begins with a word of the body that bars the kind
pub begins : {table : List Term} {bodies : List Node} {kind : Kind} {i : ℕ} → Leads table bodies kind i → (w : List ℕ) × (Contains (words_at table bodies i) w × Bars table bodies kind w)
begins (at_word {w = w} {t = t} within here bars) = (w, (within, (t, (here, inl bars))))
begins (by_call {j = j} {w = w} {t = t} within here calls later) = (w, (within, (t, (here, inr (j, (calls, later))))))

abbrev ask_use : Use
ask_use = record { name = codes "ask"; span = at 0; manner = manner.Run; so_far = codes "ask" ∷ []; first = everyone; in_block = false }

abbrev patches_use : Use
patches_use = record { name = codes "patches"; span = at 1; manner = manner.Run; so_far = codes "ask" ∷ codes "patches" ∷ []; first = everyone; in_block = false }

asking_is_right : All (IsRight (terms bare) (asks_patches ∷ []) false) (ask_use ∷ patches_use ∷ [])
unfolding rows
asking_is_right zero d h = left_is_right (terms bare) (asks_patches ∷ []) false ask_use Observer refl refl refl refl
asking_is_right (suc zero) d h = left_is_right (terms bare) (asks_patches ∷ []) false patches_use Observer refl refl refl refl
asking_is_right (suc (suc k)) d h = absurd (omega (arith, h))

abbrev fd_use : Use
fd_use = record { name = codes "fd"; span = at 3; manner = manner.Run; so_far = codes "fd" ∷ []; first = patches; in_block = true }

fd_is_wrong : IsWrongContext (terms bare) (asks_patches ∷ []) fd_use
unfolding rows
fd_is_wrong Observer left = let no = left.0 in cc
fd_is_wrong Turtle left = let no = left.0 in cc
fd_is_wrong Patch left = barred (terms bare) (asks_patches ∷ []) Patch (codes "fd" ∷ []) (codes "fd") _ (0, omega arith, refl) refl refl left.1
fd_is_wrong Link left = let no = left.0 in cc

patches_may_not_move : IsFirstFault (terms bare) (asks_patches ∷ []) false (uses (terms bare) everyone asks_patches) WrongContext (at 3)
unfolding rows
patches_may_not_move = (ask_use ∷ patches_use ∷ [], fd_use, [], (refl, asking_is_right, fd_is_wrong, refl))

-- set who 3: in a body that turtles may run, the variable can't be set
abbrev sets_who : Node
sets_who = body (named "set" 0 (two (named "who" 1 none) (num 3 2)))

abbrev set_use : Kinds → Use
set_use first = record { name = codes "set"; span = at 0; manner = manner.Run; so_far = codes "set" ∷ []; first = first; in_block = false }

abbrev who_use : Kinds → Use
who_use first = record { name = codes "who"; span = at 1; manner = manner.Set; so_far = codes "set" ∷ codes "who" ∷ []; first = first; in_block = false }

set_is_right : (first : Kinds) → first.observer ≡ true → All (IsRight (terms bare) (sets_who ∷ []) false) (set_use first ∷ [])
unfolding rows
set_is_right first may zero d h = left_is_right (terms bare) (sets_who ∷ []) false (set_use first) Observer may refl refl refl
set_is_right first may (suc k) d h = absurd (omega (arith, h))

who_is_not_set : IsFirstFault (terms bare) (sets_who ∷ []) false (uses (terms bare) everyone sets_who) NotSettable (at 1)
unfolding rows
who_is_not_set = (
  set_use everyone ∷ [],
  who_use everyone,
  [],
  (
    refl,
    set_is_right everyone refl,
    (λ wrong. wrong Turtle (refl, unbarred (terms bare) (sets_who ∷ []) Turtle (codes "set" ∷ codes "who" ∷ []) refl), refl),
    refl,
  ),
)

-- in a lone text the observer may not run it, and that comes first
observer_has_no_who : IsWrongContext (terms bare) [] (who_use observers)
unfolding rows
observer_has_no_who Observer left = barred (terms bare) [] Observer (codes "set" ∷ codes "who" ∷ []) (codes "who") _ (1, omega arith, refl) refl refl left.1
observer_has_no_who Turtle left = let no = left.0 in cc
observer_has_no_who Patch left = let no = left.0 in cc
observer_has_no_who Link left = let no = left.0 in cc

who_of_the_observer : IsFaultAt (terms bare) [] false (who_use observers) WrongContext
who_of_the_observer = observer_has_no_who

-- report 3 outside of a reporter procedure
abbrev reports : Node
reports = body (named "report" 0 (one (num 3 1)))

abbrev report_use : Use
report_use = record { name = codes "report"; span = at 0; manner = manner.Run; so_far = codes "report" ∷ []; first = everyone; in_block = false }

report_has_no_place : IsFirstFault (terms bare) (reports ∷ []) false (uses (terms bare) everyone reports) NoReport (at 0)
unfolding rows
report_has_no_place = (
  [],
  report_use,
  [],
  (
    refl,
    (λ k d h. absurd (omega (arith, h))),
    ((λ wrong. wrong Observer (refl, unbarred (terms bare) (reports ∷ []) Observer (codes "report" ∷ []) refl)), refl, refl),
    refl,
  ),
)

report_is_right_in_a_reporter : IsRight (terms bare) (reports ∷ []) true report_use
unfolding rows
report_is_right_in_a_reporter = left_is_right (terms bare) (reports ∷ []) true report_use Observer refl refl refl refl

-- to a ask turtles [ b ] end to b tick end: turtles may not run the body that b calls
abbrev calling : Procedure
calling = record { name = codes "a"; reporter = false; inputs = []; first = 2; after = 7 }

abbrev ticking : Procedure
ticking = record { name = codes "b"; reporter = false; inputs = []; first = 10; after = 11 }

abbrev pair_of_procedures : Declared
pair_of_procedures = record bare { procedures = calling ∷ ticking ∷ [] }

abbrev asks_turtles : Node
asks_turtles = body (named "ask" 0 (two (named "turtles" 1 none) (block 2 (named "b" 3 none))))

abbrev ticks : Node
ticks = body (named "tick" 0 none)

abbrev two_bodies : List Node
two_bodies = asks_turtles ∷ ticks ∷ []

abbrev turtles_use : Use
turtles_use = record { name = codes "turtles"; span = at 1; manner = manner.Run; so_far = codes "ask" ∷ codes "turtles" ∷ []; first = everyone; in_block = false }

abbrev b_use : Use
b_use = record { name = codes "b"; span = at 3; manner = manner.Run; so_far = codes "b" ∷ []; first = turtles; in_block = true }

leads_to_tick : (kind : Kind) → not (allows observers kind) ≡ true → Leads (terms pair_of_procedures) two_bodies kind 1
unfolding rows
leads_to_tick kind bars = at_word {w = codes "tick"} (0, omega arith, refl) refl bars

b_is_wrong : IsWrongContext (terms pair_of_procedures) two_bodies b_use
unfolding rows
b_is_wrong Observer left = let no = left.0 in cc
b_is_wrong Turtle left = left.1 (codes "b") (0, omega arith, refl) (_, (refl, inr (1, (refl, leads_to_tick Turtle refl))))
b_is_wrong Patch left = let no = left.0 in cc
b_is_wrong Link left = let no = left.0 in cc

asking_turtles_is_right : All (IsRight (terms pair_of_procedures) two_bodies false) (ask_use ∷ turtles_use ∷ [])
unfolding rows
asking_turtles_is_right zero d h = left_is_right (terms pair_of_procedures) two_bodies false ask_use Observer refl refl refl refl
asking_turtles_is_right (suc zero) d h = left_is_right (terms pair_of_procedures) two_bodies false turtles_use Observer refl refl refl refl
asking_turtles_is_right (suc (suc k)) d h = absurd (omega (arith, h))

turtles_may_not_tick : IsFirstFault (terms pair_of_procedures) two_bodies false (uses (terms pair_of_procedures) everyone asks_turtles) WrongContext (at 3)
unfolding rows
turtles_may_not_tick = (ask_use ∷ turtles_use ∷ [], b_use, [], (refl, asking_turtles_is_right, b_is_wrong, refl))

-- the observer alone is left at the end of b, and all kinds at the end of a, whose block is a site of its own
observer_is_left : AreLeft (terms pair_of_procedures) two_bodies 1 observers
unfolding rows
observer_is_left Observer = ((λ h leads. let (w, (within, bars)) = begins leads in unbarred (terms pair_of_procedures) two_bodies Observer (codes "tick" ∷ []) refl w within bars), (λ h. refl))
observer_is_left Turtle = ((λ h. let no = h in cc), (λ h. absurd (h (leads_to_tick Turtle refl))))
observer_is_left Patch = ((λ h. let no = h in cc), (λ h. absurd (h (leads_to_tick Patch refl))))
observer_is_left Link = ((λ h. let no = h in cc), (λ h. absurd (h (leads_to_tick Link refl))))

-- diffuse p 1 by the observer: the variable is no word of the site
abbrev grass : Declared
grass = record bare { patches_own = codes "p" ∷ [] }

abbrev diffuses : Node
diffuses = body (named "diffuse" 0 (two (named "p" 1 none) (num 1 2)))

abbrev diffuse_use : Use
diffuse_use = record { name = codes "diffuse"; span = at 0; manner = manner.Run; so_far = codes "diffuse" ∷ []; first = observers; in_block = false }

abbrev p_use : Use
p_use = record { name = codes "p"; span = at 1; manner = manner.Spread; so_far = codes "diffuse" ∷ []; first = observers; in_block = false }

observer_may_diffuse : IsRightText (terms grass) [] diffuses
unfolding rows
observer_may_diffuse zero d h = left_is_right (terms grass) [] false diffuse_use Observer refl refl refl refl
observer_may_diffuse (suc zero) d h = left_is_right (terms grass) [] false p_use Observer refl refl refl refl
observer_may_diffuse (suc (suc k)) d h = absurd (omega (arith, h))

-- diffuse color 1: no variable of patches
diffuse_wants_patches : is_not_settable (terms grass) manner.Spread (codes "color") ≡ true
unfolding rows
diffuse_wants_patches = refl

diffuse_takes_a_patch_variable : is_not_settable (terms grass) manner.Spread (codes "p") ≡ false
unfolding rows
diffuse_takes_a_patch_variable = refl

-- what agents an expression may give: turtles with [..], other turtles-here, (patches), a variable
given_by_the_row : given (terms bare) (named "with" 1 (two (named "turtles" 0 none) (node label.Reporter (at 2) (one (named "true" 3 none))))) ≡ turtles
unfolding rows
given_by_the_row = refl

given_by_the_input : given (terms bare) (node label.Paren (at 0) (one (named "other" 1 (one (named "patches" 2 none))))) ≡ patches
unfolding rows
given_by_the_input = refl

given_by_nothing : given (terms bare) (named "myself" 0 none) ≡ agents
unfolding rows
given_by_nothing = refl
