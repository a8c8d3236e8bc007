-- Who may run some texts with arrow blocks and with conditions of many ways.
use Rattle.std.proofs.Common.{◌≡◌, ℕ, zero, suc, ◌+◌, Bool, true, false, not, List, [], ◌∷◌, All, refl, arith, codes}
use Rattle.nl_words.specs.Rows.{rows}
use Rattle.nl_words.specs.Kinds.{everyone, observers, turtles}
use Rattle.nl_words.specs.declared.entry.Kinds.{Kinds}
use Rattle.nl_words.specs.declared.entry.Manner.TheVariants as manner
use Rattle.nl_tree.specs.declared.tree.Label.TheVariants as label
use Rattle.nl_tree.specs.declared.faults.CheckKind.TheVariants.{WrongContext}
use Rattle.nl_tree.specs.Tree.{Node, node, none, more}
use Rattle.nl_tree.specs.Vocabulary.{terms}
use Rattle.nl_tree.specs.Grammar.{one, two}
use Rattle.nl_tree.specs.Slots.{made}
use Rattle.nl_tree.specs.Context.{Observer, Turtle, Patch, Link, allows, Use, uses, Leads, at_word, IsWrongContext, IsRight, IsFirstFault, is_not_settable, has_no_report, AreLeft}
use Rattle.nl_tree.proofs.GrammarExamples.{bare, at, num, named}
use Rattle.nl_tree.proofs.ContextExamples.{body, block, barred, begins, unbarred, left_is_right}

-- [ x -> t ], where t is an expression
abbrev turn_of : ℕ → Node → Node
turn_of i t = node (label.Arrow (codes "x" ∷ [])) (at i) (one t)

-- foreach [ 1 ] [ x -> t ], where t is a statement
abbrev each_of_one : ℕ → Node → Node
each_of_one i t = named "foreach" i (two (node label.List (at (i + 1)) (one (num 1 (i + 2)))) (turn_of (i + 3) (block (i + 3) t)))

abbrev use_of : List ℕ → ℕ → List (List ℕ) → Kinds → Bool → Use
use_of name i so_far first in_block = record { name = name; span = at i; manner = manner.Run; so_far = so_far; first = first; in_block = in_block }

-- ask turtles [ foreach [ 1 ] [ x -> tick ] ]: the turtles that are asked take the turns, and may not run tick
abbrev ticks_in_turns : Node
ticks_in_turns = body (named "ask" 0 (two (named "turtles" 1 none) (block 2 (each_of_one 3 (named "tick" 8 none)))))

abbrev before_the_tick : List Use
before_the_tick =
    use_of (codes "ask") 0 (codes "ask" ∷ []) everyone false
    ∷ use_of (codes "turtles") 1 (codes "ask" ∷ codes "turtles" ∷ []) everyone false
    ∷ use_of (codes "foreach") 3 (codes "foreach" ∷ []) turtles true
    ∷ []

abbrev tick_use : Use
tick_use = use_of (codes "tick") 8 (codes "foreach" ∷ codes "tick" ∷ []) turtles true

before_the_tick_is_right : All (IsRight (terms bare) (ticks_in_turns ∷ []) false) before_the_tick
unfolding rows
before_the_tick_is_right zero d h = left_is_right (terms bare) (ticks_in_turns ∷ []) false (use_of (codes "ask") 0 (codes "ask" ∷ []) everyone false) Observer refl refl refl refl
before_the_tick_is_right (suc zero) d h = left_is_right (terms bare) (ticks_in_turns ∷ []) false (use_of (codes "turtles") 1 (codes "ask" ∷ codes "turtles" ∷ []) everyone false) Observer refl refl refl refl
before_the_tick_is_right (suc (suc zero)) d h = left_is_right (terms bare) (ticks_in_turns ∷ []) false (use_of (codes "foreach") 3 (codes "foreach" ∷ []) turtles true) Turtle refl refl refl refl
before_the_tick_is_right (suc (suc (suc k))) d h = absurd (omega (arith, h))

tick_is_wrong : IsWrongContext (terms bare) (ticks_in_turns ∷ []) tick_use
unfolding rows
tick_is_wrong Observer left = let no = left.0 in cc
tick_is_wrong Turtle left = barred (terms bare) (ticks_in_turns ∷ []) Turtle (codes "foreach" ∷ codes "tick" ∷ []) (codes "tick") _ (1, omega arith, refl) refl refl left.1
tick_is_wrong Patch left = let no = left.0 in cc
tick_is_wrong Link left = let no = left.0 in cc

turtles_may_not_tick_in_turns : IsFirstFault (terms bare) (ticks_in_turns ∷ []) false (uses (terms bare) everyone ticks_in_turns) WrongContext (at 8)
unfolding rows
turtles_may_not_tick_in_turns = (before_the_tick, tick_use, [], (refl, before_the_tick_is_right, tick_is_wrong, refl))

-- foreach [ 1 ] [ x -> report x ]: the turn is no block that other agents run, so that report may stand there in a reporter procedure, and stop
-- may not
reports_in_turns : uses (terms bare) everyone (body (each_of_one 0 (named "report" 5 (one (named "x" 6 none))))) ≡
    use_of (codes "foreach") 0 (codes "foreach" ∷ []) everyone false
    ∷ use_of (codes "report") 5 (codes "foreach" ∷ codes "report" ∷ []) everyone false
    ∷ use_of (codes "x") 6 (codes "foreach" ∷ codes "report" ∷ codes "x" ∷ []) everyone false
    ∷ []
unfolding rows
reports_in_turns = refl

report_has_a_place_in_turns : has_no_report (terms bare) true false (codes "report") ≡ false
unfolding rows
report_has_a_place_in_turns = refl

stop_has_no_place_in_turns : has_no_report (terms bare) true false (codes "stop") ≡ true
unfolding rows
stop_has_no_place_in_turns = refl

-- foreach [ 1 ] [ x -> fd x ] leaves the body to turtles
abbrev moves_in_turns : Node
moves_in_turns = body (each_of_one 0 (named "fd" 5 (one (named "x" 6 none))))

turtles_are_left : AreLeft (terms bare) (moves_in_turns ∷ []) 0 turtles
unfolding rows
turtles_are_left Observer = ((λ h. let no = h in cc), (λ h. absurd (h (at_word {w = codes "fd"} (1, omega arith, refl) refl refl))))
turtles_are_left Turtle = ((λ h leads. let (w, (within, bars)) = begins leads in unbarred (terms bare) (moves_in_turns ∷ []) Turtle (codes "foreach" ∷ codes "fd" ∷ codes "x" ∷ []) refl w within bars), (λ h. refl))
turtles_are_left Patch = ((λ h. let no = h in cc), (λ h. absurd (h (at_word {w = codes "fd"} (1, omega arith, refl) refl refl))))
turtles_are_left Link = ((λ h. let no = h in cc), (λ h. absurd (h (at_word {w = codes "fd"} (1, omega arith, refl) refl refl))))

-- map [ x -> xcor ] [ 1 ]: the observer has no xcor
abbrev places : Node
places = named "map" 0 (two (turn_of 1 (named "xcor" 4 none)) (node label.List (at 5) (one (num 1 6))))

abbrev xcor_use : Use
xcor_use = use_of (codes "xcor") 4 (codes "map" ∷ codes "xcor" ∷ []) observers false

observer_has_no_xcor : IsWrongContext (terms bare) [] xcor_use
unfolding rows
observer_has_no_xcor Observer left = barred (terms bare) [] Observer (codes "map" ∷ codes "xcor" ∷ []) (codes "xcor") _ (1, omega arith, refl) refl refl left.1
observer_has_no_xcor Turtle left = let no = left.0 in cc
observer_has_no_xcor Patch left = let no = left.0 in cc
observer_has_no_xcor Link left = let no = left.0 in cc

map_is_right : All (IsRight (terms bare) [] false) (use_of (codes "map") 0 (codes "map" ∷ []) observers false ∷ [])
unfolding rows
map_is_right zero d h = left_is_right (terms bare) [] false (use_of (codes "map") 0 (codes "map" ∷ []) observers false) Observer refl refl refl refl
map_is_right (suc k) d h = absurd (omega (arith, h))

turtle_variables_are_no_part_of_the_observers_turns : IsFirstFault (terms bare) [] false (uses (terms bare) observers places) WrongContext (at 4)
unfolding rows
turtle_variables_are_no_part_of_the_observers_turns =
    (use_of (codes "map") 0 (codes "map" ∷ []) observers false ∷ [], xcor_use, [], (refl, map_is_right, observer_has_no_xcor, refl))

-- foreach [ 1 ] [ x -> ask turtles [ fd x ] ]: the block of ask is a site of its own
asks_in_turns : uses (terms bare) everyone (body (each_of_one 0 (named "ask" 5 (two (named "turtles" 6 none) (block 7 (named "fd" 8 (one (named "x" 9 none)))))))) ≡
    use_of (codes "foreach") 0 (codes "foreach" ∷ []) everyone false
    ∷ use_of (codes "ask") 5 (codes "foreach" ∷ codes "ask" ∷ []) everyone false
    ∷ use_of (codes "turtles") 6 (codes "foreach" ∷ codes "ask" ∷ codes "turtles" ∷ []) everyone false
    ∷ use_of (codes "fd") 8 (codes "fd" ∷ []) turtles true
    ∷ use_of (codes "x") 9 (codes "fd" ∷ codes "x" ∷ []) turtles true
    ∷ []
unfolding rows
asks_in_turns = refl

-- ( foreach [ ] turtles patches [ x -> ] ): a list past the inputs is judged as a value
further_lists_are_values : uses (terms bare) everyone (named "foreach" 1 (more (node label.List (at 2) none) (more (named "turtles" 4 none) (more (named "patches" 5 none) (one (turn_of 6 (node label.Commands (at 6) none))))))) ≡
    use_of (codes "foreach") 1 (codes "foreach" ∷ []) everyone false
    ∷ use_of (codes "turtles") 4 (codes "foreach" ∷ codes "turtles" ∷ []) everyone false
    ∷ use_of (codes "patches") 5 (codes "foreach" ∷ codes "turtles" ∷ codes "patches" ∷ []) everyone false
    ∷ []
unfolding rows
further_lists_are_values = refl

-- ( ifelse ticks [ ] turtles [ fd 1 ] ): a block past the inputs belongs to the site around it
further_blocks_are_of_the_site : uses (terms bare) everyone (named "ifelse" 1 (more (named "ticks" 2 none) (more (node label.Commands (at 3) none) (two (named "turtles" 5 none) (block 6 (named "fd" 7 (one (num 1 8)))))))) ≡
    use_of (codes "ifelse") 1 (codes "ifelse" ∷ []) everyone false
    ∷ use_of (codes "ticks") 2 (codes "ifelse" ∷ codes "ticks" ∷ []) everyone false
    ∷ use_of (codes "turtles") 5 (codes "ifelse" ∷ codes "ticks" ∷ codes "turtles" ∷ []) everyone false
    ∷ use_of (codes "fd") 7 (codes "ifelse" ∷ codes "ticks" ∷ codes "turtles" ∷ codes "fd" ∷ []) everyone false
    ∷ []
unfolding rows
further_blocks_are_of_the_site = refl

-- a name of a head may be set, but is no variable of patches; and a head makes its names
head_names_are_settable : is_not_settable (terms bare) manner.Set (codes "x") ≡ false
unfolding rows
head_names_are_settable = refl

head_names_are_not_of_patches : is_not_settable (terms bare) manner.Spread (codes "x") ≡ true
unfolding rows
head_names_are_not_of_patches = refl

heads_make_names : made (terms bare) places ≡ codes "x" ∷ []
unfolding rows
heads_make_names = refl
