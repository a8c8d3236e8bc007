-- What is done at once below the top of the stack is what the levels come to.
use Rattle.std.proofs.Common.{◌≡◌, ℕ, suc, ◌-◌, List, [], ◌∷◌, ◌++◌, Option, Some, None, drop, length, ap, ◌∙◌, sym, arith, length-append}
use Rattle.nl_value.specs.Plain.{Plain}
use Rattle.nl_value.specs.declared.values.Value.TheVariants.{Nobody}
use Rattle.nl_tree.specs.Tree.{parts, span}
use Rattle.nl_exec_meaning.specs.Code.{Code, node_at}
use Rattle.nl_exec_meaning.specs.declared.words.Over.{Over}
use Rattle.nl_exec_meaning.specs.State.{State, Outcome}
use Rattle.nl_exec_meaning.specs.Blocks.{leaving, statements}
use Rattle.nl_exec_meaning.specs.Meaning.{evaluator, limited}
use Rattle.nl_exec_meaning.specs.Walks.{Answer, turn_over}
use Rattle.nl_exec_meaning.specs.Frames.{walked_on}
use Rattle.nl_exec_meaning.specs.declared.exits.Exit.TheVariants.{Gives}
use Rattle.nl_exec_meaning.specs.declared.frames.Frame.TheVariants as frame
use Rattle.nl_exec_meaning.specs.declared.turns.Gathered.{Gathered}
use Rattle.nl_exec_meaning.specs.declared.turns.Turns.{Turns}
use Rattle.nl_exec_at_once.specs.AtOnce.{answering, block_left, far_by, inside_left, then_turns, value_or_block}
use Rattle.nl_exec_at_once.specs.declared.statements.Inside.{Inside}
use Rattle.nl_exec_at_once.specs.declared.turns.Midway.{Midway}
use Rattle.nl_exec_levels.specs.declared.levels.Level.{Level}
use Rattle.nl_exec_levels.specs.declared.focus.Focus.{Focus}
use Rattle.nl_exec_levels.specs.declared.focus.Focus.TheVariants.{Enter, Give}
use Rattle.nl_exec_levels.specs.Rest.{begun, through, rest}
use Rattle.nl_exec_levels.specs.inner.Steps.{above}
use Rattle.nl_exec_levels.proofs.Stack.{level_out, rest_push, through_push}

-- what is left of a block goes through the level of the word that chose it
pub inside_above : (c : Code) (room : ℕ) (ls : List Level) (inside : Inside) (s : State) →
    through c room (above ls inside.word (frame.Inside inside.word)) (limited (span (node_at c inside.block))
    (statements (evaluator c.program (room - suc (length (above ls inside.word (frame.Inside inside.word))))) inside.kept
    (drop inside.at (parts (node_at c inside.block))) s))
    ≡ through c room ls (inside_left c (room - length ls) inside s)
inside_above c room ls inside s =
    let l : Level = record { node = inside.word; frame = frame.Inside inside.word } in
    let left : (ℕ → Outcome) = λ n.
    limited (span (node_at c inside.block)) (statements (evaluator c.program n) inside.kept (drop inside.at (parts (node_at c inside.block))) s)
    in
    let e : room - suc (length (ls ++ l ∷ [])) ≡ room - length ls - 2 = omega (arith, length-append ls (l ∷ [])) in
    through_push c room ls l (left (room - suc (length (ls ++ l ∷ []))))
    ∙ ap (λ (n : ℕ). through c room ls (limited (span (node_at c inside.word)) (left n))) e

-- what is left of a word goes through the level of a block
pub far_above : (c : Code) (room : ℕ) (ls : List Level) (top block at kept : ℕ) (inside : Inside) (s : State) →
    through c room (above ls top (frame.Statement block at kept))
    (inside_left c (room - length (above ls top (frame.Statement block at kept))) inside s)
    ≡ through c room ls (limited (span (node_at c top)) (far_by c (room - suc (length ls)) block kept at (Some inside) s))
far_above c room ls top block at kept inside s =
    let l : Level = record { node = top; frame = frame.Statement block at kept } in
    let e : room - length (ls ++ l ∷ []) ≡ room - suc (length ls) = omega (arith, length-append ls (l ∷ [])) in
    through_push c room ls l (inside_left c (room - length (ls ++ l ∷ [])) inside s)
    ∙ ap (λ (n : ℕ). through c room ls (level_out c (room - suc (length ls)) l (inside_left c n inside s))) e

-- a block goes on behind a statement that is over
pub far_at : (c : Code) (room : ℕ) (ls : List Level) (top block at kept : ℕ) (s : State) →
    rest c room (above ls top (frame.Statement block at kept)) (Give (Gives Nobody)) s
    ≡ through c room ls (limited (span (node_at c top)) (far_by c (room - suc (length ls)) block kept at None s))
far_at c room ls top block at kept s =
    rest_push c room ls (record { node = top; frame = frame.Statement block at kept }) (Give (Gives Nobody)) s

-- a statement is done so far, and others behind it
pub statement_hurried : (c : Code) (limit : ℕ) (ls : List Level) (top block at next kept node : ℕ) (is inside : Option Inside) (s s1 : State) →
    leaving kept (evaluator c.program (limit - suc (length ls)) (node_at c node) s)
    (λ value s2. statements (evaluator c.program (limit - suc (length ls))) kept (drop at (parts (node_at c block))) s2)
    ≡ far_by c (limit - suc (length ls)) block kept next is s1 → is ≡ inside →
    through c limit ls (limited (span (node_at c top)) (far_by c (limit - suc (length ls)) block kept next inside s1))
    ≡ rest c limit (above ls top (frame.Statement block at kept)) (Enter node) s
statement_hurried c limit ls top block at next kept node is inside s s1 done e =
    let out : (Outcome → Outcome) = λ o. through c limit ls (limited (span (node_at c top)) o) in
    sym (ap (λ (x : Option Inside). out (far_by c (limit - suc (length ls)) block kept next x s1)) e)
    ∙ sym (ap out done)
    ∙ sym (rest_push c limit ls (record { node = top; frame = frame.Statement block at kept }) (Enter node) s)

-- what is left of a block goes through the level above others
block_above : (c : Code) (limit : ℕ) (ls : List Level) (l : Level) (block : ℕ) (midway : Option Midway) (s : State) →
    through c limit (ls ++ l ∷ []) (block_left c (limit - length (ls ++ l ∷ [])) block midway s)
    ≡ through c limit ls (level_out c (limit - suc (length ls)) l (block_left c (limit - suc (length ls)) block midway s))
block_above c limit ls l block midway s =
    let e : limit - length (ls ++ l ∷ []) ≡ limit - suc (length ls) = omega (arith, length-append ls (l ∷ [])) in
    through_push c limit ls l (block_left c (limit - length (ls ++ l ∷ [])) block midway s)
    ∙ ap (λ (n : ℕ). through c limit ls (level_out c (limit - suc (length ls)) l (block_left c n block midway s))) e

-- turns of an ask are over, or one is midway
pub asked_hurried : (c : Code) (limit : ℕ) (ls : List Level) (top ask index node : ℕ) (was now : Turns) (midway : Option Midway) (s s1 : State) →
    turn_over was.site (evaluator c.program (limit - suc (length ls)) (node_at c node) s)
    (walked_on (evaluator c.program (limit - suc (length ls))) (node_at c ask) index was)
    ≡ turn_over now.site (block_left c (limit - suc (length ls)) node midway s1)
    (walked_on (evaluator c.program (limit - suc (length ls))) (node_at c ask) index now) →
    through c limit (above ls top (frame.Asked ask index now)) (block_left c (limit - length (above ls top (frame.Asked ask index now))) node midway s1)
    ≡ rest c limit (above ls top (frame.Asked ask index was)) (Enter node) s
asked_hurried c limit ls top ask index node was now midway s s1 taken =
    let level : (Turns → Level) = λ turns. record { node = top; frame = frame.Asked ask index turns } in
    block_above c limit ls (level now) node midway s1
    ∙ sym (ap (λ (o : Outcome). through c limit ls (limited (span (node_at c top)) o)) taken)
    ∙ sym (rest_push c limit ls (level was) (Enter node) s)

-- the same of `repeat`
pub repeat_hurried : (c : Code) (limit : ℕ) (ls : List Level) (top word node was now : ℕ) (midway : Option Midway) (s s1 : State) →
    then_turns was (evaluator c.program (limit - suc (length ls))) (node_at c word) (evaluator c.program (limit - suc (length ls)) (node_at c node) s)
    ≡ then_turns now (evaluator c.program (limit - suc (length ls))) (node_at c word) (block_left c (limit - suc (length ls)) node midway s1) →
    through c limit (above ls top (frame.RepeatTurn word now)) (block_left c (limit - length (above ls top (frame.RepeatTurn word now))) node midway s1)
    ≡ rest c limit (above ls top (frame.RepeatTurn word was)) (Enter node) s
repeat_hurried c limit ls top word node was now midway s s1 taken =
    let level : (ℕ → Level) = λ left. record { node = top; frame = frame.RepeatTurn word left } in
    block_above c limit ls (level now) node midway s1
    ∙ sym (ap (λ (o : Outcome). through c limit ls (limited (span (node_at c top)) o)) taken)
    ∙ sym (rest_push c limit ls (level was) (Enter node) s)

-- members have answered, up to one that has, or that is to answer next
pub answers_hurried : (c : Code) (limit : ℕ) (ls : List Level) (top whose index node was_at now_at : ℕ) (word : Over) (how : Gathered) (was now : Turns)
    (was_made now_made : List Answer) (value : Option Plain) (focus : Focus) (s s1 : State) →
    answering c (evaluator c.program (limit - suc (length ls))) (node_at c whose) index word how was_at was was_made
    (evaluator c.program (limit - suc (length ls)) (node_at c node) s)
    ≡ answering c (evaluator c.program (limit - suc (length ls))) (node_at c whose) index word how now_at now now_made
    (value_or_block c (evaluator c.program (limit - suc (length ls))) node value s1) →
    begun c (limit - suc (length ls)) focus s1 ≡ value_or_block c (evaluator c.program (limit - suc (length ls))) node value s1 →
    rest c limit (above ls top (frame.Answering whose index word now_at now now_made how)) focus s1
    ≡ rest c limit (above ls top (frame.Answering whose index word was_at was was_made how)) (Enter node) s
answers_hurried c limit ls top whose index node was_at now_at word how was now was_made now_made value focus s s1 told same =
    let prev = evaluator c.program (limit - suc (length ls)) in
    let out : (Outcome → Outcome) = λ o. through c limit ls (limited (span (node_at c top)) o) in
    rest_push c limit ls (record { node = top; frame = frame.Answering whose index word now_at now now_made how }) focus s1
    ∙ ap (λ (o : Outcome). out (answering c prev (node_at c whose) index word how now_at now now_made o)) same
    ∙ sym (ap out told)
    ∙ sym (rest_push c limit ls (record { node = top; frame = frame.Answering whose index word was_at was was_made how }) (Enter node) s)
