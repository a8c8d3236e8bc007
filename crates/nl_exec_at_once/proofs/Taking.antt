-- A block that is begun is its statements, and a turn that is taken is its block.
use Rattle.std.proofs.Common.{◌≡◌, ◌+◌, ◌-◌, ◌<◌, ℕ, zero, suc, length, slice_get, Option, Some, ap, ◌∙◌, sym, arith}
use Rattle.nl_tree.specs.Tree.{Node, label, span, parts}
use Rattle.nl_agents.specs.declared.store.Store.{Ghosts}
use Rattle.nl_exec_meaning.specs.Cases.{Case, case_of}
use Rattle.nl_exec_meaning.specs.Cases as case
use Rattle.nl_exec_meaning.specs.Code.{Code, node_at}
use Rattle.nl_exec_acts.specs.declared.fail.ErrorKind.TheVariants.{WrongType}
use Rattle.nl_exec_meaning.specs.State.{State, Outcome, Eval, found, goes_on, spend, spend_by, ◌>>=◌}
use Rattle.nl_exec_meaning.specs.Blocks.{part_of, statements, turns}
use Rattle.nl_exec_meaning.specs.Meaning.{by_case, cases, evaluator, limited}
use Rattle.nl_exec_meaning.specs.Seen.{state_of}
use Rattle.nl_exec_meaning.specs.declared.hands.Hands.{Hands}
use Rattle.nl_exec_meaning.proofs.Newest.{held_length}
use Rattle.nl_exec_at_once.specs.AtOnce.{far_left, then_turns}
use Rattle.nl_exec_at_once.specs.declared.statements.Far.{Far}
use Rattle.nl_exec_at_once.specs.declared.statements.TheConstants.{MOST_NESTED as most_nested}

-- ---- blocks

begun : (c : Code) (block room : ℕ) (s : State) → case_of c.program.declared (label (node_at c block)) ≡ case.Statements →
    evaluator c.program (suc room) (node_at c block) s
    ≡ limited (span (node_at c block)) (statements (evaluator c.program room) (length s.locals) (parts (node_at c block)) s)
unfolding evaluator cases
begun c block room s is =
    ap (λ (k : Case). limited (span (node_at c block)) (by_case k c.program (evaluator c.program room) (node_at c block) s)) is

-- a block comes to what its statements come to, with less room
pub block_comes_to : (c : Code) (block kept nested : ℕ) (before : State) (rest : ℕ → Outcome) →
    case_of c.program.declared (label (node_at c block)) ≡ case.Statements → length before.locals ≡ kept →
    ((room : ℕ) → nested < room → statements (evaluator c.program room) kept (parts (node_at c block)) before ≡ rest room) →
    (room : ℕ) → suc nested < room → evaluator c.program room (node_at c block) before ≡ limited (span (node_at c block)) (rest (room - 1))
block_comes_to c block kept nested before rest is known done zero enough = absurd (omega (arith, enough))
block_comes_to c block kept nested before rest is known done (suc room) enough =
    let same : room ≡ suc room - 1 = omega arith in
    begun c block room before is
    ∙ ap (λ (n : ℕ). limited (span (node_at c block)) (statements (evaluator c.program room) n (parts (node_at c block)) before)) known
    ∙ ap (λ (o : Outcome). limited (span (node_at c block)) o) (done room (omega (arith, enough)))
    ∙ ap (λ (n : ℕ). limited (span (node_at c block)) (rest n)) same

-- how far it was done, from the hands with so many units to those with what is left of them
pub block_done_so_far : {S : Type 0} {G : Ghosts S} (c : Code) (block kept : ℕ) (far : Far) (after : Hands S G) (left : ℕ) (before : Hands S G) (units : ℕ) →
    case_of c.program.declared (label (node_at c block)) ≡ case.Statements → kept ≡ length before.locals →
    ((room n kept : ℕ) → most_nested < room →
    statements (evaluator c.program room) kept (parts (node_at c block)) (state_of c.names before (units + n))
    ≡ far_left c room block kept far (state_of c.names after (left + n))) →
    (room n : ℕ) → suc most_nested < room →
    evaluator c.program room (node_at c block) (state_of c.names before (units + n))
    ≡ limited (span (node_at c block)) (far_left c (room - 1) block kept far (state_of c.names after (left + n)))
block_done_so_far c block kept far after left before units is known done room n enough =
    block_comes_to c block kept most_nested (state_of c.names before (units + n)) (λ r. far_left c r block kept far (state_of c.names after (left + n))) is
    (held_length c.names before.locals ∙ sym known) (λ r deep. done r n kept deep) room enough

-- the same of a block that is a part
pub part_comes_to : (c : Code) (word index block kept nested : ℕ) (before : State) (rest : ℕ → Outcome) →
    slice_get (parts (node_at c word)) index ≡ Some (node_at c block) →
    case_of c.program.declared (label (node_at c block)) ≡ case.Statements → length before.locals ≡ kept →
    ((room : ℕ) → nested < room → statements (evaluator c.program room) kept (parts (node_at c block)) before ≡ rest room) →
    (room : ℕ) → suc nested < room →
    limited (span (node_at c word)) (part_of (evaluator c.program room) (node_at c word) index before)
    ≡ limited (span (node_at c word)) (limited (span (node_at c block)) (rest (suc room - 2)))
part_comes_to c word index block kept nested before rest part is known done room enough =
    let t = node_at c word in
    let same : room - 1 ≡ suc room - 2 = omega arith in
    ap (λ (b : Option Node). limited (span t) (found b WrongType (span t) before (λ x. evaluator c.program room x before))) part
    ∙ ap (limited (span t)) (block_comes_to c block kept nested before rest is known done room enough)
    ∙ ap (λ (n : ℕ). limited (span t) (limited (span (node_at c block)) (rest n))) same

-- ---- turns of `repeat`

-- a further turn is taken for a unit
pub turn_taken : (prev : Eval) (t block : Node) (left less units : ℕ) (o : Outcome) (s : State) → slice_get (parts t) 1 ≡ Some block →
    o ≡ goes_on s → left ≡ suc less → s.units ≡ suc units →
    then_turns left prev t o ≡ then_turns less prev t (prev block (record s { units = units }))
turn_taken prev t block left less units o s part over more paid =
    let next : Node → State → Outcome = λ b s1. prev b s1 >>= λ value s2. turns less prev t s2 in
    ap (λ (x : Outcome). then_turns left prev t x) over
    ∙ ap (λ (n : ℕ). turns n prev t s) more
    ∙ ap (λ (b : Option Node). found b WrongType (span t) s (λ x. spend s (next x))) part
    ∙ ap (λ (n : ℕ). spend_by n s (next block)) paid
