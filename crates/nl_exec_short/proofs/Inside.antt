-- What a node gives that has what is had of its one part: parentheses give what is inside, which is within the limits already.
use Rattle.std.proofs.Common.{◌≡◌, ℕ, zero, suc, ◌<◌, Bool, true, false, Option, Some, None, IfSome, slice_get, refl, ap, ◌∙◌, sym, arith}
use Rattle.nl_fixed.specs.declared.span.Span.{Span}
use Rattle.nl_value.specs.Plain.{Plain}
use Rattle.nl_value.specs.Limits.{within_limits}
use Rattle.nl_tree.specs.Tree.{Node, label, span, parts}
use Rattle.nl_tree.specs.Checked.{Checked}
use Rattle.nl_exec_acts.specs.declared.fail.ErrorKind.TheVariants.{TooLarge, TooNested, WrongType}
use Rattle.nl_exec_meaning.specs.Cases.{case_of, Inside}
use Rattle.nl_exec_meaning.specs.State.{State, Exit, Outcome, Gives, Stopped, Reported, Left, Budget, Error, gives, fails, found, choose}
use Rattle.nl_exec_meaning.specs.Meaning.{cases, limited, limited_by, evaluator}
use Rattle.nl_exec_short.proofs.Words.{case_is}

-- ---- the limits

-- a value that the limits let by once is let by again
kept_if : (b : Bool) (place at : Span) (v value : Plain) (s t : State) → within_limits v ≡ b → choose b (gives v s) (fails TooLarge place s) ≡ gives value t →
    limited at (gives value t) ≡ gives value t
kept_if true place at v value s t small is =
    let h : Gives v ≡ Gives value = ap (λ (o : Outcome). o.exit) is in
    let same : v ≡ value = cc in
    ap (λ b. choose b (gives value t) (fails TooLarge at t)) (ap within_limits (sym same) ∙ small)
kept_if false place at v value s t small is =
    let h : Error TooLarge place s.site.body ≡ Gives value = ap (λ (o : Outcome). o.exit) is in
    absurd (cc)

kept : (exit : Exit) (place at : Span) (value : Plain) (s t : State) → limited_by exit place s ≡ gives value t → limited at (gives value t) ≡ gives value t
kept (Gives v) place at value s t is = kept_if (within_limits v) place at v value s t refl is
kept Stopped place at value s t is = let h : Stopped ≡ Gives value = ap (λ (o : Outcome). o.exit) is in absurd (cc)
kept (Reported v) place at value s t is = let h : Reported v ≡ Gives value = ap (λ (o : Outcome). o.exit) is in absurd (cc)
kept Left place at value s t is = let h : Left ≡ Gives value = ap (λ (o : Outcome). o.exit) is in absurd (cc)
kept Budget place at value s t is = let h : Budget ≡ Gives value = ap (λ (o : Outcome). o.exit) is in absurd (cc)
kept (Error kind spot body) place at value s t is = let h : Error kind spot body ≡ Gives value = ap (λ (o : Outcome). o.exit) is in absurd (cc)

-- what a node gives is within the limits
node_kept : (p : Checked) (room : ℕ) (t : Node) (at : Span) (value : Plain) (s after : State) → evaluator p room t s ≡ gives value after →
    limited at (gives value after) ≡ gives value after
unfolding evaluator
node_kept p zero t at value s after is =
    let h : Error TooNested (span t) s.site.body ≡ Gives value = ap (λ (o : Outcome). o.exit) is in
    absurd (cc)
node_kept p (suc room) t at value s after is =
    let o = cases p (evaluator p room) t s in
    kept o.exit (span t) at value o.state after is

-- ---- parentheses

-- parentheses, or a block of one expression
pub inside_had : (p : Checked) (room : ℕ) (t part : Node) (s after : State) (value : Plain) → Inside ≡ case_of p.declared (label t) →
    Some part ≡ slice_get (parts t) 0 → evaluator p room part s ≡ gives value after → evaluator p (suc room) t s ≡ gives value after
inside_had p room t part s after value is there had =
    case_is p room t s Inside is
    ∙ ap (λ o. limited (span t) (found o WrongType (span t) s (λ it. evaluator p room it s))) (sym there)
    ∙ ap (limited (span t)) had
    ∙ node_kept p room part (span t) value s after had

-- ---- room for nodes in each other

-- a node has what its part has, where there is room for one more
pub one_nested : (p : Checked) (t part : Node) (s : State) (n : ℕ) (a value : Plain) →
    ((room : ℕ) → evaluator p room part s ≡ gives a s → evaluator p (suc room) t s ≡ gives value s) →
    ((room : ℕ) → n < room → evaluator p room part s ≡ gives a s) →
    (room : ℕ) → suc n < room → evaluator p room t s ≡ gives value s
one_nested p t part s n a value outer inner zero some = absurd (omega (arith, some))
one_nested p t part s n a value outer inner (suc room) some =
    let h : n < room = omega (arith, some) in
    outer room (inner room h)

-- what may be had inside may be had
pub had_inside : {X : Type 0} (p : Checked) (t part : Node) (s : ℕ → State) (n : ℕ) (of : X → Plain) (o : Option X) →
    ((room : ℕ) (before after : State) (value : Plain) →
    evaluator p room part before ≡ gives value after → evaluator p (suc room) t before ≡ gives value after) →
    IfSome o (λ x. (room units : ℕ) → n < room → evaluator p room part (s units) ≡ gives (of x) (s units)) →
    IfSome o (λ x. (room units : ℕ) → suc n < room → evaluator p room t (s units) ≡ gives (of x) (s units))
had_inside p t part s n of None outer inner = tt
had_inside p t part s n of (Some x) outer inner = λ room units some.
    one_nested p t part (s units) n (of x) (of x) (λ less. outer less (s units) (s units) (of x)) (λ less h. inner less units h) room some
