-- The stack of levels.
use Rattle.std.proofs.Common.{◌≡◌, ℕ, zero, suc, ◌-◌, ◌<◌, ◌≤◌, List, [], ◌∷◌, ◌++◌, length, refl, sym, ap, ◌∙◌, arith, length-append, true, false}
use Rattle.nl_fixed.specs.declared.span.Span.{Span}
use Rattle.nl_tree.specs.Tree.{Node, span, parts}
use Rattle.nl_tree.specs.Checked.{Checked}
use Rattle.nl_tree.specs.declared.declared.Form.TheVariants as form
use Rattle.nl_exec_acts.specs.declared.fail.ErrorKind.TheVariants.{TooNested}
use Rattle.nl_exec_meaning.specs.Code.{Code, node_at}
use Rattle.nl_exec_meaning.specs.State.{State, Outcome, Eval, Budget, ends, fails, spend, spend_by}
use Rattle.nl_exec_meaning.specs.declared.sites.Site.{Site}
use Rattle.nl_exec_meaning.specs.Meaning.{limited, cases, evaluator, text_by, text_statements}
use Rattle.nl_exec_meaning.proofs.Endings.{text_small}
use Rattle.nl_exec_meaning.specs.Frames.{resumed}
use Rattle.nl_exec_meaning.specs.Seen.{ended}
use Rattle.nl_exec_meaning.specs.declared.exits.Exit.{Exit}
use Rattle.nl_exec_meaning.specs.declared.exits.Exit.TheVariants.{Error}
use Rattle.nl_exec_meaning.specs.declared.frames.Frame.{Frame}
use Rattle.nl_exec_meaning.specs.declared.frames.Frame.TheVariants as frame
use Rattle.nl_exec_levels.specs.declared.levels.Level.{Level}
use Rattle.nl_exec_levels.specs.declared.focus.Focus.{Focus}
use Rattle.nl_exec_levels.specs.declared.focus.Focus.TheVariants.{Start, Enter, Give}
use Rattle.nl_exec_levels.specs.Rest.{through, begun, rest}

-- what comes of a level, once its child has come to an outcome
abbrev pub level_out : Code → ℕ → Level → Outcome → Outcome
level_out c room l o = limited (span (node_at c l.node)) (resumed c (evaluator c.program room) l.frame o)

-- a level on top is gone through first
pub through_push : (c : Code) (room : ℕ) (ls : List Level) (l : Level) (o : Outcome) →
    through c room (ls ++ l ∷ []) o ≡ through c room ls (level_out c (room - suc (length ls)) l o)
unfolding through
through_push c room [] l o = refl
through_push c room (k ∷ ls) l o =
    let e : room - 1 - suc (length ls) ≡ room - suc (suc (length ls)) = omega arith in
    ap (level_out c (room - 1) k) (rw (← e) (through_push c (room - 1) ls l o))

-- with room, a node is one of the cases
pub evaluator_room : (p : Checked) (room below : ℕ) (t : Node) (s : State) → room ≡ suc below →
    evaluator p room t s ≡ limited (span t) (cases p (evaluator p below) t s)
unfolding evaluator
evaluator_room p room below t s e = rw e refl

-- and without it is nested too deep
pub evaluator_full : (p : Checked) (room : ℕ) (t : Node) (s : State) → room ≡ 0 → evaluator p room t s ≡ fails TooNested (span t) s
unfolding evaluator
evaluator_full p room t s e = rw e refl

-- the same of a lone text
pub text_room : (p : Checked) (room below : ℕ) (t : Node) (s : State) → room ≡ suc below →
    text_by p room form.Commands t s ≡ text_statements (evaluator p below) (parts t) false s
text_room p room below t s e = rw e refl

pub text_full : (p : Checked) (room : ℕ) (t : Node) (s : State) → room ≡ 0 → text_by p room form.Commands t s ≡ fails TooNested (span t) s
text_full p room t s e = rw e refl

pub text_reporter : (p : Checked) (room : ℕ) (t : Node) (s : State) → text_by p room form.Reporter t s ≡ evaluator p room t s
text_reporter p zero t s = refl
text_reporter p (suc room) t s = refl

-- the end of the units goes through each frame
pub budget_passes : (c : Code) (prev : Eval) (f : Frame) (s : State) → resumed c prev f (ends Budget s) ≡ ends Budget s
budget_passes c prev (frame.Part node at made) s = refl
budget_passes c prev (frame.Inside node) s = refl
budget_passes c prev (frame.Negated node) s = refl
budget_passes c prev (frame.Statement node at kept) s = refl
budget_passes c prev (frame.TextStatement node at stopped) s = refl
budget_passes c prev (frame.LetValue node id) s = refl
budget_passes c prev (frame.SetValue node variable) s = refl
budget_passes c prev (frame.ReportValue node) s = refl
budget_passes c prev (frame.AndLeft node) s = refl
budget_passes c prev (frame.OrLeft node) s = refl
budget_passes c prev (frame.RightSide node) s = refl
budget_passes c prev (frame.IfTest node) s = refl
budget_passes c prev (frame.EitherTest node at valued) s = refl
budget_passes c prev (frame.RepeatCount node) s = refl
budget_passes c prev (frame.RepeatTurn node left) s = refl
budget_passes c prev (frame.WhileTest node) s = refl
budget_passes c prev (frame.WhileTurn node) s = refl
budget_passes c prev (frame.LoopTurn node) s = refl
budget_passes c prev (frame.Distance node runs back) s = refl
budget_passes c prev (frame.Step node turtle by left last way) s = refl
budget_passes c prev (frame.Body node true saved site) s = refl
budget_passes c prev (frame.Body node false saved site) s = refl
budget_passes c prev (frame.AskWho node) s = refl
budget_passes c prev (frame.Asked node index turns) s = refl
budget_passes c prev (frame.SetWho node word index) s = refl
budget_passes c prev (frame.SomeNumber node word up) s = refl
budget_passes c prev (frame.SomeSet node word up number) s = refl
budget_passes c prev (frame.OfWho node) s = refl
budget_passes c prev (frame.Answering node index word member turns made what) s = refl
budget_passes c prev (frame.MakingInput node word breed runs) s = refl
budget_passes c prev (frame.Share node runs slot four) s = refl
budget_passes c prev (frame.ArrowInput node word at made) s = refl
budget_passes c prev (frame.RoundWanted node index word rounds) s = refl
budget_passes c prev (frame.Round node index word kept rounds) s = refl

-- so a unit is wanted before the frame as well as behind it
spend_by_passes : (c : Code) (prev : Eval) (f : Frame) (units : ℕ) (s : State) (k : State → Outcome) →
    resumed c prev f (spend_by units s k) ≡ spend_by units s (λ s1. resumed c prev f (k s1))
spend_by_passes c prev f zero s k = budget_passes c prev f s
spend_by_passes c prev f (suc units) s k = refl

pub spend_passes : (c : Code) (prev : Eval) (f : Frame) (s : State) (k : State → Outcome) →
    resumed c prev f (spend s k) ≡ spend s (λ s1. resumed c prev f (k s1))
spend_passes c prev f s k = spend_by_passes c prev f s.units s k

-- and it goes through all levels
pub budget_through : (c : Code) (room : ℕ) (ls : List Level) (s : State) → through c room ls (ends Budget s) ≡ ends Budget s
unfolding through
budget_through c room [] s = refl
budget_through c room (l ∷ ls) s =
    rw (budget_through c (room - 1) ls s) (ap (limited (span (node_at c l.node))) (budget_passes c (evaluator c.program (room - 1)) l.frame s))

-- the rest with one level more
pub rest_push : (c : Code) (room : ℕ) (ls : List Level) (l : Level) (at : Focus) (s : State) →
    rest c room (ls ++ l ∷ []) at s ≡ through c room ls (level_out c (room - suc (length ls)) l (begun c (room - suc (length ls)) at s))
rest_push c room ls l at s =
    let e : room - length (ls ++ l ∷ []) ≡ room - suc (length ls) = omega (arith, length-append ls (l ∷ [])) in
    through_push c room ls l (begun c (room - length (ls ++ l ∷ [])) at s)
    ∙ ap (λ n. through c room ls (level_out c (room - suc (length ls)) l (begun c n at s))) e

-- where there is no room
pub rest_full : (c : Code) (room : ℕ) (ls : List Level) (t : ℕ) (e : Exit) (s : State) → room ≤ length ls →
    ended e s ≡ fails TooNested (span (node_at c t)) s → rest c room ls (Give e) s ≡ rest c room ls (Enter t) s
rest_full c room ls t e s full is =
    ap (through c room ls) (is ∙ sym (evaluator_full c.program (room - length ls) (node_at c t) s (omega (arith, full))))

pub rest_full_text : (c : Code) (room : ℕ) (ls : List Level) (t : ℕ) (e : Exit) (s : State) → room ≤ length ls →
    ended e s ≡ fails TooNested (span (node_at c t)) s → rest c room ls (Give e) s ≡ rest c room ls (Start form.Commands t) s
rest_full_text c room ls t e s full is =
    ap (through c room ls) (is ∙ sym (text_full c.program (room - length ls) (node_at c t) s (omega (arith, full))))

-- where there is room
pub rest_enter : (c : Code) (room : ℕ) (ls : List Level) (t : ℕ) (s : State) → length ls < room →
    through c room ls (limited (span (node_at c t)) (cases c.program (evaluator c.program (room - suc (length ls))) (node_at c t) s))
    ≡ rest c room ls (Enter t) s
rest_enter c room ls t s h =
    ap (through c room ls) (sym (evaluator_room c.program (room - length ls) (room - suc (length ls)) (node_at c t) s (omega (arith, h))))

pub rest_text : (c : Code) (room : ℕ) (ls : List Level) (t : ℕ) (s : State) → length ls < room →
    through c room ls (limited (span (node_at c t)) (text_statements (evaluator c.program (room - suc (length ls))) (parts (node_at c t)) false s))
    ≡ rest c room ls (Start form.Commands t) s
rest_text c room ls t s h =
    ap (through c room ls) (text_small (evaluator c.program (room - suc (length ls))) (parts (node_at c t)) false (span (node_at c t)) s
    ∙ sym (text_room c.program (room - length ls) (room - suc (length ls)) (node_at c t) s (omega (arith, h))))

-- a lone reporter is its node
pub rest_reporter : (c : Code) (room : ℕ) (ls : List Level) (t : ℕ) (s : State) → rest c room ls (Enter t) s ≡ rest c room ls (Start form.Reporter t) s
rest_reporter c room ls t s = ap (through c room ls) (sym (text_reporter c.program (room - length ls) (node_at c t) s))

-- the error of a node that is nested too deep
pub nested_is : (place there : Span) (site : Site) (s : State) → place ≡ there → s.site ≡ site →
    ended (Error TooNested place site.body) s ≡ fails TooNested there s
nested_is place there site s e f =
    ap (λ (p : Span). ended (Error TooNested p site.body) s) e ∙ ap (λ (x : Site). ended (Error TooNested there x.body) s) (sym f)
