-- What a node draws: a word of one value or two, whose parts may draw, from what its parts give.
use Rattle.std.proofs.Common.{◌≡◌, ℕ, ℤ, zero, suc, ◌<◌, Bool, true, false, List, length, [], ◌∷◌, Option, IfSome, Ok, refl, ap, ◌∙◌, sym, subst, arith}
use Rattle.nl_fixed.specs.Nouns.{Names}
use Rattle.nl_fixed.specs.declared.span.Span.{Span}
use Rattle.nl_words.specs.declared.entry.Kinds.{Kinds}
use Rattle.nl_value.specs.Plain.{Plain, PlainNumber, PlainNobody}
use Rattle.nl_tree.specs.Tree.{Node, label, span, parts}
use Rattle.nl_tree.specs.Checked.{Checked}
use Rattle.nl_agents_layout.specs.Nouns.{BreedNumber}
use Rattle.nl_agents.specs.declared.store.Store.{Ghosts}
use Rattle.nl_exec_acts.specs.declared.words.Act.{Act}
use Rattle.nl_exec_acts.specs.Stage.{Stage, scene, stage_of}
use Rattle.nl_exec_acts.specs.declared.fail.ErrorKind.TheVariants.{WrongType}
use Rattle.nl_exec_meaning.specs.declared.words.Built.TheVariants as built
use Rattle.nl_exec_meaning.specs.Cases.{case_of, Word}
use Rattle.nl_exec_meaning.specs.Code.{Code, node_at}
use Rattle.nl_exec_meaning.specs.State.{State, Outcome, Eval, Gives, Left, ends, gives, goes_on, choose, found, with_stage, with_number, come_to, ◌>>=◌}
use Rattle.nl_exec_meaning.specs.Running.{allowed, staying, leaves_at}
use Rattle.nl_exec_meaning.specs.Acting.{performed}
use Rattle.nl_exec_meaning.specs.Blocks.{values}
use Rattle.nl_exec_meaning.specs.Walks.{at_stream}
use Rattle.nl_exec_meaning.specs.Meaning.{act_case, limited, evaluator, lone_site}
use Rattle.nl_exec_meaning.specs.Ground.{ground_of}
use Rattle.nl_exec_meaning.specs.Means.{Stands}
use Rattle.nl_exec_meaning.specs.Seen.{state_of}
use Rattle.nl_exec_meaning.specs.Standing.{HandsFit}
use Rattle.nl_exec_meaning.specs.declared.hands.Hands.{Hands}
use Rattle.nl_exec_meaning.proofs.Standing.{stands_on}
use Rattle.nl_exec_short.specs.Had.{OnlyDraws}
use Rattle.nl_exec_short.proofs.Words.{case_is, is_number, where_some}

-- ---- values that are numbers

-- whatever holds of a value holds of the number that it is taken for
pub of_number : (P : Plain → Type 0) (o : Option ℤ) (v : Plain) (st : Stage) →
    ((place : Span) (s : State) (next : ℤ → Outcome) → with_number v place s next ≡ found o WrongType place s next) → P v → IfSome o (λ number. P (PlainNumber number))
of_number P o v st taken holds = where_some _ o (λ number there.
    let place : Span = record { start = 0; len = 0 } in
    let s : State = record { globals = []; stage = st; locals = []; site = lone_site; units = 0 } in
    let same = is_number v number place s (λ next. taken place s next ∙ ap (λ it. found it WrongType place s next) there) in
    let is : Gives v ≡ Gives (PlainNumber number) = ap (λ (o : Outcome). o.exit) same in
    let value : v ≡ PlainNumber number = cc in
    subst P value holds)

-- ---- hands that are changed by draws alone

pub only_draws : {S : Type 0} {G : Ghosts S} (after before : Hands S G) → G.world after.stage.store ≡ G.world before.stage.store →
    after.stage.ticks ≡ before.stage.ticks → after.locals ≡ before.locals → after.site ≡ before.site → OnlyDraws after before
only_draws after before world ticks locals site names n = rw (world, ticks, locals, site) refl

pub drawn_stands : {S : Type 0} {G : Ghosts S} (after before : Hands S G) → G.world after.stage.store ≡ G.world before.stage.store →
    after.locals ≡ before.locals → after.site ≡ before.site → HandsFit before → Stands after before
drawn_stands {G = g} after before world locals site fit =
    let same = ap (λ w. ground_of w.rest) world in
    stands_on after before (rw locals fit.locals) (rw site fit.site) same

-- one draw after another
pub draws_through : {S : Type 0} {G : Ghosts S} (after between before : Hands S G) → OnlyDraws after between → OnlyDraws between before → OnlyDraws after before
draws_through after between before second first names n = second names n ∙ ap (at_stream after.stage.stream) (first names n)

-- who doesn't leave
never_leaves : (b : Bool) (s : State) → choose b (ends Left s) (goes_on s) ≡ goes_on s → b ≡ false
never_leaves true s is =
    let h : Left ≡ Gives PlainNobody = ap (λ (o : Outcome). o.exit) is in
    absurd (cc)
never_leaves false s is = refl

-- who may go on may go on behind a draw
pub stays_behind : (runs : Kinds) (s after : State) (stream : ℕ) → after ≡ at_stream stream s →
    ((next : Outcome) → staying runs s next ≡ next) → (next : Outcome) → staying runs after next ≡ next
stays_behind runs s after stream is stays next =
    ap (λ it. staying runs it next) is
    ∙ ap (λ b. choose b (ends Left (at_stream stream s)) next) (never_leaves (leaves_at runs s) s (stays (goes_on s)))

-- ---- words

-- what the part gives is what the word is given
pub one_value : (prev : Eval) (ts : List Node) (x : Node) (a : Plain) (s s1 : State) (next : List Plain → State → Outcome) →
    ts ≡ x ∷ [] → prev x s ≡ gives a s1 → values prev ts [] s next ≡ next (a ∷ []) s1
one_value prev ts x a s s1 next are first =
    ap (λ it. values prev it [] s next) are
    ∙ ap (λ o. o >>= λ v s1. values prev [] (v ∷ []) s1 next) first

-- the same of two parts, one after the other
pub two_in_order : (prev : Eval) (ts : List Node) (x y : Node) (a b : Plain) (s s1 s2 : State) (next : List Plain → State → Outcome) →
    ts ≡ x ∷ y ∷ [] → prev x s ≡ gives a s1 → prev y s1 ≡ gives b s2 → values prev ts [] s next ≡ next (a ∷ b ∷ []) s2
two_in_order prev ts x y a b s s1 s2 next are first second =
    ap (λ it. values prev it [] s next) are
    ∙ ap (λ o. o >>= λ v s1. values prev (y ∷ []) (v ∷ []) s1 next) first
    ∙ ap (λ o. o >>= λ v s1. values prev [] (a ∷ v ∷ []) s1 next) second

-- an act from what its parts give
pub act_done : (act : Act) (breed : Option BreedNumber) (runs : Kinds) (prev : Eval) (t : Node) (inputs : List Plain) (value : Plain) (s s1 : State) (st : Stage) →
    ((next : List Plain → State → Outcome) → values prev (parts t) [] s next ≡ next inputs s1) → ((next : Outcome) → staying runs s1 next ≡ next) →
    performed act breed s1.site.agent s1.site.asker inputs s1.stage ≡ Ok (value, st) →
    act_case act breed runs prev t s ≡ gives value (with_stage st s1)
act_done act breed runs prev t inputs value s s1 st given stays does-it =
    given _ ∙ stays _ ∙ ap (λ o. come_to o (span t) s1 (λ answer. gives answer.0 (with_stage answer.1 s1))) does-it

-- a word of acts, where its value passes the limits
pub word_done : (p : Checked) (room : ℕ) (t : Node) (inputs : List Plain) (s s1 : State) (runs : Kinds) (breed : Option BreedNumber) (act : Act) (value : Plain) (st : Stage) →
    case_of p.declared (label t) ≡ Word runs breed (built.Act act) →
    ((next : Outcome) → allowed runs (span t) s next ≡ next) → ((next : Outcome) → staying runs s1 next ≡ next) →
    ((next : List Plain → State → Outcome) → values (evaluator p room) (parts t) [] s next ≡ next inputs s1) →
    performed act breed s1.site.agent s1.site.asker inputs s1.stage ≡ Ok (value, st) →
    limited (span t) (gives value (with_stage st s1)) ≡ gives value (with_stage st s1) →
    evaluator p (suc room) t s ≡ gives value (with_stage st s1)
word_done p room t inputs s s1 runs breed act value st is may stays given does-it small =
    case_is p room t s (Word runs breed (built.Act act)) (sym is)
    ∙ ap (limited (span t)) (may _ ∙ act_done act breed runs (evaluator p room) t inputs value s s1 st given stays does-it) ∙ small

-- ---- nodes that draw

pub at_stage : {S : Type 0} {G : Ghosts S} (names : Names) (after before : Hands S G) (n : ℕ) →
    (G.world after.stage.store).globals ≡ (G.world before.stage.store).globals → after.locals ≡ before.locals → after.site ≡ before.site →
    with_stage (stage_of (scene (G.world after.stage.store) after.stage.ticks after.stage.stream)) (state_of names before n) ≡ state_of names after n
at_stage names after before n globals locals site = rw (sym globals, sym locals, sym site) refl

-- the word is acted behind its parts, which led from the first hands to those between
pub word_drawn : {S : Type 0} {G : Ghosts S} (c : Code) (after between before : Hands S G) (node : ℕ) (inputs : List Plain) (runs : Kinds) (breed : Option BreedNumber) (act : Act) (value : Plain) →
    case_of c.program.declared (label (node_at c node)) ≡ Word runs breed (built.Act act) →
    ((n : ℕ) (place : Span) (next : Outcome) → allowed runs place (state_of c.names before n) next ≡ next) →
    ((n : ℕ) (next : Outcome) → staying runs (state_of c.names between n) next ≡ next) →
    performed act breed between.site.agent between.site.asker inputs (stage_of (scene (G.world between.stage.store) between.stage.ticks between.stage.stream))
    ≡ Ok (value, stage_of (scene (G.world after.stage.store) after.stage.ticks after.stage.stream)) →
    ((place : Span) (s : State) → limited place (gives value s) ≡ gives value s) →
    (G.world after.stage.store).globals ≡ (G.world between.stage.store).globals → after.locals ≡ between.locals → after.site ≡ between.site →
    (room n : ℕ) →
    ((next : List Plain → State → Outcome) → values (evaluator c.program room) (parts (node_at c node)) [] (state_of c.names before n) next ≡ next inputs (state_of c.names between n)) →
    evaluator c.program (suc room) (node_at c node) (state_of c.names before n) ≡ gives value (state_of c.names after n)
word_drawn {G = g} c after between before node inputs runs breed act value is may stays does-it small globals locals site room n given =
    let st = stage_of (scene (g.world after.stage.store) after.stage.ticks after.stage.stream) in
    word_done c.program room (node_at c node) inputs (state_of c.names before n) (state_of c.names between n) runs breed act value st is (may n _) (stays n) given does-it (small _ _)
    ∙ ap (gives value) (at_stage c.names after between n globals locals site)

-- a node that is a word has room for its parts
pub in_room : (nested : ℕ) (P : ℕ → Type 0) → ((room : ℕ) → nested < suc room → P (suc room)) → (room : ℕ) → nested < room → P room
in_room nested P step zero some = absurd (omega (arith, some))
in_room nested P step (suc room) some = step room some

pub no_parts : (ts : List Node) → length ts ≡ 0 → ts ≡ []
no_parts [] none = refl
no_parts (t ∷ ts) none = absurd (omega (arith, none))
