-- An answer is told, and the next member's turn begins.
use Rattle.std.proofs.Common.{◌≡◌, ◌+◌, ℕ, IsTrue, List, [], ◌∷◌, ◌++◌, Option, Some, drop, slice_get, refl, ap, ◌∙◌, sym, subst}
use Rattle.std.specs.List.{list_all}
use Rattle.std.specs.Option.{option_map}
use Rattle.nl_fixed.specs.declared.span.Span.{Span}
use Rattle.nl_value.specs.Plain.{Plain}
use Rattle.nl_value.specs.declared.sets.AgentKind.{AgentKind}
use Rattle.nl_tree.specs.Tree.{Node, parts, span}
use Rattle.nl_agents.specs.World.{Rest}
use Rattle.nl_exec_acts.specs.declared.fail.ErrorKind.TheVariants.{WrongType}
use Rattle.nl_exec_meaning.specs.Code.{Code}
use Rattle.nl_exec_meaning.specs.declared.words.Over.{Over}
use Rattle.nl_exec_meaning.specs.State.{State, Eval, Outcome, at_site, found, gives, rest_of, spend}
use Rattle.nl_exec_meaning.specs.Walks.{Answer, Reply, Keep, Pass, Decide, Refuse, asked, members_kept, replied, reply_to}
use Rattle.nl_exec_meaning.specs.Frames.{finished, gathered_from}
use Rattle.nl_exec_meaning.specs.Ground.{Ground, fits}
use Rattle.nl_exec_meaning.specs.Standing.{AnsweringFits, MembersAscend, MembersFit}
use Rattle.nl_exec_meaning.specs.declared.turns.Gathered.{Gathered}
use Rattle.nl_exec_meaning.specs.declared.turns.Turns.{Turns}
use Rattle.nl_exec_meaning.proofs.Grounds.{pass_push}
use Rattle.nl_exec_walks.proofs.Turns.{first_of}
use Rattle.nl_exec_walks.proofs.Collecting.{members_ascend_on, turn_comes}
use Rattle.nl_exec_walks.proofs.Fitting.{ascend_pushed, ascend_without, members_front, members_push, members_pushed}
use Rattle.nl_exec_short.specs.Had.{short_plain}
use Rattle.nl_exec_short.specs.declared.values.ShortValue.{ShortValue}
use Rattle.nl_exec_short.specs.declared.values.ShortValue.TheVariants as short
use Rattle.nl_exec_at_once.specs.AtOnce.{answering, told_by}

-- ---- what is told

module _ (member : ℕ) (value : Plain) (made new : List Answer) where
  abbrev answer : Answer
  answer = record { member = member; value = value }

  pub replied_on : (r : Reply) (place : Span) (s : State) (next : List Answer → State → Outcome) → Some new ≡ told_by r member value made
      → replied r place member value made s next ≡ next new s
  replied_on Keep place s next is =
      let same : new ≡ made ++ answer ∷ [] = cc in
      ap (λ more. next more s) (sym same)
  replied_on Pass place s next is =
      let same : new ≡ made = cc in
      ap (λ more. next more s) (sym same)
  replied_on (Decide other) place s next is = absurd (cc)
  replied_on Refuse place s next is = absurd (cc)

  pub values_on : (g : Ground) (r : Reply) → Some new ≡ told_by r member value made → IsTrue (fits g value)
      → IsTrue (list_all (λ a. fits g a.value) made) → IsTrue (list_all (λ a. fits g a.value) new)
  values_on g Keep is one all =
      let same : new ≡ made ++ answer ∷ [] = cc in
      subst (λ xs. IsTrue (list_all (λ a. fits g a.value) xs)) (sym same) (pass_push (λ (a : Answer). fits g a.value) made answer all one)
  values_on g Pass is one all =
      let same : new ≡ made = cc in
      subst (λ xs. IsTrue (list_all (λ a. fits g a.value) xs)) (sym same) all
  values_on g (Decide other) is one all = absurd (cc)
  values_on g Refuse is one all = absurd (cc)

  pub members_on : (g : Ground) (which : AgentKind) (r : Reply) → Some new ≡ told_by r member value made
      → MembersFit g which (members_kept made ++ member ∷ []) → MembersFit g which (members_kept new)
  members_on g which Keep is fit =
      let same : new ≡ made ++ answer ∷ [] = cc in
      subst (λ xs. MembersFit g which xs) (sym (ap members_kept same ∙ members_pushed made answer)) fit
  members_on g which Pass is fit =
      let same : new ≡ made = cc in
      subst (λ xs. MembersFit g which xs) (sym (ap members_kept same)) (members_front g which (members_kept made) (member ∷ []) fit)
  members_on g which (Decide other) is fit = absurd (cc)
  members_on g which Refuse is fit = absurd (cc)

  pub ascend_on : (how : Gathered) (ys : List ℕ) (r : Reply) → Some new ≡ told_by r member value made
      → MembersAscend how (members_kept made ++ member ∷ ys) → MembersAscend how (members_kept new ++ ys)
  ascend_on how ys Keep is up =
      let same : new ≡ made ++ answer ∷ [] = cc in
      subst (λ xs. MembersAscend how (members_kept xs ++ ys)) (sym same) (ascend_pushed how made answer ys up)
  ascend_on how ys Pass is up =
      let same : new ≡ made = cc in
      subst (λ xs. MembersAscend how (members_kept xs ++ ys)) (sym same) (ascend_without how (members_kept made) member ys up)
  ascend_on how ys (Decide other) is up = absurd (cc)
  ascend_on how ys Refuse is up = absurd (cc)

pub short_fits : (g : Ground) (value : ShortValue) → IsTrue (fits g (short_plain value))
short_fits g (short.Truth truth) = refl
short_fits g (short.Number number) = refl

-- ---- the next turn

-- turns and their members as they were read
module _ (all turns : Turns) (ms : List ℕ) (same : all ≡ turns) (those : ms ≡ all.members) where
  pub first_among : (r : Rest) (o : Option ℕ) → o ≡ option_map (λ i. all.at + i) (first_of r all.which (drop all.at ms))
      → o ≡ option_map (λ i. turns.at + i) (first_of r turns.which (drop turns.at turns.members))
  first_among r o is =
      is ∙ ap (λ (l : List ℕ). option_map (λ i. all.at + i) (first_of r all.which (drop all.at l))) those
      ∙ ap (λ (x : Turns). option_map (λ i. x.at + i) (first_of r x.which (drop x.at x.members))) same

  pub member_there : (i m : ℕ) (o : Option ℕ) → o ≡ slice_get ms i → o ≡ Some m → slice_get turns.members i ≡ Some m
  member_there i m o read is =
      ap (λ (l : List ℕ). slice_get l i) (sym (those ∙ ap (λ (x : Turns). x.members) same)) ∙ sym read ∙ is

-- the member at the place is the first that lives: its turn begins behind the answer that was told
pub turn_begins : (c : Code) (prev : Eval) (t : Node) (index : ℕ) (word : Over) (how : Gathered) (turns : Turns) (member : ℕ) (value : Plain) (made new : List Answer) (s : State)
    (o : Option ℕ) (place m : ℕ) (block : Node) → Some new ≡ told_by (reply_to word value) member value made → o ≡ Some place
    → o ≡ option_map (λ i. turns.at + i) (first_of (rest_of s) turns.which (drop turns.at turns.members)) → slice_get turns.members place ≡ Some m → slice_get (parts t) index ≡ Some block
    → answering c prev t index word how member turns made (gives value s)
    ≡ spend (at_site (asked turns.which m turns.site) s) (λ s1. answering c prev t index word how m (record turns { at = place + 1 }) new (prev block s1))
turn_begins c prev t index word how turns member value made new s o place m block told some is stands part =
    let here : State = at_site turns.site s in
    let last : List Answer → State → Outcome = λ all s1. finished how turns.which (span t) all s1 in
    replied_on member value made new (reply_to word value) (span t) here (λ more s1. gathered_from prev t index word how turns more s1) told
    ∙ turn_comes word prev t index turns.site turns.which new here last turns.members turns.at place m o some is stands
    ∙ ap (λ (b : Option Node). found b WrongType (span t) here (λ b1. spend (at_site (asked turns.which m turns.site) s) (λ s1.
    answering c prev t index word how m (record turns { at = place + 1 }) new (prev b1 s1)))) part

-- the members ascend from the next one on
pub next_ascends : (how : Gathered) (turns : Turns) (member : ℕ) (value : Plain) (made new : List Answer) (r : Reply) (f : Option ℕ) (place m : ℕ)
    → Some new ≡ told_by r member value made → Some place ≡ option_map (λ i. turns.at + i) f → slice_get turns.members place ≡ Some m
    → MembersAscend how (members_kept made ++ member ∷ drop turns.at turns.members) → MembersAscend how (members_kept new ++ m ∷ drop (place + 1) turns.members)
next_ascends how turns member value made new r f place m told is stands up =
    members_ascend_on how (members_kept new) turns.members turns.at place m f is stands
    (ascend_on member value made new how (drop turns.at turns.members) r told up)

-- what is held fits at the next turn
pub next_fits : (g : Ground) (turns : Turns) (member : ℕ) (value : ShortValue) (made new : List Answer) (r : Reply) (place m : ℕ)
    → Some new ≡ told_by r member (short_plain value) made → slice_get turns.members place ≡ Some m
    → AnsweringFits g member turns made → AnsweringFits g m (record turns { at = place + 1 }) new
next_fits g turns member value made new r place m told stands fit = record {
  turns = record { members = fit.turns.members; site = fit.turns.site };
  values = values_on member (short_plain value) made new g r told (short_fits g value) fit.values;
  members = members_push g turns.which (members_kept new) turns.members place m
      (members_on member (short_plain value) made new g turns.which r told fit.members) fit.turns.members stands;
}
