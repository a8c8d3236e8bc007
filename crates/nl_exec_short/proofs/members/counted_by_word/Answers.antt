-- The set that the word gives is small.
use Rattle.std.proofs.Common.{◌≡◌, ℕ, ◌≤◌, List, length, filter, not, None, refl, ap, ◌∙◌, sym, arith}
use Rattle.std.proofs.lemmas.List.{nil_from_length}
use Rattle.std.proofs.lemmas.Option.{IfSome_then}
use Rattle.nl_tree.specs.Tree.{span, parts}
use Rattle.nl_value.specs.Plain.{PlainSet}
use Rattle.nl_agents.specs.Members.{members_of}
use Rattle.nl_agents.proofs.LivingMembers.{members_are_few}
use Rattle.nl_agentset_query.specs.Agents.{listed}
use Rattle.nl_agentset.specs.Sets.{is_caller}
use Rattle.nl_exec_meaning.specs.declared.words.Built.TheVariants as built
use Rattle.nl_exec_meaning.specs.Cases.{Word}
use Rattle.nl_exec_meaning.specs.Code.{node_at}
use Rattle.nl_exec_meaning.specs.State.{gives}
use Rattle.nl_exec_meaning.specs.Meaning.{evaluator}
use Rattle.nl_exec_meaning.specs.Seen.{state_of}
use Rattle.nl_exec_short.proofs.Single.{some_room}
use Rattle.nl_exec_short.proofs.Listing.{kind_of_listed, small, asks}
use Rattle.nl_exec_short.proofs.Sets.{set_had}
use Rattle.nl_exec_short.proofs.members.counted_by_word.Goals as goal

pub returns-clause-given : goal.returns-clause-given
returns-clause-given g c = IfSome_then c.counted_told.result c.counted_told.ensures.told (λ many told.
    let code = c.args.code.now in
    let h = c.args.hands.now in
    let w = g.S.Store.world h.stage.store in
    let t = node_at code c.args.node in
    let word = c.in-Word-default-None-Act-Query in
    let set = listed told.kind_of told.numbers in
    let few : length told.numbers ≤ 400_000 = omega (arith, members_are_few w set c.counted_told.ensures.stands, ap (λ (l : List ℕ). length l) told.members) in
    let is = sym (ap (λ b. Word word.runs b word.word) word.breed-is ∙ ap (Word word.runs None) (word.word-is ∙ ap built.Act word.word-0-is)) ∙ word.ensures.op in (
      set,
      (λ room n some.
          let s = state_of code.names h n in
          some_room (λ it. evaluator code.program it t s ≡ gives (PlainSet set) s)
          (λ less. set_had code.program less t s word.runs None word.which set is
          (nil_from_length (parts t) (sym c.count.ensures ∙ c.if-count-ne0.false))
          (c.if-not-lives_and_may_run.ensures.allowed refl code n (span t)) (c.if-not-lives_and_may_run.ensures.stays refl code n)
          (asks w h.site.agent (c.if-not-lives_and_may_run.ensures.lives refl))
          (told.answers s.stage.stream) (small told.kind_of told.numbers few))
          room some),
      ap (λ (l : List ℕ). length l) told.members ∙ told.so_many,
      ap (λ which. length (filter (λ n. not (is_caller h.site.agent which n)) (members_of w.rest set))) (kind_of_listed told.kind_of told.numbers)
          ∙ ap (λ (l : List ℕ). length (filter (λ n. not (is_caller h.site.agent told.kind_of n)) l)) told.members ∙ told.apart,
    ))
