-- What a turn's end makes of a word of a set.
use Rattle.std.specs.Prelude.{⊤, Result, Ok, Err}
use Rattle.nl_value.specs.Plain.{Plain, PlainTruth}
use Rattle.nl_value.specs.Views.{plain}
use Rattle.nl_value.specs.declared.values.Value.{Value}
use Rattle.nl_exec_meaning.specs.declared.words.Over.{Over}
use Rattle.nl_exec_meaning.specs.declared.words.Over.TheVariants as over
use Rattle.nl_exec_meaning.specs.State.{State, Outcome}
use Rattle.nl_exec_meaning.specs.Walks as walks
use Rattle.nl_exec_meaning.specs.Seen.{ended}
use Rattle.nl_exec_meaning.specs.declared.exits.Exit.{Exit}
use Rattle.nl_exec_walks.specs.declared.replies.Reply.{Reply}
use Rattle.nl_exec_walks.specs.declared.replies.Reply.TheVariants as reply

-- a word that takes a set and a block, and nothing else
abbrev pub IsOfSet : Over → Type 0
IsOfSet over.Ask = ⊥
IsOfSet over.Of = ⊥
IsOfSet over.With = ⊤
IsOfSet over.All = ⊤
IsOfSet over.WithMax = ⊤
IsOfSet over.WithMin = ⊤
IsOfSet over.MaxOneOf = ⊤
IsOfSet over.MinOneOf = ⊤
IsOfSet over.MaxNOf = ⊥
IsOfSet over.MinNOf = ⊥
IsOfSet over.SortOn = ⊤

-- what becomes of an answer, as the meaning has it
abbrev pub reply_seen : Reply → walks.Reply
reply_seen reply.Keep = walks.Keep
reply_seen reply.Pass = walks.Pass
reply_seen (reply.Decide truth) = walks.Decide (PlainTruth truth)
reply_seen reply.Refuse = walks.Refuse

-- what follows where a turn has a value, and else how all ends
abbrev pub value_or_end : Result Value Exit → State → (Plain → State → Outcome) → Outcome
value_or_end (Ok value) s next = next (plain value) s
value_or_end (Err exit) s next = ended exit s
