-- What was drawn is undone where the stream is put back.
use Rattle.std.proofs.Common.{◌≡◌, ℕ, ap, ◌∙◌, sym}
use Rattle.nl_agents.specs.declared.store.Store.{Ghosts}
use Rattle.nl_exec_meaning.specs.State.{State}
use Rattle.nl_exec_meaning.specs.Walks.{at_stream}
use Rattle.nl_exec_meaning.specs.Seen.{state_of}
use Rattle.nl_exec_meaning.specs.declared.hands.Hands.{Hands}
use Rattle.nl_exec_short.specs.Had.{OnlyDraws}
use Rattle.nl_exec_at_once.specs.AtOnce.{IsAsBefore}

pub put_back : {S : Type 0} {G : Ghosts S} (after before : Hands S G) (stream : ℕ) → OnlyDraws after before → stream ≡ before.stage.stream →
    IsAsBefore (record after { stage = record after.stage { stream = stream } }) before
put_back after before stream draws same = λ names n.
    ap (at_stream stream) (draws names n) ∙ ap (λ (x : ℕ). at_stream x (state_of names before n)) same

-- what changes nothing behind a draw leaves the draw alone
pub draws_through : {S : Type 0} {G : Ghosts S} (after between before : Hands S G) → IsAsBefore after between → OnlyDraws between before →
    OnlyDraws after before
draws_through after between before nothing draws = λ names n.
    nothing names n ∙ draws names n
    ∙ sym (ap (λ (s : State). at_stream s.stage.stream (state_of names before n)) (nothing names n))
