use Rattle.std.proofs.Common.{ℕ, ap, ◌∙◌}
use Rattle.rand_pcg.specs.Lcg.{Lcg}
use Rattle.nl_draw.specs.Stream.{next_state, word_of}
use Rattle.nl_draw.proofs.Words.{pcg32-word, pcg32-state}
use Rattle.nl_draw.proofs.stream.Stream.word.Goals as goal

pub returns-clause-word : goal.returns-clause-word
returns-clause-word c =
    ap (λ (answer : ℕ × Lcg). answer.0) c.next_word.ensures
    ∙ pcg32-word c.self.inside.generator
    ∙ ap word_of c.self.view_is

pub returns-clause-state : goal.returns-clause-state
returns-clause-state c =
    ap (λ (answer : ℕ × Lcg). answer.1.state) c.next_word.ensures
    ∙ pcg32-state c.self.inside.generator c.self.invariant
    ∙ ap next_state c.self.view_is
