use Rattle.nl_draw.proofs.Words.{or-words, words_from-0, words_from-1, state_after-2}
use Rattle.nl_draw.proofs.stream.Stream.two_words.Goals as goal

pub returns-clause-value : goal.returns-clause-value
returns-clause-value c =
    let both = or-words c.word-high.result c.word-low.result c.word-high.type_inv c.word-low.type_inv in
    rw (
      words_from-0,
      words_from-1,
      c.from.ensures,
      c.from-2.ensures,
      both,
      c.word-low.ensures.word,
      c.word-high.ensures.word,
      c.word-high.ensures.state,
    )

pub returns-clause-state : goal.returns-clause-state
returns-clause-state c = rw (state_after-2, c.word-low.ensures.state, c.word-high.ensures.state)
