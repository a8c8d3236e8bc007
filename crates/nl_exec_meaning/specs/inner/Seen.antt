-- A local of the code, as it is kept.
use Rattle.nl_value.specs.Views.{plain}
use Rattle.nl_exec_meaning.specs.Walks.{Answer}
use Rattle.nl_exec_meaning.specs.Kept.{Kept}
use Rattle.nl_exec_meaning.specs.declared.locals.Local.{Local}
use Rattle.nl_exec_meaning.specs.declared.turns.Answered.{Answered}

abbrev pub kept : Local → Kept
kept l = record { id = l.id; value = plain l.value }

-- An answer of the code, as it is kept.
abbrev pub answered : Answered → Answer
answered a = record { member = a.member; value = plain a.value }
