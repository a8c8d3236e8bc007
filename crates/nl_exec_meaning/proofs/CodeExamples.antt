-- Each word of the table is some construct, computed.
use Rattle.std.specs.Prelude.{◌≡◌, ◌||◌, Bool, true, false, not, List, [], filter, map, refl}
use Rattle.nl_fixed.specs.Nouns.{Name}
use Rattle.nl_words.specs.Row.{Row}
use Rattle.nl_words.specs.Rows.{rows}
use Rattle.nl_words.specs.declared.entry.Role.{Role}
use Rattle.nl_words.specs.declared.entry.Role.TheVariants as role
use Rattle.nl_tree.specs.Vocabulary.{base_term}
use Rattle.nl_tree.specs.declared.declared.What.TheVariants as what
use Rattle.nl_exec_meaning.specs.Cases.{Case, Nothing, case_of_what}

abbrev is_reserved : Role → Bool
is_reserved role.Reserved = true
is_reserved other = false

abbrev is_something : Case → Bool
is_something Nothing = false
is_something other = true

abbrev has_case : Row → Bool
has_case r = is_reserved r.role || is_something (case_of_what (base_term r) (what.Base r.code))

-- words that are nothing, other than those of declarations
abbrev left_out : List Name
left_out = map (λ r. r.name) (filter (λ r. not (has_case r)) rows)

each_word_is_a_construct : left_out ≡ []
unfolding rows
each_word_is_a_construct = refl
