-- Families of words: laws over all rows of the table of built-in words.
use Rattle.std.specs.Prelude.{◌≡◌, ◌==◌, ◌||◌, Bool, true, false, not, nat_le, is_some, List, [], ◌∷◌, ◌++◌, filter, map, length, codes, Option, Some, None}
use Rattle.std.specs.Option.{option_map}
use Prim.Native.String.{String}
use Rattle.nl_fixed.specs.Nouns.{Name}
use Rattle.nl_words.specs.Row.{Code, Row, row_named}
use Rattle.nl_words.specs.Rows.{rows}
use Rattle.nl_words.specs.declared.entry.Role.{Role}
use Rattle.nl_words.specs.declared.entry.Role.TheVariants as role
use Rattle.nl_words.specs.declared.codes.TheConstants as code
use Rattle.nl_tree.specs.Vocabulary.{Pattern, base_term, turtle_patterns, undirected_patterns, directed_patterns}
use Rattle.nl_agents_layout.specs.BuiltIn.{slot_of_code}
use Rattle.nl_listops.specs.Words.{value_word}
use Rattle.nl_agentset_query.specs.Words.{query_word}
use Rattle.nl_exec_acts.specs.Words.{whom_word, move_word, look_word, clock_word, clear_word, spot_word, bound_word, run_word, idle_word}
use Rattle.nl_exec_acts.specs.declared.words.Act.{Act}
use Rattle.nl_exec_acts.specs.declared.words.Act.TheVariants as act
use Rattle.nl_exec_meaning.specs.Cases.{Case, built_case}
use Rattle.nl_exec_meaning.specs.declared.words.Built.{Built}
use Rattle.nl_exec_meaning.specs.declared.words.Built.TheVariants as built
use Rattle.nl_exec_meaning.specs.Words.{apart_word, built_word, control_word, over_word, making_word, spread_word}

-- whether each family has a construct of the code
abbrev pub families : Code → List Bool
families n =
    is_some (slot_of_code n) ∷ is_some (apart_word n)
    ∷ is_some (control_word n) ∷ is_some (over_word n) ∷ is_some (making_word n) ∷ is_some (spread_word n)
    ∷ is_some (value_word n) ∷ is_some (query_word n)
    ∷ is_some (whom_word n) ∷ is_some (move_word n) ∷ is_some (look_word n) ∷ is_some (clock_word n) ∷ is_some (clear_word n)
    ∷ is_some (spot_word n) ∷ is_some (bound_word n) ∷ is_some (run_word n) ∷ is_some (idle_word n) ∷ []

-- `and` and `or` are words of values too, which are run in a way of their own
abbrev pub is_of_one : Code → Bool
is_of_one n = nat_le (length (filter (λ has. has) (families n))) 1 || (n == code.AND || n == code.OR)

abbrev pub of_several : List Name
of_several = map (λ r. r.name) (filter (λ r. not (is_of_one r.code)) rows)

-- no word is of two families, so that no family hides what another one says of a word
abbrev pub WordsAreOfOneFamily : Type 0
WordsAreOfOneFamily = of_several ≡ []

-- ---- second spellings

-- two names of one word
pub record Spelling : Type 0 where
  pub first : Name
  pub second : Name

abbrev spelling : String → String → Spelling
spelling first second = record { first = codes first; second = codes second }

abbrev pub second_spellings : List Spelling
second_spellings =
    spelling "back" "bk"
    ∷ spelling "but-first" "bf"
    ∷ spelling "but-first" "butfirst"
    ∷ spelling "but-last" "bl"
    ∷ spelling "but-last" "butlast"
    ∷ spelling "clear-all" "ca"
    ∷ spelling "clear-drawing" "cd"
    ∷ spelling "clear-patches" "cp"
    ∷ spelling "clear-turtles" "ct"
    ∷ spelling "create-ordered-turtles" "cro"
    ∷ spelling "create-turtles" "crt"
    ∷ spelling "forward" "fd"
    ∷ spelling "gray" "grey"
    ∷ spelling "hide-turtle" "ht"
    ∷ spelling "left" "lt"
    ∷ spelling "pen-down" "pd"
    ∷ spelling "pen-erase" "pe"
    ∷ spelling "pen-up" "pu"
    ∷ spelling "reset-perspective" "rp"
    ∷ spelling "right" "rt"
    ∷ spelling "sentence" "se"
    ∷ spelling "show-turtle" "st"
    ∷ []

-- what the row of a word says beside its name and its place, and the word's case
pub record Sense : Type 0 where
  pub row : Row
  pub meant : Case

abbrev pub sense : Row → Sense
sense r = record { row = record r { name = []; code = 0 }; meant = built_case (base_term r) None r.code }

-- that of the built-in word of a name, where there is one
abbrev pub sense_named : Name → Option Sense
sense_named name = option_map sense (row_named rows name)

-- each second spelling is a word, and has the sense of the first
pub record SecondSpellingsAreTheirFirst : Type 0 where
  pub words : filter (λ s. not (is_some (sense_named s.second))) second_spellings ≡ []
  pub same : map (λ s. sense_named s.second) second_spellings ≡ map (λ s. sense_named s.first) second_spellings

-- ---- words of breeds

-- births, the making of links, and queries: each goes by the breed of the word that made it
abbrev pub is_query : Act → Bool
is_query (act.Query word) = true
is_query other = false

abbrev pub goes_by_breed : Option Built → Bool
goes_by_breed (Some (built.Making word)) = true
goes_by_breed (Some (built.Act word)) = is_query word
goes_by_breed other = false

-- the words of declarations, as that of a breed's own variables, stand in no text
abbrev pub is_reserved : Role → Bool
is_reserved role.Reserved = true
is_reserved other = false

abbrev pub is_over_breed : Option Row → Bool
is_over_breed None = false
is_over_breed (Some r) = is_reserved r.role || goes_by_breed (built_word r.code)

-- the words that breeds make and whose construct takes no notice of the breed
abbrev pub of_any_breed : List Pattern
of_any_breed = filter (λ p. not (is_over_breed (row_named rows p.base))) (turtle_patterns ++ undirected_patterns ++ directed_patterns)

-- no word of a breed means what the word without the breed does
abbrev pub WordsOfBreedsGoByThem : Type 0
WordsOfBreedsGoByThem = of_any_breed ≡ []
