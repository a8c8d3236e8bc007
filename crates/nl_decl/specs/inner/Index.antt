-- What the parts of the making of a model's rows owe to each other.
use Rattle.std.specs.Prelude.{◌≡◌, Bool, true, false, ◌||◌, not, List, ◌++◌, map, filter, Vec, bytes_eq}
use Rattle.std.specs.HashSet.{contains_by}
use Rattle.std.specs.declared.alloc.Global.{Global}
use Rattle.nl_fixed.specs.Nouns.{Name, Names}
use Rattle.nl_words.specs.Kinds.{kinds}
use Rattle.nl_words.specs.declared.entry.Kinds.{Kinds}
use Rattle.nl_tree.specs.declared.declared.Breed.{Breed}
use Rattle.nl_tree.specs.declared.declared.Declared.{Declared}
use Rattle.nl_tree.specs.Index.{term_of}
use Rattle.nl_tree.specs.Term.{Term}
use Rattle.nl_tree.specs.declared.index.NamedWord.{NamedWord}
use Rattle.nl_tree.specs.Vocabulary.{among, joined, link_names, owned_by, turtle_names}
use Rattle.nl_decl.specs.declared.name_set.NameSet.{NameSet}
use Rattle.nl_decl.specs.declared.variables.Owned.{Owned}
use Rattle.nl_decl.specs.declared.variables.Variables.{Variables}

-- the name is in the set
abbrev pub has : NameSet → Name → Bool
has set name = contains_by (λ key. bytes_eq name key.items) set.names

-- the names of the list that aren't in the set
abbrev pub beyond : NameSet → Names → Names
beyond set names = filter (λ name. not (has set name)) names

-- with one list more, whatever names follow it
abbrev pub Joins : Variables → Names → Variables → Type 0
Joins old names new = (rest : Names) → new.names ++ beyond new.seen rest ≡ old.names ++ beyond old.seen (joined names rest)

-- with the variables of these breeds
pub record AddsOwn (old : Owned) (breeds : List Breed) (new : Owned) : Type 0 where
  pub turtles : (q : Name) → has new.turtles q ≡ (among q (owned_by false breeds) || has old.turtles q)
  pub patches : (q : Name) → has new.patches q ≡ has old.patches q
  pub links : (q : Name) → has new.links q ≡ (among q (owned_by true breeds) || has old.links q)

-- the sets have the variables that the model declares
pub record Owns (d : Declared) (owned : Owned) : Type 0 where
  pub turtles : (q : Name) → has owned.turtles q ≡ among q (turtle_names d)
  pub patches : (q : Name) → has owned.patches q ≡ among q d.patches_own
  pub links : (q : Name) → has owned.links q ≡ among q (link_names d)

-- the agents that may use an owned variable of this name
abbrev pub users : Declared → Name → Kinds
users d name =
    let on_patch = among name d.patches_own in
    kinds false (on_patch || among name (turtle_names d)) on_patch (among name (link_names d))

-- these rows stand behind those that stood there
abbrev pub AddsRows : Vec NamedWord Global → List Term → Vec NamedWord Global → Type 0
AddsRows old rows new = map term_of new.items ≡ map term_of old.items ++ rows
