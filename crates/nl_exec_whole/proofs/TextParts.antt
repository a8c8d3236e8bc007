-- Each node of a text has its parts, in the words of a model.
use Rattle.std.proofs.Common.{◌≡◌, ℕ, zero, suc, Bool, true, false, Some, refl, length}
use Rattle.std.specs.Prelude.{if◌then◌else◌}
use Rattle.std.specs.List.{list_all, list_any}
use Rattle.nl_fixed.specs.Nouns.{Name}
use Rattle.nl_words.specs.Row.{Row}
use Rattle.nl_words.specs.Table.{is_cases}
use Rattle.nl_words.specs.Rows.{rows}
use Rattle.nl_words.specs.declared.entry.Role.TheVariants as role
use Rattle.nl_tree.specs.declared.declared.Declared.{Declared}
use Rattle.nl_tree.specs.declared.declared.Procedure.{Procedure}
use Rattle.nl_tree.specs.Term.{Term}
use Rattle.nl_tree.specs.Tokens.{repeated}
use Rattle.nl_tree.specs.Vocabulary.{base_term, directed_patterns, procedure_term, turtle_patterns, undirected_patterns, term_named, terms}
use Rattle.nl_exec_whole.specs.Parts.{NodesHaveTheirParts}
use Rattle.nl_exec_whole.proofs.Rows.{role_fits, term_fits}
use Rattle.nl_exec_whole.proofs.Terms.{each_row, of_each_breed, pattern_by}
use Rattle.nl_exec_whole.proofs.Reading.{text_has_parts}

all_fit : list_all (λ r. term_fits (base_term r)) rows ≡ true
unfolding rows
all_fit = refl

turtles_fit : list_all (pattern_by (λ r. term_fits (base_term r))) turtle_patterns ≡ true
unfolding rows
turtles_fit = refl

undirected_fit : list_all (pattern_by (λ r. term_fits (base_term r))) undirected_patterns ≡ true
unfolding rows
undirected_fit = refl

directed_fit : list_all (pattern_by (λ r. term_fits (base_term r))) directed_patterns ≡ true
unfolding rows
directed_fit = refl

values_are_no_cases : (n : ℕ) → list_any is_cases (repeated n) ≡ false
values_are_no_cases zero = refl
values_are_no_cases (suc n) = values_are_no_cases n

procedure_fits : (n : ℕ) (p : Procedure) → term_fits (procedure_term n p) ≡ true
procedure_fits n p = rw (values_are_no_cases (length p.inputs)) (by p.reporter)
  where
    by : (b : Bool) → role_fits (if b then role.Reporter else role.Command) false (repeated (length p.inputs)) ≡ true
    by true = refl
    by false = refl

pub every_term_fits : (d : Declared) (w : Name) (t : Term) → term_named (terms d) w ≡ Some t → term_fits t ≡ true
every_term_fits d w t here =
    let fits = λ (r : Row). term_fits (base_term r) in
    each_row (λ t. term_fits t ≡ true) d fits fits all_fit (of_each_breed fits turtles_fit undirected_fit directed_fit) (λ r h. h) (λ n name r h. h) (λ n name at. refl) (λ n name at. refl) (λ n p at. procedure_fits n p) w t here

pub nodes_have_their_parts : NodesHaveTheirParts
nodes_have_their_parts d form names ts t r = text_has_parts (terms d) (every_term_fits d) form names ts t r
