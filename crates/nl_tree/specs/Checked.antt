-- What a checked program is.
use Rattle.std.specs.Prelude.{◌≡◌, ℕ, ◌<◌, ◌≤◌, Bool, false, List, Some, length, slice_get, refl}
use Rattle.std.specs.Coded.{Coded, code_by, coded_list, coded_ℕ, coded_bool, coded×}
use Rattle.std.specs.List.Sorted.{IsPermutation}
use Rattle.nl_fixed.specs.Nouns.{Name, Names}
use Rattle.nl_words.specs.Rows.{rows}
use Rattle.nl_words.specs.Table.{is_before}
use Rattle.nl_words.specs.Kinds.{everyone, observers}
use Rattle.nl_words.specs.declared.entry.Kinds.{Kinds}
use Rattle.nl_fixed.specs.declared.span.Span.{Span}
use Rattle.nl_tree.specs.declared.declared.Breed.{Breed}
use Rattle.nl_tree.specs.declared.declared.Procedure.{Procedure}
use Rattle.nl_tree.specs.declared.declared.Declared.{Declared}
use Rattle.nl_tree.specs.declared.declared.NamedWhat.{NamedWhat}
use Rattle.nl_tree.specs.declared.declared.What.{What}
use Rattle.nl_tree.specs.declared.declared.What.TheVariants as what
use Rattle.nl_tree.specs.declared.declared.Form.TheVariants as form
use Rattle.nl_tree.specs.Tree.{Node}
use Rattle.nl_tree.specs.inner.TreeCode.{node_code}
use Rattle.nl_words.specs.RowCode.{kinds_code}
use Rattle.nl_tree.specs.inner.TermCode.{term_code}
use Rattle.nl_tree.specs.Names.{IsDeclared}
use Rattle.nl_tree.specs.Term.{Term}
use Rattle.nl_tree.specs.Vocabulary.{terms, whats, global_names, owned_names}
use Rattle.nl_tree.specs.BodyFault.{Fits}
use Rattle.nl_tree.specs.Context.{uses, IsFirstFault, IsRightBody, AreLeft}
use Rattle.nl_tree.specs.declared.faults.CheckKind.{CheckKind}

-- a program without where it lies in memory
pub record Checked : Type 0 where
  pub declared : Declared
  pub bodies : List Node
  pub kinds : List Kinds

-- one body and one entry of kinds for each procedure
abbrev pub AreAsMany : Declared → List Node → List Kinds → Type 0
AreAsMany d bodies ks = (length bodies ≡ length d.procedures) × (length ks ≡ length d.procedures)

-- each body is a tree of commands in which its procedure's inputs are known
abbrev pub BodiesFit : Declared → List Node → Type 0
BodiesFit d bodies = (i : ℕ) (p : Procedure) (t : Node) → slice_get d.procedures i ≡ Some p → slice_get bodies i ≡ Some t → Fits form.Commands p.inputs (terms d) t

-- no body has a word that no kind may run, a variable that can't be set, or a report or stop out of place
abbrev pub BodiesAreRight : Declared → List Node → Type 0
BodiesAreRight d bodies = (i : ℕ) (p : Procedure) (t : Node) → slice_get d.procedures i ≡ Some p → slice_get bodies i ≡ Some t → IsRightBody (terms d) bodies p.reporter t

-- the first fault of a model's bodies: the first body by the order of the text that has one, and its first
abbrev pub IsModelFault : Declared → List Node → ℕ → CheckKind → Span → Type 0
IsModelFault d bodies i fault place =
    (p : Procedure) × (t : Node)
    × ((slice_get d.procedures i ≡ Some p) × (slice_get bodies i ≡ Some t) × IsFirstFault (terms d) bodies p.reporter (uses (terms d) everyone t) fault place
    × ((j : ℕ) (q : Procedure) (u : Node) → j < i → slice_get d.procedures j ≡ Some q → slice_get bodies j ≡ Some u → IsRightBody (terms d) bodies q.reporter u))

-- the first fault of a lone text that the observer runs
abbrev pub IsLoneFault : Declared → List Node → Node → CheckKind → Span → Type 0
IsLoneFault d bodies t fault place = IsFirstFault (terms d) bodies false (uses (terms d) observers t) fault place

-- each entry has the kinds that are left at the last word of its body
abbrev pub KindsAreLeft : Declared → List Node → List Kinds → Type 0
KindsAreLeft d bodies ks = (i : ℕ) (k : Kinds) → slice_get ks i ≡ Some k → AreLeft (terms d) bodies i k

-- each row of the model's whole word table once, and nothing else
abbrev pub AreRows : Declared → List NamedWhat → Type 0
AreRows d named = IsPermutation (whats d) named

-- the numbers of a row are places in the program
abbrev pub IsInRange : Declared → What → Type 0
IsInRange d (what.Base code) = code < length rows
IsInRange d (what.Global n) = n < length (global_names d)
IsInRange d (what.Own n) = n < length (owned_names d)
IsInRange d (what.Made n code) = (0 < n) × (n ≤ length d.breeds) × (code < length rows)
IsInRange d (what.Procedure n) = n < length d.procedures

-- all that is true of every checked program
abbrev pub IsProgram : Checked → Type 0
IsProgram p =
    IsDeclared p.declared
    × AreAsMany p.declared p.bodies p.kinds
    × BodiesFit p.declared p.bodies
    × BodiesAreRight p.declared p.bodies
    × KindsAreLeft p.declared p.bodies p.kinds

-- the first name stands before the second in the order of bytes
abbrev pub comes_before : NamedWhat → NamedWhat → Bool
comes_before a b = is_before a.name b.name

-- Codes, by which a proof tells programs apart.

abbrev coded_names : Coded (Names)
coded_names = coded_list (coded_list coded_ℕ)

abbrev pub breed_code : Coded Breed
breed_code = code_by (Name × (Name × (Bool × (Bool × Names)))) (coded× (coded_list coded_ℕ) (coded× (coded_list coded_ℕ) (coded× coded_bool (coded× coded_bool coded_names))))
    (λ b. (b.plural, (b.singular, (b.link, (b.directed, b.own)))))
    (λ c. record { plural = c.0; singular = c.1.0; link = c.1.1.0; directed = c.1.1.1.0; own = c.1.1.1.1 })
    (λ _. refl)

abbrev pub procedure_code : Coded Procedure
procedure_code = code_by (Name × (Bool × (Names × (ℕ × ℕ)))) (coded× (coded_list coded_ℕ) (coded× coded_bool (coded× coded_names (coded× coded_ℕ coded_ℕ))))
    (λ p. (p.name, (p.reporter, (p.inputs, (p.first, p.after)))))
    (λ c. record { name = c.0; reporter = c.1.0; inputs = c.1.1.0; first = c.1.1.1.0; after = c.1.1.1.1 })
    (λ _. refl)

abbrev pub declared_code : Coded Declared
declared_code = code_by (Names × (Names × (Names × (Names × (Names × (List Breed × (List Procedure × List Term)))))))
    (coded× coded_names (coded× coded_names (coded× coded_names (coded× coded_names (coded× coded_names (coded× (coded_list breed_code) (coded× (coded_list procedure_code) (coded_list term_code))))))))
    (λ d. (d.widgets, (d.globals, (d.turtles_own, (d.patches_own, (d.links_own, (d.breeds, (d.procedures, d.index))))))))
    (λ c. record { widgets = c.0; globals = c.1.0; turtles_own = c.1.1.0; patches_own = c.1.1.1.0; links_own = c.1.1.1.1.0; breeds = c.1.1.1.1.1.0; procedures = c.1.1.1.1.1.1.0; index = c.1.1.1.1.1.1.1 })
    (λ _. refl)

abbrev pub checked_code : Coded Checked
checked_code = code_by (Declared × (List Node × List Kinds)) (coded× declared_code (coded× (coded_list node_code) (coded_list kinds_code)))
    (λ p. (p.declared, (p.bodies, p.kinds)))
    (λ c. record { declared = c.0; bodies = c.1.0; kinds = c.1.1 })
    (λ _. refl)
