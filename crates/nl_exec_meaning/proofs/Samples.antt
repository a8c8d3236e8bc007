-- Small models and worlds for worked texts.
use Rattle.std.proofs.Common.{ℕ, ℤ, List, [], ◌∷◌, true, false, Bool, Option, None, pos, negsuc, length, codes, map}
use Rattle.std.specs.Prelude.{◌*◌, slice_get}
use Prim.Native.String.{String}
use Rattle.nl_fixed.specs.Nouns.{Names}
use Rattle.nl_fixed.specs.declared.span.Span.{Span}
use Rattle.nl_value.specs.Plain.{Plain}
use Rattle.nl_grid.specs.Geometry.{Plane, plane_of}
use Rattle.nl_draw.specs.Stream.{first_state}
use Rattle.nl_tree.specs.Tree.{Node, node, none, nodes}
use Rattle.nl_tree.specs.Checked.{Checked}
use Rattle.nl_tree.specs.declared.declared.Breed.{Breed}
use Rattle.nl_tree.specs.declared.declared.Declared.{Declared}
use Rattle.nl_tree.specs.declared.declared.Procedure.{Procedure}
use Rattle.nl_tree.specs.declared.declared.Form.TheVariants as form
use Rattle.nl_tree.specs.declared.tree.Label.TheVariants as label
use Rattle.nl_agents_layout.specs.Layouts.{layout_of}
use Rattle.nl_agents.specs.World.{first_world}
use Rattle.nl_exec_meaning.specs.State.{State, Outcome, Exit}
use Rattle.nl_exec_meaning.specs.Meaning.{text, lone_site}

-- ---- models: the global variables x and y, and procedures with their bodies

abbrev pub declared_with : List Breed → List Procedure → Declared
declared_with breeds procedures = record {
  widgets = [];
  globals = codes "x" ∷ codes "y" ∷ [];
  turtles_own = [];
  patches_own = [];
  links_own = [];
  breeds = breeds;
  procedures = procedures;
  index = [];
}

abbrev pub model : List Procedure → List Node → Checked
model procedures bodies = record { declared = declared_with [] procedures; bodies = bodies; kinds = [] }

abbrev pub empty_model : Checked
empty_model = model [] []

-- breeds of turtles, and of links with a direction, with the variables that are their own
abbrev pub breed : String → String → List String → Breed
breed plural singular own = record { plural = codes plural; singular = codes singular; link = false; directed = false; own = map codes own }

abbrev pub directed_breed : String → String → Breed
directed_breed plural singular = record { plural = codes plural; singular = codes singular; link = true; directed = true; own = [] }

abbrev pub bred_model : List Breed → Checked
bred_model breeds = record { declared = declared_with breeds []; bodies = []; kinds = [] }

abbrev pub procedure : String → Bool → Names → Procedure
procedure name reporter inputs = record { name = codes name; reporter = reporter; inputs = inputs; first = 0; after = 0 }

-- ---- texts

abbrev pub at : ℕ → Span
at place = record { start = place; len = 1 }

abbrev pub word_at : ℕ → String → List Node → Node
word_at place name ts = node (label.Named (codes name)) (at place) (nodes ts)

abbrev pub word : String → List Node → Node
word name ts = word_at 0 name ts

abbrev pub one : String → Node
one name = word name []

abbrev pub millionths : ℤ → Node
millionths count = node (label.Number count) (at 0) none

abbrev pub number : ℕ → Node
number n = millionths (pos (n * 1_000_000))

abbrev pub block : List Node → Node
block ts = node label.Commands (at 0) (nodes ts)

abbrev pub literal : List Node → Node
literal ts = node label.List (at 0) (nodes ts)

abbrev pub text_of : String → Node
text_of content = node (label.Text (codes content)) (at 0) none

abbrev pub minus_at : ℕ → Node → Node
minus_at place t = node label.Negate (at place) (nodes (t ∷ []))

abbrev pub expression : Node → Node
expression t = node label.Reporter (at 0) (nodes (t ∷ []))

abbrev pub paren : Node → Node
paren t = node label.Paren (at 0) (nodes (t ∷ []))

-- ---- worlds

abbrev pub one_patch : Plane
one_patch = plane_of (pos 0) (pos 0) (pos 0) (pos 0) true true

-- from -2 to 2 on both axes, with edges and without
abbrev pub box : Plane
box = plane_of (negsuc 1) (pos 2) (negsuc 1) (pos 2) false false

abbrev pub torus : Plane
torus = plane_of (negsuc 1) (pos 2) (negsuc 1) (pos 2) true true

abbrev pub beginning : Plane → Checked → ℕ → State
beginning plane p units =
    let w = first_world (layout_of p.declared) plane in
    record {
      globals = w.globals;
      stage = record { rest = w.rest; ticks = None; stream = first_state 42 };
      locals = [];
      site = lone_site;
      units = units;
    }

-- ---- what texts come to

abbrev pub runs_in : Plane → Checked → Node → ℕ → Outcome
runs_in plane p t units = text p form.Commands t (beginning plane p units)

abbrev pub runs : Checked → Node → ℕ → Outcome
runs p t units = runs_in one_patch p t units

abbrev pub exit_of : Checked → Node → ℕ → Exit
exit_of p t units = (runs p t units).exit

abbrev pub living_of : Outcome → ℕ
living_of o = length o.state.stage.rest.turtles

abbrev pub living : Checked → Node → ℕ → ℕ
living p t units = living_of (runs p t units)

abbrev pub x_in : Outcome → Option Plain
x_in o = slice_get o.state.globals 0

abbrev pub y_in : Outcome → Option Plain
y_in o = slice_get o.state.globals 1

abbrev pub x_after : Node → ℕ → Option Plain
x_after t units = x_in (runs empty_model t units)

-- the value of a lone reporter
abbrev pub value_of : Checked → Node → Exit
value_of p t = (text p form.Reporter t (beginning one_patch p 100)).exit
