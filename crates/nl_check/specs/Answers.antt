-- What a refusal says of a model or a text.
use Rattle.std.specs.Prelude.{◌≡◌, ℕ, ◌+◌, List}
use Rattle.nl_tree.specs.declared.declared.Declared.{Declared}
use Rattle.nl_tree.specs.Tree.{Node}
use Rattle.nl_tree.specs.Checked.{IsModelFault, IsLoneFault}
use Rattle.nl_check.specs.declared.refusal.CheckRefusal.{CheckRefusal}
use Rattle.nl_check.specs.declared.refusal.CheckRefusal.TheVariants as refusal

-- a fault is the first one of the model's bodies, and the body's number is its place and one
abbrev pub IsModelRefusal : Declared → List Node → CheckRefusal → Type 0
IsModelRefusal d bodies refusal.NoMemory = Unit {0}
IsModelRefusal d bodies (refusal.Fault kind body span) = (i : ℕ) × ((body ≡ i + 1) × IsModelFault d bodies i kind span)

-- a fault is the first one of the lone text, whose number is 0
abbrev pub IsTextRefusal : Declared → List Node → Node → CheckRefusal → Type 0
IsTextRefusal d bodies t refusal.NoMemory = Unit {0}
IsTextRefusal d bodies t (refusal.Fault kind body span) = (body ≡ 0) × IsLoneFault d bodies t kind span
