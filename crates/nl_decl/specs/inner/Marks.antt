-- What a name bars for later declarations of the same name.
use Rattle.std.specs.Prelude.{List, [], ◌∷◌, Option, Some, None}
use Rattle.nl_decl.specs.declared.claims.Claim.{Claim}
use Rattle.nl_decl.specs.declared.claims.Claim.TheVariants as claim
use Rattle.nl_decl.specs.declared.marks.Mark.{Mark}
use Rattle.nl_decl.specs.declared.marks.Mark.TheVariants as mark

abbrev pub common_mark : Claim → Mark
common_mark claim.Word = mark.Word
common_mark claim.Widget = mark.Widget
common_mark claim.Global = mark.Global
common_mark claim.Turtles = mark.Turtles
common_mark claim.Patches = mark.Patches
common_mark claim.Links = mark.Links
common_mark (claim.TurtleBreed i) = mark.SomeTurtleBreed
common_mark (claim.LinkBreed i) = mark.SomeLinkBreed
common_mark (claim.Input i) = mark.SomeInput

abbrev pub own_mark : Claim → Option Mark
own_mark (claim.TurtleBreed i) = Some (mark.TurtleBreed i)
own_mark (claim.LinkBreed i) = Some (mark.LinkBreed i)
own_mark (claim.Input i) = Some (mark.Input i)
own_mark claim.Word = None
own_mark claim.Widget = None
own_mark claim.Global = None
own_mark claim.Turtles = None
own_mark claim.Patches = None
own_mark claim.Links = None

-- the common marks beside which a name may not be declared so
abbrev pub barring_marks : Claim → List Mark
barring_marks claim.Word = mark.Word ∷ mark.Widget ∷ mark.Global ∷ mark.Turtles ∷ mark.Patches ∷ mark.Links ∷ mark.SomeTurtleBreed ∷ mark.SomeLinkBreed ∷ mark.SomeInput ∷ []
barring_marks claim.Widget = mark.Word ∷ mark.Widget ∷ mark.Global ∷ mark.Turtles ∷ mark.Patches ∷ mark.Links ∷ mark.SomeTurtleBreed ∷ mark.SomeLinkBreed ∷ mark.SomeInput ∷ []
barring_marks claim.Patches = mark.Word ∷ mark.Widget ∷ mark.Global ∷ mark.Turtles ∷ mark.Patches ∷ mark.Links ∷ mark.SomeTurtleBreed ∷ mark.SomeLinkBreed ∷ mark.SomeInput ∷ []
barring_marks claim.Global = mark.Word ∷ mark.Global ∷ mark.Turtles ∷ mark.Patches ∷ mark.Links ∷ mark.SomeTurtleBreed ∷ mark.SomeLinkBreed ∷ mark.SomeInput ∷ []
barring_marks claim.Turtles = mark.Word ∷ mark.Widget ∷ mark.Global ∷ mark.Turtles ∷ mark.Patches ∷ mark.SomeTurtleBreed ∷ mark.SomeInput ∷ []
barring_marks claim.Links = mark.Word ∷ mark.Widget ∷ mark.Global ∷ mark.Patches ∷ mark.Links ∷ mark.SomeLinkBreed ∷ mark.SomeInput ∷ []
barring_marks (claim.TurtleBreed i) = mark.Word ∷ mark.Widget ∷ mark.Global ∷ mark.Turtles ∷ mark.Patches ∷ mark.SomeInput ∷ []
barring_marks (claim.LinkBreed i) = mark.Word ∷ mark.Widget ∷ mark.Global ∷ mark.Patches ∷ mark.Links ∷ mark.SomeInput ∷ []
barring_marks (claim.Input i) = mark.Word ∷ mark.Widget ∷ mark.Global ∷ mark.Turtles ∷ mark.Patches ∷ mark.Links ∷ mark.SomeTurtleBreed ∷ mark.SomeLinkBreed ∷ []

abbrev pub own_marks : Option Mark → List Mark
own_marks None = []
own_marks (Some m) = m ∷ []
