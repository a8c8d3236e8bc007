-- Which query a code is, by the named codes of the table of words. A word that a breed makes has the code of the word without the breed.
use Rattle.std.specs.Prelude.{◌==◌, Option, Some, None, if◌then◌else◌}
use Rattle.std.specs.Option.{option_or}
use Rattle.nl_words.specs.Row.{Code}
use Rattle.nl_words.specs.declared.codes.TheConstants as code
use Rattle.nl_value.specs.declared.sets.AgentKind.TheVariants as kind
use Rattle.nl_agentset_query.specs.declared.words.QueryWord.{QueryWord}
use Rattle.nl_agentset_query.specs.declared.words.QueryWord.TheVariants as word
use Rattle.nl_agentset_query.specs.declared.words.Whole.TheVariants as whole
use Rattle.nl_agentset_query.specs.declared.words.LookUp.TheVariants as look_up
use Rattle.nl_agentset_query.specs.declared.words.OfBreed.TheVariants as of_breed
use Rattle.nl_agentset_query.specs.declared.words.OfSet.TheVariants as of_set
use Rattle.nl_agentset_query.specs.declared.words.Choice.TheVariants as choice
use Rattle.nl_agentset_query.specs.declared.words.Standing.TheVariants as standing
use Rattle.nl_agentset_query.specs.declared.words.Around.TheVariants as around
use Rattle.nl_agentset_query.specs.declared.words.PatchBy.TheVariants as patch_by
use Rattle.nl_agentset_query.specs.declared.words.Facing.TheVariants as facing
use Rattle.nl_agentset_query.specs.declared.words.Measure.TheVariants as measure
use Rattle.nl_agentset_query.specs.declared.words.OfEnds.TheVariants as of_ends
use Rattle.nl_agentset_query.specs.declared.words.Side.TheVariants as side

-- sets, and agents by what they are called
abbrev pub set_word : Code → Option QueryWord
set_word n =
    if n == code.TURTLES then Some (word.Whole whole.Turtles)
    else (if n == code.PATCHES then Some (word.Whole whole.Patches)
    else (if n == code.LINKS then Some (word.Whole whole.Links)
    else (if n == code.NO_TURTLES then Some (word.Whole whole.NoTurtles)
    else (if n == code.NO_PATCHES then Some (word.Whole whole.NoPatches)
    else (if n == code.NO_LINKS then Some (word.Whole whole.NoLinks)
    else (if n == code.TURTLE then Some (word.LookUp look_up.Turtle)
    else (if n == code.PATCH then Some (word.LookUp look_up.Patch)
    else (if n == code.LINK then Some (word.LookUp look_up.Link)
    else (if n == code.IS_TURTLE then Some (word.OfBreed of_breed.Turtle)
    else (if n == code.IS_LINK then Some (word.OfBreed of_breed.Link)
    else (if n == code.OTHER then Some (word.OfSet of_set.Other)
    else (if n == code.COUNT then Some (word.OfSet of_set.Count)
    else (if n == code.ANY then Some (word.OfSet of_set.Any)
    else (if n == code.TURTLE_SET then Some (word.Union kind.Turtle)
    else (if n == code.PATCH_SET then Some (word.Union kind.Patch)
    else (if n == code.LINK_SET then Some (word.Union kind.Link)
    else None))))))))))))))))

-- choices
abbrev pub choice_word : Code → Option QueryWord
choice_word n =
    if n == code.ONE_OF then Some (word.Choice choice.OneOf)
    else (if n == code.N_OF then Some (word.Choice choice.NOf)
    else (if n == code.UP_TO_N_OF then Some (word.Choice choice.UpToNOf)
    else None))

-- agents by where they stand
abbrev pub place_word : Code → Option QueryWord
place_word n =
    if n == code.TURTLES_ON then Some (word.Standing standing.On)
    else (if n == code.TURTLES_HERE then Some (word.Standing standing.Here)
    else (if n == code.TURTLES_AT then Some (word.Standing standing.At)
    else (if n == code.AT_POINTS then Some (word.Standing standing.AtPoints)
    else (if n == code.IN_RADIUS then Some (word.Standing standing.InRadius)
    else (if n == code.IN_CONE then Some (word.Standing standing.InCone)
    else (if n == code.NEIGHBORS then Some (word.Around around.Neighbors)
    else (if n == code.NEIGHBORS4 then Some (word.Around around.Neighbors4)
    else (if n == code.PATCH_HERE then Some (word.PatchBy patch_by.Here)
    else (if n == code.PATCH_AT then Some (word.PatchBy patch_by.At)
    else (if n == code.PATCH_AHEAD then Some (word.PatchBy patch_by.Ahead)
    else (if n == code.PATCH_LEFT_AND_AHEAD then Some (word.PatchBy patch_by.LeftAndAhead)
    else (if n == code.PATCH_RIGHT_AND_AHEAD then Some (word.PatchBy patch_by.RightAndAhead)
    else (if n == code.PATCH_AT_HEADING_AND_DISTANCE then Some (word.PatchBy patch_by.HeadingAndDistance)
    else None)))))))))))))

-- numbers and truths of where agents stand
abbrev pub measure_word : Code → Option QueryWord
measure_word n =
    if n == code.CAN_MOVE then Some (word.Facing facing.CanMove)
    else (if n == code.DX then Some (word.Facing facing.Dx)
    else (if n == code.DY then Some (word.Facing facing.Dy)
    else (if n == code.DISTANCE then Some (word.Measure measure.Distance)
    else (if n == code.TOWARDS then Some (word.Measure measure.Towards)
    else (if n == code.DISTANCEXY then Some (word.MeasureXy measure.Distance)
    else (if n == code.TOWARDSXY then Some (word.MeasureXy measure.Towards)
    else (if n == code.BOTH_ENDS then Some (word.OfEnds of_ends.Both)
    else (if n == code.LINK_LENGTH then Some (word.OfEnds of_ends.Length)
    else (if n == code.LINK_HEADING then Some (word.OfEnds of_ends.Heading)
    else None)))))))))

-- links of the caller
abbrev pub link_word : Code → Option QueryWord
link_word n =
    if n == code.MY_LINKS then Some (word.MyLinks side.Any)
    else (if n == code.MY_IN_LINKS then Some (word.MyLinks side.In)
    else (if n == code.MY_OUT_LINKS then Some (word.MyLinks side.Out)
    else (if n == code.LINK_NEIGHBORS then Some (word.Neighbors side.Any)
    else (if n == code.IN_LINK_NEIGHBORS then Some (word.Neighbors side.In)
    else (if n == code.OUT_LINK_NEIGHBORS then Some (word.Neighbors side.Out)
    else (if n == code.LINK_NEIGHBOR then Some (word.IsNeighbor side.Any)
    else (if n == code.IN_LINK_NEIGHBOR then Some (word.IsNeighbor side.In)
    else (if n == code.OUT_LINK_NEIGHBOR then Some (word.IsNeighbor side.Out)
    else (if n == code.LINK_WITH then Some (word.LinkTo side.Any)
    else (if n == code.IN_LINK_FROM then Some (word.LinkTo side.In)
    else (if n == code.OUT_LINK_TO then Some (word.LinkTo side.Out)
    else None)))))))))))

-- the query that has a code
abbrev pub query_word : Code → Option QueryWord
query_word n =
    option_or (set_word n) (option_or (choice_word n) (option_or (place_word n) (option_or (measure_word n) (link_word n))))
