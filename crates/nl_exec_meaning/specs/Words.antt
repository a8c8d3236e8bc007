-- Which construct a built-in word is, by the named codes of the table of words. A word that a breed makes has the code of the word without the
-- breed.
use Rattle.std.specs.Prelude.{◌==◌, true, false, Option, Some, None, if◌then◌else◌}
use Rattle.std.specs.Option.{option_or, option_map}
use Rattle.nl_words.specs.Row.{Code}
use Rattle.nl_words.specs.declared.codes.TheConstants as code
use Rattle.nl_birth.specs.declared.way.Way.TheVariants as way
use Rattle.nl_exec_acts.specs.Words.{act_word}
use Rattle.nl_exec_meaning.specs.declared.words.Apart.{Apart}
use Rattle.nl_exec_meaning.specs.declared.words.Apart.TheVariants as apart
use Rattle.nl_exec_meaning.specs.declared.words.Arrow.{Arrow}
use Rattle.nl_exec_meaning.specs.declared.words.Arrow.TheVariants as arrow
use Rattle.nl_exec_meaning.specs.declared.words.Control.{Control}
use Rattle.nl_exec_meaning.specs.declared.words.Control.TheVariants as control
use Rattle.nl_exec_meaning.specs.declared.words.Over.{Over}
use Rattle.nl_exec_meaning.specs.declared.words.Over.TheVariants as over
use Rattle.nl_exec_meaning.specs.declared.words.Making.{Making}
use Rattle.nl_exec_meaning.specs.declared.words.Making.TheVariants as making
use Rattle.nl_exec_meaning.specs.declared.words.Spread.{Spread}
use Rattle.nl_exec_meaning.specs.declared.words.Spread.TheVariants as spread
use Rattle.nl_exec_meaning.specs.declared.words.Built.{Built}
use Rattle.nl_exec_meaning.specs.declared.words.Built.TheVariants as built

-- variables that are kept under no slot
abbrev pub apart_word : Code → Option Apart
apart_word n =
    if n == code.WHO then Some apart.Who
    else (if n == code.XCOR then Some apart.Xcor
    else (if n == code.YCOR then Some apart.Ycor
    else (if n == code.PXCOR then Some apart.Pxcor
    else (if n == code.PYCOR then Some apart.Pycor
    else (if n == code.BREED then Some apart.Breed
    else (if n == code.END1 then Some apart.End1
    else (if n == code.END2 then Some apart.End2
    else None)))))))

abbrev pub control_word : Code → Option Control
control_word n =
    if n == code.AND then Some control.And
    else (if n == code.OR then Some control.Or
    else (if n == code.LET then Some control.Let
    else (if n == code.SET then Some control.Set
    else (if n == code.STOP then Some control.Stop
    else (if n == code.REPORT then Some control.Report
    else (if n == code.DIE then Some control.Die
    else (if n == code.IF then Some control.If
    else (if n == code.IFELSE then Some control.IfElse
    else (if n == code.IFELSE_VALUE then Some control.IfElseValue
    else (if n == code.REPEAT then Some control.Repeat
    else (if n == code.WHILE then Some control.While
    else (if n == code.LOOP then Some control.Loop
    else (if n == code.FORWARD then Some control.Forward
    else (if n == code.FD then Some control.Forward
    else (if n == code.BACK then Some control.Back
    else (if n == code.BK then Some control.Back
    else (if n == code.CLEAR_GLOBALS then Some control.ClearGlobals
    else (if n == code.CLEAR_ALL then Some control.ClearAll
    else (if n == code.CA then Some control.ClearAll
    else None)))))))))))))))))))

abbrev pub over_word : Code → Option Over
over_word n =
    if n == code.ASK then Some over.Ask
    else (if n == code.OF then Some over.Of
    else (if n == code.WITH then Some over.With
    else (if n == code.ALL then Some over.All
    else (if n == code.WITH_MAX then Some over.WithMax
    else (if n == code.WITH_MIN then Some over.WithMin
    else (if n == code.MAX_ONE_OF then Some over.MaxOneOf
    else (if n == code.MIN_ONE_OF then Some over.MinOneOf
    else (if n == code.MAX_N_OF then Some over.MaxNOf
    else (if n == code.MIN_N_OF then Some over.MinNOf
    else (if n == code.SORT_ON then Some over.SortOn
    else None))))))))))

abbrev pub arrow_word : Code → Option Arrow
arrow_word n =
    if n == code.FOREACH then Some arrow.ForEach
    else (if n == code.MAP then Some arrow.Map
    else (if n == code.FILTER then Some arrow.Filter
    else (if n == code.REDUCE then Some arrow.Reduce
    else (if n == code.SORT_BY then Some arrow.SortBy
    else (if n == code.N_VALUES then Some arrow.NValues
    else None)))))

abbrev pub making_word : Code → Option Making
making_word n =
    if n == code.CREATE_TURTLES then Some (making.Create false)
    else (if n == code.CRT then Some (making.Create false)
    else (if n == code.CREATE_ORDERED_TURTLES then Some (making.Create true)
    else (if n == code.CRO then Some (making.Create true)
    else (if n == code.HATCH then Some making.Hatch
    else (if n == code.SPROUT then Some making.Sprout
    else (if n == code.CREATE_LINK_WITH then Some (making.Link way.With true)
    else (if n == code.CREATE_LINKS_WITH then Some (making.Link way.With false)
    else (if n == code.CREATE_LINK_TO then Some (making.Link way.To true)
    else (if n == code.CREATE_LINKS_TO then Some (making.Link way.To false)
    else (if n == code.CREATE_LINK_FROM then Some (making.Link way.From true)
    else (if n == code.CREATE_LINKS_FROM then Some (making.Link way.From false)
    else None)))))))))))

abbrev pub spread_word : Code → Option Spread
spread_word n =
    if n == code.DIFFUSE then Some (spread.Diffuse false)
    else (if n == code.DIFFUSE4 then Some (spread.Diffuse true)
    else (if n == code.UPHILL then Some (spread.Climb true false)
    else (if n == code.UPHILL4 then Some (spread.Climb true true)
    else (if n == code.DOWNHILL then Some (spread.Climb false false)
    else (if n == code.DOWNHILL4 then Some (spread.Climb false true)
    else None)))))

-- what the word of a code is; the words of values `and` and `or` are among the first, since they don't evaluate all of their parts
abbrev pub built_word : Code → Option Built
built_word n =
    option_or (option_map built.Control (control_word n))
    (option_or (option_map built.Over (over_word n))
    (option_or (option_map built.Arrow (arrow_word n))
    (option_or (option_map built.Making (making_word n))
    (option_or (option_map built.Spread (spread_word n))
    (option_map built.Act (act_word n))))))
