-- Which act a code is, by the named codes of the table of words. A word that a breed makes has the code of the word without the breed.
use Rattle.std.specs.Prelude.{◌==◌, true, false, List, [], ◌∷◌, Option, Some, None, if◌then◌else◌}
use Rattle.std.specs.List.{list_any}
use Rattle.std.specs.Option.{option_or, option_map}
use Rattle.nl_words.specs.Row.{Code}
use Rattle.nl_words.specs.declared.codes.TheConstants as code
use Rattle.nl_listops.specs.Words.{value_word}
use Rattle.nl_agentset_query.specs.Words.{query_word}
use Rattle.nl_exec_acts.specs.declared.words.Act.{Act}
use Rattle.nl_exec_acts.specs.declared.words.Act.TheVariants as act
use Rattle.nl_exec_acts.specs.declared.words.Whom.TheVariants as whom
use Rattle.nl_exec_acts.specs.declared.words.Move.TheVariants as move
use Rattle.nl_exec_acts.specs.declared.words.Look.TheVariants as look
use Rattle.nl_exec_acts.specs.declared.words.Clock.TheVariants as clock
use Rattle.nl_exec_acts.specs.declared.words.Clear.TheVariants as clear
use Rattle.nl_exec_acts.specs.declared.words.Spot.TheVariants as spot
use Rattle.nl_exec_acts.specs.declared.words.Bound.TheVariants as bound
use Rattle.nl_exec_acts.specs.declared.words.OfRun.TheVariants as of_run

-- agents that the caller has from who runs and who asked, and the directions of links
abbrev pub whom_word : Code → Option Act
whom_word n =
    if n == code.SELF then Some (act.Whom whom.Caller)
    else (if n == code.MYSELF then Some (act.Whom whom.Asker)
    else (if n == code.OTHER_END then Some (act.Whom whom.OtherEnd)
    else (if n == code.IS_DIRECTED_LINK then Some (act.IsLink true)
    else (if n == code.IS_UNDIRECTED_LINK then Some (act.IsLink false)
    else None))))

-- where a turtle goes and looks
abbrev pub move_word : Code → Option Act
move_word n =
    if n == code.JUMP then Some (act.Move move.Jump)
    else (if n == code.SETXY then Some (act.Move move.SetXy)
    else (if n == code.HOME then Some (act.Move move.Home)
    else (if n == code.MOVE_TO then Some (act.Move move.MoveTo)
    else (if n == code.FACE then Some (act.Move move.Face)
    else (if n == code.FACEXY then Some (act.Move move.FaceXy)
    else (if n == code.RIGHT then Some (act.Move move.Right)
    else (if n == code.RT then Some (act.Move move.Right)
    else (if n == code.LEFT then Some (act.Move move.Left)
    else (if n == code.LT then Some (act.Move move.Left)
    else None)))))))))

-- how agents are drawn
abbrev pub look_word : Code → Option Act
look_word n =
    if n == code.HIDE_TURTLE then Some (act.Look look.Hide)
    else (if n == code.HT then Some (act.Look look.Hide)
    else (if n == code.HIDE_LINK then Some (act.Look look.Hide)
    else (if n == code.SHOW_TURTLE then Some (act.Look look.Show)
    else (if n == code.ST then Some (act.Look look.Show)
    else (if n == code.SHOW_LINK then Some (act.Look look.Show)
    else (if n == code.PEN_UP then Some (act.Look look.PenUp)
    else (if n == code.PU then Some (act.Look look.PenUp)
    else (if n == code.PEN_DOWN then Some (act.Look look.PenDown)
    else (if n == code.PD then Some (act.Look look.PenDown)
    else (if n == code.PEN_ERASE then Some (act.Look look.PenErase)
    else (if n == code.PE then Some (act.Look look.PenErase)
    else None)))))))))))

-- the clock, and the seed of the stream
abbrev pub clock_word : Code → Option Act
clock_word n =
    if n == code.RESET_TICKS then Some (act.Clock clock.Reset)
    else (if n == code.CLEAR_TICKS then Some (act.Clock clock.Clear)
    else (if n == code.TICK then Some (act.Clock clock.Advance)
    else (if n == code.TICK_ADVANCE then Some (act.Clock clock.AdvanceBy)
    else (if n == code.TICKS then Some (act.Clock clock.Ticks)
    else (if n == code.RANDOM_SEED then Some act.Seed
    else None)))))

-- clears that touch no global variable
abbrev pub clear_word : Code → Option Act
clear_word n =
    if n == code.CLEAR_TURTLES then Some (act.Clear clear.Turtles)
    else (if n == code.CT then Some (act.Clear clear.Turtles)
    else (if n == code.CLEAR_LINKS then Some (act.Clear clear.Links)
    else (if n == code.CLEAR_PATCHES then Some (act.Clear clear.Patches)
    else (if n == code.CP then Some (act.Clear clear.Patches)
    else None))))

-- random coordinates
abbrev pub spot_word : Code → Option Act
spot_word n =
    if n == code.RANDOM_PXCOR then Some (act.Spot spot.Pxcor)
    else (if n == code.RANDOM_PYCOR then Some (act.Spot spot.Pycor)
    else (if n == code.RANDOM_XCOR then Some (act.Spot spot.Xcor)
    else (if n == code.RANDOM_YCOR then Some (act.Spot spot.Ycor)
    else None)))

-- the bounds of the world
abbrev pub bound_word : Code → Option Act
bound_word n =
    if n == code.MIN_PXCOR then Some (act.Bound bound.MinPxcor)
    else (if n == code.MAX_PXCOR then Some (act.Bound bound.MaxPxcor)
    else (if n == code.MIN_PYCOR then Some (act.Bound bound.MinPycor)
    else (if n == code.MAX_PYCOR then Some (act.Bound bound.MaxPycor)
    else (if n == code.WORLD_WIDTH then Some (act.Bound bound.Width)
    else (if n == code.WORLD_HEIGHT then Some (act.Bound bound.Height)
    else None)))))

-- what a run is
abbrev pub run_word : Code → Option Act
run_word n =
    if n == code.BEHAVIORSPACE_RUN_NUMBER then Some (act.OfRun of_run.Number)
    else (if n == code.BEHAVIORSPACE_EXPERIMENT_NAME then Some (act.OfRun of_run.Experiment)
    else None)

-- words of pictures, plots and output, which have no effect here
abbrev pub idle_codes : List Code
idle_codes =
    code.PRINT ∷ code.SHOW ∷ code.TYPE ∷ code.WRITE
    ∷ code.OUTPUT_PRINT ∷ code.OUTPUT_SHOW ∷ code.OUTPUT_TYPE ∷ code.OUTPUT_WRITE ∷ code.CLEAR_OUTPUT
    ∷ code.DISPLAY ∷ code.NO_DISPLAY ∷ code.WAIT
    ∷ code.PLOT ∷ code.PLOTXY ∷ code.HISTOGRAM ∷ code.SET_CURRENT_PLOT ∷ code.SET_CURRENT_PLOT_PEN ∷ code.CREATE_TEMPORARY_PLOT_PEN
    ∷ code.SET_PLOT_PEN_COLOR ∷ code.SET_PLOT_PEN_MODE ∷ code.SET_PLOT_PEN_INTERVAL ∷ code.SET_PLOT_X_RANGE ∷ code.SET_PLOT_Y_RANGE
    ∷ code.PLOT_PEN_UP ∷ code.PLOT_PEN_DOWN ∷ code.PLOT_PEN_RESET ∷ code.CLEAR_PLOT ∷ code.CLEAR_ALL_PLOTS ∷ code.SETUP_PLOTS
    ∷ code.UPDATE_PLOTS ∷ code.AUTO_PLOT_ON ∷ code.AUTO_PLOT_OFF
    ∷ code.RESET_PERSPECTIVE ∷ code.RP ∷ code.SET_DEFAULT_SHAPE ∷ code.CLEAR_DRAWING ∷ code.CD
    ∷ code.WATCH ∷ code.FOLLOW ∷ code.RIDE ∷ code.WATCH_ME ∷ code.FOLLOW_ME ∷ code.RIDE_ME ∷ code.STAMP ∷ code.STAMP_ERASE
    ∷ []

abbrev pub idle_word : Code → Option Act
idle_word n = if list_any (λ other. other == n) idle_codes then Some act.Idle else None

-- words of values, and queries
abbrev pub answering_word : Code → Option Act
answering_word n = option_or (option_map act.Value (value_word n)) (option_map act.Query (query_word n))

-- the act that has a code
abbrev pub act_word : Code → Option Act
act_word n =
    option_or (option_or (option_or (option_or (option_or (option_or (option_or (option_or (option_or
    (answering_word n) (whom_word n)) (move_word n)) (look_word n)) (clock_word n)) (clear_word n)) (spot_word n)) (bound_word n)) (run_word n))
    (idle_word n)
