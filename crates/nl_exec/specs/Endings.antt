-- How lone texts end.
use Rattle.std.specs.Prelude.{⊤, IsTrue}
use Rattle.nl_value.specs.Views.{plain}
use Rattle.nl_exec_meaning.specs.Ground.{Ground, fits}
use Rattle.nl_exec_meaning.specs.LoneTexts.{Ending, Done, Stopped, Reported, Budget, Error}
use Rattle.nl_exec.specs.declared.endings.End.{End}
use Rattle.nl_exec.specs.declared.endings.End.TheVariants as end_

-- an end as plain data
abbrev pub end_seen : End → Ending
end_seen end_.Done = Done
end_seen end_.Stopped = Stopped
end_seen (end_.Reported value) = Reported (plain value)
end_seen end_.Budget = Budget
end_seen (end_.Error kind place body) = Error kind place body

-- the value fits the world
abbrev pub EndFits : Ground → End → Type 0
EndFits g (end_.Reported value) = IsTrue (fits g (plain value))
EndFits g end_.Done = ⊤
EndFits g end_.Stopped = ⊤
EndFits g end_.Budget = ⊤
EndFits g (end_.Error kind place body) = ⊤
