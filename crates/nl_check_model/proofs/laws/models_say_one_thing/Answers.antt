use Rattle.nl_check_model.proofs.EachVerdict.{code_is_accepted_or_faulty, files_have_verdicts}
use Rattle.nl_check_model.proofs.FirstBytes.{first_bytes_say_all}
use Rattle.nl_check_model.proofs.OneFault.{accepted_has_no_fault, code_faults_are_unique}
use Rattle.nl_check_model.proofs.OneVerdict.{programs_are_unique, programs_have_their_bodies, programs_have_their_widgets, verdicts_are_unique}
use Rattle.nl_check_model.proofs.laws.models_say_one_thing.Goals as goal

pub returns-clause-either : goal.returns-clause-either
returns-clause-either c = code_is_accepted_or_faulty

pub returns-clause-unique : goal.returns-clause-unique
returns-clause-unique c = code_faults_are_unique

pub returns-clause-apart : goal.returns-clause-apart
returns-clause-apart c = accepted_has_no_fault

pub returns-clause-said : goal.returns-clause-said
returns-clause-said c = files_have_verdicts

pub returns-clause-verdicts : goal.returns-clause-verdicts
returns-clause-verdicts c = verdicts_are_unique

pub returns-clause-programs : goal.returns-clause-programs
returns-clause-programs c = programs_are_unique

pub returns-clause-widgets : goal.returns-clause-widgets
returns-clause-widgets c = programs_have_their_widgets

pub returns-clause-bodies : goal.returns-clause-bodies
returns-clause-bodies c = programs_have_their_bodies

pub returns-clause-first : goal.returns-clause-first
returns-clause-first c = first_bytes_say_all
