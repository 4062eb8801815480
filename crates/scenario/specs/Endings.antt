-- How a call ends that was made.
use Rattle.std.specs.Prelude.{Bool, true, false}
use Rattle.scenario.specs.declared.ending.Ending.{Ending}
use Rattle.scenario.specs.declared.ending.Ending.TheVariants as e

-- it gave what is expected, or something else
abbrev pub made_as : Bool → Ending
made_as true = e.Done
made_as false = e.AnotherAnswer

-- the same of a call that was refused once
abbrev pub made_again_as : Bool → Ending
made_again_as true = e.DoneAgain
made_again_as false = e.AnotherAnswerAgain
