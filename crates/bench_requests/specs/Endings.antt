-- What becomes of the files of a run that gave no recording (own choice).
use Rattle.bench_settings.specs.declared.error.WorldError.{WorldError}
use Rattle.bench_settings.specs.declared.error.WorldError.TheVariants as world
use Rattle.bench_run.specs.declared.error.RunError.{RunError}
use Rattle.bench_run.specs.declared.error.RunError.TheVariants as run
use Rattle.bench_requests.specs.declared.ending.Ending.{Ending}
use Rattle.bench_requests.specs.declared.ending.Ending.TheVariants.{Refused, Broken}

-- jobs and settings that may not be run; memory may have been refused before that was found
abbrev pub ending_of_settings : WorldError → Ending
ending_of_settings world.Settings = Refused
ending_of_settings world.ChannelTwice = Refused
ending_of_settings world.Prologue = Refused
ending_of_settings world.Memory = Broken

-- what the sink took until it failed, or until memory was refused, is the beginning of a recording
abbrev pub ending_of : {S : Type 0} → RunError S → Ending
ending_of (run.Settings sink) = Refused
ending_of (run.ChannelTwice sink) = Refused
ending_of (run.Prologue sink) = Refused
ending_of (run.Memory sink) = Broken
ending_of (run.Sink sink report taken) = Broken
