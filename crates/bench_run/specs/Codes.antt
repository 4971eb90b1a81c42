-- What a run's faults print (own choice).
use Rattle.std.specs.Prelude.{ℕ, List, ◌++◌, codes, decimal}
use Rattle.bench_run.specs.declared.error.RunError.{RunError}
use Rattle.bench_run.specs.declared.error.RunError.TheVariants as faults

abbrev pub run_code : {S : Type 0} → RunError S → List ℕ
run_code (faults.Settings sink) = codes "U2"
run_code (faults.ChannelTwice sink) = codes "U1"
run_code (faults.Prologue sink) = codes "U5"
run_code (faults.Memory sink) = codes "U3"
run_code (faults.Sink sink report taken) = codes "U4 taken " ++ decimal taken
