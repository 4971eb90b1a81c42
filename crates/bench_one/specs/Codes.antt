-- What is printed where a text gave no packet (own choice).
use Rattle.std.specs.Prelude.{ℕ, List, codes}
use Rattle.frame_text.specs.Codes as scripts
use Rattle.frame_text.specs.declared.faults.ScriptError.TheVariants as script
use Rattle.bench_one.specs.declared.fault.OneFault.{OneFault}
use Rattle.bench_one.specs.declared.fault.OneFault.TheVariants.{Text, Memory}

abbrev pub fault_text : OneFault → List ℕ
fault_text (Text cause place) = scripts.error_text (script.Text cause place)
fault_text Memory = codes "memory"
