-- The letters of the debugger's refusals, with what they tell (own choice).
use Rattle.std.specs.Prelude.{ℕ, List, ◌++◌, codes, decimal}
use Rattle.replay.specs.declared.error.ReplayError.{ReplayError}
use Rattle.replay.specs.declared.error.ReplayError.TheVariants.{Mismatch, Past, Start, Memory}

abbrev pub error_text : ReplayError → List ℕ
error_text (Mismatch channel number) = codes "Y1 channel " ++ (decimal channel ++ (codes " number " ++ decimal number))
error_text Past = codes "Y2"
error_text Start = codes "Y3"
error_text Memory = codes "memory"
